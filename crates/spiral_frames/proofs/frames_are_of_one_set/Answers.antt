use Rattle.spiral_frames.proofs.FrameLaws.{same_set_of_frames}
use Rattle.spiral_frames.proofs.frames_are_of_one_set.Goals as goal

pub returns : goal.returns
returns c = same_set_of_frames
