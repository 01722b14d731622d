-- The body and the mask of a reply, as lists of it that are filled place by place.
use Rattle.std.proofs.Common.{ℕ, List, refl}
use Rattle.negacyclic.proofs.Filled.{IsPart, FilledPart}
use Rattle.spiral_model.specs.Words.{Poly}
use Rattle.spiral_model.specs.Replies.{SwitchedReply}

abbrev pub body_in : SwitchedReply → List Poly
body_in reply = reply.body

abbrev pub with_body : SwitchedReply → List Poly → SwitchedReply
with_body reply polys = record reply { body = polys }

pub body_part : IsPart body_in with_body
body_part = record { kept = λ r. refl; read = λ r xs. refl; again = λ r xs ys. refl }

abbrev pub mask_in : SwitchedReply → List Poly
mask_in reply = reply.mask

abbrev pub with_mask : SwitchedReply → List Poly → SwitchedReply
with_mask reply polys = record reply { mask = polys }

pub mask_part : IsPart mask_in with_mask
mask_part = record { kept = λ r. refl; read = λ r xs. refl; again = λ r xs ys. refl }
