-- The numbers of the statuses.
use Rattle.std.specs.Prelude.{ℕ}
use Rattle.tool_base.specs.declared.status.Status.{Status}
use Rattle.tool_base.specs.declared.status.Status.TheVariants.{Done, NoMemory, Usage, UnknownSet, IndexRange, WordsShort, TooNoisy, FileFault, LinkFault, BadFrame, WrongSet, Absent, PeerRefused, BadRecords, SinkFault, InputLimit}

abbrev pub number_of_status : Status → ℕ
number_of_status Done = 0
number_of_status NoMemory = 1
number_of_status Usage = 2
number_of_status UnknownSet = 3
number_of_status IndexRange = 4
number_of_status WordsShort = 5
number_of_status TooNoisy = 6
number_of_status FileFault = 7
number_of_status LinkFault = 8
number_of_status BadFrame = 9
number_of_status WrongSet = 10
number_of_status Absent = 11
number_of_status PeerRefused = 12
number_of_status BadRecords = 13
number_of_status SinkFault = 14
number_of_status InputLimit = 15
