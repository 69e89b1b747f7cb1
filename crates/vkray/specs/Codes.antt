-- With which number the program ends.
use Rattle.std.specs.Prelude.{ℕ}
use Rattle.vkray.specs.declared.status.Status.{Status}
use Rattle.vkray.specs.declared.status.Status.TheVariants.{Done, Refused, BadRecording, BadWords, ReadFault, WriteFault, TooLong, NoMemory}

-- the number of each status (own)
abbrev pub code_of : Status → ℕ
code_of Done = 0
code_of Refused = 1
code_of BadRecording = 2
code_of BadWords = 3
code_of ReadFault = 4
code_of WriteFault = 5
code_of TooLong = 6
code_of NoMemory = 7
