-- The status and the text with which an ending is told. (Own.)
use Rattle.std.specs.Prelude.{ℕ, List, [], Ok, Err, codes}
use Rattle.vkray.specs.declared.input_fault.InputFault.{InputFault}
use Rattle.vkray.specs.declared.input_fault.InputFault.TheVariants.{NotJson, BadObject, BadShape, BadTable, BadSubmits, BadCertificates, Refused}
use Rattle.vkray.specs.declared.status.Status.{Status}
use Rattle.vkray.specs.declared.status.Status.TheVariants as statuses
use Rattle.vkray.specs.declared.stop.Stop.TheVariants.{BadWords, ReadFault, TooLong, NoMemory}
use Rattle.vkray.specs.declared.stop.Stop.TheVariants as stops
use Rattle.vkray.specs.Answer.{Ending}
use Rattle.vkray.specs.Lines.{bad_shape_line, bad_submits_line, bad_table_line, refusal_line}

-- ---- what stops an input

-- its status
abbrev pub status_of_fault : InputFault → Status
status_of_fault NotJson = statuses.BadRecording
status_of_fault BadObject = statuses.BadRecording
status_of_fault (BadShape command) = statuses.BadRecording
status_of_fault (BadTable entry) = statuses.BadRecording
status_of_fault (BadSubmits entry) = statuses.BadRecording
status_of_fault BadCertificates = statuses.BadRecording
status_of_fault (Refused refusal) = statuses.Refused

-- its line
abbrev pub line_of_fault : InputFault → List ℕ
line_of_fault NotJson = codes "not-json\n"
line_of_fault BadObject = codes "bad-object\n"
line_of_fault (BadShape command) = bad_shape_line command
line_of_fault (BadTable entry) = bad_table_line entry
line_of_fault (BadSubmits entry) = bad_submits_line entry
line_of_fault BadCertificates = codes "bad-certificates\n"
line_of_fault (Refused refusal) = refusal_line refusal

-- ---- every ending

-- the status of an ending, once its text is written
abbrev pub status_of : Ending → Status
status_of (Ok text) = statuses.Done
status_of (Err BadWords) = statuses.BadWords
status_of (Err ReadFault) = statuses.ReadFault
status_of (Err TooLong) = statuses.TooLong
status_of (Err (stops.Input fault)) = status_of_fault fault
status_of (Err NoMemory) = statuses.NoMemory

-- the text of an ending: one line where there is no text of a run
abbrev pub text_of : Ending → List ℕ
text_of (Ok text) = text
text_of (Err BadWords) = codes "bad-words\n"
text_of (Err ReadFault) = codes "read-fault\n"
text_of (Err TooLong) = codes "too-long\n"
text_of (Err (stops.Input fault)) = line_of_fault fault
text_of (Err NoMemory) = []
