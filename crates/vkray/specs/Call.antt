-- How a call of the program ends, by what it did to its source and its sink. (Own.)
use Rattle.std.specs.Prelude.{◌≡◌, ◌≤◌, ◌<◌, ◌+◌, ◌^◌, ℕ, List, [], ◌++◌, length, take, drop, Option, Some, None, Ok, Err, IfSome, ◌⊎◌, String, codes}
use Rattle.std.specs.declared.alloc.Global.{Global}
use Rattle.ray_io.specs.Faults.{HasRisen}
use Rattle.ray_io.specs.ReadAll.{LeavesAllBut}
use Rattle.vkray.specs.declared.asked.Asked.TheVariants as asked
use Rattle.vkray.specs.declared.request.Request.{Request}
use Rattle.vkray.specs.declared.request.Request.TheVariants.{Input, Generate, RunSelf}
use Rattle.vkray.specs.declared.status.Status.{Status}
use Rattle.vkray.specs.declared.status.Status.TheVariants as statuses
use Rattle.vkray.specs.declared.stop.Stop.TheVariants.{BadWords, ReadFault, TooLong, NoMemory}
use Rattle.vkray.specs.declared.stop.Stop.TheVariants as stops
use Rattle.vkray.specs.Answer.{Ending, made_up, task_of, told_in_order}
use Rattle.vkray.specs.Judged.{IsAnswerTo}
use Rattle.vkray.specs.Scenes.{text_of_scene}
use Rattle.vkray.specs.Tasks.{Task}
use Rattle.vkray.specs.Words.{AreWords, AskInput, Requests}
use Rattle.vkray.specs.Written.{status_of, text_of}

-- the greatest number of bytes of an input: 2^26
abbrev pub most_bytes : ℕ
most_bytes = 2 ^ 26

-- what a call did to its source: the bytes that were left and are left, where they are told, and the counts of faults
pub record Reading : Type 0 where
  pub before : Option (List ℕ)
  pub after : Option (List ℕ)
  pub faults_before : ℕ
  pub faults_after : ℕ

-- what a call did to its sink: the bytes taken, where they are told, and the counts of faults and of writes that took nothing
pub record Writing : Type 0 where
  pub before : Option (List ℕ)
  pub after : Option (List ℕ)
  pub faults_before : ℕ
  pub faults_after : ℕ
  pub zero_writes_before : ℕ
  pub zero_writes_after : ℕ

-- the same of a source that tells so, before and after
abbrev pub reading : {X : Type 0} → (X → Option (List ℕ)) → (X → ℕ) → X → X → Reading
reading left faults old new = record {
  before = left old;
  after = left new;
  faults_before = faults old;
  faults_after = faults new;
}

-- the same of a sink
abbrev pub writing : {X : Type 0} → (X → Option (List ℕ)) → (X → ℕ) → (X → ℕ) → X → X → Writing
writing taken faults zero_writes old new = record {
  before = taken old;
  after = taken new;
  faults_before = faults old;
  faults_after = faults new;
  zero_writes_before = zero_writes old;
  zero_writes_after = zero_writes new;
}

-- the input was read to its end: it has at most 2^26 bytes, and where the source tells its bytes they are the input, and none is left
pub record IsRead (reading : Reading) (input : List ℕ) : Type 0 where
  pub limited : length input ≤ most_bytes
  pub all : IfSome reading.before (λ bytes. (input ≡ bytes) × (reading.after ≡ Some []))

-- 2^26 + 1 bytes were taken
abbrev pub IsTooLong : Reading → Type 0
IsTooLong reading = IfSome reading.before (λ bytes. (most_bytes < length bytes) × (reading.after ≡ Some (drop (most_bytes + 1) bytes)))

-- so many bytes were taken of a source that tells them
abbrev pub TakesTooMany : Reading → Type 0
TakesTooMany reading = (bytes : List ℕ) × (reading.before ≡ Some bytes) × (most_bytes < length bytes) × (reading.after ≡ Some (drop (most_bytes + 1) bytes))

-- a prefix of what was left was taken of a source that tells it, of at most 2^26 + 1 bytes
abbrev pub TakesPrefix : Reading → Type 0
TakesPrefix reading = IfSome reading.before (λ bytes. LeavesAllBut (most_bytes + 1) bytes reading.after)

-- the text was written, all of it and nothing else
abbrev pub IsWritten : Writing → List ℕ → Type 0
IsWritten writing text = IfSome writing.before (λ bytes. writing.after ≡ Some (bytes ++ text))

-- a part of the text from its beginning was written, and nothing else
abbrev pub IsCut : Writing → List ℕ → Type 0
IsCut writing text = IfSome writing.before (λ bytes. (count : ℕ) × (count ≤ length text) × (writing.after ≡ Some (bytes ++ take count text)))

-- a write failed, or took nothing of what wasn't empty
abbrev pub HasFailed : Writing → Type 0
HasFailed writing = HasRisen writing.faults_before writing.faults_after ⊎ HasRisen writing.zero_writes_before writing.zero_writes_after

-- the bytes are the input of a request: they were read to their end, or nothing was read and they are made up
abbrev pub IsFrom : Request → Reading → List ℕ → Type 0
IsFrom (Input what) reading input = IsRead reading input
IsFrom request reading input = (reading.after ≡ reading.before) × (input ≡ made_up request)

-- an ending is the answer to what the words ask for
pub record IsAnswer (words : List (String Global)) (reading : Reading) (ending : Ending) : Type 0 where
  pub request : Request
  pub asks : Requests words request
  pub input : List ℕ
  pub from : IsFrom request reading input
  pub is : IsAnswerTo request input ending

-- what the words and the source give: bad words read nothing; a read failed, or there are too many bytes; or else the
-- answer to what the words ask for
abbrev pub IsEnding : List (String Global) → Reading → Ending → Type 0
IsEnding words reading (Ok text) = IsAnswer words reading (Ok text)
IsEnding words reading (Err BadWords) = (¬ AreWords words) × (reading.after ≡ reading.before)
IsEnding words reading (Err ReadFault) = AskInput words × HasRisen reading.faults_before reading.faults_after × (¬ TakesTooMany reading) × TakesPrefix reading
IsEnding words reading (Err TooLong) = AskInput words × IsTooLong reading
IsEnding words reading (Err (stops.Input fault)) = IsAnswer words reading (Err (stops.Input fault))
IsEnding words reading (Err NoMemory) = ⊥

-- a text was sent: it is written, and the status is its own; or a write failed
abbrev pub IsSent : Status → List ℕ → Writing → Status → Type 0
IsSent status text writing result =
    ((result ≡ status) × IsWritten writing text) ⊎ ((result ≡ statuses.WriteFault) × IsCut writing text × HasFailed writing)

-- the program has this ending, whose text was sent
pub record IsTold (words : List (String Global)) (reading : Reading) (writing : Writing) (result : Status) : Type 0 where
  pub ending : Ending
  pub cause : IsEnding words reading ending
  pub sent : IsSent (status_of ending) (text_of ending) writing result

-- there was no memory: nothing is written, and a prefix is taken of the source
pub record IsOutOfMemory (reading : Reading) (writing : Writing) (result : Status) : Type 0 where
  pub told : result ≡ statuses.NoMemory
  pub unwritten : writing.after ≡ writing.before
  pub prefix : TakesPrefix reading

-- how the program ends: for want of memory, or with an ending
abbrev pub Answers : List (String Global) → Reading → Writing → Status → Type 0
Answers words reading writing result = IsOutOfMemory reading writing result ⊎ IsTold words reading writing result

-- the source gives all of an input within the limit, without a fault
pub record IsGiven (reading : Reading) (input : List ℕ) : Type 0 where
  pub told : reading.before ≡ Some input
  pub limited : length input ≤ most_bytes
  pub source_holds : ¬ HasRisen reading.faults_before reading.faults_after

-- the input of a request is to be had: the source gives it, or it is made up
abbrev pub GivesInput : Request → Reading → List ℕ → Type 0
GivesInput (Input what) reading input = IsGiven reading input
GivesInput request reading input = input ≡ made_up request

-- a call that is to be answered: the words ask for this, the input is to be had, and the sink takes what is written
pub record IsGoodCall (request : Request) (words : List (String Global)) (reading : Reading) (writing : Writing) (input : List ℕ) : Type 0 where
  pub asks : Requests words request
  pub given : GivesInput request reading input
  pub sink_holds : ¬ HasFailed writing

-- the input of a request is a task that breaks no rule on its commands alone
pub record IsKept (request : Request) (input : List ℕ) : Type 0 where
  pub task : Task
  pub is_it : task_of request input ≡ Ok task
  pub rules : task.refusal ≡ None

-- the run of such a task in recording order has a text, by which the request tells this
pub record RunsTo (request : Request) (input : List ℕ) (text : List ℕ) : Type 0 where
  pub kept : IsKept request input
  pub told : told_in_order request kept.task.job ≡ Ok text

-- an input that is valid for a request, and the text of its answer
abbrev pub IsValid : Request → List ℕ → List ℕ → Type 0
IsValid (Input (asked.Run workers)) input text = RunsTo (Input (asked.Run workers)) input text
IsValid (Input asked.Check) input text = IsKept (Input asked.Check) input × (text ≡ codes "ok\n")
IsValid (Input (asked.Queues workers)) input text = RunsTo (Input (asked.Queues workers)) input text
IsValid (Input asked.Groups) input text = RunsTo (Input asked.Groups) input text
IsValid (Input asked.Certify) input text = RunsTo (Input asked.Certify) input text
IsValid (Input asked.Verify) input text = IsAnswerTo (Input asked.Verify) input (Ok text)
IsValid (Generate scene) input text = text ≡ text_of_scene scene
IsValid (RunSelf by) input text = RunsTo (RunSelf by) input text

-- a whole text is written, or memory ran out
abbrev pub IsCompleted : Writing → List ℕ → Status → Type 0
IsCompleted writing text result = (result ≡ statuses.NoMemory) ⊎ ((result ≡ statuses.Done) × IsWritten writing text)
