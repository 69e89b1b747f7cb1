-- From why there is no text to what is written.
use Rattle.std.proofs.Common.{◌≡◌, ℕ, List, Result, Ok, Err, Global, Vec, true, subst}
use Rattle.std.specs.Prelude.{String, IfOk, OnOk}
use Rattle.std.specs.declared.alloc.AllocError.{AllocError}
use Rattle.vkray.specs.declared.reply.Reply.{Reply}
use Rattle.vkray.specs.declared.request.Request.{Request}
use Rattle.vkray.specs.declared.status.Status.{Status}
use Rattle.vkray.specs.declared.stop.Stop.{Stop}
use Rattle.vkray.specs.declared.stop.Stop.TheVariants.{BadWords, ReadFault, TooLong, NoMemory}
use Rattle.vkray.specs.declared.stop.Stop.TheVariants as stops
use Rattle.vkray.specs.Answer.{Ending}
use Rattle.vkray.specs.Judged.{IsAnswerTo}
use Rattle.vkray.specs.Call.{Reading, Writing, IsAnswer, IsEnding, IsFrom, IsSent, IsTold}
use Rattle.vkray.specs.Endings.{EndsCall, EndsTo, StopsCall, is_told}
use Rattle.vkray.specs.Words.{Requests}
use Rattle.vkray.specs.Written.{status_of, text_of}

-- a reply tells an ending of the call
abbrev pub Tells : List (String Global) → Reading → Status → List ℕ → Type 0
Tells words reading status text =
    (ending : Ending) × IsEnding words reading ending × (status ≡ status_of ending) × (text ≡ text_of ending)

-- a stop that is told is an ending
ending_of_stop : (words : List (String Global)) (reading : Reading) (stop : Stop) → StopsCall words reading stop → is_told stop ≡ true → IsEnding words reading (Err stop)
ending_of_stop words reading BadWords h told = h
ending_of_stop words reading ReadFault h told = h
ending_of_stop words reading TooLong h told = h
ending_of_stop words reading (stops.Input fault) h told = h
ending_of_stop words reading NoMemory h told = absurd (cc)

-- the reply to a stop tells it
pub reply_tells : (words : List (String Global)) (reading : Reading) (stop : Stop) (r : Result Reply AllocError)
    → StopsCall words reading stop
    → IfOk r (λ reply. reply.status ≡ status_of (Err stop)) → IfOk r (λ reply. reply.text.items ≡ text_of (Err stop)) → OnOk r (is_told stop ≡ true)
    → IfOk r (λ reply. Tells words reading reply.status reply.text.items)
reply_tells words reading stop (Ok reply) h status text told = (Err stop, ending_of_stop words reading stop h told, status, text)
reply_tells words reading stop (Err e) h status text told = tt

-- the answer to what the words ask for, of its input, is what the call gives
module _ (words : List (String Global)) (reading : Reading) (request : Request) (asks : Requests words request) (input : List ℕ) (from : IsFrom request reading input) where
  answers : (ending : Ending) → IsAnswerTo request input ending → IsAnswer words reading ending
  answers ending is = record { request = request; asks = asks; input = input; from = from; is = is }

  pub ends_call : (result : Result (Vec ℕ Global) Stop) → EndsTo request input result → EndsCall words reading result
  ends_call (Ok text) is = answers (Ok text.items) is
  ends_call (Err BadWords) is = absurd is
  ends_call (Err ReadFault) is = absurd is
  ends_call (Err TooLong) is = absurd is
  ends_call (Err (stops.Input fault)) is = answers (Err (stops.Input fault)) is
  ends_call (Err NoMemory) is = tt

-- what was sent of a reply is told
pub told_of : (words : List (String Global)) (reading : Reading) (writing : Writing) (status : Status) (text : List ℕ) (result : Status)
    → Tells words reading status text → IsSent status text writing result → IsTold words reading writing result
told_of words reading writing status text result tells sent = record {
  ending = tells.0;
  cause = tells.1;
  sent =
      subst (λ (s : Status). IsSent s (text_of tells.0) writing result) tells.2
      (subst (λ (t : List ℕ). IsSent status t writing result) tells.3 sent);
}
