-- What an input ends with whose rays are certified, or whose lines are judged: certificates, and the verdict on lines, in place of the
-- text of its commands. (Own.)
use Rattle.std.specs.Prelude.{ℕ, ◌≡◌, ◌==◌, Bool, true, false, List, length, Result, Ok, Err}
use Rattle.ray_inputs.specs.declared.fault.BadInput.{BadInput}
use Rattle.ray_inputs.specs.Inputs.{CertifiedCommands, certified_in}
use Rattle.ray_permitted.specs.Job.{recorded}
use Rattle.ray_cmd.specs.declared.command.Command.{Command}
use Rattle.ray_cmd.specs.Recordings.{Reading, recording_in}
use Rattle.ray_certify.specs.declared.verdict.Verdict.{Verdict}
use Rattle.ray_certify.specs.declared.verdict.Verdict.TheVariants.{Certified}
use Rattle.ray_certify.specs.Certified.{CertifyThemselves, certificate_lines}
use Rattle.ray_certify.specs.Rays.{ray_count, rays_below}
use Rattle.ray_certify.specs.Verified.{IsVerdict, NameAnswers}
use Rattle.vkray.specs.declared.asked.Asked.TheVariants as asked
use Rattle.vkray.specs.declared.input_fault.InputFault.TheVariants.{BadCertificates}
use Rattle.vkray.specs.declared.request.Request.{Request}
use Rattle.vkray.specs.declared.request.Request.TheVariants.{Input}
use Rattle.vkray.specs.declared.stop.Stop.TheVariants as stops
use Rattle.vkray.specs.Answer.{Ending, answer_of}
use Rattle.vkray.specs.Lines.{verdict_line}

-- the verdict on the lines of commands that come to a text is told; where it is that each certifies its ray, each names what testing
-- every primitive commits
pub record IsVerdictTold (c : CertifiedCommands) (ending : Ending) : Type 0 where
  pub verdict : Verdict
  pub is_it : IsVerdict (rays_below (recorded c.commands) (length c.commands)) c.certificates verdict
  pub names : verdict ≡ Certified → NameAnswers (rays_below (recorded c.commands) (length c.commands)) c.certificates
  pub told : ending ≡ Ok (verdict_line (length c.certificates) verdict)

-- so it is where there are as many lines as rays; else they are bad
abbrev pub IsJudgedBy : Bool → CertifiedCommands → Ending → Type 0
IsJudgedBy true c ending = IsVerdictTold c ending
IsJudgedBy false c ending = ending ≡ Err (stops.Input BadCertificates)

abbrev pub IsJudged : CertifiedCommands → Ending → Type 0
IsJudged c ending = IsJudgedBy (length c.certificates == ray_count c.commands (length c.commands)) c ending

-- of an input that was read; one that wasn't has no commands that come to a text
abbrev pub IsJudgedOf : Result CertifiedCommands BadInput → Ending → Type 0
IsJudgedOf (Ok c) ending = IsJudged c ending
IsJudgedOf (Err fault) ending = ⊥

-- what the commands come to is what the input ends with, but for their text, in whose place the verdict comes
abbrev pub InPlaceOfText : Result CertifiedCommands BadInput → Ending → Ending → Type 0
InPlaceOfText read (Ok text) ending = IsJudgedOf read ending
InPlaceOfText read (Err stop) ending = ending ≡ Err stop

-- ---- certificates that are made

-- where commands come to a text, the line of each of their rays certifies it
abbrev pub CertifyRays : Reading → Ending → Type 0
CertifyRays (Ok rec) (Ok text) = CertifyThemselves (rays_below (recorded rec) (length rec))
CertifyRays (Ok rec) (Err stop) = Unit {0}
CertifyRays (Err fault) ending = Unit {0}

pub record IsCertifying (input : List ℕ) (ending : Ending) : Type 0 where
  pub is : answer_of (Input asked.Certify) input ≡ ending
  pub certify : CertifyRays (recording_in input) ending

-- ---- every request

-- an ending is the answer to a request, of the bytes of its input
abbrev pub IsAnswerTo : Request → List ℕ → Ending → Type 0
IsAnswerTo (Input asked.Certify) input ending = IsCertifying input ending
IsAnswerTo (Input asked.Verify) input ending = InPlaceOfText (certified_in input) (answer_of (Input asked.Verify) input) ending
IsAnswerTo request input ending = answer_of request input ≡ ending

-- an input of these commands with the lines of their certificates is verified: each certifies its ray
abbrev pub IsVerifiable : List Command → Type 0
IsVerifiable rec =
    (other : List ℕ) (lines : List (List ℕ)) → lines ≡ certificate_lines (rays_below (recorded rec) (length rec))
    → certified_in other ≡ Ok (record { commands = rec; certificates = lines }) → IsAnswerTo (Input asked.Verify) other (Ok (verdict_line (length lines) Certified))
