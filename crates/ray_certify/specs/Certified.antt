-- The certificates of a run: a line for each ray of each trace, in recording order. (Own.)
use Rattle.std.specs.Prelude.{ℕ, ◌≡◌, ◌++◌, Option, Some, None, IfSome, List, [], ◌∷◌, codes, length, Result, Ok, Err}
use Rattle.std.specs.List.{flat_map}
use Rattle.ray_geom.specs.Ratio.{parts_of}
use Rattle.ray_candidates.specs.Candidates.{trace_answer}
use Rattle.ray_action.specs.Running.{Text}
use Rattle.ray_permitted.specs.Along.{run_below}
use Rattle.ray_permitted.specs.Job.{Job}
use Rattle.ray_exec.specs.declared.run_fault.RunFault.{RunFault}
use Rattle.ray_exec.specs.Runs.{IsRun}
use Rattle.ray_cert.specs.Certificates.{CertValue, cert_of}
use Rattle.ray_cert.specs.Spelling.{line_of}
use Rattle.ray_certify.specs.Parts.{parts_in}
use Rattle.ray_certify.specs.Rays.{SeenRay, TracedRay, rays_below}
use Rattle.ray_certify.specs.Verified.{IsCertifiedBy}

-- the certificate of a ray: that of what testing every primitive commits, in which a digit is 1 exactly where its node is met up to
-- the committed distance
abbrev pub certificate_of : TracedRay → SeenRay → CertValue
certificate_of r s =
    cert_of (parts_of s.ray.tmax) (parts_in s.top s.bottoms s.ray r.flags r.mask) (trace_answer r.meaning s.top s.bottoms s.ray r.number r.flags r.mask)

-- its line
abbrev pub line_for : TracedRay → SeenRay → List ℕ
line_for r s = line_of r.command r.number (certificate_of r s)

abbrev pub lines_with : TracedRay → Option SeenRay → List (List ℕ)
lines_with r None = []
lines_with r (Some s) = line_for r s ∷ []

-- the lines of some rays, and their text
abbrev pub certificate_lines : List TracedRay → List (List ℕ)
certificate_lines rays = flat_map (λ r. lines_with r r.seen) rays

abbrev pub text_of_lines : List (List ℕ) → List ℕ
text_of_lines lines = flat_map (λ line. line ++ codes "\n") lines

-- the certificates of a job, all of whose commands are run
abbrev pub certificates_of : Job → List ℕ
certificates_of job = text_of_lines (certificate_lines (rays_below job (length job.commands)))

-- the line of each of some rays certifies it, where the ray is there
abbrev pub CertifyThemselves : List TracedRay → Type 0
CertifyThemselves [] = Unit {0}
CertifyThemselves (r ∷ rays) = IfSome r.seen (λ s. IsCertifiedBy r s (line_for r s)) × CertifyThemselves rays

-- a text is that of the lines of some rays, each of which certifies its ray
pub record AreMade (rays : List TracedRay) (text : List ℕ) : Type 0 where
  pub lines : text ≡ text_of_lines (certificate_lines rays)
  pub certify : CertifyThemselves rays

-- a job came to a text, and this result
pub record IsRunWith {X : Type 0} (job : Job) (holds : X → Type 0) (x : X) : Type 0 where
  pub text : List ℕ
  pub run : run_below job (length job.commands) ≡ Text text
  pub is : holds x

-- a result is what the whole run of a job tells besides its text, or the refusal by a data rule. Want of memory is free
abbrev pub RunsWith : {X : Type 0} → Job → (X → Type 0) → Result X RunFault → Type 0
RunsWith job holds (Ok x) = IsRunWith job holds x
RunsWith job holds (Err fault) = IsRun (run_below job (length job.commands)) (Err fault)
