-- What lines say as certificates of the rays of a run. (Own.)
use Rattle.std.specs.Prelude.{ℕ, ◌≡◌, ◌⊎◌, Option, Some, None, option_map, List, [], ◌∷◌}
use Rattle.ray_geom.specs.Ratio.{parts_of}
use Rattle.ray_candidates.specs.Candidates.{trace_answer}
use Rattle.ray_cert.specs.Certificates.{CertValue, SupportsOver, name_of}
use Rattle.ray_cert.specs.Spelling.{IsSpelledSmall, line_of}
use Rattle.ray_certify.specs.declared.verdict.Verdict.{Verdict}
use Rattle.ray_certify.specs.declared.verdict.Verdict.TheVariants.{Certified, Uncertified}
use Rattle.ray_certify.specs.Parts.{parts_in}
use Rattle.ray_certify.specs.Rays.{SeenRay, TracedRay}

-- a line is the spelling, with the command and the number of a ray, of a certificate that supports its hit
pub record IsCertifiedBy (r : TracedRay) (s : SeenRay) (line : List ℕ) : Type 0 where
  pub cert : CertValue
  pub small : IsSpelledSmall r.command r.number cert
  pub spelled : line ≡ line_of r.command r.number cert
  pub supports : SupportsOver r.meaning r.number r.flags (parts_of s.ray.tmax) (parts_in s.top s.bottoms s.ray r.flags r.mask) cert

abbrev pub IsCertifiedIn : TracedRay → Option SeenRay → List ℕ → Type 0
IsCertifiedIn r None line = ⊥
IsCertifiedIn r (Some s) line = IsCertifiedBy r s line

abbrev pub IsCertified : TracedRay → List ℕ → Type 0
IsCertified r line = IsCertifiedIn r r.seen line

-- a line is the spelling, with the command and the number of a ray, of a certificate that names what testing every primitive commits
pub record NamesAnswerBy (r : TracedRay) (s : SeenRay) (line : List ℕ) : Type 0 where
  pub cert : CertValue
  pub spelled : line ≡ line_of r.command r.number cert
  pub names : option_map name_of (trace_answer r.meaning s.top s.bottoms s.ray r.number r.flags r.mask) ≡ cert.named

abbrev pub NamesAnswerIn : TracedRay → Option SeenRay → List ℕ → Type 0
NamesAnswerIn r None line = ⊥
NamesAnswerIn r (Some s) line = NamesAnswerBy r s line

abbrev pub NamesAnswer : TracedRay → List ℕ → Type 0
NamesAnswer r line = NamesAnswerIn r r.seen line

-- so does the line of each of some rays
abbrev pub NameAnswers : List TracedRay → List (List ℕ) → Type 0
NameAnswers [] lines = Unit {0}
NameAnswers (r ∷ rays) [] = ⊥
NameAnswers (r ∷ rays) (line ∷ lines) = NamesAnswer r line × NameAnswers rays lines

-- the verdict on rays, each of which has the line with its number: that all are certified, or which is the first that isn't
abbrev pub IsVerdict : List TracedRay → List (List ℕ) → Verdict → Type 0
IsVerdict [] lines verdict = verdict ≡ Certified
IsVerdict (r ∷ rays) [] verdict = verdict ≡ Uncertified r.command r.number
IsVerdict (r ∷ rays) (line ∷ lines) verdict =
    (IsCertified r line × IsVerdict rays lines verdict) ⊎ ((¬ IsCertified r line) × (verdict ≡ Uncertified r.command r.number))
