-- The law that a certificate which supports its hit names the answer of testing every primitive.
use Rattle.std.specs.Prelude.{ℕ, ◌≡◌, Option, option_map}
use Rattle.ray_geom.specs.Ratio.{parts_of}
use Rattle.ray_geom.specs.Scene.{RayValue}
use Rattle.ray_flags.specs.declared.ray_flags.RayFlags.{RayFlags}
use Rattle.ray_bottom.specs.Slots.{Slots}
use Rattle.ray_top.specs.Contents.{ContentsValue as TopContents}
use Rattle.ray_query.specs.declared.candidate.Candidate.{Candidate}
use Rattle.ray_query.specs.declared.commit.Commit.{Commit}
use Rattle.ray_query.specs.declared.decision.Decision.{Decision}
use Rattle.ray_candidates.specs.Candidates.{trace_answer}
use Rattle.ray_candidates.specs.Standing.{structures_in}
use Rattle.ray_cert.specs.Certificates.{CertValue, Supports, cert_of, name_of}
use Rattle.ray_cert.specs.Parts.{parts_of_ray}

-- what a certificate names, where it supports its hit, is the answer over all candidates
abbrev pub SupportedIsAnswer : TopContents → Slots → RayValue → RayFlags → ℕ → Type 0
SupportedIsAnswer top bottoms ray flags mask =
    (meaning : Candidate → Decision) (number : ℕ) (cert : CertValue) → Supports meaning top bottoms ray number flags mask cert
    → option_map name_of (trace_answer meaning top (structures_in bottoms) ray number flags mask) ≡ cert.named

-- a certificate is the one that is made of an answer, whatever the flags
abbrev pub IsMadeOf : TopContents → Slots → RayValue → ℕ → Option Commit → CertValue → Type 0
IsMadeOf top bottoms ray mask commit cert =
    (flags : RayFlags) → cert ≡ cert_of (parts_of ray.tmax) (parts_of_ray top bottoms ray flags mask) commit

-- it supports its hit, for each ray number, flags and client for which that is the answer
abbrev pub SupportsAnswer : TopContents → Slots → RayValue → ℕ → Option Commit → CertValue → Type 0
SupportsAnswer top bottoms ray mask commit cert =
    (meaning : Candidate → Decision) (number : ℕ) (flags : RayFlags)
    → commit ≡ trace_answer meaning top (structures_in bottoms) ray number flags mask
    → Supports meaning top bottoms ray number flags mask cert
