-- How a certificate is spelled. (Own.)
--
-- By hand: the certificate of ray 0 of command 11, which names the triangle of instance 0, geometry 0 and primitive 0 at 5/1 and has the
-- string 1, is `cert 11 0 tri 0 0 0 5/1 | 1`. One that names none and has no string is `cert 11 0 none |`, and with an empty string
-- `cert 11 0 none | -`.
use Rattle.std.specs.Prelude.{ℕ, ◌++◌, ◌<◌, ◌^◌, Bool, true, false, Option, Some, None, List, [], ◌∷◌, codes, decimal, map}
use Rattle.std.specs.List.{flat_map}
use Rattle.ray_geom.specs.Frac.{denominator, numerator}
use Rattle.ray_flags.specs.declared.kind.Kind.{Kind}
use Rattle.ray_flags.specs.declared.kind.Kind.TheVariants.{Triangle, Aabb}
use Rattle.ray_cert.specs.declared.named.Named.{Named}
use Rattle.ray_cert.specs.Certificates.{CertValue}

-- the word of a kind
abbrev pub kind_word : Kind → List ℕ
kind_word Triangle = codes "tri"
kind_word Aabb = codes "box"

-- the hit that is named: its kind, the three numbers, and its distance in lowest terms
unfoldable pub hit_text : Option Named → List ℕ
hit_text None = codes "none"
hit_text (Some n) =
    kind_word n.kind ++ (codes " " ++ (decimal n.instance ++ (codes " " ++ (decimal n.geometry ++ (codes " " ++ (decimal n.primitive
    ++ (codes " " ++ (decimal (numerator n.t) ++ (codes "/" ++ decimal (denominator n.t))))))))))

-- what stands before the strings, of the ray of a number in a trace command
unfoldable pub head_text : ℕ → ℕ → Option Named → List ℕ
head_text command ray named = codes "cert " ++ (decimal command ++ (codes " " ++ (decimal ray ++ (codes " " ++ (hit_text named ++ codes " |")))))

-- a digit, as 0 or 1
abbrev pub digit_code : Bool → ℕ
digit_code false = 48
digit_code true = 49

-- a string after a space: its digits, and `-` where it has none
abbrev pub string_text : List Bool → List ℕ
string_text [] = codes " -"
string_text (d ∷ ds) = 32 ∷ map digit_code (d ∷ ds)

-- the spelling of a certificate of the ray of a number in a trace command
abbrev pub line_of : ℕ → ℕ → CertValue → List ℕ
line_of command ray cert = head_text command ray cert.named ++ flat_map string_text cert.strings

-- the numbers of a hit that is named are below 2 to the power 32
pub record IsNamedSmall (n : Named) : Type 0 where
  pub instance : n.instance < 2 ^ 32
  pub geometry : n.geometry < 2 ^ 32
  pub primitive : n.primitive < 2 ^ 32

abbrev pub IsHitSmall : Option Named → Type 0
IsHitSmall None = Unit {0}
IsHitSmall (Some n) = IsNamedSmall n

-- a command's number, a ray's and the numbers of a certificate are below 2 to the power 32, as they are wherever there is one
pub record IsSpelledSmall (command ray : ℕ) (cert : CertValue) : Type 0 where
  pub command_small : command < 2 ^ 32
  pub ray_small : ray < 2 ^ 32
  pub hit_small : IsHitSmall cert.named
