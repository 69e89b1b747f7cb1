-- The words of a line that spells a certificate, as they stand between its spaces. (Own.)
--
-- By hand: the words of `cert 11 0 tri 0 0 0 5/1 | 1` are `cert`, `11`, `0`, `tri`, `0`, `0`, `0`, `5/1`, `|` and `1`. Of the word
-- `101` the digits read are true, false and true, and of `-` there is none.
use Rattle.std.specs.Prelude.{ℕ, ◌==◌, ◌++◌, Bool, Option, Some, None, List, [], ◌∷◌, if◌then◌else◌, codes, decimal, get_or, map}
use Rattle.std.specs.Borrow.{Bor}
use Rattle.ray_geom.specs.declared.frac.Frac.{Frac}
use Rattle.ray_geom.specs.Frac.{denominator, numerator}
use Rattle.ray_cert.specs.declared.named.Named.{Named}
use Rattle.ray_cert.specs.Certificates.{CertValue}
use Rattle.ray_cert.specs.Spelling.{digit_code, kind_word}

-- the texts that are lent
abbrev pub texts : List (Bor (List ℕ)) → List (List ℕ)
texts words = map (λ w. w.now) words

-- the word of a distance
abbrev pub distance_word : Frac → List ℕ
distance_word t = decimal (numerator t) ++ (codes "/" ++ decimal (denominator t))

-- the words of a hit
abbrev pub named_words : Named → List (List ℕ)
named_words n = kind_word n.kind ∷ decimal n.instance ∷ decimal n.geometry ∷ decimal n.primitive ∷ distance_word n.t ∷ []

-- the words of the hit that is named, if any
abbrev pub hit_words : Option Named → List (List ℕ)
hit_words None = codes "none" ∷ []
hit_words (Some n) = named_words n

-- the word of a string
abbrev pub string_word : List Bool → List ℕ
string_word [] = codes "-"
string_word (d ∷ ds) = map digit_code (d ∷ ds)

-- the words of a line
abbrev pub line_words : ℕ → ℕ → CertValue → List (List ℕ)
line_words command ray cert =
    codes "cert" ∷ decimal command ∷ decimal ray ∷ (hit_words cert.named ++ (codes "|" ∷ map string_word cert.strings))

-- the digits that any word is read as: none where it begins with `-`, and else one for each byte, which is 1 for `1` alone
abbrev pub digits_of_word : List ℕ → List Bool
digits_of_word word = if get_or word 0 0 == 45 then [] else map (λ b. b == 49) word
