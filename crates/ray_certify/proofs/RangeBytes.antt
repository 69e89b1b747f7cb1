-- The bytes of a range of a memory, and of the parts of it.
use Rattle.std.proofs.Common.{ℕ, zero, suc, ◌≡◌, ◌<◌, ◌≤◌, ◌+◌, ◌*◌, List, [], ◌∷◌, length, take, drop, Bool, true, false, Option, Some, None, IsSome, inl, inr, refl, ap, sym, subst, ◌∙◌, arith}
use Rattle.std.specs.Prelude.{if◌then◌else◌, nat_le}
use Rattle.std.proofs.lemmas.Bool.{cases_lt}
use Rattle.std.proofs.lemmas.Bool.Decides.{nat_tests}
use Rattle.ray_bytes.specs.Slices.{record_at}
use Rattle.ray_action.specs.Memory.{Memory, ByteAt, bytes_from, number_before}

-- a byte and those behind it
record AreBehind (found : Option ℕ) (rest : Option (List ℕ)) (bytes : List ℕ) : Type 0 where
  first : ℕ
  others : List ℕ
  is_first : found ≡ Some first
  are_others : rest ≡ Some others
  both : first ∷ others ≡ bytes

behind : (found : Option ℕ) (rest : Option (List ℕ)) (bytes : List ℕ) → number_before found rest ≡ Some bytes → AreBehind found rest bytes
behind None rest bytes e = absurd cc
behind (Some x) None bytes e = absurd cc
behind (Some x) (Some r) bytes e = record { first = x; others = r; is_first = refl; are_others = refl; both = cc }

-- as many bytes as the range has
many_bytes : (m : Memory) (buffer from n : ℕ) (bytes : List ℕ) → bytes_from m buffer from n ≡ Some bytes → length bytes ≡ n
unfolding bytes_from
many_bytes m buffer from zero bytes e = let same : [] ≡ bytes = cc in ap length (sym same)
many_bytes m buffer from (suc n) bytes e =
    let parts = behind (m (ByteAt buffer from)) (bytes_from m buffer (from + 1) n) bytes e in
    ap length (sym parts.both) ∙ ap suc (many_bytes m buffer (from + 1) n parts.others parts.are_others)

-- the first of them
first_part : (m : Memory) (buffer from n width : ℕ) (bytes : List ℕ) → bytes_from m buffer from n ≡ Some bytes → width ≤ n
    → bytes_from m buffer from width ≡ Some (take width bytes)
unfolding bytes_from
first_part m buffer from n zero bytes e within = refl
first_part m buffer from zero (suc width) bytes e within = absurd (omega (arith, within))
first_part m buffer from (suc n) (suc width) bytes e within =
    let parts = behind (m (ByteAt buffer from)) (bytes_from m buffer (from + 1) n) bytes e in
    let rest = first_part m buffer (from + 1) n width parts.others parts.are_others (omega (arith, within)) in
    let joined : number_before (m (ByteAt buffer from)) (bytes_from m buffer (from + 1) width) ≡ Some (parts.first ∷ take width parts.others) =
    λ i. number_before (parts.is_first i) (rest i) in
    joined ∙ ap (λ bs. Some (take (suc width) bs)) parts.both

-- some of them
pub part_there : (m : Memory) (buffer from n at width : ℕ) (bytes : List ℕ) → bytes_from m buffer from n ≡ Some bytes → at + width ≤ n
    → bytes_from m buffer (from + at) width ≡ Some (take width (drop at bytes))
unfolding bytes_from
part_there m buffer from n zero width bytes e within =
    let plain : from + 0 ≡ from = omega arith in
    ap (λ f. bytes_from m buffer f width) plain ∙ first_part m buffer from n width bytes e (omega (arith, within))
part_there m buffer from zero (suc at) width bytes e within = absurd (omega (arith, within))
part_there m buffer from (suc n) (suc at) width bytes e within =
    let parts = behind (m (ByteAt buffer from)) (bytes_from m buffer (from + 1) n) bytes e in
    let next : from + suc at ≡ (from + 1) + at = omega arith in
    ap (λ f. bytes_from m buffer f width) next
    ∙ (part_there m buffer (from + 1) n at width parts.others parts.are_others (omega (arith, within))
    ∙ ap (λ bs. Some (take width (drop (suc at) bs))) parts.both)

if_true : {X : Type 0} (b : Bool) (x d : X) → b ≡ true → (if b then x else d) ≡ x
if_true true x d e = refl
if_true false x d e = absurd cc

at_most_is : (x y : ℕ) → x ≤ y → nat_le x y ≡ true
at_most_is x y h = grind (arith, nat_tests, h)

-- a record of them is those of its place
pub record_there : (m : Memory) (buffer from n width i : ℕ) (bytes : List ℕ) → bytes_from m buffer from n ≡ Some bytes → 0 + i * width + width ≤ n
    → record_at bytes 0 width width i ≡ bytes_from m buffer (from + (0 + i * width)) width
record_there m buffer from n width i bytes e within =
    let many = many_bytes m buffer from n bytes e in
    if_true (nat_le (0 + i * width + width) (length bytes)) (Some (take width (drop (0 + i * width) bytes))) None
    (at_most_is (0 + i * width + width) (length bytes) (subst (λ k. 0 + i * width + width ≤ k) (sym many) within))
    ∙ sym (part_there m buffer from n (0 + i * width) width bytes e within)

-- ---- each of them

is_there : {X : Type 0} (found : Option X) (x : X) → found ≡ Some x → IsSome found
is_there None x e = absurd cc
is_there (Some y) x e = refl

pub byte_there : (m : Memory) (buffer from n at : ℕ) (bytes : List ℕ) → bytes_from m buffer from n ≡ Some bytes → from ≤ at → at < from + n → IsSome (m (ByteAt buffer at))
unfolding bytes_from
byte_there m buffer from zero at bytes e low high = absurd (omega (arith, low, high))
byte_there m buffer from (suc n) at bytes e low high =
    let parts = behind (m (ByteAt buffer from)) (bytes_from m buffer (from + 1) n) bytes e in
    elim (cases_lt from at) [
      | inl less ↦ byte_there m buffer (from + 1) n at parts.others parts.are_others (omega (arith, less)) (omega (arith, high))
      | inr more ↦ (let same : from ≡ at = omega (arith, low, more) in subst (λ k. IsSome (m (ByteAt buffer k))) same (is_there (m (ByteAt buffer from)) parts.first parts.is_first))
    ]

both_there : (number : Option ℕ) (rest : Option (List ℕ)) → IsSome number → IsSome rest → IsSome (number_before number rest)
both_there None rest h k = absurd cc
both_there (Some x) None h k = absurd cc
both_there (Some x) (Some rest) h k = refl

-- where each is there, the range is
pub range_there : (m : Memory) (buffer from n : ℕ) → ((at : ℕ) → from ≤ at → at < from + n → IsSome (m (ByteAt buffer at))) → IsSome (bytes_from m buffer from n)
unfolding bytes_from
range_there m buffer from zero each = refl
range_there m buffer from (suc n) each =
    both_there (m (ByteAt buffer from)) (bytes_from m buffer (from + 1) n) (each from (omega arith) (omega arith))
    (range_there m buffer (from + 1) n (λ at low high. each at (omega (arith, low)) (omega (arith, high))))

-- and so it is in a memory with the same bytes
pub range_same : (m other : Memory) (buffer from n : ℕ) → ((at : ℕ) → from ≤ at → at < from + n → m (ByteAt buffer at) ≡ other (ByteAt buffer at))
    → bytes_from m buffer from n ≡ bytes_from other buffer from n
unfolding bytes_from
range_same m other buffer from zero same = refl
range_same m other buffer from (suc n) same =
    let first : m (ByteAt buffer from) ≡ other (ByteAt buffer from) = same from (omega arith) (omega arith) in
    let rest : bytes_from m buffer (from + 1) n ≡ bytes_from other buffer (from + 1) n =
    range_same m other buffer (from + 1) n (λ at low high. same at (omega (arith, low)) (omega (arith, high))) in
    λ i. number_before (first i) (rest i)
