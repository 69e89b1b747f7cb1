-- What follows from a rule that is kept, in the words of its test.
use Rattle.std.proofs.Common.{◌≡◌, ◌+◌, ◌≤◌, ℕ, Bool, true, false, List, [], ◌∷◌, Option, Some, None, refl, sym, ◌∙◌, ap, arith}
use Rattle.std.proofs.lemmas.Bool.Decides.{nat_tests}
use Rattle.std.specs.Prelude.{◌||◌, ◌==◌, if◌then◌else◌, option_map}
use Rattle.std.specs.List.{list_any, position, position_from}
use Rattle.std.proofs.lemmas.Iterator.Adapters.{position_from-zero}
use Rattle.ray_cmd.specs.declared.geometry.Geometry.{Geometry}
use Rattle.ray_cmd.specs.declared.geometry.Geometry.TheVariants as geometries
use Rattle.ray_cmd.specs.declared.place.Place.TheVariants.{Part}
use Rattle.ray_rules.specs.declared.byte_range.ByteRange.{ByteRange}
use Rattle.ray_rules.specs.declared.live_buffer.LiveBuffer.{LiveBuffer}
use Rattle.ray_rules.specs.Ids.{Ids}
use Rattle.ray_rules.specs.Places.{first_part, whole}
use Rattle.ray_rules.specs.Ranges.{cut, inputs_needed, inputs_read, inputs_with, is_outside, is_outside_if, size_at}
use Rattle.ray_rules.specs.Within.{AreInBuffers, IsInBuffer, IsInBufferIf}

-- ---- truth values

pub not_broken : (b : Bool) → whole b ≡ None → b ≡ false
not_broken true e = absurd cc
not_broken false e = refl

pub neither_first : (a b : Bool) → (a || b) ≡ false → a ≡ false
neither_first true b e = e
neither_first false b e = refl

pub neither_second : (a b : Bool) → (a || b) ≡ false → b ≡ false
neither_second true b e = absurd cc
neither_second false b e = e

-- ---- lists

-- all items of a list fail a test
abbrev pub Fail : {X : Type 0} → (X → Bool) → List X → Type 0
Fail test [] = Unit {0}
Fail test (x ∷ xs) = (test x ≡ false) × Fail test xs

fails : {X : Type 0} (test : X → Bool) (k : ℕ) (x : X) (xs : List X) (b : Bool) → test x ≡ b
    → position_from test k (x ∷ xs) ≡ None → (test x ≡ false) × (position_from test (k + 1) xs ≡ None)
fails test k x xs true e is =
    let found : position_from test k (x ∷ xs) ≡ Some k = ap (λ t. if t then Some k else position_from test (k + 1) xs) e in
    absurd (cc)
fails test k x xs false e is =
    (e, sym (ap (λ t. if t then Some k else position_from test (k + 1) xs) e) ∙ is)

none_from : {X : Type 0} (test : X → Bool) (k : ℕ) (xs : List X) → position_from test k xs ≡ None → Fail test xs
none_from test k [] is = tt
none_from test k (x ∷ xs) is =
    let first = fails test k x xs (test x) refl is in
    (first.0, none_from test (k + 1) xs first.1)

pub no_part : {X : Type 0} (test : X → Bool) (xs : List X) → first_part test xs ≡ None → Fail test xs
no_part test xs is = none_from test 0 xs (sym (position_from-zero test xs) ∙ unmapped (position test xs) is)
  where
    unmapped : (o : Option ℕ) → option_map Part o ≡ None → o ≡ None
    unmapped None e = refl
    unmapped (Some k) e = absurd cc

pub none_any : {X : Type 0} (test : X → Bool) (xs : List X) → list_any test xs ≡ false → Fail test xs
none_any test [] is = tt
none_any test (x ∷ xs) is = (neither_first (test x) (list_any test xs) is, none_any test xs (neither_second (test x) (list_any test xs) is))

-- ---- ranges

pub within : (buffers : Ids LiveBuffer) (r : ByteRange) → is_outside buffers r ≡ false → IsInBuffer buffers r
within buffers r inside b from below =
    let fits : r.from + r.size ≤ size_at buffers r.buffer = grind (arith, nat_tests) in
    omega (arith, fits, below)

within_if : (buffers : Ids LiveBuffer) (r : Option ByteRange) → is_outside_if buffers r ≡ false → IsInBufferIf buffers r
within_if buffers None is = tt
within_if buffers (Some r) is = within buffers r is

all_within : (buffers : Ids LiveBuffer) (rs : List (Option ByteRange)) → list_any (is_outside_if buffers) rs ≡ false → AreInBuffers buffers rs
all_within buffers [] is = tt
all_within buffers (r ∷ rs) is = (
  within_if buffers r (neither_first (is_outside_if buffers r) (list_any (is_outside_if buffers) rs) is),
  all_within buffers rs (neither_second (is_outside_if buffers r) (list_any (is_outside_if buffers) rs) is),
)

-- a range that is cut at the end of its buffer is there
cut_within : (buffers : Ids LiveBuffer) (r : ByteRange) → IsInBuffer buffers (cut buffers r)
cut_within buffers r b from below = omega (arith, below)

-- the first of three ranges may be another that is there
instead : (buffers : Ids LiveBuffer) (none : Bool) (first other : ByteRange) (second third : Option ByteRange) → IsInBuffer buffers other
    → list_any (is_outside_if buffers) (if none then None ∷ None ∷ None ∷ [] else Some first ∷ second ∷ third ∷ []) ≡ false
    → AreInBuffers buffers (if none then None ∷ None ∷ None ∷ [] else Some other ∷ second ∷ third ∷ [])
instead buffers true first other second third h is = (tt, (tt, (tt, tt)))
instead buffers false first other second third h is =
    (h, (all_within buffers (Some first ∷ second ∷ third ∷ []) is).1)

-- what a geometry reads is there, where what has to be there is
pub read_within : (buffers : Ids LiveBuffer) (g : Geometry) → list_any (is_outside_if buffers) (inputs_needed g) ≡ false → AreInBuffers buffers (inputs_read buffers g)
unfolding inputs_needed inputs_read inputs_with
read_within buffers (geometries.Triangles opaque format vertex stride max_vertex None transform count primitive_offset first_vertex transform_offset) is =
    all_within buffers _ is
read_within buffers (geometries.Triangles opaque format vertex stride max_vertex (Some index) transform count primitive_offset first_vertex transform_offset) is =
    instead buffers (count == 0) _ _ _ _ (cut_within buffers _) is
read_within buffers (geometries.Boxes opaque content stride count primitive_offset) is =
    all_within buffers (inputs_needed (geometries.Boxes opaque content stride count primitive_offset)) is
read_within buffers (geometries.Instances content count primitive_offset) is =
    all_within buffers (inputs_needed (geometries.Instances content count primitive_offset)) is
