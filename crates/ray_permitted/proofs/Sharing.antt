-- Where two commands touch a location of one thing, their accesses share something; and where they do so
-- with a write, the rules on hazards order the commands.
use Rattle.std.proofs.Common.{◌≡◌, ◌<◌, ◌≤◌, ◌+◌, ℕ, zero, suc, Bool, true, false, List, Option, Some, None, inl, inr, refl, sym, ◌∙◌, ap, subst, arith}
use Rattle.std.specs.Prelude.{◌==◌, ◌&&◌, not, nat_le, nat_lt, if◌then◌else◌, slice_get, option_map}
use Rattle.std.specs.List.{list_any}
use Rattle.std.specs.Option.{option_map_or}
use Rattle.std.proofs.lemmas.Bool.{cases_lt}
use Rattle.std.proofs.lemmas.Bool.Decides.{nat_tests}
use Rattle.ray_cmd.specs.declared.command.Command.{Command}
use Rattle.ray_cmd.specs.declared.place.Place.TheVariants.{Earlier}
use Rattle.ray_ranges.specs.declared.range.Range.{Range}
use Rattle.ray_ranges.specs.Meeting.{meets}
use Rattle.ray_rules.specs.declared.byte_range.ByteRange.{ByteRange}
use Rattle.ray_rules.specs.declared.reach.Reach.{Reach}
use Rattle.ray_rules.specs.declared.reach.Reach.TheVariants as reaches
use Rattle.ray_rules.specs.declared.stage.Stage.{Stage}
use Rattle.ray_rules.specs.declared.touch.Touch.{Touch}
use Rattle.ray_rules.specs.Hazards.{accesses_at, bytes_in, greatest, greatest_with, is_one, is_uncovered, maker_of_buffer, maker_of_structure, read_unordered, shares, stage_at, status_at, touches_share, v25, v26, v27, wrote_uncovered}
use Rattle.ray_rules.specs.Makers.{buffer_of}
use Rattle.ray_rules.specs.Order.{Ordering, is_device}
use Rattle.ray_rules.specs.Status.{Status}
use Rattle.ray_action.specs.Areas.{is_in_range}
use Rattle.ray_action.specs.Memory.{Location, ByteAt, BufferAt, StructureAt, ContentsAt}
use Rattle.ray_action.specs.Touching.{is_reached, touched}
use Rattle.ray_permitted.specs.Separates.{CarriesOrder, some_share}
use Rattle.ray_permitted.proofs.Truth.{Passes, and_first, and_second, any_at, both, contradict, is_equal, none_at, not_both, not_false, some_passes}

-- ---- what is shared

-- where two statuses stand, the thing that a location belongs to is one
abbrev pub IsOneThing : Status → Status → Location → Type 0
IsOneThing z w (ByteAt b at) = is_one (maker_of_buffer z b) (maker_of_buffer w b) ≡ true
IsOneThing z w (BufferAt id) = Unit {0}
IsOneThing z w (StructureAt id) = Unit {0}
IsOneThing z w (ContentsAt id) = is_one (maker_of_structure z id) (maker_of_structure w id) ≡ true

-- two ranges that have a byte in common meet
pub bytes_meet : (r s : Range) (at : ℕ) → r.from ≤ at → at < r.end → s.from ≤ at → at < s.end → meets r s ≡ true
bytes_meet r s at a b c d = grind (arith, nat_tests, a, b, c, d)

pub low_of : (r : ByteRange) (b at : ℕ) → is_in_range r (ByteAt b at) ≡ true → (b ≡ r.buffer) × (r.from ≤ at) × (at < r.from + r.size)
low_of r b at e =
    let rest = and_second (b == r.buffer) (nat_le r.from at && nat_lt at (r.from + r.size)) e in (
      is_equal b r.buffer (and_first (b == r.buffer) (nat_le r.from at && nat_lt at (r.from + r.size)) e),
      at_least r.from at (and_first (nat_le r.from at) (nat_lt at (r.from + r.size)) rest),
      below at (r.from + r.size) (and_second (nat_le r.from at) (nat_lt at (r.from + r.size)) rest),
    )
  where
    at_least : (x y : ℕ) → nat_le x y ≡ true → x ≤ y
    at_least x y h = grind (arith, nat_tests, h)

    below : (x y : ℕ) → nat_lt x y ≡ true → x < y
    below x y h = grind (arith, nat_tests, h)

shared_bytes : (z w : Status) (x y : Reach) (b at : ℕ) → is_reached x (ByteAt b at) ≡ true → is_reached y (ByteAt b at) ≡ true
    → is_one (maker_of_buffer z b) (maker_of_buffer w b) ≡ true → shares z w x y ≡ true
shared_bytes z w (reaches.Bytes r) (reaches.Bytes s) b at p q one =
    let here = low_of r b at p in
    let there = low_of s b at q in
    both (is_one (maker_of_buffer z r.buffer) (maker_of_buffer w s.buffer)) (meets (bytes_in r) (bytes_in s))
    (sym (λ i. is_one (maker_of_buffer z (here.0 i)) (maker_of_buffer w (there.0 i))) ∙ one)
    (bytes_meet (bytes_in r) (bytes_in s) at here.1 here.2 there.1 there.2)
shared_bytes z w x y b at p q one = absurd cc

shared_contents : (z w : Status) (x y : Reach) (id : ℕ) → is_reached x (ContentsAt id) ≡ true → is_reached y (ContentsAt id) ≡ true
    → is_one (maker_of_structure z id) (maker_of_structure w id) ≡ true → shares z w x y ≡ true
shared_contents z w (reaches.Structure a) (reaches.Structure c) id p q one =
    let here = is_equal id a p in
    let there = is_equal id c q in
    sym (λ i. is_one (maker_of_structure z (here i)) (maker_of_structure w (there i))) ∙ one
shared_contents z w x y id p q one = absurd cc

no_size : {X : Type 0} (x : Reach) (id : ℕ) → is_reached x (BufferAt id) ≡ true → X
no_size (reaches.Bytes r) id e = absurd cc
no_size (reaches.Structure a) id e = absurd cc
no_size (reaches.Scratch r) id e = absurd cc

no_form : {X : Type 0} (x : Reach) (id : ℕ) → is_reached x (StructureAt id) ≡ true → X
no_form (reaches.Bytes r) id e = absurd cc
no_form (reaches.Structure a) id e = absurd cc
no_form (reaches.Scratch r) id e = absurd cc

-- what reaches a location of one thing shares something
shared_at : (z w : Status) (x y : Reach) (l : Location) → is_reached x l ≡ true → is_reached y l ≡ true → IsOneThing z w l → shares z w x y ≡ true
shared_at z w x y (ByteAt b at) p q one = shared_bytes z w x y b at p q one
shared_at z w x y (BufferAt id) p q one = no_size x id p
shared_at z w x y (StructureAt id) p q one = no_form x id p
shared_at z w x y (ContentsAt id) p q one = shared_contents z w x y id p q one

-- so touches of one location share something
pub some_shared : (rec : List Command) (i j : ℕ) (ones others : List Touch) (l : Location) → IsOneThing (status_at rec i) (status_at rec j) l
    → touched ones l ≡ true → touched others l ≡ true → some_share rec i j ones others ≡ true
some_shared rec i j ones others l one here there =
    let x = some_passes (λ (t : Touch). is_reached t.reach l) ones here in
    let y = some_passes (λ (t : Touch). is_reached t.reach l) others there in
    any_at (λ other. list_any (λ w. touches_share rec i j w other) ones) others y.place y.item y.there
    (any_at (λ w. touches_share rec i j w y.item) ones x.place x.item x.there
    (shared_at (status_at rec i) (status_at rec j) x.item.reach y.item.reach l x.passes y.passes one))

-- ---- rules on hazards

none_passes : (test : ℕ → Bool) (n : ℕ) → greatest test n ≡ None → (i : ℕ) → i < n → test i ≡ false
none_passes test zero e i less = absurd (omega (arith, less))
none_passes test (suc n) e i less =
    let first = step (test n) (greatest test n) e in
    elim (cases_lt i n) [
      | inl before ↦ none_passes test n first.1 i before
      | inr at ↦ (let same : n ≡ i = omega (arith, less, at) in subst (λ m. test m ≡ false) same first.0)
    ]
  where
    step : (b : Bool) (rest : Option ℕ) → (if b then Some n else rest) ≡ None → (b ≡ false) × (rest ≡ None)
    step true rest h = absurd cc
    step false rest h = (refl, h)

unmapped : (found : Option ℕ) → option_map Earlier found ≡ None → found ≡ None
unmapped None e = refl
unmapped (Some k) e = absurd cc

-- no earlier command is at odds with a touch
no_odds : (odds : Touch → ℕ → Bool) (touches : List Touch) (j : ℕ) → greatest_with odds touches j ≡ None
    → (i : ℕ) → i < j → (k : ℕ) (t : Touch) → slice_get touches k ≡ Some t → odds t i ≡ false
no_odds odds touches j e i less k t there =
    none_at (λ x. odds x i) touches k t there
    (none_passes (λ n. list_any (λ x. odds x n) touches) j (unmapped (greatest (λ n. list_any (λ x. odds x n) touches) j) e) i less)

-- what shares something: two touches, and where they stand
record HaveShared (rec : List Command) (i j : ℕ) (ones others : List Touch) : Type 0 where
  one : Passes (λ t. list_any (λ w. touches_share rec i j w t) ones) others
  other : Passes (λ w. touches_share rec i j w one.item) ones

have_shared : (rec : List Command) (i j : ℕ) (ones others : List Touch) → some_share rec i j ones others ≡ true → HaveShared rec i j ones others
have_shared rec i j ones others e =
    let y = some_passes (λ t. list_any (λ w. touches_share rec i j w t) ones) others e in
    record { one = y; other = some_passes (λ w. touches_share rec i j w y.item) ones y.passes }

-- what a command wrote and another touches, where no write is uncovered to its touches
covered_ordered : (order : Ordering) (rec : List Command) → CarriesOrder rec order → (i j : ℕ) (s to : Stage) (touches : List Touch) → is_device to ≡ true → stage_at rec i ≡ Some s → i < j
    → greatest_with (wrote_uncovered order rec j to) touches j ≡ None → some_share rec i j (accesses_at rec i).writes touches ≡ true
    → order.ordered i s j to ≡ true
covered_ordered order rec carries i j s to touches device stage less none share =
    let h = have_shared rec i j (accesses_at rec i).writes touches share in
    let t : Touch = h.one.item in
    let w : Touch = h.other.item in
    let odd : wrote_uncovered order rec j to t i ≡ false =
    no_odds (wrote_uncovered order rec j to) touches j none i less h.one.place t h.one.there in
    let each : list_any (is_uncovered order rec i s j to t) (accesses_at rec i).writes ≡ false =
    sym (ap (λ o. option_map_or (λ (st : Stage). list_any (is_uncovered order rec i st j to t) (accesses_at rec i).writes) o false) stage) ∙ odd in
    let this : is_uncovered order rec i s j to t w ≡ false =
    none_at (is_uncovered order rec i s j to t) (accesses_at rec i).writes h.other.place w h.other.there each in
    let thing : Option ℕ = buffer_of (status_at rec i) w.reach in
    let covered : order.covered i s w.access thing j to t.access ≡ true =
    not_false (order.covered i s w.access thing j to t.access)
    (not_both (touches_share rec i j w t) (not (order.covered i s w.access thing j to t.access)) h.other.passes this) in
    carries.covered i s w.access thing j to t.access device covered

-- V25: what a command reads
pub read_after_write : (order : Ordering) (rec : List Command) → CarriesOrder rec order → (i j : ℕ) (s to : Stage) → is_device to ≡ true → stage_at rec i ≡ Some s → stage_at rec j ≡ Some to → i < j
    → v25 order rec j ≡ None → some_share rec i j (accesses_at rec i).writes (accesses_at rec j).reads ≡ true → order.ordered i s j to ≡ true
unfolding v25
read_after_write order rec carries i j s to device stage at less kept share =
    covered_ordered order rec carries i j s to (accesses_at rec j).reads device stage less
    (sym (ap (λ o. option_map_or (λ (x : Stage). greatest_with (wrote_uncovered order rec j x) (accesses_at rec j).reads j) o None) at) ∙ kept) share

-- V26: what it writes
pub write_after_write : (order : Ordering) (rec : List Command) → CarriesOrder rec order → (i j : ℕ) (s to : Stage) → is_device to ≡ true → stage_at rec i ≡ Some s → stage_at rec j ≡ Some to → i < j
    → v26 order rec j ≡ None → some_share rec i j (accesses_at rec i).writes (accesses_at rec j).writes ≡ true → order.ordered i s j to ≡ true
unfolding v26
write_after_write order rec carries i j s to device stage at less kept share =
    covered_ordered order rec carries i j s to (accesses_at rec j).writes device stage less
    (sym (ap (λ o. option_map_or (λ (x : Stage). greatest_with (wrote_uncovered order rec j x) (accesses_at rec j).writes j) o None) at) ∙ kept) share

-- V27: what it writes, and another read
pub write_after_read : (order : Ordering) (rec : List Command) (i j : ℕ) (s to : Stage) → stage_at rec i ≡ Some s → stage_at rec j ≡ Some to → i < j
    → v27 order rec j ≡ None → some_share rec i j (accesses_at rec i).reads (accesses_at rec j).writes ≡ true → order.ordered i s j to ≡ true
unfolding v27
write_after_read order rec i j s to stage at less kept share =
    let none : greatest_with (read_unordered order rec j to) (accesses_at rec j).writes j ≡ None =
    sym (ap (λ o. option_map_or (λ (x : Stage). greatest_with (read_unordered order rec j x) (accesses_at rec j).writes j) o None) at) ∙ kept in
    let h = have_shared rec i j (accesses_at rec i).reads (accesses_at rec j).writes share in
    let t : Touch = h.one.item in
    let odd : read_unordered order rec j to t i ≡ false =
    no_odds (read_unordered order rec j to) (accesses_at rec j).writes j none i less h.one.place t h.one.there in
    let this : (not (order.ordered i s j to) && list_any (λ x. touches_share rec i j x t) (accesses_at rec i).reads) ≡ false =
    sym (ap (λ o. option_map_or (λ (st : Stage). not (order.ordered i st j to) && list_any (λ x. touches_share rec i j x t) (accesses_at rec i).reads) o false) stage) ∙ odd in
    not_false (order.ordered i s j to)
    (not_first (not (order.ordered i s j to)) (list_any (λ x. touches_share rec i j x t) (accesses_at rec i).reads) h.one.passes this)
  where
    not_first : (a b : Bool) → b ≡ true → (a && b) ≡ false → a ≡ false
    not_first true b is e = contradict b is e
    not_first false b is e = refl
