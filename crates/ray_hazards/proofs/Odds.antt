-- What lanes tell is what the rules on hazards speak of.
use Rattle.std.proofs.Common.{◌≡◌, ◌⊎◌, ◌&&◌, ◌∷◌, [], ℕ, Bool, true, false, not, List, Option, Some, None, All, refl, sym, ◌∙◌, ap, subst, inl, inr, slice_get}
use Rattle.std.specs.Prelude.{if◌then◌else◌}
use Rattle.std.specs.List.{list_all, list_any}
use Rattle.std.specs.Option.{option_map_or}
use Rattle.ray_access.specs.Axis.{SharingIsMeeting, TouchFits, extent_of, touched}
use Rattle.ray_cmd.specs.declared.command.Command.{Command}
use Rattle.ray_ranges.specs.declared.range.Range.{Range}
use Rattle.ray_ranges.specs.Meeting.{meets}
use Rattle.ray_rules.specs.declared.access_type.AccessType.{AccessType}
use Rattle.ray_rules.specs.declared.access_type.AccessType.TheVariants.{TransferWrite, ShaderWrite, StructureWrite}
use Rattle.ray_rules.specs.declared.stage.Stage.{Stage}
use Rattle.ray_rules.specs.declared.stage.Stage.TheVariants.{Transfer, Build, StructureCopy, Compute, Host}
use Rattle.ray_rules.specs.declared.touch.Touch.{Touch}
use Rattle.ray_rules.specs.Access.{accesses_of, no_access, stage_of}
use Rattle.ray_rules.specs.Hazards.{accesses_at, is_uncovered, shares, stage_at, status_at, touches_share}
use Rattle.ray_rules.specs.Makers.{buffer_of}
use Rattle.ray_rules.specs.Order.{is_device}
use Rattle.ray_rules.specs.Status.{Status}
use Rattle.ray_hazards.specs.Cells.{cell_of, has_cell, is_start}
use Rattle.ray_hazards.specs.Counting.{Counted, read_in, stage_in, wrote_in}
use Rattle.ray_hazards.specs.Lanes.{AnyUncovered, AnyUnordered}
use Rattle.ray_hazards.specs.Lasts.{ArePlaced, UncoveredIn, UnorderedIn, has_it, is_by, same_access}
use Rattle.ray_hazards.proofs.Cellular.{meet-share, share-meet}
use Rattle.ray_hazards.proofs.Ways.{are_ways, devices, is_way, ways}
use Rattle.ray_hazards.proofs.Finds.{same-is, is-same, both, left, right, any-back, in-range, from-range, below-range, one-buffer, pick}

-- a touch that has its numbers within its stretch, and begins at a start
pub record IsPlaced (z : Status) (starts : List ℕ) (t : Touch) : Type 0 where
  pub fits : TouchFits t
  pub start : is_start starts (extent_of z t.reach).from ≡ true

-- a write in a way that has a cell of a touch's range, not covered
wrote-step :
    (law : SharingIsMeeting) (counted : Counted) (starts : List ℕ) (stage : Stage) (way : AccessType) (n i c : ℕ) (to : Stage)
    (t w : Touch) → TouchFits t → has_cell starts (extent_of (status_at counted.commands n) t.reach) c ≡ true
    → counted.order.covered i stage way (buffer_of (status_at counted.commands n) t.reach) n to t.access ≡ false → IsPlaced (status_at counted.commands i) starts w
    → is_by starts way c (touched (status_at counted.commands i) w) ≡ true → is_uncovered counted.order counted.commands i stage n to t w ≡ true
wrote-step law counted starts stage way n i c to t w fits has uncovered placed by =
    let z = status_at counted.commands i in
    let u = status_at counted.commands n in
    let access : w.access ≡ way = same-is w.access way (left (same_access w.access way) _ by) in
    let cell = right (same_access w.access way) (has_cell starts (extent_of z w.reach) c) by in
    let shared : shares z u w.reach t.reach ≡ true =
    law z u w.reach t.reach placed.fits fits ∙ share-meet starts (extent_of z w.reach) (extent_of u t.reach) c cell has
    in
    let thing : buffer_of z w.reach ≡ buffer_of u t.reach = one-buffer z u w.reach t.reach shared in
    both (shares z u w.reach t.reach) (not (counted.order.covered i stage w.access (buffer_of z w.reach) n to t.access)) shared
    ((λ j. not (counted.order.covered i stage (access j) (thing j) n to t.access)) ∙ ap not uncovered)

-- the same back: a cell that both have
record HasBoth (rec : List Command) (starts : List ℕ) (n i : ℕ) (t w : Touch) : Type 0 where
  pub c : ℕ
  pub first : has_cell starts (extent_of (status_at rec n) t.reach) c ≡ true
  pub second : has_cell starts (extent_of (status_at rec i) w.reach) c ≡ true

shared-cell :
    (law : SharingIsMeeting) (rec : List Command) (starts : List ℕ) (n i : ℕ) (t w : Touch)
    → IsPlaced (status_at rec n) starts t → IsPlaced (status_at rec i) starts w
    → touches_share rec i n w t ≡ true → HasBoth rec starts n i t w
shared-cell law rec starts n i t w one other share =
    let z = status_at rec i in
    let u = status_at rec n in
    let meet : meets (extent_of z w.reach) (extent_of u t.reach) ≡ true =
    sym (law z u w.reach t.reach other.fits one.fits) ∙ share
    in
    let (c, a, b) = meet-share starts (extent_of z w.reach) (extent_of u t.reach) other.start one.start meet in
    record { c = c; first = b; second = a }

-- touches that are placed, one by one
pub each-placed :
    (rec : List Command) (starts : List ℕ) (i : ℕ) (ts : List Touch) → ArePlaced rec starts i ts
    → All (IsPlaced (status_at rec i) starts) ts
each-placed rec starts i ts are = λ k d below. record { fits = are.fit k d below; start = are.start k d below }

-- what lanes find in one way is uncovered
one-way :
    (law : SharingIsMeeting) (counted : Counted) (starts : List ℕ) (stage : Stage) (way : AccessType) (n i : ℕ) (to : Stage)
    (t : Touch) → IsPlaced (status_at counted.commands n) starts t → ArePlaced counted.commands starts i (accesses_at counted.commands i).writes
    → UncoveredIn counted starts stage way (buffer_of (status_at counted.commands n) t.reach) n to t.access (cell_of starts (extent_of (status_at counted.commands n) t.reach).from) (cell_of starts (extent_of (status_at counted.commands n) t.reach).end) i
    → wrote_in counted n to t i ≡ true
one-way law counted starts stage way n i to t one others u =
    let (c, from, below, wrote) = u.cell in
    let has = in-range starts (extent_of (status_at counted.commands n) t.reach) c from below in
    let found =
    any-back (touched (status_at counted.commands i)) (is_uncovered counted.order counted.commands i stage n to t) (is_by starts way c) (IsPlaced (status_at counted.commands i) starts)
    (accesses_at counted.commands i).writes (each-placed counted.commands starts i (accesses_at counted.commands i).writes others)
    (λ w placed by. wrote-step law counted starts stage way n i c to t w one.fits has u.uncovered placed by) wrote.touch
    in
    subst (λ (o : Option Stage). option_map_or (λ s. list_any (is_uncovered counted.order counted.commands i s n to t) (accesses_at counted.commands i).writes) o false ≡ true) (sym wrote.by) found

pub uncovered-to :
    (law : SharingIsMeeting) (counted : Counted) (starts : List ℕ) (n i : ℕ) (to : Stage) (t : Touch)
    → IsPlaced (status_at counted.commands n) starts t → ArePlaced counted.commands starts i (accesses_at counted.commands i).writes
    → AnyUncovered counted starts (buffer_of (status_at counted.commands n) t.reach) n to t.access (cell_of starts (extent_of (status_at counted.commands n) t.reach).from) (cell_of starts (extent_of (status_at counted.commands n) t.reach).end) i
    → wrote_in counted n to t i ≡ true
uncovered-to law counted starts n i to t one others any =
    elim any [
      | inl a ↦
          elim a [
            | inl p ↦
                elim p [
                  | inl u ↦ one-way law counted starts Transfer TransferWrite n i to t one others u
                  | inr u ↦ one-way law counted starts Build StructureWrite n i to t one others u
                ]
            | inr q ↦
                elim q [
                  | inl u ↦ one-way law counted starts Build TransferWrite n i to t one others u
                  | inr u ↦ one-way law counted starts StructureCopy StructureWrite n i to t one others u
                ]
          ]
      | inr b ↦
          elim b [
            | inl u ↦ one-way law counted starts StructureCopy TransferWrite n i to t one others u
            | inr u ↦ one-way law counted starts Compute ShaderWrite n i to t one others u
          ]
    ]

-- of six ways there is one
six :
    (P : Stage → AccessType → Type 0) (s : Stage) (a : AccessType) → is_way s a ≡ true → P s a
    → ((P Transfer TransferWrite ⊎ P Build StructureWrite) ⊎ (P Build TransferWrite ⊎ P StructureCopy StructureWrite))
    ⊎ (P StructureCopy TransferWrite ⊎ P Compute ShaderWrite)
six P Transfer TransferWrite e p = inl (inl (inl p))
six P Build StructureWrite e p = inl (inl (inr p))
six P Build TransferWrite e p = inl (inr (inl p))
six P StructureCopy StructureWrite e p = inl (inr (inr p))
six P StructureCopy TransferWrite e p = inr (inl p)
six P Compute ShaderWrite e p = inr (inr p)
six P _ _ e p = absurd cc

-- the ways of command number i
ways-at :
    (rec : List Command) (z : Status) (o : Option Command)
    → option_map_or (λ stage. are_ways stage (option_map_or (accesses_of rec z) o no_access).writes) (option_map_or stage_of o None) true ≡ true
ways-at rec z None = refl
ways-at rec z (Some c) = ways rec z c

-- the same where it may not count
ways-in :
    (rec : List Command) (i : ℕ) (counts : Bool)
    → option_map_or (λ stage. are_ways stage (accesses_at rec i).writes) (if counts then stage_at rec i else None) true ≡ true
ways-in rec i true = ways-at rec (status_at rec i) (slice_get rec i)
ways-in rec i false = refl

-- what is uncovered is found by lanes
pub uncovered-from :
    (law : SharingIsMeeting) (counted : Counted) (starts : List ℕ) (n i : ℕ) (to : Stage) (t : Touch)
    → IsPlaced (status_at counted.commands n) starts t → ArePlaced counted.commands starts i (accesses_at counted.commands i).writes
    → wrote_in counted n to t i ≡ true
    → AnyUncovered counted starts (buffer_of (status_at counted.commands n) t.reach) n to t.access (cell_of starts (extent_of (status_at counted.commands n) t.reach).from) (cell_of starts (extent_of (status_at counted.commands n) t.reach).end) i
uncovered-from law counted starts n i to t one others odd =
    by-stage (stage_in counted i) refl odd (ways-in counted.commands i (counted.counts i))
  where
    W : List Touch
    W = (accesses_at counted.commands i).writes

    r : Range
    r = extent_of (status_at counted.commands n) t.reach

    by-stage :
        (o : Option Stage) → stage_in counted i ≡ o
        → option_map_or (λ s. list_any (is_uncovered counted.order counted.commands i s n to t) W) o false ≡ true
        → option_map_or (λ s. are_ways s W) o true ≡ true
        → AnyUncovered counted starts (buffer_of (status_at counted.commands n) t.reach) n to t.access (cell_of starts r.from) (cell_of starts r.end) i
    by-stage None at found are = absurd cc
    by-stage (Some s) at found are =
        let p =
        pick (touched (status_at counted.commands i)) (is_uncovered counted.order counted.commands i s n to t) (λ (w : Touch). is_way s w.access)
        (IsPlaced (status_at counted.commands i) starts) W found are (each-placed counted.commands starts i W others)
        in
        let w = p.item in
        let covered = counted.order.covered i s w.access (buffer_of (status_at counted.commands i) w.reach) n to t.access in
        let share = left (touches_share counted.commands i n w t) (not covered) p.found in
        let free = right (touches_share counted.commands i n w t) (not covered) p.found in
        let thing = one-buffer (status_at counted.commands i) (status_at counted.commands n) w.reach t.reach share in
        let b = shared-cell law counted.commands starts n i t w one p.so share in
        six (λ (st : Stage) (a : AccessType). UncoveredIn counted starts st a (buffer_of (status_at counted.commands n) t.reach) n to t.access (cell_of starts r.from) (cell_of starts r.end) i) s w.access p.also (record {
          cell = (
            b.c,
            from-range starts r b.c b.first,
            below-range starts r b.c b.first,
            record {
              by = at;
              touch =
                  p.there (is_by starts w.access b.c)
                  (both (same_access w.access w.access) (has_cell starts (extent_of (status_at counted.commands i) w.reach) b.c) (is-same w.access) b.second);
            },
          );
          uncovered = (λ j. counted.order.covered i s w.access (sym thing j) n to t.access) ∙ negated covered free;
        })
      where
        negated : (q : Bool) → not q ≡ true → q ≡ false
        negated true e = absurd cc
        negated false e = refl

-- what lanes find read at a stage is not ordered
one-stage :
    (law : SharingIsMeeting) (counted : Counted) (starts : List ℕ) (stage : Stage) (n i : ℕ) (to : Stage)
    (t : Touch) → IsPlaced (status_at counted.commands n) starts t → ArePlaced counted.commands starts i (accesses_at counted.commands i).reads
    → UnorderedIn counted starts stage n to (cell_of starts (extent_of (status_at counted.commands n) t.reach).from) (cell_of starts (extent_of (status_at counted.commands n) t.reach).end) i
    → read_in counted n to t i ≡ true
one-stage law counted starts stage n i to t one others u =
    let (c, from, below, read) = u.cell in
    let z = status_at counted.commands i in
    let v = status_at counted.commands n in
    let has = in-range starts (extent_of v t.reach) c from below in
    let found =
    any-back (touched z) (λ (w : Touch). touches_share counted.commands i n w t) (has_it starts c) (IsPlaced z starts)
    (accesses_at counted.commands i).reads (each-placed counted.commands starts i (accesses_at counted.commands i).reads others)
    (λ w placed cell.
    law z v w.reach t.reach placed.fits one.fits ∙ share-meet starts (extent_of z w.reach) (extent_of v t.reach) c cell has) read.touch
    in
    subst (λ (o : Option Stage). option_map_or (λ s. not (counted.order.ordered i s n to) && list_any (λ (w : Touch). touches_share counted.commands i n w t) (accesses_at counted.commands i).reads) o false ≡ true) (sym read.by)
    (both (not (counted.order.ordered i stage n to)) (list_any (λ (w : Touch). touches_share counted.commands i n w t) (accesses_at counted.commands i).reads)
    (ap not u.unordered) found)

pub unordered-to :
    (law : SharingIsMeeting) (counted : Counted) (starts : List ℕ) (n i : ℕ) (to : Stage) (t : Touch)
    → IsPlaced (status_at counted.commands n) starts t → ArePlaced counted.commands starts i (accesses_at counted.commands i).reads
    → AnyUnordered counted starts n to (cell_of starts (extent_of (status_at counted.commands n) t.reach).from) (cell_of starts (extent_of (status_at counted.commands n) t.reach).end) i
    → read_in counted n to t i ≡ true
unordered-to law counted starts n i to t one others any =
    elim any [
      | inl a ↦
          elim a [
            | inl u ↦ one-stage law counted starts Transfer n i to t one others u
            | inr u ↦ one-stage law counted starts Build n i to t one others u
          ]
      | inr b ↦
          elim b [
            | inl u ↦ one-stage law counted starts StructureCopy n i to t one others u
            | inr u ↦ one-stage law counted starts Compute n i to t one others u
          ]
    ]

-- of four stages there is one
four :
    (P : Stage → Type 0) (s : Stage) → is_device s ≡ true → P s
    → (P Transfer ⊎ P Build) ⊎ (P StructureCopy ⊎ P Compute)
four P Transfer e p = inl (inl p)
four P Build e p = inl (inr p)
four P StructureCopy e p = inr (inl p)
four P Compute e p = inr (inr p)
four P Host e p = absurd cc

-- the stage of command number i is one of the device
devices-at : (o : Option Command) → option_map_or is_device (option_map_or stage_of o None) true ≡ true
devices-at None = refl
devices-at (Some c) = devices c

devices-in :
    (rec : List Command) (i : ℕ) (counts : Bool)
    → option_map_or is_device (if counts then stage_at rec i else None) true ≡ true
devices-in rec i true = devices-at (slice_get rec i)
devices-in rec i false = refl

-- what isn't ordered is found by lanes
pub unordered-from :
    (law : SharingIsMeeting) (counted : Counted) (starts : List ℕ) (n i : ℕ) (to : Stage) (t : Touch)
    → IsPlaced (status_at counted.commands n) starts t → ArePlaced counted.commands starts i (accesses_at counted.commands i).reads
    → read_in counted n to t i ≡ true
    → AnyUnordered counted starts n to (cell_of starts (extent_of (status_at counted.commands n) t.reach).from) (cell_of starts (extent_of (status_at counted.commands n) t.reach).end) i
unordered-from law counted starts n i to t one others odd =
    by-stage (stage_in counted i) refl odd (devices-in counted.commands i (counted.counts i))
  where
    R : List Touch
    R = (accesses_at counted.commands i).reads

    r : Range
    r = extent_of (status_at counted.commands n) t.reach

    all-true : {X : Type 0} (xs : List X) → list_all (λ x. true) xs ≡ true
    all-true [] = refl
    all-true (x ∷ xs) = all-true xs

    by-stage :
        (o : Option Stage) → stage_in counted i ≡ o
        → option_map_or (λ s. not (counted.order.ordered i s n to) && list_any (λ (w : Touch). touches_share counted.commands i n w t) R) o false ≡ true
        → option_map_or is_device o true ≡ true
        → AnyUnordered counted starts n to (cell_of starts r.from) (cell_of starts r.end) i
    by-stage None at found device = absurd cc
    by-stage (Some s) at found device =
        let free = left (not (counted.order.ordered i s n to)) (list_any (λ (w : Touch). touches_share counted.commands i n w t) R) found in
        let some = right (not (counted.order.ordered i s n to)) (list_any (λ (w : Touch). touches_share counted.commands i n w t) R) found in
        let p =
        pick (touched (status_at counted.commands i)) (λ (w : Touch). touches_share counted.commands i n w t) (λ w. true)
        (IsPlaced (status_at counted.commands i) starts) R some (all-true R) (each-placed counted.commands starts i R others)
        in
        let b = shared-cell law counted.commands starts n i t p.item one p.so p.found in
        four (λ (st : Stage). UnorderedIn counted starts st n to (cell_of starts r.from) (cell_of starts r.end) i) s device (record {
          cell = (
            b.c,
            from-range starts r b.c b.first,
            below-range starts r b.c b.first,
            record { by = at; touch = p.there (has_it starts b.c) b.second },
          );
          unordered = negated (counted.order.ordered i s n to) free;
        })
      where
        negated : (q : Bool) → not q ≡ true → q ≡ false
        negated true e = absurd cc
        negated false e = refl
