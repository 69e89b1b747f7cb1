-- What two actions conflict on; infos of one build don't conflict.
use Rattle.std.proofs.Common.{◌≡◌, ◌<◌, ◌+◌, ◌++◌, ℕ, zero, suc, Bool, true, false, List, [], ◌∷◌, Option, Some, None, refl, sym, ◌∙◌, subst, arith, map, length}
use Rattle.std.specs.Prelude.{◌==◌, ◌||◌, if◌then◌else◌, slice_get}
use Rattle.std.specs.List.{flat_map, list_any}
use Rattle.std.specs.Option.{option_to_list}
use Rattle.std.proofs.lemmas.Bool.Decides.{nat_tests}
use Rattle.std.proofs.lemmas.List.Folds.{list_any-append}
use Rattle.ray_cmd.specs.declared.geometry.Geometry.{Geometry}
use Rattle.ray_cmd.specs.declared.info.Info.{Info}
use Rattle.ray_rules.specs.declared.access_type.AccessType.TheVariants.{ShaderRead, StructureRead}
use Rattle.ray_rules.specs.declared.byte_range.ByteRange.{ByteRange}
use Rattle.ray_rules.specs.declared.live_buffer.LiveBuffer.{LiveBuffer}
use Rattle.ray_rules.specs.declared.reach.Reach.TheVariants as reaches
use Rattle.ray_rules.specs.declared.touch.Touch.{Touch}
use Rattle.ray_rules.specs.Access.{at_scratch, info_accesses, input_reads, structure_reads}
use Rattle.ray_rules.specs.Conflicts.{conflict, first_conflict, is_source, reads_structure}
use Rattle.ray_rules.specs.Ids.{Ids}
use Rattle.ray_rules.specs.Ranges.{inputs_read, scratch_range}
use Rattle.ray_rules.specs.Ranges as ranges
use Rattle.ray_rules.specs.Status.{Status}
use Rattle.ray_action.specs.Action.{Action, areas_read}
use Rattle.ray_action.specs.Areas.{cover, has, is_contents_of}
use Rattle.ray_action.specs.Memory.{Location, ByteAt, BufferAt, StructureAt, ContentsAt}
use Rattle.ray_action.specs.Pieces.{info_actions}
use Rattle.ray_action.specs.Storing.{writes}
use Rattle.ray_action.specs.Touching.{TouchesWithin, is_reached, touched}
use Rattle.ray_permitted.proofs.Truth.{contradict, either, equal_is, in_front, is_equal, never_none, no_first, no_second, none_at, or_left, or_right, same_some, within}

-- two actions touch a location, and one of them writes it
pub data Clash (a b : Action) (l : Location) : Type 0 where
  BothWrite : writes a l ≡ true → writes b l ≡ true → Clash a b l
  ReadsLater : writes a l ≡ true → cover (areas_read b) l ≡ true → Clash a b l
  WritesLater : cover (areas_read a) l ≡ true → writes b l ≡ true → Clash a b l

-- ---- what infos touch

touched_split : {X : Type 0} (xs ys : List Touch) (l : Location) → touched (xs ++ ys) l ≡ true → (touched xs l ≡ true → X) → (touched ys l ≡ true → X) → X
touched_split xs ys l e first second =
    either (touched xs l) (touched ys l) (sym (list_any-append (λ (t : Touch). is_reached t.reach l) xs ys) ∙ e) first second

-- inputs are bytes
bytes_only : (rs : List ByteRange) (id : ℕ) → touched (map (λ r. record { access = ShaderRead; reach = reaches.Bytes r }) rs) (ContentsAt id) ≡ true → ⊥
bytes_only [] id e = absurd cc
bytes_only (r ∷ rs) id e = bytes_only rs id e

inputs_only : (buffers : Ids LiveBuffer) (gs : List Geometry) (id : ℕ) → touched (flat_map (input_reads buffers) gs) (ContentsAt id) ≡ true → ⊥
inputs_only buffers [] id e = absurd cc
inputs_only buffers (g ∷ gs) id e =
    touched_split (input_reads buffers g) (flat_map (input_reads buffers) gs) (ContentsAt id) e
    (λ here. bytes_only (flat_map option_to_list (inputs_read buffers g)) id here) (λ later. inputs_only buffers gs id later)

turned : (a b : ℕ) → (a == b) ≡ true → (b == a) ≡ true
turned a b e = grind (arith, nat_tests)

named_in : (ids : List ℕ) (id : ℕ) → touched (structure_reads ids) (ContentsAt id) ≡ true → has ids id ≡ true
named_in [] id e = absurd cc
named_in (u ∷ ids) id e =
    either (id == u) (touched (structure_reads ids) (ContentsAt id)) e
    (λ same. or_left (u == id) (has ids id) (turned id u same)) (λ later. or_right (u == id) (has ids id) (named_in ids id later))

source_in : (src : Option ℕ) (id : ℕ) → touched (structure_reads (option_to_list src)) (ContentsAt id) ≡ true → is_source src id ≡ true
source_in None id e = absurd cc
source_in (Some u) id e = either (id == u) false e (λ same. turned id u same) (λ none. absurd cc)

-- what an info reads of structures, and what it writes
info_reads : (buffers : Ids LiveBuffer) (info : Info) (id : ℕ) → touched (info_accesses buffers info).reads (ContentsAt id) ≡ true → reads_structure info id ≡ true
info_reads buffers info id e =
    let scratch = at_scratch StructureRead (scratch_range info) ∷ [] in
    touched_split (flat_map (input_reads buffers) info.geometries) (structure_reads info.uses ++ (structure_reads (option_to_list info.src) ++ scratch)) (ContentsAt id) e
    (λ inputs. absurd (inputs_only buffers info.geometries id inputs))
    (λ rest. touched_split (structure_reads info.uses) (structure_reads (option_to_list info.src) ++ scratch) (ContentsAt id) rest
    (λ uses. or_right (is_source info.src id) (has info.uses id) (named_in info.uses id uses))
    (λ later. touched_split (structure_reads (option_to_list info.src)) scratch (ContentsAt id) later
    (λ source. or_left (is_source info.src id) (has info.uses id) (source_in info.src id source)) (λ none. absurd cc)))

info_writes : (buffers : Ids LiveBuffer) (info : Info) (l : Location) → touched (info_accesses buffers info).writes l ≡ true → is_contents_of info.dst l ≡ true
info_writes buffers info l e = either (is_contents_of info.dst l) false e (λ here. here) (λ none. absurd cc)

-- two infos that don't conflict
unbroken : (b : Bool) (j : ℕ) (rest : Option ℕ) → (if b then Some j else rest) ≡ None → (b ≡ false) × (rest ≡ None)
unbroken true j rest h = absurd cc
unbroken false j rest h = (refl, h)

at_end : (before : List Info) (x : Info) → slice_get (before ++ x ∷ []) (length before) ≡ Some x
at_end [] x = refl
at_end (b ∷ before) x = at_end before x

-- an info conflicts with none of those before it
abbrev pub IsClear : List Info → Info → Type 0
IsClear before y = (q : ℕ) (x : Info) → slice_get before q ≡ Some x → conflict y x ≡ false

abbrev pub IsClearBelow : List Info → ℕ → Info → Type 0
IsClearBelow infos m y = (k : ℕ) (x : Info) → k < m → slice_get infos k ≡ Some x → conflict y x ≡ false

later_clear : (before : List Info) (i : Info) (infos : List Info) (m : ℕ) (y : Info) → IsClear (before ++ i ∷ []) y → IsClearBelow infos m y → IsClearBelow (i ∷ infos) (suc m) y
later_clear before i infos m y clear below zero x less there = clear (length before) x (at_end before i ∙ there)
later_clear before i infos m y clear below (suc k) x less there = below k x (omega (arith, less)) there

pub clear_at : (before : List Info) (j : ℕ) (infos : List Info) → first_conflict before j infos ≡ None → (m : ℕ) (y : Info) → slice_get infos m ≡ Some y
    → IsClear before y × IsClearBelow infos m y
clear_at before j [] e m y there = never_none y there
clear_at before j (i ∷ infos) e zero y there =
    let first = unbroken (list_any (conflict i) before) j (first_conflict (before ++ i ∷ []) (j + 1) infos) e in
    let none : list_any (conflict y) before ≡ false = subst (λ w. list_any (conflict w) before ≡ false) (same_some i y there) first.0 in
    (λ q x at. none_at (conflict y) before q x at none, λ k x less at. absurd (omega (arith, less)))
clear_at before j (i ∷ infos) e (suc m) y there =
    let first = unbroken (list_any (conflict i) before) j (first_conflict (before ++ i ∷ []) (j + 1) infos) e in
    let rest = clear_at (before ++ i ∷ []) (j + 1) infos first.1 m y there in
    (λ q x at. rest.0 q x (in_front before (i ∷ []) q x at), later_clear before i infos m y rest.0 rest.1)

-- what infos touch
pub record InfoTouches (a : Action) (info : Info) : Type 0 where
  pub reads : (id : ℕ) → cover (areas_read a) (ContentsAt id) ≡ true → reads_structure info id ≡ true
  pub writes_it : (l : Location) → writes a l ≡ true → is_contents_of info.dst l ≡ true

pub info_at : (z : Status) (j : ℕ) (infos : List Info) (k : ℕ) (a : Action) → slice_get (info_actions z j infos) k ≡ Some a → (info : Info) × (slice_get infos k ≡ Some info)
info_at z j [] k a there = never_none a there
info_at z j (info ∷ infos) zero a there = (info, refl)
info_at z j (info ∷ infos) (suc k) a there = info_at z (j + 1) infos k a there

pub touches_of_info : (z : Status) (a : Action) (info : Info) → TouchesWithin a (info_accesses z.buffers info) → InfoTouches a info
touches_of_info z a info within = record {
  reads = λ id e. info_reads z.buffers info id (within.reads (ContentsAt id) refl e);
  writes_it = λ l e. info_writes z.buffers info l (within.writes l e);
}

-- both write what one of them writes
no_common : (x y : Info) (l : Location) → conflict y x ≡ false → is_contents_of x.dst l ≡ true → is_contents_of y.dst l ≡ true → ⊥
no_common x y (ByteAt b at) e p q = absurd cc
no_common x y (BufferAt id) e p q = absurd cc
no_common x y (StructureAt id) e p q = absurd cc
no_common x y (ContentsAt id) e p q =
    let same : y.dst ≡ x.dst = sym (is_equal id y.dst q) ∙ is_equal id x.dst p in
    contradict (y.dst == x.dst) (equal_is y.dst x.dst same)
    (no_first (y.dst == x.dst) (reads_structure y x.dst || (reads_structure x y.dst || ranges.meets (scratch_range y) (scratch_range x))) e)

reads_none : (x y : Info) → conflict y x ≡ false → (reads_structure y x.dst ≡ false) × (reads_structure x y.dst ≡ false)
reads_none x y e =
    let scratch = ranges.meets (scratch_range y) (scratch_range x) in
    let rest = no_second (y.dst == x.dst) (reads_structure y x.dst || (reads_structure x y.dst || scratch)) e in (
      no_first (reads_structure y x.dst) (reads_structure x y.dst || scratch) rest,
      no_first (reads_structure x y.dst) scratch (no_second (reads_structure y x.dst) (reads_structure x y.dst || scratch) rest),
    )

-- one writes what the other reads
never_reads : (a : Action) (reader : Info) (dst : ℕ) (l : Location) → InfoTouches a reader → reads_structure reader dst ≡ false → is_contents_of dst l ≡ true → cover (areas_read a) l ≡ true → ⊥
never_reads a reader dst (ByteAt b at) touches e p q = absurd cc
never_reads a reader dst (BufferAt id) touches e p q = absurd cc
never_reads a reader dst (StructureAt id) touches e p q = absurd cc
never_reads a reader dst (ContentsAt id) touches e p q =
    contradict (reads_structure reader dst) (subst (λ n. reads_structure reader n ≡ true) (is_equal id dst p) (touches.reads id q)) e

pub infos_apart : (a b : Action) (x y : Info) (l : Location) → InfoTouches a x → InfoTouches b y → conflict y x ≡ false → Clash a b l → ⊥
infos_apart a b x y l first second e (BothWrite p q) = no_common x y l e (first.writes_it l p) (second.writes_it l q)
infos_apart a b x y l first second e (ReadsLater p q) = never_reads b y x.dst l second (reads_none x y e).0 (first.writes_it l p) q
infos_apart a b x y l first second e (WritesLater p q) = never_reads a x y.dst l first (reads_none x y e).1 (second.writes_it l q) p
