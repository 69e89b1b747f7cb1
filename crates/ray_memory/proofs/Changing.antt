-- The memory of a state once something was made or destroyed, and once bytes or contents were stored.
use Rattle.std.proofs.Common.{ℕ, ◌≡◌, List, [], length, Option, Some, None, is_some, Bool, true, false, refl, ap, sym, subst, ◌∙◌, inl, inr, arith}
use Rattle.std.specs.Prelude.{slice_get, option_map, option_and_then, unwrap_or, ◌==◌, ◌&&◌, ◌-◌, nat_lt, if◌then◌else◌, Result, Ok, Err, OnOk}
use Rattle.std.proofs.lemmas.Bool.Decides.{nat_tests}
use Rattle.std.proofs.lemmas.Bool.{cases_eq, cases_lt, cond-true, cond-false, eq-eqb, ne_eqb}
use Rattle.std.proofs.lemmas.Option.{slice_get_past, get_or_from_slice_get}
use Rattle.ray_cmd.specs.declared.command.Command.{Command}
use Rattle.ray_cmd.specs.declared.command.Command.TheVariants as commands
use Rattle.ray_geometries.specs.Contents as bottoms
use Rattle.ray_bottom.specs.Slots.{Slots, slot_at, contents_at, has_room, Changes}
use Rattle.ray_bottom.specs.Trees as bottom_trees
use Rattle.ray_top.specs.Trees as top_trees
use Rattle.ray_cmd.specs.declared.structure_kind.StructureKind.{StructureKind}
use Rattle.ray_cmd.specs.declared.structure_kind.StructureKind.TheVariants as kinds
use Rattle.ray_rules.specs.declared.byte_range.ByteRange.{ByteRange}
use Rattle.ray_rules.specs.Ids.{Ids, look}
use Rattle.ray_action.specs.declared.form.Form.{Form}
use Rattle.ray_action.specs.Memory.{Bottom, Top, Memory, Location, ByteAt, BufferAt, StructureAt, ContentsAt, nothing_live, as_top}
use Rattle.ray_action.specs.Action.{MakeBuffer, MakeStructure, DestroyBuffer, DestroyStructure}
use Rattle.ray_action.specs.Outcomes.{Gives, Nothing}
use Rattle.ray_action.specs.Areas.{is_in_range, is_contents_of}
use Rattle.ray_action.specs.Pieces.{command_at, host_action}
use Rattle.ray_action.specs.Readiness.{IsMade, IsReady}
use Rattle.ray_action.specs.Storing.{put, fresh, fresh_byte, stored, filled, holding}
use Rattle.ray_memory.specs.declared.structure.Structure.{Structure}
use Rattle.ray_memory.specs.Bytes.{BufferValue, IsFresh, IsNew, is_between, byte_of_word}
use Rattle.ray_memory.specs.State.{StateValue, Becomes, HasRoomFor, HoldsIn, WritesIn, IsRoomy, with_top, memory_of, byte_in, size_in, form_in, contents_in, held_by, top_in, top_by}

-- ---- a state with nothing live

pub memory-empty : (s : StateValue) → s.buffers ≡ [] → s.structures ≡ [] → s.bottoms ≡ [] → (l : Location) → memory_of s l ≡ nothing_live l
memory-empty s no_buffers no_structures no_bottoms (ByteAt buffer at) = ap (λ b. byte_in at (look b buffer)) no_buffers
memory-empty s no_buffers no_structures no_bottoms (BufferAt id) = ap (λ b. size_in (look b id)) no_buffers
memory-empty s no_buffers no_structures no_bottoms (StructureAt id) = ap (λ b. form_in (look b id)) no_structures
memory-empty s no_buffers no_structures no_bottoms (ContentsAt id) = ap (λ b. contents_in (contents_at id s.bottoms) (look b id)) no_structures

-- ---- one id changes

read-if : {X Y : Type 0} (read : X → Y) (b : Bool) (x y : X) → read (if b then x else y) ≡ (if b then read x else read y)
read-if read true x y = refl
read-if read false x y = refl

if-at : {Y : Type 0} (q id : ℕ) (x y z : Y) → (q ≡ id → x ≡ z) → (if q == id then x else y) ≡ (if q == id then z else y)
if-at q id x y z same =
    elim (cases_eq q id) [
      | inl e ↦ cond-true (q == id) x y (eq-eqb q id e) ∙ (same e ∙ sym (cond-true (q == id) z y (eq-eqb q id e)))
      | inr differs ↦ cond-false (q == id) x y (ne_eqb q id differs) ∙ sym (cond-false (q == id) z y (ne_eqb q id differs))
    ]

-- what is read of each id, where one becomes another
pub read-Becomes : {X Y : Type 0} (read : Option X → Y) (id : ℕ) (found : Option X) (before after : Ids X) → Becomes id found before after
    → (q : ℕ) → read (look after q) ≡ (if q == id then read found else read (look before q))
read-Becomes read id found before after b q = ap read (b.each q) ∙ read-if read (q == id) found (look before q)

-- ---- buffers

slice-fresh : (size : ℕ) (content bytes : List ℕ) → IsFresh size content bytes → (at : ℕ)
    → slice_get bytes at ≡ (if nat_lt at size then Some (unwrap_or (slice_get content at) 0) else None)
slice-fresh size content bytes is at =
    elim (cases_lt at size) [
      | inl within ↦ is.each at within ∙ sym (cond-true (nat_lt at size) _ _ (grind (arith, nat_tests)))
      | inr past ↦
          slice_get_past bytes at (let sized : length bytes ≡ size = is.sized in omega arith)
          ∙ sym (cond-false (nat_lt at size) _ _ (grind (arith, nat_tests)))
    ]

new-byte : (size : ℕ) (content : Option (List ℕ)) (new : BufferValue) → IsNew size content new → (at : ℕ) → slice_get new.bytes at ≡ fresh_byte size content at
new-byte size None new is at = ap (λ bytes. slice_get bytes at) is.1
new-byte size (Some content) new is at = slice-fresh size content new.bytes is.1 at

new-size : (size : ℕ) (content : Option (List ℕ)) (new : BufferValue) → IsNew size content new → new.size ≡ size
new-size size None new is = is.0
new-size size (Some content) new is = is.0

pub memory-made_buffer : (s n : StateValue) (id size : ℕ) (content : Option (List ℕ)) (new : BufferValue) → Becomes id (Some new) s.buffers n.buffers → IsNew size content new
    → n.structures ≡ s.structures → n.bottoms ≡ s.bottoms → (l : Location) → memory_of n l ≡ put (MakeBuffer id size content) (Gives Nothing) (memory_of s) l
memory-made_buffer s n id size content new b is same rest (ByteAt buffer at) =
    read-Becomes (byte_in at) id (Some new) s.buffers n.buffers b buffer
    ∙ if-at buffer id (slice_get new.bytes at) (byte_in at (look s.buffers buffer)) (fresh size content (ByteAt buffer at) (byte_in at (look s.buffers buffer)))
    (λ e. new-byte size content new is at)
memory-made_buffer s n id size content new b is same rest (BufferAt buffer) =
    read-Becomes size_in id (Some new) s.buffers n.buffers b buffer
    ∙ if-at buffer id (Some new.size) (size_in (look s.buffers buffer)) (Some size) (λ e. ap Some (new-size size content new is))
memory-made_buffer s n id size content new b is same rest (StructureAt q) = ap (λ x. form_in (look x q)) same
memory-made_buffer s n id size content new b is same rest (ContentsAt q) =
    λ i. contents_in (contents_at q (rest i)) (look (same i) q)

pub memory-dropped_buffer : (s n : StateValue) (id : ℕ) → Becomes id None s.buffers n.buffers
    → n.structures ≡ s.structures → n.bottoms ≡ s.bottoms → (l : Location) → memory_of n l ≡ put (DestroyBuffer id) (Gives Nothing) (memory_of s) l
memory-dropped_buffer s n id b same rest (ByteAt buffer at) = read-Becomes (byte_in at) id None s.buffers n.buffers b buffer
memory-dropped_buffer s n id b same rest (BufferAt buffer) = read-Becomes size_in id None s.buffers n.buffers b buffer
memory-dropped_buffer s n id b same rest (StructureAt q) = ap (λ x. form_in (look x q)) same
memory-dropped_buffer s n id b same rest (ContentsAt q) = λ i. contents_in (contents_at q (rest i)) (look (same i) q)

same-either : {X : Type 0} (b : Bool) → ◌≡◌ {A = Option X} (if b then None else None) None
same-either true = refl
same-either false = refl

if-true-and : {X : Type 0} (a b : Bool) (x y : X) → a ≡ true → (if a && b then x else y) ≡ (if b then x else y)
if-true-and true b x y e = refl
if-true-and false b x y e = absurd cc

if-false-and : {X : Type 0} (a b : Bool) (x y : X) → a ≡ false → (if a && b then x else y) ≡ y
if-false-and true b x y e = absurd cc
if-false-and false b x y e = refl

-- ---- structures

-- the contents that stand in a slot
abbrev stands : Option (Option bottom_trees.BottomWithTree) → Option bottoms.ContentsValue
stands x = option_map bottom_trees.without_tree (option_and_then (λ slot. slot) x)

contents-both : (b : Bool) (x y : Option (Option bottom_trees.BottomWithTree)) (t u : Option Structure)
    → x ≡ (if b then None else y) → t ≡ (if b then None else u)
    → contents_in (stands x) t ≡ (if b then None else contents_in (stands y) u)
contents-both true x y t u e f = λ i. contents_in (stands (e i)) (f i)
contents-both false x y t u e f = λ i. contents_in (stands (e i)) (f i)

pub memory-dropped_structure : (s n : StateValue) (id : ℕ) → Becomes id None s.structures n.structures → Changes id None s.bottoms n.bottoms
    → n.buffers ≡ s.buffers → (l : Location) → memory_of n l ≡ put (DestroyStructure id) (Gives Nothing) (memory_of s) l
memory-dropped_structure s n id b c same (ByteAt buffer at) = ap (λ x. byte_in at (look x buffer)) same
memory-dropped_structure s n id b c same (BufferAt buffer) = ap (λ x. size_in (look x buffer)) same
memory-dropped_structure s n id b c same (StructureAt q) = read-Becomes form_in id None s.structures n.structures b q
memory-dropped_structure s n id b c same (ContentsAt q) =
    contents-both (q == id) (slot_at q n.bottoms) (slot_at q s.bottoms) (look n.structures q) (look s.structures q) (c.each q) (b.each q)

-- no contents stand where no structure is live
no-contents : (structures : Ids Structure) (slots : Slots) (id : ℕ) (found : Option bottoms.ContentsValue) → IsRoomy structures slots → look structures id ≡ None
    → contents_at id slots ≡ found → found ≡ None
no-contents structures slots id None roomy none e = refl
no-contents structures slots id (Some c) roomy none e = let s = roomy.no_stray id c e in absurd cc

unmade : (found : Option Structure) → form_in found ≡ None → found ≡ None
unmade None e = refl
unmade (Some s) e = absurd cc

held-none : (kind : StructureKind) (bottom : Option bottoms.ContentsValue) → bottom ≡ None → held_by kind bottom None ≡ None
held-none kinds.Bottom bottom e = ap (option_map Bottom) e
held-none kinds.Top bottom e = refl

pub memory-made_structure : (s n : StateValue) (id : ℕ) (form : Form) → IsRoomy s.structures s.bottoms → memory_of s (StructureAt id) ≡ None
    → Becomes id (Some (record { form = form; top = None })) s.structures n.structures → ((q : ℕ) → contents_at q n.bottoms ≡ contents_at q s.bottoms)
    → n.buffers ≡ s.buffers → (l : Location) → memory_of n l ≡ put (MakeStructure id form) (Gives Nothing) (memory_of s) l
memory-made_structure s n id form roomy none b same rest (ByteAt buffer at) = ap (λ x. byte_in at (look x buffer)) rest
memory-made_structure s n id form roomy none b same rest (BufferAt buffer) = ap (λ x. size_in (look x buffer)) rest
memory-made_structure s n id form roomy none b same rest (StructureAt q) =
    read-Becomes form_in id (Some (record { form = form; top = None })) s.structures n.structures b q
memory-made_structure s n id form roomy none b same rest (ContentsAt q) =
    let new : Structure = record { form = form; top = None } in
    let old = contents_in (contents_at q s.bottoms) (look s.structures q) in
    ap (λ c. contents_in c (look n.structures q)) (same q)
    ∙ (read-Becomes (contents_in (contents_at q s.bottoms)) id (Some new) s.structures n.structures b q
    ∙ if-at q id (contents_in (contents_at q s.bottoms) (Some new)) old None
    (λ e. held-none form.kind (contents_at q s.bottoms)
    (no-contents s.structures s.bottoms q (contents_at q s.bottoms) roomy
    (ap (look s.structures) e ∙ unmade (look s.structures id) none) refl)))

-- room stays where a structure is made, dropped or changed
some-id : {X : Type 0} (x y : X) → Some x ≡ Some y → x ≡ y
some-id x y e = cc

pub roomy-made : (structures after : Ids Structure) (slots more : Slots) (id : ℕ) (form : Form) → IsRoomy structures slots → look structures id ≡ None
    → Becomes id (Some (record { form = form; top = None })) structures after → HasRoomFor id form.kind slots more → IsRoomy after more
roomy-made structures after slots more id form roomy none b room = record {
  room = λ q s found bottom. elim (cases_eq q id) [
    | inl e ↦
        let is : look after q ≡ Some (record { form = form; top = None }) = b.each q ∙ cond-true (q == id) _ _ (eq-eqb q id e) in
        let same : record { form = form; top = None } ≡ s = some-id _ s (sym is ∙ found) in
        subst (λ j. has_room j more ≡ true) (sym e) (room.room (ap (λ (t : Structure). t.form.kind) same ∙ bottom))
    | inr differs ↦
        room.kept q (roomy.room q s (sym (b.each q ∙ cond-false (q == id) _ _ (ne_eqb q id differs)) ∙ found) bottom)
  ];
  no_stray = λ q c there.
      let old = roomy.no_stray q c (sym (room.same q) ∙ there) in
      elim (cases_eq q id) [
        | inl e ↦ let gone : look structures q ≡ None = ap (look structures) e ∙ none in absurd cc
        | inr differs ↦ (old.0, b.each q ∙ (cond-false (q == id) _ _ (ne_eqb q id differs) ∙ old.1), old.2)
      ];
}

pub roomy-same : (structures : Ids Structure) (slots more : Slots) (id : ℕ) (kind : StructureKind) → IsRoomy structures slots → HasRoomFor id kind slots more → IsRoomy structures more
roomy-same structures slots more id kind roomy room = record {
  room = λ q s found bottom. room.kept q (roomy.room q s found bottom);
  no_stray = λ q c there. roomy.no_stray q c (sym (room.same q) ∙ there);
}

-- and where a live bottom structure comes to hold contents
made-live : (found : Option Structure) (form : Form) → form_in found ≡ Some form → (s : Structure) × (found ≡ Some s) × (s.form ≡ form)
made-live None form e = absurd cc
made-live (Some s) form e = (s, refl, some-id s.form form e)

filled-room : (b : Bool) (bottom : bottom_trees.BottomWithTree) (x y : Option (Option bottom_trees.BottomWithTree))
    → x ≡ (if b then Some (Some bottom) else y) → is_some y ≡ true → is_some x ≡ true
filled-room true bottom x y e h = ap is_some e
filled-room false bottom x y e h = ap is_some e ∙ h

pub roomy-filled : (structures : Ids Structure) (slots more : Slots) (id : ℕ) (bottom : bottom_trees.BottomWithTree) → IsRoomy structures slots
    → IsMade kinds.Bottom (form_in (look structures id)) → Changes id (Some (Some bottom)) slots more → IsRoomy structures more
roomy-filled structures slots more id bottom roomy made c = record {
  room = λ q s found kind. filled-room (q == id) bottom (slot_at q more) (slot_at q slots) (c.each q) (roomy.room q s found kind);
  no_stray = λ q contents there.
      let live = made-live (look structures id) made.form made.is_it in
      elim (cases_eq q id) [
        | inl e ↦ (live.0, ap (look structures) e ∙ live.1, ap (λ (f : Form). f.kind) live.2 ∙ made.same_kind)
        | inr differs ↦
            let same = c.each q ∙ cond-false (q == id) (Some (Some bottom)) (slot_at q slots) (ne_eqb q id differs) in
            roomy.no_stray q contents (sym (ap stands same) ∙ there)
      ];
}

-- and where a structure comes to hold a top structure, since its form stays
abbrev kind_in : Option Structure → StructureKind
kind_in None = kinds.Top
kind_in (Some s) = s.form.kind

module _ (structures after : Ids Structure) (slots : Slots) (id : ℕ) (top : top_trees.TopWithTree) (roomy : IsRoomy structures slots) (h : HoldsIn id top structures after) where
  room-held : (q : ℕ) (s : Structure) (b : Bool) (found : Option Structure) → look structures q ≡ found → (if b then option_map (with_top top) found else found) ≡ Some s
      → s.form.kind ≡ kinds.Bottom → has_room q slots ≡ true
  room-held q s true None at is bottom = absurd cc
  room-held q s true (Some t) at is bottom = roomy.room q t at (ap kind_in is ∙ bottom)
  room-held q s false None at is bottom = absurd cc
  room-held q s false (Some t) at is bottom = roomy.room q t at (ap kind_in is ∙ bottom)

  found-held : (q : ℕ) (s : Structure) (b : Bool) → look after q ≡ (if b then option_map (with_top top) (look structures q) else look structures q)
      → look structures q ≡ Some s → s.form.kind ≡ kinds.Bottom → (t : Structure) × (look after q ≡ Some t) × (t.form.kind ≡ kinds.Bottom)
  found-held q s true is at bottom = (with_top top s, is ∙ ap (option_map (with_top top)) at, bottom)
  found-held q s false is at bottom = (s, is ∙ at, bottom)

  pub roomy-held : IsRoomy after slots
  roomy-held = record {
    room = λ q s found bottom. room-held q s (q == id) (look structures q) refl (sym (h.each q) ∙ found) bottom;
    no_stray = λ q c there. let old = roomy.no_stray q c there in found-held q old.0 (q == id) (h.each q) old.1 old.2;
  }

-- ---- lending

by_kind : (bottom : Option bottoms.ContentsValue) (kind : StructureKind) (top : Option top_trees.TopWithTree)
    → option_and_then as_top (held_by kind bottom top) ≡ option_map top_trees.without_tree (top_by kind top)
by_kind None kinds.Bottom top = refl
by_kind (Some b) kinds.Bottom top = refl
by_kind bottom kinds.Top None = refl
by_kind bottom kinds.Top (Some t) = refl

pub top-in : (bottom : Option bottoms.ContentsValue) (s : Structure) → option_and_then as_top (contents_in bottom (Some s)) ≡ option_map top_trees.without_tree (top_in s)
top-in bottom s = by_kind bottom s.form.kind s.top

-- ---- storing

byte-over : (to : ByteRange) (byte_for : ℕ → Option ℕ) (before after : Ids BufferValue) (found : Option BufferValue) → WritesIn to byte_for before after
    → look before to.buffer ≡ found → (at : ℕ)
    → byte_in at (look after to.buffer)
    ≡ (if is_between to at then option_map (λ byte. unwrap_or (byte_for (at - to.from)) byte) (byte_in at (look before to.buffer)) else byte_in at (look before to.buffer))
byte-over to byte_for before after None w e at =
    ap (byte_in at) (w.gone e)
    ∙ sym ((λ i. if is_between to at then option_map (λ byte. unwrap_or (byte_for (at - to.from)) byte) (byte_in at (e i)) else byte_in at (e i))
    ∙ same-either (is_between to at))
byte-over to byte_for before after (Some old) w e at =
    let new = w.here old e in
    ap (byte_in at) new.1
    ∙ (new.2.bytes.each at
    ∙ sym (λ i. if is_between to at then option_map (λ byte. unwrap_or (byte_for (at - to.from)) byte) (byte_in at (e i)) else byte_in at (e i)))

byte-written : (to : ByteRange) (byte_for : ℕ → Option ℕ) (before after : Ids BufferValue) → WritesIn to byte_for before after → (buffer at : ℕ)
    → byte_in at (look after buffer)
    ≡ (if (buffer == to.buffer) && is_between to at then option_map (λ byte. unwrap_or (byte_for (at - to.from)) byte) (byte_in at (look before buffer)) else byte_in at (look before buffer))
byte-written to byte_for before after w buffer at =
    elim (cases_eq buffer to.buffer) [
      | inl e ↦
          subst (λ b. byte_in at (look after b)
          ≡ (if (b == to.buffer) && is_between to at then option_map (λ byte. unwrap_or (byte_for (at - to.from)) byte) (byte_in at (look before b)) else byte_in at (look before b)))
          (sym e)
          (byte-over to byte_for before after (look before to.buffer) w refl at ∙ sym (if-true-and (to.buffer == to.buffer) (is_between to at) _ _ (eq-eqb to.buffer to.buffer refl)))
      | inr differs ↦
          ap (byte_in at) (w.others buffer differs) ∙ sym (if-false-and (buffer == to.buffer) (is_between to at) _ _ (ne_eqb buffer to.buffer differs))
    ]

size-written : (to : ByteRange) (byte_for : ℕ → Option ℕ) (before after : Ids BufferValue) (found : Option BufferValue) → WritesIn to byte_for before after
    → look before to.buffer ≡ found → size_in (look after to.buffer) ≡ size_in (look before to.buffer)
size-written to byte_for before after None w e = ap size_in (w.gone e ∙ sym e)
size-written to byte_for before after (Some old) w e =
    let new = w.here old e in
    ap size_in new.1 ∙ (ap Some new.2.size ∙ sym (ap size_in e))

sizes-written : (to : ByteRange) (byte_for : ℕ → Option ℕ) (before after : Ids BufferValue) → WritesIn to byte_for before after → (q : ℕ)
    → size_in (look after q) ≡ size_in (look before q)
sizes-written to byte_for before after w q =
    elim (cases_eq q to.buffer) [
      | inl e ↦ subst (λ b. size_in (look after b) ≡ size_in (look before b)) (sym e) (size-written to byte_for before after (look before to.buffer) w refl)
      | inr differs ↦ ap size_in (w.others q differs)
    ]

pub memory-overwritten : (s n : StateValue) (to : ByteRange) (bytes : List ℕ) → WritesIn to (slice_get bytes) s.buffers n.buffers
    → n.structures ≡ s.structures → n.bottoms ≡ s.bottoms → (l : Location)
    → memory_of n l ≡ (if is_in_range to l then stored to.from bytes l (memory_of s l) else memory_of s l)
memory-overwritten s n to bytes w same rest (ByteAt buffer at) = byte-written to (slice_get bytes) s.buffers n.buffers w buffer at
memory-overwritten s n to bytes w same rest (BufferAt id) = sizes-written to (slice_get bytes) s.buffers n.buffers w id
memory-overwritten s n to bytes w same rest (StructureAt q) = ap (λ x. form_in (look x q)) same
memory-overwritten s n to bytes w same rest (ContentsAt q) = λ i. contents_in (contents_at q (rest i)) (look (same i) q)

pub memory-refilled : (s n : StateValue) (to : ByteRange) (value : ℕ) → WritesIn to (byte_of_word value) s.buffers n.buffers
    → n.structures ≡ s.structures → n.bottoms ≡ s.bottoms → (l : Location)
    → memory_of n l ≡ (if is_in_range to l then filled to.from value l (memory_of s l) else memory_of s l)
memory-refilled s n to value w same rest (ByteAt buffer at) = byte-written to (byte_of_word value) s.buffers n.buffers w buffer at
memory-refilled s n to value w same rest (BufferAt id) = sizes-written to (byte_of_word value) s.buffers n.buffers w id
memory-refilled s n to value w same rest (StructureAt q) = ap (λ x. form_in (look x q)) same
memory-refilled s n to value w same rest (ContentsAt q) = λ i. contents_in (contents_at q (rest i)) (look (same i) q)

-- a structure that holds a top structure is what it was
form-with_top : (b : Bool) (top : top_trees.TopWithTree) (found : Option Structure) → form_in (if b then option_map (with_top top) found else found) ≡ form_in found
form-with_top true top None = refl
form-with_top true top (Some s) = refl
form-with_top false top found = refl

held-top : (kind : StructureKind) (bottom : Option bottoms.ContentsValue) (top : top_trees.TopWithTree) → kind ≡ kinds.Top
    → held_by kind bottom (Some top) ≡ Some (Top (top_trees.without_tree top))
held-top kinds.Bottom bottom top e = absurd cc
held-top kinds.Top bottom top e = refl

held-bottom : (kind : StructureKind) (bottom : bottoms.ContentsValue) (top : Option top_trees.TopWithTree) → kind ≡ kinds.Bottom → held_by kind (Some bottom) top ≡ Some (Bottom bottom)
held-bottom kinds.Bottom bottom top e = refl
held-bottom kinds.Top bottom top e = absurd cc

holds-top : (bottom : Option bottoms.ContentsValue) (top : top_trees.TopWithTree) (found : Option Structure) → IsMade kinds.Top (form_in found)
    → contents_in bottom (option_map (with_top top) found) ≡ Some (Top (top_trees.without_tree top))
holds-top bottom top None made = let is = made.is_it in absurd cc
holds-top bottom top (Some s) made =
    held-top s.form.kind bottom top (ap (λ (f : Form). f.kind) (some-id s.form made.form made.is_it) ∙ made.same_kind)

holds-bottom : (bottom : bottoms.ContentsValue) (found : Option Structure) → IsMade kinds.Bottom (form_in found)
    → contents_in (Some bottom) found ≡ Some (Bottom bottom)
holds-bottom bottom None made = let is = made.is_it in absurd cc
holds-bottom bottom (Some s) made =
    held-bottom s.form.kind bottom s.top (ap (λ (f : Form). f.kind) (some-id s.form made.form made.is_it) ∙ made.same_kind)

pub memory-holds_top : (s n : StateValue) (id : ℕ) (top : top_trees.TopWithTree) → IsMade kinds.Top (memory_of s (StructureAt id)) → HoldsIn id top s.structures n.structures
    → n.buffers ≡ s.buffers → n.bottoms ≡ s.bottoms → (l : Location)
    → memory_of n l ≡ (if is_contents_of id l then holding (Top (top_trees.without_tree top)) l (memory_of s l) else memory_of s l)
memory-holds_top s n id top made h same rest (ByteAt buffer at) = ap (λ x. byte_in at (look x buffer)) same
memory-holds_top s n id top made h same rest (BufferAt q) = ap (λ x. size_in (look x q)) same
memory-holds_top s n id top made h same rest (StructureAt q) = ap form_in (h.each q) ∙ form-with_top (q == id) top (look s.structures q)
memory-holds_top s n id top made h same rest (ContentsAt q) =
    let bottom = contents_at q s.bottoms in
    (λ i. contents_in (contents_at q (rest i)) (h.each q i))
    ∙ (read-if (contents_in bottom) (q == id) (option_map (with_top top) (look s.structures q)) (look s.structures q)
    ∙ if-at q id (contents_in bottom (option_map (with_top top) (look s.structures q))) (contents_in bottom (look s.structures q)) (Some (Top (top_trees.without_tree top)))
    (λ e. holds-top bottom top (look s.structures q) (subst (λ j. IsMade kinds.Top (form_in (look s.structures j))) (sym e) made)))

pub memory-holds_bottom : (s n : StateValue) (id : ℕ) (bottom : bottom_trees.BottomWithTree) → IsMade kinds.Bottom (memory_of s (StructureAt id))
    → Changes id (Some (Some bottom)) s.bottoms n.bottoms → n.buffers ≡ s.buffers → n.structures ≡ s.structures → (l : Location)
    → memory_of n l ≡ (if is_contents_of id l then holding (Bottom (bottom_trees.without_tree bottom)) l (memory_of s l) else memory_of s l)
memory-holds_bottom s n id bottom made h same rest (ByteAt buffer at) = ap (λ x. byte_in at (look x buffer)) same
memory-holds_bottom s n id bottom made h same rest (BufferAt q) = ap (λ x. size_in (look x q)) same
memory-holds_bottom s n id bottom made h same rest (StructureAt q) = ap (λ x. form_in (look x q)) rest
memory-holds_bottom s n id bottom made h same rest (ContentsAt q) =
    let contents = bottom_trees.without_tree bottom in
    (λ i. contents_in (stands (h.each q i)) (look (rest i) q))
    ∙ (read-if (λ (x : Option (Option bottom_trees.BottomWithTree)). contents_in (stands x) (look s.structures q)) (q == id) (Some (Some bottom)) (slot_at q s.bottoms)
    ∙ if-at q id (contents_in (Some contents) (look s.structures q)) (contents_in (contents_at q s.bottoms) (look s.structures q)) (Some (Bottom contents))
    (λ e. holds-bottom contents (look s.structures q) (subst (λ j. IsMade kinds.Bottom (form_in (look s.structures j))) (sym e) made)))

-- the command of a number that is there
pub command_is : (rec : List Command) (i : ℕ) (c : Command) → slice_get rec i ≡ Some c → command_at rec i ≡ c
command_is rec i c e = get_or_from_slice_get rec i c commands.Begin e

-- a structure is made where none is live
pub made-where_none : (command : Command) (id : ℕ) (kind : StructureKind) (buffer offset size : ℕ) (m : Memory)
    → command ≡ commands.Structure id kind buffer offset size → IsReady (host_action command) m → m (StructureAt id) ≡ None
unfolding host_action
made-where_none command id kind buffer offset size m is ready = subst (λ c. IsReady (host_action c) m) is ready

-- what follows of an Ok
pub on-ok : {X E : Type 0} (r : Result X E) (P Q : Type 0) → (P → Q) → OnOk r P → OnOk r Q
on-ok (Ok x) P Q f p = f p
on-ok (Err e) P Q f p = tt
