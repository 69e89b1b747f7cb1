-- Form 2 of a bottom structure: what is written is a form that stands for the contents, and carries the stated tree.
use Rattle.std.proofs.Common.{ℕ, suc, ◌≡◌, ◌<◌, ◌≤◌, ◌+◌, ◌*◌, ◌&&◌, ◌||◌, ◌^◌, ◌++◌, not, true, false, List, [], ◌∷◌, length, take, drop, Result, Ok, Err, Option, Some, refl, sym, ap, ◌∙◌, arith, append_assoc, length-append}
use Rattle.std.specs.Prelude.{IfOk, is_some, option_and_then, if◌then◌else◌}
use Rattle.std.specs.List.{flat_map}
use Rattle.std.proofs.lemmas.List.{drop_at}
use Rattle.std.proofs.lemmas.List.Concat.{flat_map-cons}
use Rattle.std.proofs.lemmas.List.Sums.{sum_by-cons, count_by-le-length}
use Rattle.std.proofs.Math.Seq.{take-append_seam}
use Rattle.byteorder.specs.Endian.{little_bytes, little_number}
use Rattle.byteorder.specs.Numbers.{little_number-reads_back}
use Rattle.ray_geom.specs.Boxes.{BoxValue}
use Rattle.ray_bytes.specs.Fields.{word_at, long_at}
use Rattle.ray_bytes.specs.StructureSizes.{structure_size}
use Rattle.ray_geometries.specs.declared.geometry.Geometry.{Geometry}
use Rattle.ray_geometries.specs.Contents.{ContentsValue, IsContents, active_of, count_of, total_of}
use Rattle.ray_geometries.specs.Storing.{geometry_bytes, payload_of}
use Rattle.ray_tree.specs.Trees.{TreeOver}
use Rattle.ray_tree.proofs.Sizes.{nodes-few, places-over}
use Rattle.ray_stated.specs.Order.{stated_order}
use Rattle.ray_stated.specs.Stated.{stated_tree}
use Rattle.ray_stated.specs.Stored.{stored_all}
use Rattle.ray_stated.proofs.Ordered.{stated_once}
use Rattle.ray_stated.proofs.Planned.{over_halved}
use Rattle.ray_stated.proofs.Decided.{carried_said, stated_carried}
use Rattle.ray_tree_part.specs.TreeParts.{tree_bytes, is_part, tree_in, IsReadAgain}
use Rattle.ray_tree_part.proofs.Lengths.{length-tree_bytes}
use Rattle.ray_bottom.specs.Trees.{items_of}
use Rattle.ray_bottom.proofs.Places.{items-few, items-active}
use Rattle.ray_form.specs.Heads.{geometry_size}
use Rattle.ray_form.specs.Rows.{row_size}
use Rattle.ray_form.specs.Form.{device_text, form_2_text, lacks, has_tree, handle_count_in, body_in, payload_size, payload_of_body, payload_in, tree_part_in, is_top_payload, geometry_count, row_of, total_of_payload, has_bad_element, ends_wrongly}
use Rattle.ray_serial.specs.Meaning.{text_of, KeepsLines, IsForm, bottom_in, bottom_in_payload, tree_over, tree_in_form}
use Rattle.ray_serial.specs.Written.{long_bytes, form_2_size, form_2_bytes, bottom_form, bottom_form_2}
use Rattle.ray_serial.proofs.Words.{four_bytes, four_back, after_four, length-four_bytes}
use Rattle.ray_serial.proofs.GeometryBack.{front, elements_are, follows, is_whole-front}
use Rattle.ray_serial.proofs.KeptLines.{unbroken-KeepsLines}
use Rattle.ray_serial.proofs.BottomForms.{payload_says, bottom_said, count_said, total_said, elements_said, size_fits, payload_long, payload_few, header_of, bottom_in-payload_of}

-- ---- the header

long : (n : ℕ) → n < 2 ^ 64 → little_number 8 (little_bytes 8 n ++ []) ≡ n
long n below = little_number-reads_back 8 n [] below

record HasTreeHeader (bytes : List ℕ) (deserialized : ℕ) (payload part : List ℕ) : Type 0 where
  length_is : length bytes ≡ form_2_size payload part
  device : take 16 bytes ≡ device_text
  form : take 16 (drop 16 bytes) ≡ form_2_text
  tree : has_tree bytes ≡ true
  size : long_at bytes 32 ≡ form_2_size payload part
  deserialized_is : long_at bytes 40 ≡ deserialized
  count : handle_count_in bytes ≡ 0
  body : body_in bytes ≡ payload ++ part

device_back : (d : ℕ) (payload part : List ℕ) → take 16 (form_2_bytes d payload part) ≡ device_text
unfolding form_2_bytes
device_back d payload part = refl

form_back : (d : ℕ) (payload part : List ℕ) → take 16 (drop 16 (form_2_bytes d payload part)) ≡ form_2_text
unfolding form_2_bytes
form_back d payload part = refl

tree_back : (d : ℕ) (payload part : List ℕ) → has_tree (form_2_bytes d payload part) ≡ true
unfolding form_2_bytes has_tree lacks
tree_back d payload part = refl

size_back : (d : ℕ) (payload part : List ℕ) → form_2_size payload part < 2 ^ 64 → long_at (form_2_bytes d payload part) 32 ≡ form_2_size payload part
unfolding form_2_bytes long_bytes long_at
size_back d payload part fits = long (form_2_size payload part) fits

deserialized_back : (d : ℕ) (payload part : List ℕ) → d < 2 ^ 64 → long_at (form_2_bytes d payload part) 40 ≡ d
unfolding form_2_bytes long_bytes long_at
deserialized_back d payload part fits = long d fits

count_back : (d : ℕ) (payload part : List ℕ) → handle_count_in (form_2_bytes d payload part) ≡ 0
unfolding form_2_bytes long_bytes long_at handle_count_in
count_back d payload part = long 0 (omega arith)

after_header : (d : ℕ) (payload part : List ℕ) → drop 56 (form_2_bytes d payload part) ≡ payload ++ part
unfolding form_2_bytes long_bytes
after_header d payload part = refl

header_split : (d : ℕ) (payload part : List ℕ) → length (form_2_bytes d payload part) ≡ 56 + length (payload ++ part)
unfolding form_2_bytes long_bytes
header_split d payload part = let h : suc 55 ≡ 56 = refl in omega arith

body_back : (d : ℕ) (payload part : List ℕ) → body_in (form_2_bytes d payload part) ≡ payload ++ part
unfolding body_in
body_back d payload part = ap (λ k. drop (56 + 8 * k) (form_2_bytes d payload part)) (count_back d payload part) ∙ after_header d payload part

header : (d : ℕ) (payload part : List ℕ) → d < 2 ^ 64 → form_2_size payload part < 2 ^ 64 → HasTreeHeader (form_2_bytes d payload part) d payload part
header d payload part p q = record {
  length_is = header_split d payload part ∙ ap (λ n. 56 + n) (length-append payload part);
  device = device_back d payload part;
  form = form_back d payload part;
  tree = tree_back d payload part;
  size = size_back d payload part q;
  deserialized_is = deserialized_back d payload part p;
  count = count_back d payload part;
  body = body_back d payload part;
}

-- ---- where the payload ends

row_sized : (gs : List Geometry) (others : List ℕ) → total_of gs ≤ 2 ^ 20 →
    row_size (length gs) (flat_map geometry_bytes gs ++ others) ≡ length (flat_map geometry_bytes gs)
row_sized [] others few = refl
row_sized (g ∷ gs) others few =
    let rest = flat_map geometry_bytes gs in
    let all = geometry_bytes g ++ (rest ++ others) in
    let sum = sum_by-cons count_of g gs in
    let split : flat_map geometry_bytes (g ∷ gs) ++ others ≡ all =
    ap (λ ys. ys ++ others) (flat_map-cons geometry_bytes g gs) ∙ append_assoc (geometry_bytes g) rest others in
    let f = front g (rest ++ others) (omega arith) in
    let whole = is_whole-front g all (rest ++ others) f in
    let size = elements_are g all (rest ++ others) f in
    let next = follows g all (rest ++ others) f in
    let left = row_sized gs others (omega arith) in
    let first = length-append (geometry_bytes g) (rest ++ others) in
    let whole_length = f.long in
    let both = ap length (flat_map-cons geometry_bytes g gs) ∙ length-append (geometry_bytes g) rest in
    ap (row_size (suc (length gs))) split
    ∙ ((λ i. if whole i then geometry_size all + row_size (length gs) (next i) else 0) ∙ omega arith)

behind_head : (c : ContentsValue) (part : List ℕ) →
    payload_of c ++ part ≡ four_bytes 0 c.flags.0 (length c.geometries) ++ (flat_map geometry_bytes c.geometries ++ part)
behind_head c part = append_assoc (four_bytes 0 c.flags.0 (length c.geometries)) (flat_map geometry_bytes c.geometries) part

counted : (c : ContentsValue) (part : List ℕ) → IsContents c → c.flags.0 < 32 → geometry_count (payload_of c ++ part) ≡ length c.geometries
unfolding geometry_count
counted c part is known =
    let many = is.geometries in
    ap (λ ys. word_at ys 8) (behind_head c part)
    ∙ (four_back 0 c.flags.0 (length c.geometries) (flat_map geometry_bytes c.geometries ++ part) (omega arith) (omega arith) (omega arith)).count_is

rowed : (c : ContentsValue) (part : List ℕ) → row_of (payload_of c ++ part) ≡ flat_map geometry_bytes c.geometries ++ part
unfolding row_of
rowed c part = ap (drop 16) (behind_head c part) ∙ after_four 0 c.flags.0 (length c.geometries) (flat_map geometry_bytes c.geometries ++ part)

pub sized : (c : ContentsValue) (part : List ℕ) → IsContents c → c.flags.0 < 32 → payload_size (payload_of c ++ part) ≡ length (payload_of c)
unfolding payload_size
sized c part is known =
    let gs = c.geometries in
    let count = counted c part is known in
    let row = rowed c part in
    let many = length-append (four_bytes 0 c.flags.0 (length gs)) (flat_map geometry_bytes gs) in
    let head = length-four_bytes 0 c.flags.0 (length gs) in
    (λ i. 16 + row_size (count i) (row i)) ∙ (ap (λ n. 16 + n) (row_sized gs part is.primitives) ∙ omega arith)

payload_back : (bytes payload part : List ℕ) → has_tree bytes ≡ true → body_in bytes ≡ payload ++ part → payload_size (payload ++ part) ≡ length payload →
    payload_in bytes ≡ payload
unfolding payload_in
payload_back bytes payload part tree body size =
    (λ i. payload_of_body (tree i) (body i)) ∙ (ap (λ n. take n (payload ++ part)) size ∙ take-append_seam payload part)

part_back : (bytes payload part : List ℕ) → body_in bytes ≡ payload ++ part → payload_size (payload ++ part) ≡ length payload → tree_part_in bytes ≡ part
unfolding tree_part_in
part_back bytes payload part body size =
    (λ i. drop (payload_size (body i)) (body i)) ∙ (ap (λ n. drop n (payload ++ part)) size ∙ drop_at payload part (length payload) refl)

-- ---- the stated tree

pub few_items : (c : ContentsValue) → IsContents c → length (items_of c.geometries) ≤ 2 ^ 20
few_items c is = let few = items-few c.geometries in let most = is.primitives in omega arith

stated_over : (items : List (Option BoxValue)) → length items ≤ 2 ^ 20 → TreeOver (stated_tree items) items
stated_over items few = over_halved items (stated_order items) (length (stated_order items)) refl few (stated_once items)

pub part_few : (items : List (Option BoxValue)) → length items ≤ 2 ^ 20 → length (tree_bytes (stated_tree items)) ≤ 2 ^ 27
part_few items few =
    let over = stated_over items few in
    let size = length-tree_bytes (stated_tree items) over.shape.boxed in
    let nodes = nodes-few (stated_tree items) over.shape in
    let places = places-over (stated_tree items) items over in
    omega arith

-- ---- the form

header_2 : (c : ContentsValue) → IsContents c →
    HasTreeHeader (bottom_form_2 c) (structure_size (length c.geometries) (total_of c.geometries)) (payload_of c) (tree_bytes (stated_tree (items_of c.geometries)))
unfolding bottom_form_2
header_2 c is =
    let few = payload_few c is in
    let short = part_few (items_of c.geometries) (few_items c is) in
    header (structure_size (length c.geometries) (total_of c.geometries)) (payload_of c) (tree_bytes (stated_tree (items_of c.geometries)))
    (size_fits (length c.geometries) (total_of c.geometries) is.geometries is.primitives) (omega arith)

record SaysTree (c : ContentsValue) (bytes : List ℕ) : Type 0 where
  payload_is : payload_in bytes ≡ payload_of c
  part_is : tree_part_in bytes ≡ tree_bytes (stated_tree (items_of c.geometries))

says_tree : (c : ContentsValue) → IsContents c → c.flags.0 < 32 → SaysTree c (bottom_form_2 c)
says_tree c is known =
    let h = header_2 c is in
    let part = tree_bytes (stated_tree (items_of c.geometries)) in
    let size = sized c part is known in
    record { payload_is = payload_back (bottom_form_2 c) (payload_of c) part h.tree h.body size; part_is = part_back (bottom_form_2 c) (payload_of c) part h.body size }

ends_well : (c : ContentsValue) (bytes : List ℕ) → has_tree bytes ≡ true → is_top_payload (payload_in bytes) ≡ false → is_part (tree_part_in bytes) ≡ true → ends_wrongly bytes ≡ false
unfolding ends_wrongly
ends_well c bytes tree bottom part = λ i. tree i && (bottom i || not (part i))

lines_of_2 : (c : ContentsValue) → IsContents c → c.flags.0 < 32 → IsReadAgain (stated_tree (items_of c.geometries)) → KeepsLines (bottom_form_2 c)
lines_of_2 c is known again =
    let bytes = bottom_form_2 c in
    let h = header_2 c is in
    let t = says_tree c is known in
    let s = payload_says c is known in
    let long = payload_long c is in
    let size = h.length_is in
    let count = h.count in
    record {
      total = total_of c.geometries;
      long = omega arith;
      device = h.device;
      form = h.form ∙ sym (ap text_of h.tree);
      size = h.size ∙ sym h.length_is;
      handles = omega arith;
      room = omega arith;
      ending = ends_well c bytes h.tree (ap is_top_payload t.payload_is ∙ bottom_said c (payload_of c) s) (ap is_part t.part_is ∙ again.part);
      payload = (λ i. total_of_payload (h.count i) (t.payload_is i)) ∙ total_said c (payload_of c) is known s;
      structure = h.deserialized_is
          ∙ ap (λ n. structure_size n (total_of c.geometries)) (sym (ap geometry_count t.payload_is ∙ count_said c (payload_of c) s));
      elements = (λ i. has_bad_element (h.count i) (t.payload_is i)) ∙ elements_said c (payload_of c) is s;
    }

pub IsForm-bottom_form_2 : (c : ContentsValue) → IsContents c → c.flags.0 < 32 → IsReadAgain (stated_tree (items_of c.geometries)) → IsForm (bottom_form_2 c)
IsForm-bottom_form_2 c is known again = record { unbroken = unbroken-KeepsLines (bottom_form_2 c) (lines_of_2 c is known again) }

pub bottom_in-bottom_form_2 : (c : ContentsValue) → IsContents c → c.flags.0 < 32 → bottom_in (bottom_form_2 c) ≡ Some c
bottom_in-bottom_form_2 c is known =
    ap bottom_in_payload (says_tree c is known).payload_is ∙ bottom_in-payload_of c (payload_of c) is (payload_says c is known)

pub tree_in-bottom_form_2 : (c : ContentsValue) → IsContents c → c.flags.0 < 32 → IsReadAgain (stated_tree (items_of c.geometries)) →
    tree_in_form (bottom_form_2 c) ≡ Some (stated_tree (items_of c.geometries))
unfolding tree_in_form tree_over
tree_in-bottom_form_2 c is known again =
    let items = items_of c.geometries in
    let t = stated_tree items in
    let found = bottom_in-bottom_form_2 c is known in
    let part = (says_tree c is known).part_is in
    (λ i. option_and_then (λ (d : ContentsValue). tree_in (items_of d.geometries) (part i)) (found i))
    ∙ (again.same items ∙ (carried_said (stored_all t.nodes t.boxes) t.order items t).1 (stated_carried items (few_items c is)))

pub form_2_fits : (c : ContentsValue) (payload part : List ℕ) → IsContents c → payload ≡ payload_of c → part ≡ tree_bytes (stated_tree (items_of c.geometries)) →
    form_2_size payload part < 2 ^ 64
form_2_fits c payload part is p q =
    let few = payload_few c is in
    let short = part_few (items_of c.geometries) (few_items c is) in
    let a = ap length p in
    let b = ap length q in
    omega arith

pub length-bottom_form_2 : (c : ContentsValue) → IsContents c →
    length (bottom_form_2 c) ≡ length (bottom_form c) + length (tree_bytes (stated_tree (items_of c.geometries)))
length-bottom_form_2 c is = let p = (header_2 c is).length_is in let q = (header_of c is).length_is in omega arith

pub form_2_length_few : (c : ContentsValue) → IsContents c → length (bottom_form_2 c) < 2 ^ 64
form_2_length_few c is =
    let size = (header_2 c is).length_is in
    let few = payload_few c is in
    let short = part_few (items_of c.geometries) (few_items c is) in
    omega arith

-- at most 2^20 primitives are active
pub active_few : (c : ContentsValue) → IsContents c → active_of c.geometries ≤ 2 ^ 20
active_few c is =
    let items = items_of c.geometries in
    let few = few_items c is in
    let same = items-active c.geometries in
    let most = count_by-le-length (λ (b : Option BoxValue). is_some b) items in
    omega arith

-- what follows where a result is Ok, of its value and of what holds then
pub IfOk-with : {T E : Type 0} (P : T → Type 0) (N : Type 0) (Q : T → Type 0) (r : Result T E) → ((x : T) → P x → N → Q x) → IfOk r P → IfOk r (λ x. N) → IfOk r Q
IfOk-with P N Q (Ok x) f p n = f x p n
IfOk-with P N Q (Err e) f p n = tt
