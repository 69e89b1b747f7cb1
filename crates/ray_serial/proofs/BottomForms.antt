-- The form of a bottom structure: what is written is a form that stands for the contents, and a form is what its contents are
-- written as.
use Rattle.std.proofs.Common.{ℕ, suc, ◌≡◌, ◌<◌, ◌≤◌, ◌+◌, ◌*◌, ◌==◌, ◌&&◌, ◌^◌, ◌++◌, ◌||◌, not, Bool, true, false, List, [], ◌∷◌, length, map, Result, Ok, Err, Option, Some, None, option_map, refl, sym, ap, subst, ◌∙◌, arith, length-append}
use Rattle.std.specs.Prelude.{All, IfOk, IsSome, slice_get, is_none, nat_le, nat_lt, if◌then◌else◌}
use Rattle.std.specs.List.{flat_map, range_with_len}
use Rattle.std.proofs.lemmas.Bool.Decides.{nat_tests}
use Rattle.std.proofs.lemmas.List.Concat.{flat_map-cons}
use Rattle.std.proofs.lemmas.List.Elements.{All-nil, All-tail}
use Rattle.std.proofs.lemmas.List.Sums.{sum_by-cons}
use Rattle.ray_bytes.specs.Fields.{word_at}
use Rattle.ray_bytes.specs.StructureSizes.{structure_size}
use Rattle.ray_flags.specs.declared.build_flags.BuildFlags.{BuildFlags}
use Rattle.ray_flags.specs.declared.kind.Kind.{Kind}
use Rattle.ray_flags.specs.declared.kind.Kind.TheVariants.{Triangle, Aabb}
use Rattle.ray_geometries.specs.declared.geometry.Geometry.{Geometry}
use Rattle.ray_geometries.specs.Contents.{ContentsValue, IsContents, has_both_fast, kind_of, count_of, total_of}
use Rattle.ray_geometries.specs.Storing.{bytes_of_words, kind_number, geometry_bytes, payload_of}
use Rattle.ray_form.specs.Heads.{element_size}
use Rattle.ray_form.specs.Rows.{are_geometries, total_in, row_total, geometries_in}
use Rattle.ray_form.specs.InstanceBytes.{are_instances}
use Rattle.ray_form.specs.Form.{has_tree, handle_count_in, payload_in, instances_of_payload, is_top_payload, flags_of_payload, geometry_count, row_of, at_most, or_else, bottom_total, has_flags, top_total, lacks_room, total_of_payload, has_bad_element, broken_line}
use Rattle.ray_serial.specs.Meaning.{text_of, KeepsLines, IsForm, is_top_form, deserialized_in, handle_at, with_flags, bottom_in_payload, bottom_in, HasRoom, CanRestore}
use Rattle.ray_serial.specs.Written.{form_size, form_bytes, bottom_form}
use Rattle.ray_serial.proofs.Words.{AreBytes, AreBytes-drop, HasFour, four_bytes, four_back, four_again, length-four_bytes, after_four, three, not_true}
use Rattle.ray_serial.proofs.GeometryBack.{length-geometry_bytes, IsRow, row_back}
use Rattle.ray_serial.proofs.GeometryAgain.{row_again}
use Rattle.ray_serial.proofs.KeptLines.{KeepsLines-unbroken, unbroken-KeepsLines}
use Rattle.ray_serial.proofs.Headers.{HasHeader, header_back, form_again, fits_payload, payload_room}
use Rattle.ray_serial.proofs.Endings.{plain_ends}
use Rattle.ray_primitives.proofs.Chosen.{if_some}
use Rattle.ray_geometries.proofs.Restoring.{mapped}

-- ---- tests

number_is : (a b : ℕ) → (a == b) ≡ true → a ≡ b
number_is a b e = grind (arith, nat_tests)

same_test : (a b : ℕ) → a ≡ b → (a == b) ≡ true
same_test a b e = grind (arith, nat_tests)

is_below : (a b : ℕ) → nat_lt a b ≡ true → a < b
is_below a b e = grind (arith, nat_tests)

lt_test : (a b : ℕ) → a < b → nat_lt a b ≡ true
lt_test a b h = grind (arith, nat_tests)

is_at_most : (a b : ℕ) → nat_le a b ≡ true → a ≤ b
is_at_most a b e = grind (arith, nat_tests)

le_test : (a b : ℕ) → a ≤ b → nat_le a b ≡ true
le_test a b h = grind (arith, nat_tests)

-- ---- one kind

-- geometries that are all of the kind of the first
record OneKind (gs : List Geometry) : Type 0 where
  kind : Kind
  all : All (λ g. kind_of g ≡ kind) gs

one_kind : (gs : List Geometry) → All (λ g. All (λ h. kind_of g ≡ kind_of h) gs) gs → OneKind gs
one_kind [] same = record { kind = Triangle; all = All-nil (λ g. kind_of g ≡ Triangle) }
one_kind (g ∷ gs) same = record { kind = kind_of g; all = λ k d below. sym (same 0 g (omega arith) k d below) }

numbered : (kind : Kind) (gs : List Geometry) → All (λ g. kind_of g ≡ kind) gs → All (λ g. kind_number (kind_of g) ≡ kind_number kind) gs
numbered kind gs all = λ k d below. ap kind_number (all k d below)

-- ---- sizes

size_from : (kind : Kind) (gs : List Geometry) → All (λ g. kind_of g ≡ kind) gs →
    length (flat_map geometry_bytes gs) ≡ 32 * length gs + element_size (kind_number kind) * total_of gs
size_from kind [] all = omega arith
size_from kind (g ∷ gs) all =
    let others = size_from kind gs (All-tail (λ h. kind_of h ≡ kind) g gs all) in
    let here : length (geometry_bytes g) ≡ 32 + element_size (kind_number kind) * count_of g =
    length-geometry_bytes g ∙ ap (λ k. 32 + element_size (kind_number k) * count_of g) (all 0 g (omega arith)) in
    let sum : total_of (g ∷ gs) ≡ count_of g + total_of gs = sum_by-cons count_of g gs in
    ap length (flat_map-cons geometry_bytes g gs)
    ∙ (length-append (geometry_bytes g) (flat_map geometry_bytes gs)
    ∙ sums (length (geometry_bytes g)) (length (flat_map geometry_bytes gs)) (element_size (kind_number kind)) (length gs) (count_of g) (total_of gs) (total_of (g ∷ gs)) here others sum)
  where
    sums : (a b e n c t s : ℕ) → a ≡ 32 + e * c → b ≡ 32 * n + e * t → s ≡ c + t → a + b ≡ 32 * suc n + e * s
    sums a b e n c t s p q r = let x : e * s ≡ e * (c + t) = ap (λ (m : ℕ). e * m) r in omega arith

pub length-payload_of : (kind : Kind) (c : ContentsValue) → All (λ g. kind_of g ≡ kind) c.geometries →
    length (payload_of c) ≡ 16 + (32 * length c.geometries + element_size (kind_number kind) * total_of c.geometries)
length-payload_of kind c all =
    length-append (four_bytes 0 c.flags.0 (length c.geometries)) (flat_map geometry_bytes c.geometries)
    ∙ (λ i. length-four_bytes 0 c.flags.0 (length c.geometries) i + size_from kind c.geometries all i)

element_few : (kind : Kind) (total : ℕ) → total ≤ 2 ^ 20 → element_size (kind_number kind) * total ≤ 48 * 2 ^ 20
element_few Triangle total h = omega arith
element_few Aabb total h = omega arith

pub payload_few : (c : ContentsValue) → IsContents c → length (payload_of c) ≤ 16 + (32 * 256 + 48 * 2 ^ 20)
payload_few c is =
    let k = one_kind c.geometries is.one_kind in
    let size = length-payload_of k.kind c k.all in
    let few = element_few k.kind (total_of c.geometries) is.primitives in
    let many = is.geometries in
    omega arith

-- ---- what is written is a form

or_first : (n : ℕ) (row : List ℕ) (total : ℕ) (a b : Bool) → total_in n row ≡ total → (kind : Kind) →
    (elim kind as (λ _. Bool) [ Triangle ↦ a | Aabb ↦ b ]) ≡ true →
    or_else (if a then Some (total_in n row) else None) (if b then Some (total_in n row) else None) ≡ Some total
or_first n row total true b e kind is = ap Some e
or_first n row total false true e kind is = ap Some e
or_first n row total false false e Triangle is = absurd cc
or_first n row total false false e Aabb is = absurd cc

row_either : (kind : Kind) (n : ℕ) (row : List ℕ) (total : ℕ) → are_geometries (kind_number kind) n row ≡ true → total_in n row ≡ total →
    or_else (row_total 0 n row) (row_total 1 n row) ≡ Some total
row_either Triangle n row total is e = or_first n row total (are_geometries 0 n row) (are_geometries 1 n row) e Triangle is
row_either Aabb n row total is e = or_first n row total (are_geometries 0 n row) (are_geometries 1 n row) e Aabb is

within : (greatest n : ℕ) → n ≤ greatest → at_most greatest (Some n) ≡ Some n
within greatest n h = ap (λ b. if b then Some n else None) (le_test n greatest h)

-- what the payload of a structure says
pub record SaysBottom (c : ContentsValue) (payload : List ℕ) : Type 0 where
  pub head : HasFour payload 0 c.flags.0 (length c.geometries)
  pub row : row_of payload ≡ flat_map geometry_bytes c.geometries

pub payload_says : (c : ContentsValue) → IsContents c → c.flags.0 < 32 → SaysBottom c (payload_of c)
unfolding row_of
payload_says c is known =
    let many = is.geometries in
    record {
      head = four_back 0 c.flags.0 (length c.geometries) (flat_map geometry_bytes c.geometries) (omega arith) (omega arith) (omega arith);
      row = after_four 0 c.flags.0 (length c.geometries) (flat_map geometry_bytes c.geometries);
    }

pub count_said : (c : ContentsValue) (payload : List ℕ) → SaysBottom c payload → geometry_count payload ≡ length c.geometries
unfolding geometry_count
count_said c payload s = s.head.count_is

flags_said : (c : ContentsValue) (payload : List ℕ) → SaysBottom c payload → flags_of_payload payload ≡ c.flags
unfolding flags_of_payload
flags_said c payload s = let P : ℕ → BuildFlags = λ n. record { 0 = n } in ap P s.head.flags_is

pub bottom_said : (c : ContentsValue) (payload : List ℕ) → SaysBottom c payload → is_top_payload payload ≡ false
unfolding is_top_payload
bottom_said c payload s = ap (λ n. n == 1) s.head.kind_is

row_said : (kind : Kind) (c : ContentsValue) (payload : List ℕ) → IsContents c → All (λ g. kind_of g ≡ kind) c.geometries → SaysBottom c payload →
    IsRow (kind_number kind) c.geometries (row_of payload)
row_said kind c payload is all s =
    let P : List ℕ → Type 0 = λ row. IsRow (kind_number kind) c.geometries row in
    subst P (sym s.row) (row_back (kind_number kind) c.geometries (numbered kind c.geometries all) is.each is.primitives)

bottom_total_said : (c : ContentsValue) (payload : List ℕ) → IsContents c → SaysBottom c payload → bottom_total payload ≡ Some (total_of c.geometries)
unfolding bottom_total
bottom_total_said c payload is s =
    let k = one_kind c.geometries is.one_kind in
    let row = row_said k.kind c payload is k.all s in
    let n = length c.geometries in
    let few : nat_le n 256 ≡ true = le_test n 256 is.geometries in
    let primitives = is.primitives in
    (λ i. if nat_le (count_said c payload s i) 256 then
    at_most 1048576 (or_else (row_total 0 (count_said c payload s i) (row_of payload)) (row_total 1 (count_said c payload s i) (row_of payload))) else None)
    ∙ ((λ i. if few i then at_most 1048576 (row_either k.kind n (row_of payload) (total_of c.geometries) row.fill row.total i) else None)
    ∙ within 1048576 (total_of c.geometries) (omega arith))

has_flags_said : (c : ContentsValue) (payload : List ℕ) → IsContents c → c.flags.0 < 32 → SaysBottom c payload → has_flags payload ≡ true
unfolding has_flags
has_flags_said c payload is known s =
    let small : nat_lt c.flags.0 32 ≡ true = lt_test c.flags.0 32 known in
    (λ i. nat_lt (s.head.flags_is i) 32 && not (has_both_fast (flags_said c payload s i)) && (s.head.zero_is i == 0))
    ∙ (λ i. small i && not (is.flags i) && true)

pub total_said : (c : ContentsValue) (payload : List ℕ) → IsContents c → c.flags.0 < 32 → SaysBottom c payload →
    total_of_payload 0 payload ≡ Some (total_of c.geometries)
unfolding total_of_payload
total_said c payload is known s =
    (λ i. if has_flags_said c payload is known s i then
    (if s.head.kind_is i == 0 then bottom_total payload else if s.head.kind_is i == 1 then top_total payload else None) else None)
    ∙ bottom_total_said c payload is s

pub bottom_in-payload_of : (c : ContentsValue) (payload : List ℕ) → IsContents c → SaysBottom c payload → bottom_in_payload payload ≡ Some c
unfolding bottom_in_payload
bottom_in-payload_of c payload is s =
    let k = one_kind c.geometries is.one_kind in
    let row = row_said k.kind c payload is k.all s in
    (λ i. option_map (with_flags (flags_said c payload s i)) (geometries_in (count_said c payload s i) (row_of payload)))
    ∙ ap (option_map (with_flags c.flags)) row.same

pub elements_said : (c : ContentsValue) (payload : List ℕ) → IsContents c → SaysBottom c payload → has_bad_element 0 payload ≡ false
unfolding has_bad_element
elements_said c payload is s =
    let k = one_kind c.geometries is.one_kind in
    let row = row_said k.kind c payload is k.all s in
    (λ i. if bottom_said c payload s i then not (are_instances 0 (instances_of_payload payload)) else is_none (geometries_in (count_said c payload s i) (row_of payload)))
    ∙ ap is_none row.same

-- the size of a structure fits
pub size_fits : (geometries total : ℕ) → geometries ≤ 256 → total ≤ 2 ^ 20 → structure_size geometries total < 2 ^ 64
size_fits geometries total p q = omega arith

pub header_of : (c : ContentsValue) → IsContents c →
    HasHeader (bottom_form c) (structure_size (length c.geometries) (total_of c.geometries)) [] (payload_of c)
unfolding bottom_form
header_of c is =
    let few = payload_few c is in
    header_back (structure_size (length c.geometries) (total_of c.geometries)) [] (payload_of c)
    (size_fits (length c.geometries) (total_of c.geometries) is.geometries is.primitives) (omega arith)

pub payload_long : (c : ContentsValue) → IsContents c → 16 ≤ length (payload_of c)
payload_long c is =
    let k = one_kind c.geometries is.one_kind in
    let size = length-payload_of k.kind c k.all in
    omega arith

lines_of : (c : ContentsValue) → IsContents c → c.flags.0 < 32 → KeepsLines (bottom_form c)
lines_of c is known =
    let bytes = bottom_form c in
    let h = header_of c is in
    let s = payload_says c is known in
    let long = payload_long c is in
    let size = h.length_is in
    let count = h.count in
    record {
      total = total_of c.geometries;
      long = omega arith;
      device = h.device;
      form = h.form ∙ sym (ap text_of h.plain);
      ending = plain_ends bytes h.plain;
      size = h.size ∙ sym h.length_is;
      handles = omega arith;
      room = omega arith;
      payload = (λ i. total_of_payload (h.count i) (h.payload_is i)) ∙ total_said c (payload_of c) is known s;
      structure = h.deserialized_is
          ∙ ap (λ n. structure_size n (total_of c.geometries)) (sym (ap geometry_count h.payload_is ∙ count_said c (payload_of c) s));
      elements = (λ i. has_bad_element (h.count i) (h.payload_is i)) ∙ elements_said c (payload_of c) is s;
    }

-- what a bottom structure is written as is a form, and it stands for the contents
pub IsForm-bottom_form : (c : ContentsValue) → IsContents c → c.flags.0 < 32 → IsForm (bottom_form c)
IsForm-bottom_form c is known = record { unbroken = unbroken-KeepsLines (bottom_form c) (lines_of c is known) }

pub bottom_in-bottom_form : (c : ContentsValue) → IsContents c → c.flags.0 < 32 → bottom_in (bottom_form c) ≡ Some c
bottom_in-bottom_form c is known =
    let h = header_of c is in
    ap bottom_in_payload h.payload_is ∙ bottom_in-payload_of c (payload_of c) is (payload_says c is known)

pub is_top-bottom_form : (c : ContentsValue) → IsContents c → c.flags.0 < 32 → is_top_form (bottom_form c) ≡ false
is_top-bottom_form c is known =
    let h = header_of c is in
    ap is_top_payload h.payload_is ∙ bottom_said c (payload_of c) (payload_says c is known)

-- ---- a form is what its contents are written as

-- the payload of a bottom structure keeps line 6
pub record KeepsBottom (handles : ℕ) (payload : List ℕ) (total : ℕ) : Type 0 where
  pub kind_is : word_at payload 0 ≡ 0
  pub none : handles ≡ 0
  pub known : word_at payload 4 < 32
  pub not_both : has_both_fast (flags_of_payload payload) ≡ false
  pub zero_is : word_at payload 12 ≡ 0
  pub geometries : geometry_count payload ≤ 256
  pub primitives : total ≤ 2 ^ 20
  pub kind : Kind
  pub fill : are_geometries (kind_number kind) (geometry_count payload) (row_of payload) ≡ true
  pub same : total_in (geometry_count payload) (row_of payload) ≡ total

record KeepsRow (n : ℕ) (row : List ℕ) (total : ℕ) : Type 0 where
  kind : Kind
  fill : are_geometries (kind_number kind) n row ≡ true
  same : total_in n row ≡ total

row_kept : (n : ℕ) (row : List ℕ) (total : ℕ) (a b : Bool) → are_geometries 0 n row ≡ a → are_geometries 1 n row ≡ b →
    or_else (if a then Some (total_in n row) else None) (if b then Some (total_in n row) else None) ≡ Some total → KeepsRow n row total
row_kept n row total true b p q e = let same : total_in n row ≡ total = cc in record { kind = Triangle; fill = p; same = same }
row_kept n row total false true p q e = let same : total_in n row ≡ total = cc in record { kind = Aabb; fill = q; same = same }
row_kept n row total false false p q e = absurd cc

at_most_kept : (greatest : ℕ) (o : Option ℕ) (total : ℕ) → at_most greatest o ≡ Some total → (o ≡ Some total) × (total ≤ greatest)
at_most_kept greatest None total e = absurd cc
at_most_kept greatest (Some n) total e =
    let h = if_some (nat_le n greatest) (Some n) total e in
    let same : n ≡ total = some_number n total h.1 in
    (h.1, let few = is_at_most n greatest h.0 in omega arith)
  where
    some_number : (a b : ℕ) → Some a ≡ Some b → a ≡ b
    some_number a b e = cc

pub bottom_kept : (handles : ℕ) (payload : List ℕ) (total : ℕ) → is_top_payload payload ≡ false → total_of_payload handles payload ≡ Some total →
    KeepsBottom handles payload total
unfolding is_top_payload total_of_payload has_flags bottom_total
bottom_kept handles payload total bottom e =
    let w = word_at payload 0 in
    let outer = if_some (has_flags payload)
    (if w == 0 then (if handles == 0 then bottom_total payload else None) else if w == 1 then top_total payload else None) total e in
    let flags = three (nat_lt (word_at payload 4) 32) (not (has_both_fast (flags_of_payload payload))) (word_at payload 12 == 0) outer.0 in
    let inner = kind_kept (w == 0) (w == 1) (if handles == 0 then bottom_total payload else None) (top_total payload) bottom outer.1 in
    let none = if_some (handles == 0) (bottom_total payload) total inner.1 in
    let n = geometry_count payload in
    let few = if_some (nat_le n 256) (at_most 1048576 (or_else (row_total 0 n (row_of payload)) (row_total 1 n (row_of payload)))) total none.1 in
    let most = at_most_kept 1048576 (or_else (row_total 0 n (row_of payload)) (row_total 1 n (row_of payload))) total few.1 in
    let row = row_kept n (row_of payload) total (are_geometries 0 n (row_of payload)) (are_geometries 1 n (row_of payload)) refl refl most.0 in
    let primitives = most.1 in
    record {
      kind_is = number_is w 0 inner.0;
      none = number_is handles 0 none.0;
      known = is_below (word_at payload 4) 32 flags.0;
      not_both = not_true (has_both_fast (flags_of_payload payload)) flags.1;
      zero_is = number_is (word_at payload 12) 0 flags.2;
      geometries = is_at_most n 256 few.0;
      primitives = omega arith;
      kind = row.kind;
      fill = row.fill;
      same = row.same;
    }
  where
    kind_kept : (a b : Bool) (o p : Option ℕ) → b ≡ false → (if a then o else if b then p else None) ≡ Some total → (a ≡ true) × (o ≡ Some total)
    kind_kept true b o p q e = (refl, e)
    kind_kept false true o p q e = absurd cc
    kind_kept false false o p q e = absurd cc

-- the contents of a payload, and what it is to be written again
pub record IsAgain (payload : List ℕ) (total : ℕ) (c : ContentsValue) : Type 0 where
  pub is : IsContents c
  pub known : c.flags.0 < 32
  pub count : length c.geometries ≡ geometry_count payload
  pub total_is : total_of c.geometries ≡ total
  pub same : payload_of c ≡ payload

same_kinds : (kind : Kind) (gs : List Geometry) → All (λ g. kind_of g ≡ kind) gs → All (λ g. All (λ h. kind_of g ≡ kind_of h) gs) gs
same_kinds kind gs all = λ k d below j e under. all k d below ∙ sym (all j e under)

payload_again : (payload : List ℕ) (gs : List Geometry) → AreBytes payload → 16 ≤ length payload → word_at payload 0 ≡ 0 → word_at payload 12 ≡ 0 →
    length gs ≡ geometry_count payload → flat_map geometry_bytes gs ≡ row_of payload →
    payload_of (with_flags (flags_of_payload payload) gs) ≡ payload
unfolding flags_of_payload geometry_count row_of
payload_again payload gs fits long kind zero_is many same =
    let p = sym kind in
    let q = sym zero_is in
    (λ i. bytes_of_words (p i ∷ word_at payload 4 ∷ many i ∷ q i ∷ []) ++ same i) ∙ four_again payload fits long

fits_row : (payload : List ℕ) → AreBytes payload → AreBytes (row_of payload)
unfolding row_of
fits_row payload fits = AreBytes-drop 16 payload fits

flags_number : (payload : List ℕ) → (flags_of_payload payload).0 ≡ word_at payload 4
unfolding flags_of_payload
flags_number payload = refl

contents_again : (handles : ℕ) (payload : List ℕ) (total : ℕ) (gs : List Geometry) → AreBytes payload → 16 ≤ length payload → KeepsBottom handles payload total →
    geometries_in (geometry_count payload) (row_of payload) ≡ Some gs → IsAgain payload total (with_flags (flags_of_payload payload) gs)
contents_again handles payload total gs fits long keeps e =
    let again = row_again keeps.kind (geometry_count payload) (row_of payload) gs (fits_row payload fits) keeps.fill e in
    let many = again.many in
    let few = keeps.geometries in
    let sum : total_of gs ≡ total = again.total ∙ keeps.same in
    let most = keeps.primitives in
    let known = keeps.known in
    let flags = flags_number payload in
    record {
      is = record {
        geometries = omega arith;
        primitives = omega arith;
        one_kind = same_kinds keeps.kind gs again.kinds;
        each = again.each;
        flags = keeps.not_both;
      };
      known = omega arith;
      count = many;
      total_is = sum;
      same = payload_again payload gs fits long keeps.kind_is keeps.zero_is many again.same;
    }

pub bottom_again : (handles : ℕ) (payload : List ℕ) (total : ℕ) (c : ContentsValue) → AreBytes payload → 16 ≤ length payload → KeepsBottom handles payload total →
    bottom_in_payload payload ≡ Some c → IsAgain payload total c
unfolding bottom_in_payload
bottom_again handles payload total c fits long keeps e =
    let m = mapped (with_flags (flags_of_payload payload)) (geometries_in (geometry_count payload) (row_of payload)) c e in
    let P : ContentsValue → Type 0 = λ d. IsAgain payload total d in
    subst P m.same (contents_again handles payload total m.value fits long keeps m.is_some)

no_handles : (bytes : List ℕ) (n : ℕ) → n ≡ 0 → map (handle_at bytes) (range_with_len 0 n) ≡ []
no_handles bytes n e = ap (λ m. map (handle_at bytes) (range_with_len 0 m)) e

-- what a form of a bottom structure stands for
pub form_contents : (bytes : List ℕ) (c : ContentsValue) → AreBytes bytes → (k : KeepsLines bytes) → is_top_form bytes ≡ false → bottom_in bytes ≡ Some c →
    IsAgain (payload_in bytes) k.total c
form_contents bytes c fits k bottom e =
    bottom_again (handle_count_in bytes) (payload_in bytes) k.total c (fits_payload bytes fits) (payload_room bytes k)
    (bottom_kept (handle_count_in bytes) (payload_in bytes) k.total bottom k.payload) e

structure_again : (bytes : List ℕ) (k : KeepsLines bytes) (n total : ℕ) → n ≡ geometry_count (payload_in bytes) → total ≡ k.total →
    structure_size n total ≡ deserialized_in bytes
unfolding deserialized_in
structure_again bytes k n total p q = (λ i. structure_size (p i) (q i)) ∙ sym k.structure

-- it is written again as the same bytes
pub bottom_form-bottom_in : (bytes : List ℕ) (c : ContentsValue) → AreBytes bytes → KeepsLines bytes → has_tree bytes ≡ false → is_top_form bytes ≡ false → bottom_in bytes ≡ Some c →
    bottom_form c ≡ bytes
unfolding bottom_form
bottom_form-bottom_in bytes c fits k plain bottom e =
    let again = form_contents bytes c fits k bottom e in
    let keeps = bottom_kept (handle_count_in bytes) (payload_in bytes) k.total bottom k.payload in
    let size = structure_again bytes k (length c.geometries) (total_of c.geometries) again.count again.total_is in
    let none = sym (no_handles bytes (handle_count_in bytes) keeps.none) in
    (λ i. form_bytes (size i) (none i) (again.same i)) ∙ form_again bytes fits k plain

-- ---- what calls cite

pub kind_of_first : (gs : List Geometry) (kind : Kind) → All (λ g. All (λ h. kind_of g ≡ kind_of h) gs) gs → option_map kind_of (slice_get gs 0) ≡ Some kind →
    All (λ g. kind_of g ≡ kind) gs
kind_of_first [] kind same e = absurd cc
kind_of_first (g ∷ gs) kind same e = let named : kind_of g ≡ kind = cc in λ k d below. sym (same 0 g (omega arith) k d below) ∙ named

pub no_kind : (gs : List Geometry) (kind : Kind) → length gs ≡ 0 → All (λ g. kind_of g ≡ kind) gs
no_kind gs kind none = λ k d below. absurd (omega arith)

pub length-bottom_form : (kind : Kind) (c : ContentsValue) → IsContents c → All (λ g. kind_of g ≡ kind) c.geometries →
    length (bottom_form c) ≡ 72 + 32 * length c.geometries + element_size (kind_number kind) * total_of c.geometries
length-bottom_form kind c is all =
    let size = length-payload_of kind c all in
    let long = (header_of c is).length_is in
    omega arith

pub form_few : (c : ContentsValue) → IsContents c → form_size [] (payload_of c) < 2 ^ 64
form_few c is = let few = payload_few c is in omega arith

pub IfOk-then : {T E : Type 0} (P Q : T → Type 0) (r : Result T E) → ((x : T) → P x → Q x) → IfOk r P → IfOk r Q
IfOk-then P Q (Ok x) f h = f x h
IfOk-then P Q (Err e) f h = tt

both_false : (a b : Bool) → a ≡ false → b ≡ false → (a || b) ≡ false
both_false a b p q = λ i. p i || q i

lt_fails : (a b : ℕ) → b ≤ a → nat_lt a b ≡ false
lt_fails a b h = grind (arith, nat_tests)

-- a form has room for what is read of it
room_kept : (bytes : List ℕ) → KeepsLines bytes → lacks_room bytes ≡ false
unfolding lacks_room
room_kept bytes k =
    both_false (nat_lt 65536 (handle_count_in bytes)) (nat_lt (length bytes) (56 + 8 * handle_count_in bytes + 16))
    (lt_fails 65536 (handle_count_in bytes) k.handles) (lt_fails (length bytes) (56 + 8 * handle_count_in bytes + 16) k.room)

pub HasRoom-form : (bytes : List ℕ) → IsForm bytes → HasRoom bytes
HasRoom-form bytes is = let k = KeepsLines-unbroken bytes is.unbroken in record { long = k.long; room = room_kept bytes k }

-- the geometries of a form of a bottom structure
record IsThere {X : Type 0} (o : Option X) : Type 0 where
  value : X
  is_some : o ≡ Some value

there : {X : Type 0} (o : Option X) → is_none o ≡ false → IsThere o
there None e = absurd cc
there (Some x) e = record { value = x; is_some = refl }

not_bad : (top bad good : Bool) → top ≡ false → (if top then bad else good) ≡ false → good ≡ false
not_bad true bad good p e = absurd cc
not_bad false bad good p e = e

is_there : (bytes : List ℕ) → KeepsLines bytes → is_top_form bytes ≡ false → IsThere (geometries_in (geometry_count (payload_in bytes)) (row_of (payload_in bytes)))
unfolding has_bad_element
is_there bytes k bottom =
    let payload = payload_in bytes in
    there (geometries_in (geometry_count payload) (row_of payload))
    (not_bad (is_top_payload payload) (not (are_instances (handle_count_in bytes) (instances_of_payload payload)))
    (is_none (geometries_in (geometry_count payload) (row_of payload))) bottom k.elements)

contents_are : (bytes : List ℕ) (gs : List Geometry) → geometries_in (geometry_count (payload_in bytes)) (row_of (payload_in bytes)) ≡ Some gs →
    bottom_in bytes ≡ Some (with_flags (flags_of_payload (payload_in bytes)) gs)
unfolding bottom_in_payload
contents_are bytes gs e = ap (option_map (with_flags (flags_of_payload (payload_in bytes)))) e

-- a form that isn't that of a top structure stands for a bottom structure
pub bottom_there : (bytes : List ℕ) → broken_line bytes ≡ None → is_top_form bytes ≡ false → IsSome (bottom_in bytes)
bottom_there bytes unbroken bottom =
    let found = is_there bytes (KeepsLines-unbroken bytes unbroken) bottom in
    subst IsSome (sym (contents_are bytes found.value found.is_some)) refl

-- what a form of a bottom structure can be restored by
pub CanRestore-form : (bytes : List ℕ) → AreBytes bytes → IsForm bytes → is_top_form bytes ≡ false →
    (has_both_fast (flags_of_payload (payload_in bytes)) ≡ false) × CanRestore (geometry_count (payload_in bytes)) (row_of (payload_in bytes))
CanRestore-form bytes fits is bottom =
    let k = KeepsLines-unbroken bytes is.unbroken in
    let keeps = bottom_kept (handle_count_in bytes) (payload_in bytes) k.total bottom k.payload in
    let read = is_there bytes k bottom in
    let again = form_contents bytes (with_flags (flags_of_payload (payload_in bytes)) read.value) fits k bottom (contents_are bytes read.value read.is_some) in
    let row = row_again keeps.kind (geometry_count (payload_in bytes)) (row_of (payload_in bytes)) read.value
    (fits_row (payload_in bytes) (fits_payload bytes fits)) keeps.fill read.is_some in (
      keeps.not_both,
      record {
        all = read.value;
        read = read.is_some;
        kind = keeps.kind;
        kinds = row.kinds;
        few = again.is.geometries;
        primitives = again.is.primitives;
      },
    )

pub restored_in : (bytes : List ℕ) (c : ContentsValue) →
    option_map (with_flags (flags_of_payload (payload_in bytes))) (geometries_in (geometry_count (payload_in bytes)) (row_of (payload_in bytes))) ≡ Some c →
    bottom_in bytes ≡ Some c
unfolding bottom_in_payload
restored_in bytes c e = e

pub restored_again : (bytes : List ℕ) (c : ContentsValue) → AreBytes bytes → IsForm bytes → has_tree bytes ≡ false → is_top_form bytes ≡ false →
    option_map (with_flags (flags_of_payload (payload_in bytes))) (geometries_in (geometry_count (payload_in bytes)) (row_of (payload_in bytes))) ≡ Some c →
    bottom_form c ≡ bytes
restored_again bytes c fits is plain bottom e =
    bottom_form-bottom_in bytes c fits (KeepsLines-unbroken bytes is.unbroken) plain bottom (restored_in bytes c e)
