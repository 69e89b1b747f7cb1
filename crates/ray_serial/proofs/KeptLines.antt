-- A form keeps each of the eight lines, and what keeps them is a form.
use Rattle.std.proofs.Common.{ℕ, ◌≡◌, ◌≤◌, ◌+◌, ◌*◌, ◌==◌, ◌&&◌, ◌||◌, not, Bool, true, false, List, length, take, drop, Option, Some, None, refl, ap, ◌∙◌, arith}
use Rattle.std.specs.Prelude.{nat_eq, nat_lt}
use Rattle.std.specs.Cmp.Lexicographic.{pointwise, bytes_decides}
use Rattle.std.proofs.lemmas.Bool.Decides.{nat_tests}
use Rattle.ray_bytes.specs.Fields.{long_at}
use Rattle.ray_bytes.specs.StructureSizes.{structure_size}
use Rattle.ray_form.specs.Form.{device_text, form_text, form_2_text, has_tree, has_other_form, ends_wrongly, handle_count_in, payload_in, geometry_count, is_short, lacks, has_other_size, lacks_room, total_of_payload, has_other_structure_size, has_bad_element, line, broken_contents_line, payload_line, broken_payload_line, broken_line}
use Rattle.ray_serial.specs.Meaning.{text_of, KeepsLines}

-- ---- one line

unbroken : (number : ℕ) (is : Bool) (others : Option ℕ) → line number is others ≡ None → (is ≡ false) × (others ≡ None)
unbroken number true others e = absurd cc
unbroken number false others e = (refl, e)

line_kept : (number : ℕ) (is : Bool) (others : Option ℕ) → is ≡ false → others ≡ None → line number is others ≡ None
line_kept number true others p q = absurd cc
line_kept number false others p q = q

not_true : (a : Bool) → not a ≡ true → a ≡ false
not_true true e = absurd cc
not_true false e = refl

first_false : (a : Bool) → (a && true) ≡ false → a ≡ false
first_false true e = absurd cc
first_false false e = refl

both_fail : (a tree : Bool) → (tree ≡ false → a ≡ false) → (a && not tree) ≡ false
both_fail a true e = by a
  where
    by : (b : Bool) → (b && false) ≡ false
    by true = refl
    by false = refl
both_fail a false e = ap (λ b. b && true) (e refl)

not_false : (a : Bool) → not a ≡ false → a ≡ true
not_false true e = refl
not_false false e = absurd cc

neither : (a b : Bool) → (a || b) ≡ false → (a ≡ false) × (b ≡ false)
neither true b e = absurd cc
neither false b e = (refl, e)

not_below : (a b : ℕ) → nat_lt a b ≡ false → b ≤ a
not_below a b e = grind (arith, nat_tests)

lt_fails : (a b : ℕ) → b ≤ a → nat_lt a b ≡ false
lt_fails a b h = grind (arith, nat_tests)

number_is : (a b : ℕ) → (a == b) ≡ true → a ≡ b
number_is a b e = grind (arith, nat_tests)

same_test : (a b : ℕ) → a ≡ b → not (a == b) ≡ false
same_test a b e = grind (arith, nat_tests)

-- ---- a form keeps them

same_text : (text : List ℕ) (at : ℕ) (bytes : List ℕ) → lacks text at bytes ≡ false → take 16 (drop at bytes) ≡ text
unfolding lacks
same_text text at bytes e = (bytes_decides (take 16 (drop at bytes)) text).0 (not_false (pointwise nat_eq (take 16 (drop at bytes)) text) e)

-- the second text is that of one of the two forms
text_kept : (tree : Bool) (bytes : List ℕ) → has_tree bytes ≡ tree → (lacks form_text 16 bytes && not tree) ≡ false → take 16 (drop 16 bytes) ≡ text_of tree
unfolding has_tree
text_kept true bytes e p = same_text form_2_text 16 bytes (not_true (lacks form_2_text 16 bytes) e)
text_kept false bytes e p = same_text form_text 16 bytes (first_false (lacks form_text 16 bytes) p)

record KeepsTotal (bytes : List ℕ) (o : Option ℕ) : Type 0 where
  total : ℕ
  is : o ≡ Some total
  others : broken_contents_line bytes total ≡ None

total_kept : (bytes : List ℕ) (o : Option ℕ) → payload_line bytes o ≡ None → KeepsTotal bytes o
total_kept bytes None e = absurd cc
total_kept bytes (Some total) e = record { total = total; is = refl; others = e }

pub KeepsLines-unbroken : (bytes : List ℕ) → broken_line bytes ≡ None → KeepsLines bytes
unfolding broken_line broken_payload_line broken_contents_line has_other_form has_other_size lacks_room has_other_structure_size
KeepsLines-unbroken bytes e =
    let h = handle_count_in bytes in
    let one = unbroken 1 (is_short bytes) _ e in
    let two = unbroken 2 (lacks device_text 0 bytes) _ one.1 in
    let three = unbroken 3 (lacks form_text 16 bytes && not (has_tree bytes)) _ two.1 in
    let four = unbroken 4 (not (long_at bytes 32 == length bytes)) _ three.1 in
    let five = unbroken 5 (nat_lt 65536 h || nat_lt (length bytes) (56 + 8 * h + 16)) _ four.1 in
    let ending = unbroken 6 (ends_wrongly bytes) _ five.1 in
    let six = total_kept bytes (total_of_payload h (payload_in bytes)) ending.1 in
    let seven = unbroken 7 (not (long_at bytes 40 == structure_size (geometry_count (payload_in bytes)) six.total)) _ six.others in
    let eight = unbroken 8 (has_bad_element h (payload_in bytes)) None seven.1 in
    let room = neither (nat_lt 65536 h) (nat_lt (length bytes) (56 + 8 * h + 16)) five.0 in
    record {
      total = six.total;
      long = not_below (length bytes) 56 one.0;
      device = same_text device_text 0 bytes two.0;
      form = text_kept (has_tree bytes) bytes refl three.0;
      ending = ending.0;
      size = number_is (long_at bytes 32) (length bytes) (not_false (long_at bytes 32 == length bytes) four.0);
      handles = not_below 65536 h room.0;
      room = not_below (length bytes) (56 + 8 * h + 16) room.1;
      payload = six.is;
      structure = number_is (long_at bytes 40) (structure_size (geometry_count (payload_in bytes)) six.total)
          (not_false (long_at bytes 40 == structure_size (geometry_count (payload_in bytes)) six.total) seven.0);
      elements = eight.0;
    }

-- ---- what keeps them is a form

has_text : (text : List ℕ) (at : ℕ) (bytes : List ℕ) → take 16 (drop at bytes) ≡ text → lacks text at bytes ≡ false
unfolding lacks
has_text text at bytes e = ap not ((bytes_decides (take 16 (drop at bytes)) text).1 e)

both_false : (a b : Bool) → a ≡ false → b ≡ false → (a || b) ≡ false
both_false a b p q = λ i. p i || q i

payload_kept : (bytes : List ℕ) (o : Option ℕ) (total : ℕ) → o ≡ Some total → broken_contents_line bytes total ≡ None → payload_line bytes o ≡ None
payload_kept bytes o total e others = ap (payload_line bytes) e ∙ others

pub unbroken-KeepsLines : (bytes : List ℕ) → KeepsLines bytes → broken_line bytes ≡ None
unfolding broken_line broken_payload_line broken_contents_line has_other_form has_other_size lacks_room has_other_structure_size
unbroken-KeepsLines bytes k =
    let h = handle_count_in bytes in
    let long = k.long in
    let handles = k.handles in
    let room = k.room in
    line_kept 1 (is_short bytes) _ (lt_fails (length bytes) 56 long)
    (line_kept 2 (lacks device_text 0 bytes) _ (has_text device_text 0 bytes k.device)
    (line_kept 3 (lacks form_text 16 bytes && not (has_tree bytes)) _
    (both_fail (lacks form_text 16 bytes) (has_tree bytes) (λ plain. has_text form_text 16 bytes (k.form ∙ ap text_of plain)))
    (line_kept 4 (not (long_at bytes 32 == length bytes)) _ (same_test (long_at bytes 32) (length bytes) k.size)
    (line_kept 5 (nat_lt 65536 h || nat_lt (length bytes) (56 + 8 * h + 16)) _
    (both_false (nat_lt 65536 h) (nat_lt (length bytes) (56 + 8 * h + 16)) (lt_fails 65536 h handles) (lt_fails (length bytes) (56 + 8 * h + 16) room))
    (line_kept 6 (ends_wrongly bytes) _ k.ending
    (payload_kept bytes (total_of_payload h (payload_in bytes)) k.total k.payload
    (line_kept 7 (not (long_at bytes 40 == structure_size (geometry_count (payload_in bytes)) k.total)) _
    (same_test (long_at bytes 40) (structure_size (geometry_count (payload_in bytes)) k.total) k.structure)
    (line_kept 8 (has_bad_element h (payload_in bytes)) None k.elements refl))))))))
