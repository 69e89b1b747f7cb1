-- In a table whose rows have words of their own, the flag of a word is the one in its row.
use Rattle.std.proofs.Common.{◌≡◌, ◌==◌, ◌↔◌, ◌&&◌, ℕ, Bool, true, false, not, List, [], ◌∷◌}
use Rattle.std.proofs.Common.{Some, None, length, refl, ap, arith, zero, suc}
use Rattle.std.specs.Prelude.{Contains, if◌then◌else◌}
use Rattle.std.specs.Cmp.{first_so, second_so}
use Rattle.std.specs.Cmp.Lexicographic.{same_text}
use Rattle.std.proofs.lemmas.Bool.{not-true}
use Rattle.std.proofs.lemmas.Cmp.{nat_list_eq_equiv}
use Rattle.std.proofs.lemmas.List.Elements.{All-contains}
use Rattle.std.proofs.lemmas.List.Sums.{AllPass-from_list_all}
use Rattle.std.specs.Str.{bytes_eq}
use Rattle.bitflags.specs.Sets.{Row, find_row, find_name}
use Rattle.ray_flags.specs.Words.{has_own_words, is_new}

-- a row of the rest is a row of all
Contains-cons : (row : Row) (rest : List Row) (x : Row)
    → Contains rest x → Contains (row ∷ rest) x
Contains-cons row rest x (k, below, at) = (suc k, omega arith, at)

-- where the first row has the word or another, a row that is found is in the table
found_here : (row : Row) (rest : List Row) (word : List ℕ) (bits : ℕ) (same : Bool)
    → same ≡ bytes_eq row.0 word
    → (find_row rest word ≡ Some bits → Contains rest (word, bits))
    → (if same then Some row.1 else find_row rest word) ≡ Some bits
    → Contains (row ∷ rest) (word, bits)
found_here row rest word bits true e later found =
    let same_word : row.0 ≡ word = same_text row.0 word e in
    let same_bits : row.1 ≡ bits = cc in
    (0, omega arith, λ i. (same_word i, same_bits i))
found_here row rest word bits false e later found =
    Contains-cons row rest (word, bits) (later found)

-- the row that is found is in the table
find_row-Contains : (table : List Row) (word : List ℕ) (bits : ℕ)
    → find_row table word ≡ Some bits → Contains table (word, bits)
unfolding find_row
find_row-Contains [] word bits found = absurd cc
find_row-Contains (row ∷ rest) word bits found =
    found_here row rest word bits (bytes_eq row.0 word) refl
    (find_row-Contains rest word bits) found

-- a word that is new to some rows is none of theirs
new_word : (first : List ℕ) (rest : List Row) (word : List ℕ) (bits : ℕ)
    → is_new first rest ≡ true → Contains rest (word, bits) → bytes_eq first word ≡ false
new_word first rest word bits new there =
    not-true (bytes_eq first word)
    (All-contains (λ row. not (bytes_eq first row.0) ≡ true) rest (word, bits)
    (AllPass-from_list_all (λ row. not (bytes_eq first row.0)) rest new) there)

-- each row of a table with words of its own is found by its word, which isn't empty
Contains-find_row : (table : List Row) (word : List ℕ) (bits : ℕ)
    → has_own_words table ≡ true → Contains table (word, bits)
    → ((length word == 0) ≡ false) × (find_row table word ≡ Some bits)
unfolding find_row
Contains-find_row [] word bits own (k, below, at) = absurd (omega arith)
Contains-find_row (row ∷ rest) word bits own (zero, below, at) =
    let same_word : row.0 ≡ word = ap (λ r. r.0) at in
    let named : (length row.0 == 0) ≡ false = not-true (length row.0 == 0) (first_so _ _ own) in
    let same : bytes_eq row.0 word ≡ true = rw same_word (nat_list_eq_equiv.refl word) in
    (rw (← same_word) named, rw same (ap Some (ap (λ r. r.1) at)))
Contains-find_row (row ∷ rest) word bits own (suc k, below, at) =
    let there : Contains rest (word, bits) = (k, omega arith, at) in
    let own_rest : (is_new row.0 rest && has_own_words rest) ≡ true = second_so _ _ own in
    let other = new_word row.0 rest word bits (first_so _ _ own_rest) there in
    let later = Contains-find_row rest word bits (second_so _ _ own_rest) there in
    (later.0, rw other later.1)

-- a row is looked for where the word isn't empty
found_row : (table : List Row) (word : List ℕ) (bits : ℕ) (empty : Bool)
    → (if empty then None else find_row table word) ≡ Some bits → find_row table word ≡ Some bits
found_row table word bits true found = absurd cc
found_row table word bits false found = found

-- the bits of a word are those of its row
pub find_name-Contains : (table : List Row) → has_own_words table ≡ true
    → (word : List ℕ) (bits : ℕ)
    → (find_name table word ≡ Some bits) ↔ Contains table (word, bits)
find_name-Contains table own word bits = (
  λ found. find_row-Contains table word bits
      (found_row table word bits (length word == 0) found),
  λ there. let row = Contains-find_row table word bits own there in rw row.0 row.1,
)
