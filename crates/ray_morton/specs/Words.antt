-- Words by which entries are brought into order: a part of the key, and a place; no clause of a public call speaks
-- of them. (Own.)
use Rattle.std.specs.Prelude.{◌+◌, ◌*◌, ◌/◌, ◌%◌, ◌^◌, ℕ, List, slice_index_or}

-- the word of the entry of a place: 44 of its bits from some bit up, and below them the place
abbrev pub word_of : List ℕ → ℕ → ℕ → ℕ
word_of entries shift k = (slice_index_or entries k 0 / 2 ^ shift % 2 ^ 44) * 2 ^ 20 + k % 2 ^ 20

-- the entry of the place in a word
abbrev pub placed : List ℕ → ℕ → ℕ
placed entries word = slice_index_or entries (word % 2 ^ 20) 0
