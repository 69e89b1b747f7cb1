-- What a JSON value spells, where it has the shape that is asked for. (Own: the shapes; JSON is what `serde_json` reads.)
use Rattle.std.specs.Prelude.{ℕ, ◌^◌, List, [], ◌∷◌, Bool, true, false, ◌&&◌, Option, Some, None, option_and_then, nat_lt, if◌then◌else◌}
use Rattle.std.specs.Int.RustNames.{bit_or}
use Rattle.std.specs.List.{list_any}
use Rattle.std.specs.Result.{result_ok}
use Rattle.std.specs.Str.{bytes_eq}
use Rattle.bitflags.specs.Sets.{Row, find_name}
use Rattle.hex.specs.Hex.{decode_of}
use Rattle.serde_json.specs.Data.{Data, null, boolean, number, string, array, object, Items, no_items, item, Members, no_members, member}
use Rattle.serde_json.specs.Find.{get, as_number, as_u64, as_bool, as_str, as_array}

infixl 10 ◌>>=◌
-- what is spelled after the first has been read, or nothing where the first isn't spelled
abbrev pub ◌>>=◌ : {A B : Type 0} → Option A → (A → Option B) → Option B
first >>= step = option_and_then step first

-- a condition on what was read
abbrev pub guard : Bool → Option (Unit {0})
guard true = Some tt
guard false = None

-- a whole number of 64 bits
abbrev pub u64_of : Data → Option ℕ
u64_of d = as_number d >>= as_u64

-- a whole number of 32 bits
abbrev pub u32_of : Data → Option ℕ
u32_of d = u64_of d >>= λ n. if nat_lt n (2 ^ 32) then Some n else None

-- a truth value
abbrev pub bool_of : Data → Option Bool
bool_of d = as_bool d

-- the text of a string
abbrev pub text_of : Data → Option (List ℕ)
text_of d = as_str d

-- the bytes that hexadecimal digits stand for
abbrev pub hex_of : Data → Option (List ℕ)
hex_of d = text_of d >>= λ digits. result_ok (decode_of digits)

-- the meaning beside the first row of this word
abbrev pub find_word : {A : Type 0} → List (List ℕ × A) → List ℕ → Option A
find_word [] word = None
find_word (row ∷ rows) word = if bytes_eq row.0 word then Some row.1 else find_word rows word

-- the meaning of a word of a table
abbrev pub word_of : {A : Type 0} → List (List ℕ × A) → Data → Option A
word_of table d = text_of d >>= find_word table

-- the bits of a table's words, together with those before them
abbrev pub words_from : List Row → ℕ → Items → Option ℕ
words_from table bits no_items = Some bits
words_from table bits (item d ds) = text_of d >>= λ word. find_name table word >>= λ flag. words_from table (bit_or bits flag) ds

-- the bits of a list of a table's words
abbrev pub words_of : List Row → Data → Option ℕ
words_of table d = as_array d >>= words_from table 0

-- each of the items
abbrev pub items_of : {A : Type 0} → (Data → Option A) → Items → Option (List A)
items_of spells no_items = Some []
items_of spells (item d ds) = spells d >>= λ x. items_of spells ds >>= λ xs. Some (x ∷ xs)

-- a list, by what its items spell
abbrev pub list_of : {A : Type 0} → (Data → Option A) → Data → Option (List A)
list_of spells d = as_array d >>= items_of spells

-- whether each member is of one of these names
abbrev pub members_among : List (List ℕ) → Members → Bool
members_among names no_members = true
members_among names (member name d ms) = list_any (bytes_eq name) names && members_among names ms

-- an object with no member but those of these names
abbrev pub only : List (List ℕ) → Data → Option (Unit {0})
only names null = None
only names (boolean b) = None
only names (number n) = None
only names (string s) = None
only names (array ds) = None
only names (object ms) = guard (members_among names ms)

-- a member that has to be there
abbrev pub at : {A : Type 0} → (Data → Option A) → List ℕ → Data → Option A
at spells name d = get name d >>= spells

-- what is spelled, wherever it is
abbrev pub maybe : {A : Type 0} → Option A → Option (Option A)
maybe None = None
maybe (Some x) = Some (Some x)

-- what a member spells that was found, or wasn't
abbrev pub at_if_there : {A : Type 0} → (Data → Option A) → Option Data → Option (Option A)
at_if_there spells None = Some None
at_if_there spells (Some d) = maybe (spells d)

-- a member that may be absent
abbrev pub optional_at : {A : Type 0} → (Data → Option A) → List ℕ → Data → Option (Option A)
optional_at spells name d = at_if_there spells (get name d)

-- what a list spells that was found, or wasn't: then it is empty
abbrev pub listed_if_there : {A : Type 0} → (Data → Option A) → Option Data → Option (List A)
listed_if_there spells None = Some []
listed_if_there spells (Some d) = list_of spells d

-- a list that is empty where it is absent
abbrev pub listed_at : {A : Type 0} → (Data → Option A) → List ℕ → Data → Option (List A)
listed_at spells name d = listed_if_there spells (get name d)
