-- One word, and four.
use Rattle.std.proofs.Common.{◌≡◌, ℕ, List, [], ◌∷◌, length, map, get_or, ap, sym, ◌∙◌, arith, Global}
use Rattle.std.specs.Prelude.{◌↔◌, String, string_bytes}

pub one_word : (words : List (String Global)) (word : String Global) → length words ≡ 1 → word ≡ get_or words 0 word → map string_bytes words ≡ string_bytes word ∷ []
one_word [] word one is = absurd (omega arith)
one_word (first ∷ []) word one is = ap (λ (w : String Global). string_bytes w ∷ []) (sym is)
one_word (first ∷ second ∷ rest) word one is = absurd (omega arith)

-- the words are this one where its bytes are these
pub is_one_word : (words : List (String Global)) (word : String Global) (text : List ℕ) → length words ≡ 1 → word ≡ get_or words 0 word → string_bytes word ≡ text → map string_bytes words ≡ text ∷ []
is_one_word words word text one is same = one_word words word one is ∙ ap (λ (t : List ℕ). t ∷ []) same

pub one_word_is : (words : List (String Global)) (word : String Global) (text : List ℕ) → length words ≡ 1 → word ≡ get_or words 0 word → map string_bytes words ≡ text ∷ [] → string_bytes word ≡ text
one_word_is words word text one is all = let e : string_bytes word ∷ [] ≡ text ∷ [] = sym (one_word words word one is) ∙ all in cc

-- four words
pub four_words : (words : List (String Global)) (a b c d : String Global) → length words ≡ 4
    → a ≡ get_or words 0 a → b ≡ get_or words 1 b → c ≡ get_or words 2 c → d ≡ get_or words 3 d
    → map string_bytes words ≡ string_bytes a ∷ string_bytes b ∷ string_bytes c ∷ string_bytes d ∷ []
four_words [] a b c d four p q r s = absurd (omega arith)
four_words (w ∷ []) a b c d four p q r s = absurd (omega arith)
four_words (w ∷ x ∷ []) a b c d four p q r s = absurd (omega arith)
four_words (w ∷ x ∷ y ∷ []) a b c d four p q r s = absurd (omega arith)
four_words (w ∷ x ∷ y ∷ z ∷ []) a b c d four p q r s =
    λ i. string_bytes (sym p i) ∷ string_bytes (sym q i) ∷ string_bytes (sym r i) ∷ string_bytes (sym s i) ∷ []
four_words (w ∷ x ∷ y ∷ z ∷ v ∷ rest) a b c d four p q r s = absurd (omega arith)

-- four words are these where each is
pub four_are : (words : List (List ℕ)) (a b c d p q r s : List ℕ) → words ≡ a ∷ b ∷ c ∷ d ∷ []
    → ((a ≡ p) × (b ≡ q) × (c ≡ r) × (d ≡ s)) ↔ (words ≡ p ∷ q ∷ r ∷ s ∷ [])
four_are words a b c d p q r s are = (
  λ each. are ∙ (λ i. each.0 i ∷ each.1 i ∷ each.2 i ∷ each.3 i ∷ []),
  λ all. let same : a ∷ b ∷ c ∷ d ∷ [] ≡ p ∷ q ∷ r ∷ s ∷ [] = sym are ∙ all in (cc, cc, cc, cc),
)

-- three words
pub three_words : (words : List (String Global)) (a b c : String Global) → length words ≡ 3
    → a ≡ get_or words 0 a → b ≡ get_or words 1 b → c ≡ get_or words 2 c
    → map string_bytes words ≡ string_bytes a ∷ string_bytes b ∷ string_bytes c ∷ []
three_words [] a b c three p q r = absurd (omega arith)
three_words (w ∷ []) a b c three p q r = absurd (omega arith)
three_words (w ∷ x ∷ []) a b c three p q r = absurd (omega arith)
three_words (w ∷ x ∷ y ∷ []) a b c three p q r = λ i. string_bytes (sym p i) ∷ string_bytes (sym q i) ∷ string_bytes (sym r i) ∷ []
three_words (w ∷ x ∷ y ∷ z ∷ rest) a b c three p q r = absurd (omega arith)

-- three words are these where each is
pub three_are : (words : List (List ℕ)) (a b c p q r : List ℕ) → words ≡ a ∷ b ∷ c ∷ []
    → ((a ≡ p) × (b ≡ q) × (c ≡ r)) ↔ (words ≡ p ∷ q ∷ r ∷ [])
three_are words a b c p q r are = (
  λ each. are ∙ (λ i. each.0 i ∷ each.1 i ∷ each.2 i ∷ []),
  λ all. let same : a ∷ b ∷ c ∷ [] ≡ p ∷ q ∷ r ∷ [] = sym are ∙ all in (cc, cc, cc),
)
