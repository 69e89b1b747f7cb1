-- Entries in the order of their words.
use Rattle.std.proofs.Common.{◌≡◌, ◌∙◌, ◌%◌, ◌^◌, ◌<◌, ◌≤◌, ℕ, List, length, map, get_or, sym, ap, subst, arith}
use Rattle.std.specs.List.{range_with_len}
use Rattle.std.specs.List.Sorted.{IsPermutation}
use Rattle.std.proofs.lemmas.List.{ext_get_or, length-map, get_or-map}
use Rattle.std.proofs.lemmas.List.FromFn.{length-range_with_len, get_or-map-range_with_len}
use Rattle.std.proofs.lemmas.List.Sorted.{IsPermutation-map}
use Rattle.ray_morton.specs.Words.{word_of, placed}

-- the entries of the places in their words, one after the other, are the entries
module _ (entries : List ℕ) (shift : ℕ) (few : length entries ≤ 2 ^ 20) where
  abbrev pub words : List ℕ
  words = map (word_of entries shift) (range_with_len 0 (length entries))

  long : length words ≡ length entries
  long = length-map (range_with_len 0 (length entries)) (word_of entries shift) ∙ length-range_with_len 0 (length entries)

  placed_at : (i : ℕ) → i < length entries → get_or (map (placed entries) words) i 0 ≡ get_or entries i 0
  placed_at i small =
      let word : get_or words i 0 ≡ word_of entries shift i = get_or-map-range_with_len (word_of entries shift) 0 (length entries) i i 0 small (omega arith) in
      let place : word_of entries shift i % 2 ^ 20 ≡ i = omega (arith, small, few) in
      get_or-map (placed entries) words i 0 0 (omega (arith, small, long)) ∙ ap (placed entries) word ∙ ap (λ k. get_or entries k 0) place

  pub unmoved : map (placed entries) words ≡ entries
  unmoved = ext_get_or 0 (map (placed entries) words) entries (length-map words (placed entries) ∙ long)
      (λ i small. placed_at i (omega (arith, small, length-map words (placed entries), long)))

pub moved : (entries words sorted ws found : List ℕ) (shift : ℕ) → length entries ≤ 2 ^ 20 → words ≡ map (word_of entries shift) (range_with_len 0 (length entries))
    → IsPermutation words sorted → ws ≡ sorted → found ≡ map (placed entries) ws → IsPermutation entries found
moved entries words sorted ws found shift few are permuted same is =
    subst (IsPermutation entries) (sym (is ∙ ap (map (placed entries)) same))
    (subst (λ l. IsPermutation l (map (placed entries) sorted)) (ap (map (placed entries)) are ∙ unmoved entries shift few)
    (IsPermutation-map (placed entries) words sorted permuted))
