-- Lists that are made number after number.
use Rattle.std.proofs.Common.{◌≡◌, ◌+◌, ◌/◌, ◌%◌, ◌<◌, ◌++◌, ◌∷◌, ◌∙◌, [], ℕ, zero, suc, List, refl, ap, sym, arith, length, take, get_or, slice_index}
use Rattle.std.specs.List.{flat_map, range_with_len}
use Rattle.std.proofs.lemmas.List.{append_assoc, append-nil, take_more}
use Rattle.std.proofs.lemmas.List.Concat.{flat_map-append}
use Rattle.byteorder.specs.Endian.{little_bytes}
use Rattle.hex.specs.Hex.{encode_lower, encode_with, lower_digits}
use Rattle.ray_scene.specs.Grid.{below, bytes_of, words_below}
use Rattle.ray_scene.specs.Text.{digits_text}

-- one number more
range_more : (a n : ℕ) → range_with_len a (suc n) ≡ range_with_len a n ++ (a + n) ∷ []
range_more a zero = ap (λ k. k ∷ []) (omega arith)
range_more a (suc n) =
    ap (λ ks. a ∷ ks) (range_more (a + 1) n ∙ ap (λ k. range_with_len (a + 1) n ++ k ∷ []) (omega arith))

pub below_more : (n : ℕ) → below (n + 1) ≡ below n ++ n ∷ []
below_more n =
    let more : n + 1 ≡ suc n = omega arith in
    let at : 0 + n ≡ n = omega arith in
    ap (range_with_len 0) more ∙ (range_more 0 n ∙ ap (λ k. below n ++ k ∷ []) at)

-- the words of one number more
pub words_below_more : (words : ℕ → List ℕ) (n : ℕ) → words_below words (n + 1) ≡ words_below words n ++ words n
words_below_more words n =
    ap (flat_map words) (below_more n)
    ∙ (flat_map-append words (below n) (n ∷ []) ∙ ap (λ ws. words_below words n ++ ws) (append-nil (words n)))

-- the same after other words
pub more_words : (old : List ℕ) (words : ℕ → List ℕ) (n : ℕ)
    → old ++ words_below words n ++ words n ≡ old ++ words_below words (n + 1)
more_words old words n =
    append_assoc old (words_below words n) (words n) ∙ ap (λ ws. old ++ ws) (sym (words_below_more words n))

-- the digits of bytes and further bytes
encode_append : (xs ys : List ℕ) → encode_lower (xs ++ ys) ≡ encode_lower xs ++ encode_lower ys
unfolding encode_with
encode_append [] ys = refl
encode_append (x ∷ xs) ys =
    ap (λ zs. slice_index lower_digits (x / 16) ∷ slice_index lower_digits (x % 16) ∷ zs) (encode_append xs ys)

-- the digits of one word more
pub more_digits : (old words : List ℕ) (k d : ℕ) → k < length words
    → (old ++ digits_text (take k words)) ++ encode_lower (little_bytes 4 (get_or words k d))
    ≡ old ++ digits_text (take (k + 1) words)
unfolding bytes_of
more_digits old words k d below =
    append_assoc old (digits_text (take k words)) (encode_lower (little_bytes 4 (get_or words k d)))
    ∙ ap (λ ds. old ++ ds) (
    sym (encode_append (bytes_of (take k words)) (little_bytes 4 (get_or words k d)))
    ∙ (ap encode_lower (sym (flat_map-append (little_bytes 4) (take k words) (get_or words k d ∷ [])))
    ∙ ap digits_text (sym (take_more words k d below))))

-- those of none
pub no_digits : (old : List ℕ) → old ≡ old ++ digits_text []
unfolding bytes_of encode_with
no_digits old = sym (append-nil old)
