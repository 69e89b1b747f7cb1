use Rattle.std.proofs.Common.{rules, ◌≡◌, ◌∙◌, ◌∷◌, [], pos, length, map, ap, arith, get_or, FitsSigned, of_z, to_z-of_z, w32}
use Rattle.std.proofs.lemmas.Simd.{pick_l_whole}
use Rattle.ray_slabs.proofs.rows.words_row.Goals as goal

pub returns-clause-words : goal.returns-clause-words
returns-clause-words c =
    let xs = c.args.row.now in
    let long : length xs ≡ 8 = omega arith in
    let f0 : FitsSigned w32 (get_or xs 0 (pos 0)) = search rules in
    let f1 : FitsSigned w32 (get_or xs 1 (pos 0)) = search rules in
    let f2 : FitsSigned w32 (get_or xs 2 (pos 0)) = search rules in
    let f3 : FitsSigned w32 (get_or xs 3 (pos 0)) = search rules in
    let f4 : FitsSigned w32 (get_or xs 4 (pos 0)) = search rules in
    let f5 : FitsSigned w32 (get_or xs 5 (pos 0)) = search rules in
    let f6 : FitsSigned w32 (get_or xs 6 (pos 0)) = search rules in
    let f7 : FitsSigned w32 (get_or xs 7 (pos 0)) = search rules in
    let words : c.cast_unsigned.result ∷ c.cast_unsigned-2.result ∷ c.cast_unsigned-3.result ∷ c.cast_unsigned-4.result ∷ c.cast_unsigned-5.result
    ∷ c.cast_unsigned-6.result ∷ c.cast_unsigned-7.result ∷ c.cast_unsigned-8.result ∷ [] ≡ _ =
    (λ i. c.cast_unsigned.ensures i ∷ c.cast_unsigned-2.ensures i ∷ c.cast_unsigned-3.ensures i ∷ c.cast_unsigned-4.ensures i ∷ c.cast_unsigned-5.ensures i
    ∷ c.cast_unsigned-6.ensures i ∷ c.cast_unsigned-7.ensures i ∷ c.cast_unsigned-8.ensures i ∷ []) in
    words
    ∙ ((λ i. of_z w32 (to_z-of_z f0 i) ∷ of_z w32 (to_z-of_z f1 i) ∷ of_z w32 (to_z-of_z f2 i) ∷ of_z w32 (to_z-of_z f3 i)
    ∷ of_z w32 (to_z-of_z f4 i) ∷ of_z w32 (to_z-of_z f5 i) ∷ of_z w32 (to_z-of_z f6 i) ∷ of_z w32 (to_z-of_z f7 i) ∷ [])
    ∙ ap (map (of_z w32)) (pick_l_whole (pos 0) xs 8 long))
