use Rattle.std.proofs.Common.{rules, ◌≡◌, ◌∙◌, ◌∷◌, [], pos, length, get_or, arith, FitsSigned, to_z-of_z, w32}
use Rattle.std.proofs.lemmas.Simd.{pick_l_whole}
use Rattle.ray_lanes.proofs.overlap.load.Goals as goal

pub returns-clause-same : goal.returns-clause-same
returns-clause-same c =
    let xs = c.args.numbers.now in
    let long : length xs ≡ 8 = omega arith in
    let f0 : FitsSigned w32 (get_or xs 0 (pos 0)) = search rules in
    let f1 : FitsSigned w32 (get_or xs 1 (pos 0)) = search rules in
    let f2 : FitsSigned w32 (get_or xs 2 (pos 0)) = search rules in
    let f3 : FitsSigned w32 (get_or xs 3 (pos 0)) = search rules in
    let f4 : FitsSigned w32 (get_or xs 4 (pos 0)) = search rules in
    let f5 : FitsSigned w32 (get_or xs 5 (pos 0)) = search rules in
    let f6 : FitsSigned w32 (get_or xs 6 (pos 0)) = search rules in
    let f7 : FitsSigned w32 (get_or xs 7 (pos 0)) = search rules in
    (λ i. to_z-of_z f0 i ∷ to_z-of_z f1 i ∷ to_z-of_z f2 i ∷ to_z-of_z f3 i ∷ to_z-of_z f4 i ∷ to_z-of_z f5 i ∷ to_z-of_z f6 i ∷ to_z-of_z f7 i ∷ [])
    ∙ pick_l_whole (pos 0) xs 8 long
