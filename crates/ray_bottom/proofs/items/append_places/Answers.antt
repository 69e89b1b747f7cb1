use Rattle.std.proofs.Common.{◌++◌, ◌∷◌, [], sym, ap, ◌∙◌, arith, map, append_assoc}
use Rattle.std.specs.List.{range_with_len}
use Rattle.std.proofs.lemmas.List.FromFn.{map-range_with_len_more}
use Rattle.ray_leaves.specs.Places.{place_of}
use Rattle.ray_bottom.proofs.items.append_places.Goals as goal

pub loop-primitive-preserved : goal.loop-primitive-preserved
loop-primitive-preserved c =
    let own = place_of c.args.geometry in
    let n = c.loop-primitive.primitive in
    c.in_ok-push.ensures.items
    ∙ (ap (λ xs. xs ++ own n ∷ []) c.loop-primitive.invariant
    ∙ (append_assoc c.args.places.now.items (map own (range_with_len 0 n)) (own n ∷ [])
    ∙ ap (λ ys. c.args.places.now.items ++ ys) (sym (map-range_with_len_more own 0 n n (omega arith)))))
