use Rattle.std.proofs.Common.{◌≡◌, ◌≤◌, ◌^◌, ◌∙◌, length, ap, arith}
use Rattle.std.proofs.lemmas.Result.{IfOk-weaker}
use Rattle.ray_geometries.specs.Contents.{total_of}
use Rattle.ray_bottom.specs.Trees.{BottomWithTree, items_of}
use Rattle.ray_bottom.proofs.Places.{items-within}
use Rattle.ray_bottom.proofs.bottom.Bottom.item_boxes.Goals as goal

pub returns-clause-few : goal.returns-clause-few
returns-clause-few g c =
    let gs = c.as_slice.result.now in
    let few = c.total-total.ensures.limits.primitives in
    let same = c.as_slice.ensures ∙ ap (λ (v : BottomWithTree). v.geometries) c.self.view_is in
    IfOk-weaker c.items_of.result (λ v. v.items ≡ items_of gs) (λ v. length v.items ≤ 2 ^ 20)
    (λ v is. items-within gs v.items is (omega (arith, ap total_of same))) c.items_of.ensures
