use Rattle.std.proofs.Common.{◌≡◌, ◌≤◌, ◌^◌, length, ap, arith}
use Rattle.std.proofs.lemmas.Result.{IfOk-weaker}
use Rattle.ray_geometries.specs.Contents.{total_of}
use Rattle.ray_bottom.specs.Trees.{items_of}
use Rattle.ray_bottom.proofs.Places.{items-within}
use Rattle.ray_bottom.proofs.builder.Builder.item_boxes.Goals as goal

pub returns-clause-few : goal.returns-clause-few
returns-clause-few c =
    let gs = c.as_slice.result.now in
    let few = c.geometries-limits.ensures.limits.primitives in
    IfOk-weaker c.items_of.result (λ v. v.items ≡ items_of gs) (λ v. length v.items ≤ 2 ^ 20)
    (λ v is. items-within gs v.items is (omega (arith, ap total_of c.as_slice.ensures))) c.items_of.ensures
