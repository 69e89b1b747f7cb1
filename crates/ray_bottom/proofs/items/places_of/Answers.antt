use Rattle.std.proofs.Common.{map, ◌≡◌, ◌∙◌}
use Rattle.std.proofs.lemmas.Result.{IfOk-weaker}
use Rattle.ray_bottom.specs.Trees.{place_at, place_in_one}
use Rattle.ray_bottom.proofs.Places.{alone, places-alone}
use Rattle.ray_bottom.proofs.items.places_of.Goals as goal

pub returns-in-len1 : goal.returns-in-len1
returns-in-len1 c =
    let gs = c.args.geometries.now in
    let g = c.g-item.result in
    let numbers = c.args.numbers.now in
    let one = alone gs g c.in-len1.len_at_least c.in-len1.len_below c.g-item.is in
    IfOk-weaker c.places_in_one.result (λ v. v.items ≡ map (place_in_one c.count.result) numbers) (λ v. v.items ≡ map (place_at gs) numbers)
    (λ v made. made ∙ places-alone gs g c.count.result numbers one c.count.ensures) c.places_in_one.ensures
