use Rattle.std.proofs.Common.{◌∙◌, ap, sym}
use Rattle.std.specs.List.{list_any}
use Rattle.std.proofs.lemmas.List.Sorted.{list_any-IsPermutation}
use Rattle.ray_hazards.specs.Reaching.{reaches}
use Rattle.ray_hazards.proofs.merging.merged.Goals as goal

pub returns : goal.returns
returns c = λ test k.
    let p = reaches c.args.cells.now test k in
    list_any-IsPermutation p c.args.touches.items c.sort_unstable_by_key.new.self.items c.sort_unstable_by_key.ensures.permutation
    ∙ (ap (list_any p) (sym c.as_slice.ensures.value) ∙ c.in_ok-few.ensures test k)
