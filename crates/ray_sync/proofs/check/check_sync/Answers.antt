use Rattle.std.proofs.Common.{◌∙◌, ap, length}
use Rattle.std.specs.Prelude.{slice_get}
use Rattle.ray_rules.specs.Order.{barriers}
use Rattle.ray_sync.specs.Hazards.{hazards_below}
use Rattle.ray_sync.proofs.Listing.{first-of-all, first-taken}
use Rattle.ray_sync.proofs.check.check_sync.Goals as goal

pub returns : goal.returns
returns c =
    let rec = c.args.rec.now in
    let n = length c.args.order.now in
    c.copied.ensures
    ∙ (c.first.ensures.value
    ∙ (ap (λ xs. slice_get xs 0) (c.as_slice.ensures.value ∙ c.in_ok-found.ensures)
    ∙ (first-taken (hazards_below (barriers rec) rec n) ∙ first-of-all (barriers rec) rec n)))
