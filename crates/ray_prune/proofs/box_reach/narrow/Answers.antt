use Rattle.std.proofs.Common.{rules}
use Rattle.std.specs.Int.{w64}
use Rattle.std.specs.Int.RustNames.{FitsSigned}
use Rattle.std.proofs.lemmas.Int.{to_z-of_z}
use Rattle.ray_prune.proofs.Slabs.{Narrows-ends}
use Rattle.ray_prune.proofs.box_reach.narrow.Goals as goal

pub returns-clause-some : goal.returns-clause-some
returns-clause-some c =
    let near : FitsSigned w64 c.args.slab.near = search rules in
    let far : FitsSigned w64 c.args.slab.far = search rules in
    Narrows-ends c.args.reach c.in_ok-entry.entry c.in_ok-exit.exit c.args.slab
    (simp to_z-of_z at c.in_ok-entry.ensures.some) (simp to_z-of_z at c.in_ok-exit.ensures.some)
