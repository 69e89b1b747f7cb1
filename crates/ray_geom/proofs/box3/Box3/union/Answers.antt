use Rattle.std.proofs.Common.{rules}
use Rattle.std.proofs.lemmas.Int.{to_z-of_z}
use Rattle.ray_geom.specs.Boxes.{IsBox, box_value}
use Rattle.ray_geom.specs.LeastBoxes.{union_of}
use Rattle.ray_geom.proofs.LeastBoxes.{IsBox-union, IsLeast-is_union}
use Rattle.ray_geom.proofs.box3.Box3.union.Goals as goal

pub invariant_of-result : goal.invariant_of-result
invariant_of-result c =
    let this = box_value c.self.inside.lo c.self.inside.hi in
    let that = box_value c.other.inside.lo c.other.inside.hi in
    let limits : IsBox (union_of this that) = IsBox-union this that c.self.invariant c.other.invariant in
    search (rules, to_z-of_z)

pub returns-clause-value : goal.returns-clause-value
returns-clause-value c = search (rules, to_z-of_z)

pub returns-clause-least : goal.returns-clause-least
returns-clause-least c = IsLeast-is_union c.args.self.now c.args.other.now _ (search (rules, to_z-of_z))
