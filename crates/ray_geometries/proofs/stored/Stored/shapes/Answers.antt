use Rattle.std.proofs.Common.{◌≡◌, Some, rules}
use Rattle.ray_geometries.specs.Storing.{stored_shapes}
use Rattle.ray_geometries.proofs.Restoring.{AreStored-shapes}
use Rattle.ray_geometries.proofs.stored.Stored.shapes.Goals as goal

pub returns-clause-limits : goal.returns-clause-limits
returns-clause-limits c =
    let s = c.args.self.now in
    let e : stored_shapes s.kind s.format s.index_size s.count s.elements.now ≡ Some c.unwrap.result = search rules in
    AreStored-shapes s.kind s.format s.index_size s.count s.elements.now c.unwrap.result e
