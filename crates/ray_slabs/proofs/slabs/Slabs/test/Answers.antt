use Rattle.std.proofs.Common.{rules, ◌≡◌, ◌∙◌, to_z, of_z, w32, to_z-of_z}
use Rattle.ray_slabs.specs.Bounds.{bound_of}
use Rattle.ray_slabs.proofs.slabs.Slabs.test.Goals as goal

pub returns : goal.returns
returns c =
    let limit : to_z w32 (of_z w32 c.args.limit) ≡ c.args.limit = search (rules, to_z-of_z) in
    c.test_planes.ensures ∙ (λ i. bound_of c.args.self.now (limit i) (c.of.ensures.value i))
