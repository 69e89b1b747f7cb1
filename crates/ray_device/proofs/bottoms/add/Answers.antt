use Rattle.std.proofs.Common.{sym, subst, None}
use Rattle.std.specs.Prelude.{slice_index_or}
use Rattle.ray_bottom.specs.Builders.{bare, IsAdded}
use Rattle.ray_action.specs.Building.{add_read}
use Rattle.ray_action.specs.Seeing.{see_range}
use Rattle.ray_memory.specs.State.{memory_of}
use Rattle.ray_device.proofs.Adding.{add_is, transform_there}
use Rattle.ray_device.proofs.bottoms.add.Goals as goal

pub add_triangles-requires-clause-there : goal.add_triangles-requires-clause-there
add_triangles-requires-clause-there c =
    transform_there (memory_of c.args.state.now) c.args.geometry.now c.size_of_content.result c.ranges_read.result
    c.requires.there c.size_of_content.ensures c.ranges_read.ensures

pub returns-in-Triangles : goal.returns-in-Triangles
returns-in-Triangles c =
    let m = memory_of c.args.state.now in
    let b = bare c.args.builder.now in
    let rs = c.ranges_read.result in
    subst (λ r. IsAdded b r (bare c.add_triangles.new.builder) c.add_triangles.result)
    (add_is m b c.args.geometry.now c.size_of_content.result rs c.size_of_content.ensures c.ranges_read.ensures)
    (subst (λ g. IsAdded b (add_read b g (see_range m (slice_index_or rs 0 None)) (see_range m (slice_index_or rs 1 None)) (see_range m (slice_index_or rs 2 None))) (bare c.add_triangles.new.builder) c.add_triangles.result)
    (sym c.in-Triangles.is) c.add_triangles.ensures)
