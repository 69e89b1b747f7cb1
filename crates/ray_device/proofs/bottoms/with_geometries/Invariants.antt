use Rattle.std.specs.Prelude.{drop}
use Rattle.ray_bottom.specs.Builders.{bare}
use Rattle.ray_memory.specs.State.{memory_of}
use Rattle.ray_device.specs.Bottoms.{add_all_now}
use Rattle.ray_device.proofs.Adding.{IsUnderWay}
use Rattle.ray_device.proofs.bottoms.with_geometries.Given as goal

-- those that are left can be added, and come to what comes of all
abbrev pub invariant-loop-geometry : goal.invariant-loop-geometry
invariant-loop-geometry l =
    IsUnderWay (memory_of l.fn.state) (add_all_now (memory_of l.fn.state) l.fn.geometries (bare l.initial.builder)) (drop l.geometry-index l.fn.geometries) (bare l.builder)
