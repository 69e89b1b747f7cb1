use Rattle.ray_top.specs.Trees.{without_tree}
use Rattle.ray_candidates.specs.Standing.{structures_in}
use Rattle.ray_device.specs.Bounds.{most_of_rays}
use Rattle.ray_device.specs.Tracing.{AreSoFar, rays_outcome}
use Rattle.ray_device.proofs.tracing.hits.Given as goal

-- the hits of the rays so far
abbrev pub invariant-loop-k : goal.invariant-loop-k
invariant-loop-k g l =
    AreSoFar (rays_outcome (without_tree l.fn.top) (structures_in l.fn.bottoms) (g.C.Client.meaning l.fn.client) l.fn.options.flags l.fn.options.mask l.fn.rays l.fn.options.number l.k)
    l.out.items l.initial.steps l.steps (most_of_rays l.fn.top l.fn.bottoms (g.C.Client.meaning l.fn.client) l.fn.options.flags l.fn.options.mask l.fn.rays l.fn.options.number l.k)
