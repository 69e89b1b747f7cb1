use Rattle.std.specs.Prelude.{Some}
use Rattle.ray_certify.specs.Rays.{first_rays}
use Rattle.ray_certify.specs.Scenes.{Adds, seen_in}
use Rattle.ray_certify.proofs.certifying.certify_rays.Given as goal

-- the text of the rays so far was added
abbrev pub invariant-loop-number : goal.invariant-loop-number
invariant-loop-number g l =
    Adds (first_rays l.fn.way (g.C.Client.meaning l.fn.client) (seen_in (Some l.fn.seen)) l.number) l.initial.lines.items l.lines.items
