use Rattle.std.proofs.Common.{rules}
use Rattle.std.proofs.lemmas.Int.{to_z-of_z}
use Rattle.ray_prune.proofs.Slabs.{EndsFit, ends_fit, near_end-negative, far_end-negative, near_end-positive, far_end-positive}
use Rattle.ray_prune.proofs.box_reach.ends.Goals as goal

pub returns-then-det-lt0-clause-value : goal.returns-then-det-lt0-clause-value
returns-then-det-lt0-clause-value c =
    let f : EndsFit c.args.det c.args.lo c.args.hi =
    ends_fit _ _ _ c.requires.det_short c.requires.lo_short c.requires.hi_short in
    let near = near_end-negative c.args.det c.args.lo c.args.hi (search (rules, to_z-of_z)) in
    let far = far_end-negative c.args.det c.args.lo c.args.hi (search (rules, to_z-of_z)) in
    search (rules, to_z-of_z)

pub returns-then-det-lt0-clause-near_short : goal.returns-then-det-lt0-clause-near_short
returns-then-det-lt0-clause-near_short c =
    let f : EndsFit c.args.det c.args.lo c.args.hi =
    ends_fit _ _ _ c.requires.det_short c.requires.lo_short c.requires.hi_short in
    search (rules, to_z-of_z)

pub returns-then-det-lt0-clause-far_short : goal.returns-then-det-lt0-clause-far_short
returns-then-det-lt0-clause-far_short c =
    let f : EndsFit c.args.det c.args.lo c.args.hi =
    ends_fit _ _ _ c.requires.det_short c.requires.lo_short c.requires.hi_short in
    search (rules, to_z-of_z)

pub returns-else-det-lt0-clause-value : goal.returns-else-det-lt0-clause-value
returns-else-det-lt0-clause-value c =
    let f : EndsFit c.args.det c.args.lo c.args.hi =
    ends_fit _ _ _ c.requires.det_short c.requires.lo_short c.requires.hi_short in
    let near = near_end-positive c.args.det c.args.lo c.args.hi (search (rules, to_z-of_z)) in
    let far = far_end-positive c.args.det c.args.lo c.args.hi (search (rules, to_z-of_z)) in
    search (rules, to_z-of_z)

pub returns-else-det-lt0-clause-near_short : goal.returns-else-det-lt0-clause-near_short
returns-else-det-lt0-clause-near_short c =
    let f : EndsFit c.args.det c.args.lo c.args.hi =
    ends_fit _ _ _ c.requires.det_short c.requires.lo_short c.requires.hi_short in
    search (rules, to_z-of_z)

pub returns-else-det-lt0-clause-far_short : goal.returns-else-det-lt0-clause-far_short
returns-else-det-lt0-clause-far_short c =
    let f : EndsFit c.args.det c.args.lo c.args.hi =
    ends_fit _ _ _ c.requires.det_short c.requires.lo_short c.requires.hi_short in
    search (rules, to_z-of_z)
