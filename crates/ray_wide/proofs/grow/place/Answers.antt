use Rattle.std.proofs.Common.{◌≤◌, length, refl, arith}
use Rattle.ray_wide.proofs.PlacedOne.{node-small, refs-room, tops-room, placed-refs, placed-tops}
use Rattle.ray_wide.proofs.grow.place.Goals as goal

pub place_one-requires-clause-node : goal.place_one-requires-clause-node
place_one-requires-clause-node c = node-small c.args.tree.now.nodes c.args.cut.now c.loop-branch.branch-index (omega arith) c.requires.each

pub place_one-requires-clause-room : goal.place_one-requires-clause-room
place_one-requires-clause-room c =
    let i = c.loop-branch.branch-index in
    let few : i ≤ length c.args.cut.now = omega arith in
    omega (arith, tops-room c.args.tree.now.nodes c.args.tops.now.items c.loop-branch.tops.items c.args.cut.now i few c.loop-branch.invariant.1)

pub push-requires : goal.push-requires
push-requires c =
    let i = c.loop-branch.branch-index in
    let few : i ≤ length c.args.cut.now = omega arith in (
      omega arith,
      omega (arith, refs-room c.args.tree.now.nodes c.args.tops.now.items c.args.cut.now i c.loop-branch.refs.items few c.loop-branch.invariant.0),
    )

pub loop-branch-preserved : goal.loop-branch-preserved
loop-branch-preserved c =
    let nodes = c.args.tree.now.nodes in
    let i = c.loop-branch.branch-index in
    let tops0 = c.args.tops.now.items in
    let tops = c.loop-branch.tops.items in
    let cut = c.args.cut.now in (
      placed-refs nodes tops0 tops cut i _ c.loop-branch.refs.items c.push.new.self.items c.in_ok-place_one.field-0 (omega arith) refl
          c.loop-branch.invariant.0 c.loop-branch.invariant.1 c.in_ok-place_one.ensures.child c.push.ensures.items,
      placed-tops nodes tops0 tops c.place_one.new.tops.items cut i _ (omega arith) refl c.loop-branch.invariant.1 c.in_ok-place_one.ensures.tops,
    )
