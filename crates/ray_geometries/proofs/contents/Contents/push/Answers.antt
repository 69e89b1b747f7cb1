use Rattle.std.proofs.Common.{◌≤◌, ◌+◌, length, arith, sym, subst}
use Rattle.ray_geometries.specs.Contents.{ContentsValue, HasRoom, kind_of, count_of, boxes_of}
use Rattle.ray_geometries.specs.Tallies.{contents_value}
use Rattle.ray_geometries.proofs.Growing.{active-fits, IsTallied-more}
use Rattle.ray_geometries.proofs.contents.Contents.push.Goals as goal

pub overflow_cast-active : goal.overflow_cast-active
overflow_cast-active c =
    let room = subst (λ (v : ContentsValue). HasRoom (kind_of c.args.geometry) (count_of c.args.geometry) v.geometries) (sym c.self.view_is) c.requires.room in
    let fits : c.self.inside.active + length (boxes_of c.args.geometry) ≤ c.self.inside.total + count_of c.args.geometry =
    active-fits (contents_value c.self.inside.flags c.self.inside.geometries.items) c.args.geometry _ _ _ c.self.invariant room in
    let total = c.self.invariant.total_is in
    let all = room.primitives in
    let count = c.tally-tally.ensures.active in
    omega arith

pub overflow_add-active : goal.overflow_add-active
overflow_add-active c =
    let room = subst (λ (v : ContentsValue). HasRoom (kind_of c.args.geometry) (count_of c.args.geometry) v.geometries) (sym c.self.view_is) c.requires.room in
    let fits : c.self.inside.active + length (boxes_of c.args.geometry) ≤ c.self.inside.total + count_of c.args.geometry =
    active-fits (contents_value c.self.inside.flags c.self.inside.geometries.items) c.args.geometry _ _ _ c.self.invariant room in
    let total = c.self.invariant.total_is in
    let all = room.primitives in
    let count = c.tally-tally.ensures.active in
    omega arith

pub invariant_of-self-2 : goal.invariant_of-self-2
invariant_of-self-2 c =
    let room = subst (λ (v : ContentsValue). HasRoom (kind_of c.args.geometry) (count_of c.args.geometry) v.geometries) (sym c.self.view_is) c.requires.room in
    let more =
    IsTallied-more (contents_value c.self.inside.flags c.self.inside.geometries.items) c.args.geometry _ _ _ c.self.invariant room c.requires.limits in
    rw (c.in_ok-push.ensures.items, c.tally-tally.ensures.bounds, c.count.ensures, c.tally-tally.ensures.active) more
