use Rattle.std.proofs.Common.{sym, subst, ◌-◌, ◌+◌, List, ℕ}
use Rattle.ray_bottom.specs.Builders.{bare}
use Rattle.ray_form.specs.Rows.{geometries_in}
use Rattle.ray_serial.proofs.Restore.{IsRestoring, room_next, whole_next, goes_on}
use Rattle.ray_serial.proofs.restoring.append_all.Goals as goal

pub append-requires-clause-room : goal.append-requires-clause-room
append-requires-clause-room c =
    room_next c.loop-i.i c.args.n c.loop-i.rest.now c.args.row.now (bare c.args.builder.now) (bare c.loop-i.builder) c.loop-i-test.true c.loop-i.invariant c.requires.limits

pub after_first-rest-requires : goal.after_first-rest-requires
after_first-rest-requires c =
    whole_next c.loop-i.i c.args.n c.loop-i.rest.now c.args.row.now (bare c.args.builder.now) (bare c.loop-i.builder) c.loop-i-test.true c.loop-i.invariant c.requires.limits

pub loop-i-preserved : goal.loop-i-preserved
loop-i-preserved c =
    let P : List ℕ → Type 0 = λ rest. IsRestoring (bare c.args.builder.now) (bare c.append.new.builder) (geometries_in (c.args.n - (c.loop-i.i + 1)) rest) (geometries_in c.args.n c.args.row.now) in
    subst P (sym c.after_first-rest.ensures)
    (goes_on c.loop-i.i c.args.n c.loop-i.rest.now c.args.row.now (bare c.args.builder.now) (bare c.loop-i.builder) (bare c.append.new.builder) c.loop-i-test.true c.loop-i.invariant
    c.requires.limits c.in_ok-append.ensures)
