use Rattle.std.proofs.Common.{◌≡◌, suc, ◌+◌, length, sym, ◌∙◌, ap, subst, arith, length-append}
use Rattle.ray_sync.specs.Kinds.{AreFronts, kind_number}
use Rattle.ray_sync.specs.Rows.{AreBests, HaveNumbers, IsBest, IsOrderOf, wave_of}
use Rattle.ray_sync.proofs.Chains.{AreLimits}
use Rattle.ray_sync.proofs.Limits.{fronts-next}
use Rattle.ray_sync.proofs.Steps.{IsWave, kind-number, limits-are, have-numbers, bests-next, best-after, rows-next, row-next, wave-next}
use Rattle.ray_sync.proofs.order.order_of.Goals as goal

pub wave_of-wave-requires : goal.wave_of-wave-requires
wave_of-wave-requires c =
    let kind : c.kind_of-kind.result ≡ kind_number c.args.rec.now c.loop-n.n =
    kind-number c.args.rec.now c.loop-n.n c.command-command.result.now c.kind_of-kind.result
    c.command-command.ensures c.kind_of-kind.ensures
    in
    subst (λ bests. HaveNumbers bests c.limits-limits.result) (sym c.as_slice.ensures.value)
    (have-numbers c.args.rec.now c.loop-n.n c.loop-n.bests.items c.limits-limits.result c.loop-n.invariant.bests
    (limits-are c.args.rec.now c.loop-n.n c.loop-n.fronts c.kind_of-kind.result c.limits-limits.result
    c.loop-n.invariant.fronts kind c.limits-limits.ensures))

pub overflow_add-wave : goal.overflow_add-wave
overflow_add-wave c =
    let kind : c.kind_of-kind.result ≡ kind_number c.args.rec.now c.loop-n.n =
    kind-number c.args.rec.now c.loop-n.n c.command-command.result.now c.kind_of-kind.result
    c.command-command.ensures c.kind_of-kind.ensures
    in
    let limits : AreLimits c.args.rec.now c.loop-n.n c.limits-limits.result =
    limits-are c.args.rec.now c.loop-n.n c.loop-n.fronts c.kind_of-kind.result c.limits-limits.result
    c.loop-n.invariant.fronts kind c.limits-limits.ensures
    in
    let wave : IsWave c.args.rec.now c.loop-n.n c.wave_of-wave.result =
    wave-next c.args.rec.now c.loop-n.n c.loop-n.bests.items c.limits-limits.result c.wave_of-wave.result
    c.loop-n.invariant.bests limits
    (c.wave_of-wave.ensures ∙ ap (λ bests. wave_of bests c.limits-limits.result) c.as_slice.ensures.value)
    in
    let within = wave.within in
    let t = c.loop-n-test.true in
    let u = c.ranges.until.fits in
    omega arith

pub loop-n-preserved : goal.loop-n-preserved
loop-n-preserved c =
    let kind : c.kind_of-kind.result ≡ kind_number c.args.rec.now c.loop-n.n =
    kind-number c.args.rec.now c.loop-n.n c.command-command.result.now c.kind_of-kind.result
    c.command-command.ensures c.kind_of-kind.ensures
    in
    let limits : AreLimits c.args.rec.now c.loop-n.n c.limits-limits.result =
    limits-are c.args.rec.now c.loop-n.n c.loop-n.fronts c.kind_of-kind.result c.limits-limits.result
    c.loop-n.invariant.fronts kind c.limits-limits.ensures
    in
    let wave : IsWave c.args.rec.now c.loop-n.n c.wave_of-wave.result =
    wave-next c.args.rec.now c.loop-n.n c.loop-n.bests.items c.limits-limits.result c.wave_of-wave.result
    c.loop-n.invariant.bests limits
    (c.wave_of-wave.ensures ∙ ap (λ bests. wave_of bests c.limits-limits.result) c.as_slice.ensures.value)
    in
    let best : IsBest c.args.rec.now (c.loop-n.n + 1) c.raised-best.result =
    best-after c.args.rec.now c.loop-n.n c.kind_of-kind.result c.loop-n.best c.raised-best.result
    c.wave_of-wave.result kind c.loop-n.invariant.best wave c.raised-best.ensures
    in
    let more : suc c.loop-n.n ≡ c.loop-n.n + 1 = omega arith in
    record {
      fronts =
          subst (λ m. AreFronts c.args.rec.now m c.after-fronts.result) more
          (subst (AreFronts c.args.rec.now (suc c.loop-n.n)) (sym c.after-fronts.ensures)
          (fronts-next c.args.rec.now c.loop-n.n c.loop-n.fronts c.command-command.result.now c.command-command.ensures
          c.loop-n.invariant.fronts));
      best = best;
      bests =
          subst (λ m. AreBests c.args.rec.now m c.push-in-loop-n-2.new.self.items) more
          (subst (AreBests c.args.rec.now (suc c.loop-n.n)) (sym c.in_ok-push-3.ensures.items)
          (bests-next c.args.rec.now c.loop-n.n c.loop-n.bests.items c.raised-best.result c.loop-n.invariant.bests
          (subst (λ m. IsBest c.args.rec.now m c.raised-best.result) (sym more) best)));
      many =
          ap length c.in_ok-push-2.ensures.items
          ∙ (length-append c.loop-n.rows.items _ ∙ (let m = c.loop-n.invariant.many in omega arith));
      rows =
          subst (IsOrderOf c.args.rec.now) (sym c.in_ok-push-2.ensures.items)
          (rows-next c.args.rec.now c.loop-n.n c.loop-n.rows.items
          (record { kind = c.kind_of-kind.result; limits = c.limits-limits.result; wave = c.wave_of-wave.result })
          c.loop-n.invariant.many c.loop-n.invariant.rows
          (row-next c.args.rec.now c.loop-n.n c.kind_of-kind.result c.limits-limits.result c.wave_of-wave.result kind
          limits wave));
    }
