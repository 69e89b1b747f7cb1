use Rattle.std.proofs.Common.{◌≡◌, ◌∙◌, ◌+◌, ◌++◌, ◌∷◌, [], suc, length, length-append, map, slice_get, subst, sym, ap, arith}
use Rattle.ray_chains.specs.Fronts.{greatest_of}
use Rattle.ray_queues.specs.declared.order.Row.{Row}
use Rattle.ray_queues.specs.Keeping.{IsKeeping}
use Rattle.ray_queues.specs.Kinds.{all_kinds, kind_named}
use Rattle.ray_queues.specs.Rows.{HaveBests, best_in}
use Rattle.ray_queues.proofs.Longest.{best-after, best-first, bests-after, bests-first, have-bests, kind-here, rows-after, rows-none, wave-is, wave-within, waves-after}
use Rattle.ray_queues.proofs.order.queue_waves.Goals as goal

pub loop-n-init : goal.loop-n-init
loop-n-init c =
    let q = c.args.rec.now in
    let best = c.none-best.result in
    record {
      keeping = c.new-keeping.ensures q;
      best = best-first q best c.none-best.ensures;
      bests =
          bests-first q best _ c.none-best.ensures
          (c.in_ok-push.ensures.items ∙ ap (λ bs. bs ++ best ∷ []) c.new-bests.ensures.items);
      many = ap length c.new-rows.ensures.items;
      rows = rows-none q _ c.new-rows.ensures.items;
      waves = c.new-waves.ensures.items ∙ ap (map (λ (row : Row). row.wave)) (sym c.new-rows.ensures.items);
    }

pub wave_of-wave-requires : goal.wave_of-wave-requires
wave_of-wave-requires c =
    let q = c.args.rec.now in
    let l = c.loop-n in
    let kind = kind-here q.commands l.n c.command.result.now c.kind_of-kind.result
    ((λ i. slice_get (sym c.recording.ensures i) l.n) ∙ c.command.ensures) c.kind_of-kind.ensures in
    let limits = c.limits-limits.result in
    let is = c.limits-limits.ensures q c.queues_law.ensures l.invariant.keeping kind c.queue_of-queue.ensures in
    subst (λ bs. HaveBests bs limits) (sym c.as_slice.ensures.value)
    (have-bests q l.bests.items l.n limits l.invariant.bests is)

pub overflow_add-wave : goal.overflow_add-wave
overflow_add-wave c =
    let q = c.args.rec.now in
    let l = c.loop-n in
    let kind = kind-here q.commands l.n c.command.result.now c.kind_of-kind.result
    ((λ i. slice_get (sym c.recording.ensures i) l.n) ∙ c.command.ensures) c.kind_of-kind.ensures in
    let limits = c.limits-limits.result in
    let is = c.limits-limits.ensures q c.queues_law.ensures l.invariant.keeping kind c.queue_of-queue.ensures in
    let wave = c.wave_of-wave.ensures ∙ ap (λ bs. greatest_of (best_in bs limits) all_kinds) c.as_slice.ensures.value in
    let within = wave-within q l.bests.items l.n limits l.invariant.bests is c.wave_of-wave.result wave in
    let t = c.loop-n-test.true in
    let u = c.ranges.until.fits in
    omega arith

pub loop-n-preserved : goal.loop-n-preserved
loop-n-preserved c =
    let q = c.args.rec.now in
    let l = c.loop-n in
    let kind = kind-here q.commands l.n c.command.result.now c.kind_of-kind.result
    ((λ i. slice_get (sym c.recording.ensures i) l.n) ∙ c.command.ensures) c.kind_of-kind.ensures in
    let limits = c.limits-limits.result in
    let is = c.limits-limits.ensures q c.queues_law.ensures l.invariant.keeping kind c.queue_of-queue.ensures in
    let number = c.wave_of-wave.result in
    let wave = c.wave_of-wave.ensures ∙ ap (λ bs. greatest_of (best_in bs limits) all_kinds) c.as_slice.ensures.value in
    let low = wave-within q l.bests.items l.n limits l.invariant.bests is number wave in
    let long = wave-is q l.bests.items l.n limits l.invariant.bests is number wave in
    let named = c.kind_named-kind.ensures ∙ λ i. kind_named (kind i) (c.queue_of-queue.ensures i) in
    let more : suc l.n ≡ l.n + 1 = omega arith in
    let best =
    best-after q l.n l.best c.raised-best.result c.kind_named-kind.result number named c.raised-best.ensures
    l.invariant.best long low in
    let row : Row = record { kind = c.kind_named-kind.result; limits = limits; wave = number } in
    record {
      keeping = subst (λ m. IsKeeping q m c.pass.new.self) more (c.in_ok-pass.ensures c.queues_law.ensures l.invariant.keeping);
      best = best;
      bests = bests-after q l.n l.bests.items _ c.raised-best.result c.in_ok-push-4.ensures.items l.invariant.bests best;
      many =
          ap length c.in_ok-push-2.ensures.items
          ∙ (length-append l.rows.items (row ∷ []) ∙ ap (λ m. m + 1) l.invariant.many);
      rows =
          rows-after q l.n l.rows.items _ row c.in_ok-push-2.ensures.items l.invariant.many l.invariant.rows
          (record { kind = named; limits = is; wave = long });
      waves =
          waves-after l.rows.items _ l.waves.items _ row c.in_ok-push-2.ensures.items c.in_ok-push-3.ensures.items
          l.invariant.waves;
    }
