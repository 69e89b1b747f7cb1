use Rattle.std.proofs.Common.{ℕ, Bool, ◌+◌, length, take, sym, ap, ◌∙◌, arith}
use Rattle.std.specs.Prelude.{if◌then◌else◌}
use Rattle.ray_serial.specs.TopWritten.{handles_of}
use Rattle.ray_serial.proofs.TopSteps.{handles_none}
use Rattle.ray_serial.proofs.Distinct.{handles_counted}
use Rattle.ray_serial.proofs.counting.handle_count.Goals as goal
use Rattle.ray_serial.proofs.counting.handle_count.Goals.{then-is_first, else-is_first}

pub loop-i-init : goal.loop-i-init
loop-i-init c = (sym (ap length handles_none), omega arith)

pub loop-i-preserved : goal.loop-i-preserved
loop-i-preserved c =
    let instances = c.args.top.now.contents.instances in
    let more = handles_counted instances c.loop-i.i (omega (arith, c.len-i-end.ensures.value)) in
    let so_far = c.loop-i.invariant.0 in
    let few = c.loop-i.invariant.1 in
    let by = λ (b : Bool). length (handles_of (take c.loop-i.i instances)) + (if b then 1 else 0) in
    elim c.if-is_first.branch [
      | then-is_first w ↦
          let step = more ∙ ap by (sym c.is_first.ensures ∙ w.if-is_first.true) in
          let count = w.count-is in
          (count ∙ (ap (λ (n : ℕ). n + 1) so_far ∙ sym step), omega arith)
      | else-is_first w ↦
          let step = more ∙ ap by (sym c.is_first.ensures ∙ w.if-is_first.false) in
          let count = w.count-is in
          (count ∙ (so_far ∙ (omega arith ∙ sym step)), omega arith)
    ]
