use Rattle.std.proofs.Common.{◌∙◌, ℕ, rules, arith, below_more, refl, sym}
use Rattle.ray_tree.specs.Local.{IsLocalAt}
use Rattle.ray_tree.proofs.least.are_least.Goals as goal

pub returns-then-not-is_least : goal.returns-then-not-is_least
returns-then-not-is_least c = (λ h. cc, λ all. sym c.if-not-is_least.true ∙ c.is_least.ensures.1 (all.each c.loop-n.n (omega arith)))

pub loop-n-preserved : goal.loop-n-preserved
loop-n-preserved c =
    let P : ℕ → Type 0 = λ k. IsLocalAt c.args.items.now c.args.order.now c.args.boxes.now c.args.nodes.now k in
    below_more P c.loop-n.n c.loop-n.invariant (c.is_least.ensures.0 (search rules))

pub returns : goal.returns
returns c = (λ h. record { each = λ k small. c.loop-n.invariant k (omega arith) }, λ all. refl)
