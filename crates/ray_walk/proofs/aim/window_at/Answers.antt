use Rattle.std.proofs.Common.{Option, ◌≡◌, ◌∙◌, subst}
use Rattle.std.specs.Prelude.{IfSome}
use Rattle.ray_window.specs.Windows.{window_of}
use Rattle.ray_walk.specs.declared.aim.Seen.{Seen}
use Rattle.ray_walk.proofs.LeftOut.{window-same}
use Rattle.ray_walk.proofs.aim.window_at.Goals as goal

pub returns-then-is_same_limit-clause-value : goal.returns-then-is_same_limit-clause-value
returns-then-is_same_limit-clause-value c =
    let ray = c.args.aim.now.ray in
    let seen = c.in-Some.seen in
    subst (λ (o : Option Seen). IfSome o (λ s. s.window ≡ window_of ray s.limit)) c.in-Some.is c.requires.seen_is
    ∙ window-same ray seen.limit c.args.limit (c.is_same_limit.ensures c.if-is_same_limit.true)
