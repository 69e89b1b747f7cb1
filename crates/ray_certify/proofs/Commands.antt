-- The rays of one command of a run more.
use Rattle.std.proofs.Common.{ℕ, ◌≡◌, ◌+◌, ◌++◌, List, [], ap, sym, subst}
use Rattle.ray_cmd.specs.declared.command.Command.{Command}
use Rattle.ray_action.specs.Memory.{Memory}
use Rattle.ray_action.specs.Pieces.{command_at}
use Rattle.ray_permitted.specs.Along.{memory_below}
use Rattle.ray_permitted.specs.Job.{Job, recorded}
use Rattle.ray_exec.specs.Runs.{IsRunTo}
use Rattle.ray_certify.specs.declared.verdict.Verdict.TheVariants.{Certified}
use Rattle.ray_certify.specs.declared.verifying.Checked.{Checked}
use Rattle.ray_certify.specs.Certified.{AreMade}
use Rattle.ray_certify.specs.Rays.{TracedRay, rays_at, rays_below}
use Rattle.ray_certify.specs.Scenes.{Adds, GoesOn, IsCheckedTo, rays_in}
use Rattle.ray_certify.proofs.Lines.{joined_more, joined_none}
use Rattle.ray_certify.proofs.Verdicts.{none_checked}

no_commands : (job : Job) → rays_below job 0 ≡ []
no_commands job = joined_none (rays_at job)

one_command : (job : Job) (i : ℕ) → rays_below job (i + 1) ≡ rays_below job i ++ rays_at job i
one_command job i = joined_more (rays_at job) i

-- the rays of a command in the memory that those before it left
rays_there : (rec : List Command) (i : ℕ) (m : Memory) (text : List ℕ) → IsRunTo (recorded rec) i m text → rays_in m i (command_at rec i) ≡ rays_at (recorded rec) i
rays_there rec i m text done =
    let same : m ≡ memory_below (recorded rec) i = λ j l. done.left l j in
    ap (λ (x : Memory). rays_in x i (command_at rec i)) same

pub made_none : (job : Job) (text : List ℕ) → text ≡ [] → AreMade (rays_below job 0) text
made_none job text empty = subst (λ (rs : List TracedRay). AreMade rs text) (sym (no_commands job)) (record { lines = empty; certify = tt })

pub made_more : (rec : List Command) (i : ℕ) (m : Memory) (text before after : List ℕ) → IsRunTo (recorded rec) i m text → AreMade (rays_below (recorded rec) i) before
    → Adds (rays_in m i (command_at rec i)) before after → AreMade (rays_below (recorded rec) (i + 1)) after
made_more rec i m text before after done made adds =
    subst (λ (rs : List TracedRay). AreMade rs after) (sym (one_command (recorded rec) i))
    (subst (λ (more : List TracedRay). Adds more before after) (rays_there rec i m text done) adds (rays_below (recorded rec) i) made)

pub checked_none : (job : Job) (lines : List (List ℕ)) → IsCheckedTo lines (rays_below job 0) (record { next = 0; verdict = Certified })
checked_none job lines = subst (λ (rs : List TracedRay). IsCheckedTo lines rs (record { next = 0; verdict = Certified })) (sym (no_commands job)) (none_checked lines)

pub checked_more : (rec : List Command) (i : ℕ) (m : Memory) (text : List ℕ) (lines : List (List ℕ)) (before after : Checked) → IsRunTo (recorded rec) i m text
    → IsCheckedTo lines (rays_below (recorded rec) i) before → GoesOn lines (rays_in m i (command_at rec i)) before after → IsCheckedTo lines (rays_below (recorded rec) (i + 1)) after
checked_more rec i m text lines before after done checked goes =
    subst (λ (rs : List TracedRay). IsCheckedTo lines rs after) (sym (one_command (recorded rec) i))
    (subst (λ (more : List TracedRay). GoesOn lines more before after) (rays_there rec i m text done) goes (rays_below (recorded rec) i) checked)
