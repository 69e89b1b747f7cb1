-- What holds of the certificates of a run. (Own.)
use Rattle.std.specs.Prelude.{ℕ, ◌≡◌, ◌≤◌, List, length}
use Rattle.ray_action.specs.Running.{Text}
use Rattle.ray_permitted.specs.Along.{run_below}
use Rattle.ray_permitted.specs.Job.{Job}
use Rattle.ray_ready.specs.Accepted.{KeepStaticRules}
use Rattle.ray_certify.specs.Certified.{certificate_lines}
use Rattle.ray_certify.specs.Rays.{ray_count, rays_below}

-- where the first commands of a job keep the static rules and come to a text, there are as many lines of certificates as their traces
-- have rays: each of these is there, and within the limits
abbrev pub EachRayHasItsLine : Type 0
EachRayHasItsLine =
    (job : Job) (n : ℕ) (text : List ℕ)
    → n ≤ length job.commands → KeepStaticRules job.commands n → run_below job n ≡ Text text
    → length (certificate_lines (rays_below job n)) ≡ ray_count job.commands n
