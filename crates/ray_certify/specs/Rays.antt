-- The rays of a run's traces, in recording order, each with what it is traced through. (Own.)
use Rattle.std.specs.Prelude.{ℕ, zero, suc, ◌+◌, Option, Some, None, option_map, List, [], ◌∷◌}
use Rattle.ray_geom.specs.Scene.{RayValue}
use Rattle.ray_flags.specs.declared.ray_flags.RayFlags.{RayFlags}
use Rattle.ray_top.specs.Contents.{ContentsValue as TopContents}
use Rattle.ray_candidates.specs.Candidates.{Structures, joined}
use Rattle.ray_cmd.specs.declared.command.Command.{Command}
use Rattle.ray_cmd.specs.declared.command.Command.TheVariants as commands
use Rattle.ray_action.specs.Clients.{Meaning}
use Rattle.ray_action.specs.Pieces.{command_at, cull_mask}
use Rattle.ray_memory.specs.Tracing.{TraceSeen, ray_at, seen_of}
use Rattle.ray_permitted.specs.Along.{memory_below}
use Rattle.ray_permitted.specs.Job.{Job}
use Rattle.ray_certify.specs.declared.way.Way.{Way}

-- a ray, and the structures that it is traced through
pub record SeenRay : Type 0 where
  pub top : TopContents
  pub bottoms : Structures
  pub ray : RayValue

-- a ray of a trace: the trace's command, the ray's number in it, who decides on its candidates, its flags and cull mask; and the ray
-- with the structures, where they are there and the ray is within the limits
pub record TracedRay : Type 0 where
  pub command : ℕ
  pub number : ℕ
  pub meaning : Meaning
  pub flags : RayFlags
  pub mask : ℕ
  pub seen : Option SeenRay

abbrev pub seen_ray : Option TraceSeen → ℕ → Option SeenRay
seen_ray None k = None
seen_ray (Some seen) k = option_map (λ ray. record { top = seen.top.contents; bottoms = seen.bottoms; ray = ray }) (ray_at seen.rays k)

-- ray k of a trace that goes this way
abbrev pub traced_ray : Way → Meaning → Option TraceSeen → ℕ → TracedRay
traced_ray way meaning seen k = record {
  command = way.command;
  number = k;
  meaning = meaning;
  flags = way.flags;
  mask = way.mask;
  seen = seen_ray seen k;
}

-- the first so many
abbrev pub first_rays : Way → Meaning → Option TraceSeen → ℕ → List TracedRay
first_rays way meaning seen = joined (λ k. traced_ray way meaning seen k ∷ [])

-- those of a command, where it is a trace
abbrev pub rays_of : ℕ → Meaning → Option TraceSeen → Command → List TracedRay
rays_of i meaning seen (commands.Trace top rays count hits flags mask script) =
    first_rays (record { command = i; flags = flags; mask = cull_mask mask }) meaning seen count
rays_of i meaning seen _ = []

-- those of a command of a job, which reads what the commands before it leave in recording order
abbrev pub rays_at : Job → ℕ → List TracedRay
rays_at job i = let c = command_at job.commands i in rays_of i (job.clients i) (seen_of (memory_below job i) c) c

-- those of the first commands of a job
abbrev pub rays_below : Job → ℕ → List TracedRay
rays_below job n = joined (rays_at job) n

-- ---- how many

abbrev pub count_of : Command → ℕ
count_of (commands.Trace top rays count hits flags mask script) = count
count_of _ = 0

-- the rays of the traces among the first commands
unfoldable pub ray_count : List Command → ℕ → ℕ
ray_count rec zero = 0
ray_count rec (suc n) = ray_count rec n + count_of (command_at rec n)
