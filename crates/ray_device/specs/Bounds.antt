-- How many primitives a fetch tests at most. (Own.)
use Rattle.std.specs.Prelude.{ℕ, zero, suc, ◌+◌, ◌*◌, Option, Some, None, List}
use Rattle.ray_geom.specs.Scene.{RayValue}
use Rattle.ray_flags.specs.declared.ray_flags.RayFlags.{RayFlags}
use Rattle.ray_bottom.specs.Slots.{Slots}
use Rattle.ray_top.specs.Trees.{TopWithTree}
use Rattle.ray_query.specs.Limits.{distance_of}
use Rattle.ray_nearest.specs.Scene.{opened_in}
use Rattle.ray_candidates.specs.Candidates.{trace_answer}
use Rattle.ray_candidates.specs.Standing.{structures_in}
use Rattle.ray_walk.specs.Traced.{traced_by, traced_scene}
use Rattle.ray_cmd.specs.declared.command.Command.{Command}
use Rattle.ray_cmd.specs.declared.command.Command.TheVariants as commands
use Rattle.ray_rules.specs.declared.byte_range.ByteRange.{ByteRange}
use Rattle.ray_rules.specs.Access.{rays_of_piece}
use Rattle.ray_action.specs.Memory.{bytes_at}
use Rattle.ray_action.specs.Pieces.{cull_mask}
use Rattle.ray_memory.specs.State.{StateValue, memory_of, top_at}
use Rattle.ray_action.specs.Pieces.{rays_range}
use Rattle.ray_action.specs.Clients.{Meaning}
use Rattle.ray_action.specs.Outcomes.{ray_in}

-- the sum of f over the numbers below n
unfoldable pub summed : (ℕ → ℕ) → ℕ → ℕ
summed f zero = 0
summed f (suc n) = summed f n + f n

-- the primitives of the leaves that are opened for a ray of a number, up to what it commits; for one beyond the limits none
abbrev pub most_by : TopWithTree → Slots → Meaning → RayFlags → ℕ → ℕ → Option RayValue → ℕ
most_by top bottoms meaning flags mask number None = 0
most_by top bottoms meaning flags mask number (Some ray) =
    opened_in (traced_scene (traced_by top bottoms ray flags mask))
    (distance_of (trace_answer meaning top.contents (structures_in bottoms) ray number flags mask))

-- the same of ray k in these bytes, of which the first has a number
abbrev pub most_in : TopWithTree → Slots → Meaning → RayFlags → ℕ → List ℕ → ℕ → ℕ → ℕ
most_in top bottoms meaning flags mask rays first k = most_by top bottoms meaning flags mask (first + k) (ray_in rays k)

-- and of so many of them
abbrev pub most_of_rays : TopWithTree → Slots → Meaning → RayFlags → ℕ → List ℕ → ℕ → ℕ → ℕ
most_of_rays top bottoms meaning flags mask rays first count = summed (most_in top bottoms meaning flags mask rays first) count

-- of the rays of a range, through the top structure of an id
abbrev pub most_through : Slots → Option (List ℕ) → Option TopWithTree → ℕ → ℕ → RayFlags → ℕ → Meaning → ℕ
most_through bottoms (Some rays) (Some top) first count flags mask meaning = most_of_rays top bottoms meaning flags mask rays first count
most_through bottoms _ _ first count flags mask meaning = 0

abbrev pub most_traced : StateValue → ℕ → ByteRange → ℕ → ℕ → RayFlags → ℕ → Meaning → ℕ
most_traced s id from first count flags mask meaning =
    most_through s.bottoms (bytes_at (memory_of s) from) (top_at id s) first count flags mask meaning

-- of part k of a command, by a client; only a trace tests primitives
unfoldable pub most_tested : StateValue → Meaning → Command → ℕ → ℕ
most_tested s meaning (commands.Trace top rays count hits flags mask script) k =
    most_traced s top (rays_range rays count k) (64 * k) (rays_of_piece count k) flags (cull_mask mask) meaning
most_tested s meaning _ k = 0
