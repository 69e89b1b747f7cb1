-- What the rays of a piece give, where structures are looked up under their ids as they are, and not among
-- those that are named to be in use. (Own.)
use Rattle.std.specs.Prelude.{ℕ, ◌≡◌, ◌+◌, ◌≤◌, List, Option, Some, Result, Ok, Err}
use Rattle.std.specs.Option.{option_and_then}
use Rattle.ray_flags.specs.declared.ray_flags.RayFlags.{RayFlags}
use Rattle.ray_bytes.specs.declared.hit_record.HitRecord.{HitRecord}
use Rattle.ray_bytes.specs.Hits.{hit_bytes}
use Rattle.ray_contents.specs.Gathering.{gathered}
use Rattle.ray_top.specs.Contents.{TopValue}
use Rattle.ray_candidates.specs.Candidates.{Structures}
use Rattle.ray_rules.specs.declared.byte_range.ByteRange.{ByteRange}
use Rattle.ray_action.specs.Memory.{Memory, as_top, bytes_at, ContentsAt}
use Rattle.ray_action.specs.Clients.{Meaning}
use Rattle.ray_action.specs.Outcomes.{Fault, Outcome, Gives, Bytes, Undefined, hit_by, hits_outcome, ray_in}
use Rattle.ray_action.specs.Traceable.{bottoms_of}
use Rattle.ray_device.specs.declared.fetch_fault.FetchFault.{FetchFault}
use Rattle.ray_device.specs.declared.fetch_fault.FetchFault.TheVariants.{Data, NoMemory}

-- the bytes of the hit of ray k in these bytes, of which the first has a number; X11 where it is beyond the limits
abbrev pub hit_in : TopValue → Structures → Meaning → RayFlags → ℕ → List ℕ → ℕ → ℕ → Result (List ℕ) Fault
hit_in top bottoms meaning flags mask rays first k = hit_by meaning top bottoms flags mask (first + k) (ray_in rays k)

-- what so many rays give
unfoldable pub rays_outcome : TopValue → Structures → Meaning → RayFlags → ℕ → List ℕ → ℕ → ℕ → Outcome
rays_outcome top bottoms meaning flags mask rays first count = hits_outcome (gathered (hit_in top bottoms meaning flags mask rays first) count)

-- a hit is found, or the fault of its ray; want of memory is free
abbrev pub IsHit : Result (List ℕ) Fault → Result HitRecord FetchFault → Type 0
IsHit found (Ok hit) = found ≡ Ok (hit_bytes hit)
IsHit found (Err (Data rule place)) = found ≡ Err (record { rule = rule; place = place })
IsHit found (Err NoMemory) = Unit {0}

-- the hits of some rays so far, in no fewer steps than before, and so many more at most
pub record AreSoFar (outcome : Outcome) (bytes : List ℕ) (before steps most : ℕ) : Type 0 where
  pub given : outcome ≡ Gives (Bytes bytes)
  pub rising : before ≤ steps
  pub bound : steps ≤ before + most

-- ---- of the memory as it is

-- what so many rays of a range give
abbrev pub traced_through : Structures → Option (List ℕ) → Option TopValue → ℕ → ℕ → RayFlags → ℕ → Meaning → Outcome
traced_through bottoms (Some rays) (Some top) first count flags mask meaning = rays_outcome top bottoms meaning flags mask rays first count
traced_through bottoms _ _ first count flags mask meaning = Undefined

abbrev pub traced : Memory → ℕ → ByteRange → ℕ → ℕ → RayFlags → ℕ → Meaning → Outcome
traced memory id from first count flags mask meaning =
    traced_through (bottoms_of memory) (bytes_at memory from) (option_and_then as_top (memory (ContentsAt id))) first count flags mask meaning
