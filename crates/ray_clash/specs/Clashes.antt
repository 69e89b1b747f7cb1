-- By which accesses a command is at odds with an earlier one, and what is missing: what is told of it
-- is so. (Own; the words of dependencies are Vulkan's.)
use Rattle.std.specs.Prelude.{ℕ, ◌≡◌, ◌<◌, ◌≤◌, Bool, List, [], Option, Some, true, false, slice_get}
use Rattle.std.specs.Option.{option_map_or}
use Rattle.ray_cmd.specs.declared.command.Command.{Command}
use Rattle.ray_cmd.specs.declared.place.Place.TheVariants.{Earlier}
use Rattle.ray_cmd.specs.declared.refusal.Refusal.{Refusal}
use Rattle.ray_cmd.specs.declared.rule.Rule.TheVariants.{V}
use Rattle.ray_rules.specs.declared.stage.Stage.{Stage}
use Rattle.ray_rules.specs.declared.stage.Stage.TheVariants.{Host}
use Rattle.ray_rules.specs.declared.touch.Touch.{Touch}
use Rattle.ray_rules.specs.Access.{host_reads}
use Rattle.ray_rules.specs.Hazards.{accesses_at, stage_at, status_at}
use Rattle.ray_rules.specs.Makers.{buffer_of}
use Rattle.ray_rules.specs.Order.{is_covered, is_ordered_to}
use Rattle.ray_clash.specs.declared.clash.Clash.{Clash}
use Rattle.ray_clash.specs.declared.clash.Missing.{Missing}
use Rattle.ray_clash.specs.declared.clash.Missing.TheVariants as missings
use Rattle.ray_clash.specs.declared.clash.Side.{Side}
use Rattle.ray_clash.specs.declared.handing.Deed.TheVariants as deeds
use Rattle.ray_clash.specs.declared.pairs.Hazard.{Hazard}
use Rattle.ray_clash.specs.declared.pairs.Hazard.TheVariants as hazards
use Rattle.ray_clash.specs.Handing.{deed_at, reaches_some}
use Rattle.ray_clash.specs.Sharing.{IsShared}

-- the number of the rule of a hazard: V25, V26, V27, and V32
abbrev pub number_of : Hazard → ℕ
number_of hazards.ReadAfterWrite = 25
number_of hazards.WriteAfterWrite = 26
number_of hazards.WriteAfterRead = 27
number_of hazards.HostRead = 32

-- which of its accesses an earlier command, and a later one, are at odds by
abbrev pub earlier_touches : Hazard → List Command → ℕ → List Touch
earlier_touches hazards.WriteAfterRead rec i = (accesses_at rec i).reads
earlier_touches hazards.ReadAfterWrite rec i = (accesses_at rec i).writes
earlier_touches hazards.WriteAfterWrite rec i = (accesses_at rec i).writes
earlier_touches hazards.HostRead rec i = (accesses_at rec i).writes

abbrev pub later_touches : Hazard → List Command → ℕ → List Touch
later_touches hazards.ReadAfterWrite rec j = (accesses_at rec j).reads
later_touches hazards.WriteAfterWrite rec j = (accesses_at rec j).writes
later_touches hazards.WriteAfterRead rec j = (accesses_at rec j).writes
later_touches hazards.HostRead rec j = option_map_or host_reads (slice_get rec j) []

-- the stage of the later one
abbrev pub later_stage : Hazard → List Command → ℕ → Option Stage
later_stage hazards.HostRead rec j = Some Host
later_stage hazards.ReadAfterWrite rec j = stage_at rec j
later_stage hazards.WriteAfterWrite rec j = stage_at rec j
later_stage hazards.WriteAfterRead rec j = stage_at rec j

-- nothing orders command number i, of one stage, before command number j at another
abbrev pub IsUnordered : List Command → ℕ → ℕ → Side → Side → Type 0
IsUnordered rec i j from to = is_ordered_to rec i from.stage j to.stage ≡ false

-- what the earlier one wrote to a thing isn't covered to the later one
abbrev pub IsUncovered : List Command → ℕ → ℕ → Option ℕ → Side → Side → Type 0
IsUncovered rec i j thing from to = is_covered rec i from.stage from.access thing j to.stage to.access ≡ false

-- whether some memory dependency takes up what it wrote to a thing
abbrev pub is_available : List Command → ℕ → ℕ → Option ℕ → Side → Bool
is_available rec i j thing from = reaches_some (deed_at rec i from.stage (deeds.Write from.access thing) j).stages

-- what is missing
abbrev pub IsMissing : List Command → ℕ → ℕ → Option ℕ → Side → Side → Missing → Type 0
IsMissing rec i j thing from to missings.Execution = IsUnordered rec i j from to
IsMissing rec i j thing from to missings.Availability =
    IsUncovered rec i j thing from to × (is_available rec i j thing from ≡ false)
IsMissing rec i j thing from to missings.Visibility =
    IsUncovered rec i j thing from to × (is_available rec i j thing from ≡ true)

-- what makes it a hazard: that they aren't ordered where the earlier one reads, and else that it isn't
-- covered
abbrev pub IsLacking : Hazard → List Command → ℕ → ℕ → Option ℕ → Side → Side → Type 0
IsLacking hazards.WriteAfterRead rec i j thing from to = IsUnordered rec i j from to
IsLacking hazards.ReadAfterWrite rec i j thing from to = IsUncovered rec i j thing from to
IsLacking hazards.WriteAfterWrite rec i j thing from to = IsUncovered rec i j thing from to
IsLacking hazards.HostRead rec i j thing from to = IsUncovered rec i j thing from to

-- command number j is at odds with command number i so
pub record IsClash (hazard : Hazard) (rec : List Command) (i j : ℕ) (clash : Clash) : Type 0 where
  pub one : Touch
  pub other : Touch
  pub one_at : ℕ
  pub other_at : ℕ
  pub earlier : slice_get (earlier_touches hazard rec i) one_at ≡ Some one
  pub later : slice_get (later_touches hazard rec j) other_at ≡ Some other
  pub stages : (stage_at rec i ≡ Some clash.earlier.stage) × (later_stage hazard rec j ≡ Some clash.later.stage)
  pub accesses : (one.access ≡ clash.earlier.access) × (other.access ≡ clash.later.access)
  pub shared : IsShared (status_at rec i) (status_at rec j) one.reach other.reach clash.shared
  pub lacking : IsLacking hazard rec i j (buffer_of (status_at rec i) one.reach) clash.earlier clash.later
  pub missing : IsMissing rec i j (buffer_of (status_at rec i) one.reach) clash.earlier clash.later clash.missing
  -- the barrier that mends it may be put in there
  pub put : (i < clash.put) × (clash.put ≤ j)

-- the same of the command of a refusal, by its rule and with its earlier command
pub record IsClashAt (rec : List Command) (refusal : Refusal) (clash : Clash) : Type 0 where
  pub hazard : Hazard
  pub earlier : ℕ
  pub rule : refusal.rule ≡ V (number_of hazard)
  pub place : refusal.place ≡ Earlier earlier
  pub is : IsClash hazard rec earlier refusal.command clash
