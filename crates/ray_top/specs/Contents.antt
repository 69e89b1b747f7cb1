-- The contents of a top structure, what stands beside them, and how they are built and updated. (Vulkan, "Acceleration
-- Structures"; own: the limit of the count, and that the bounds of the structures in use are kept.)
use Rattle.std.specs.Prelude.{ℕ, ◌≡◌, ◌≤◌, ◌^◌, ◌<◌, ◌&&◌, Bool, false, Result, Ok, Err, Option, Some, None, IfSome, IsSomeAnd, is_some, List, length, All}
use Rattle.std.specs.List.{count_by}
use Rattle.ray_geom.specs.Transform.{IsMatrix}
use Rattle.ray_bytes.specs.declared.data_fault.DataFault.{DataFault}
use Rattle.ray_bytes.specs.Views.{Row}
use Rattle.ray_flags.specs.declared.build_flags.BuildFlags.{BuildFlags}
use Rattle.ray_flags.specs.Flags.{build_has, PreferFastTrace, PreferFastBuild}
use Rattle.ray_contents.specs.Bounds.{KeepsBounds}
use Rattle.ray_top.specs.declared.used.Used.{Used}
use Rattle.ray_top.specs.Instances.{InstanceValue, forces_both}
use Rattle.ray_top.specs.InstanceReading.{bounds_in, instances_read}

-- the contents: the flags of the build, and the instances, inactive ones among them
pub record ContentsValue : Type 0 where
  pub flags : BuildFlags
  pub instances : List (Option InstanceValue)

-- a top structure: its contents, and the structures that were in use when it was built or last updated, each id with the
-- bounds that its structure had then
pub record TopValue : Type 0 where
  pub contents : ContentsValue
  pub used : List Used

-- the top structure of these parts
abbrev pub top_value : BuildFlags → List Used → List (Option InstanceValue) → TopValue
top_value flags used instances = record { contents = record { flags = flags; instances = instances }; used = used }

-- how many instances are active
abbrev pub active_of : List (Option InstanceValue) → ℕ
active_of instances = count_by is_some instances

-- ---- what is built

-- the top structure of the instances that are read, or the first rule that they break
abbrev pub top_with : BuildFlags → List Used → Result (List (Option InstanceValue)) DataFault → Result TopValue DataFault
top_with flags used (Ok instances) = Ok (top_value flags used instances)
top_with flags used (Err fault) = Err fault

-- a new one, and an update of one, which has the flags of its build
abbrev pub top_built : BuildFlags → List Used → Row → ℕ → Result TopValue DataFault
top_built flags used row count = top_with flags used (instances_read used row None count)

abbrev pub top_updated : TopValue → List Used → Row → ℕ → Result TopValue DataFault
top_updated old used row count = top_with old.contents.flags used (instances_read used row (Some old.contents.instances) count)

-- ---- the limits

-- whether both flags that ask for speed are set
abbrev pub has_both_fast : BuildFlags → Bool
has_both_fast flags = build_has flags PreferFastTrace && build_has flags PreferFastBuild

-- an active instance within the limits: its structure was in use, with bounds that its transform keeps, if it has any
pub record IsActive (used : List Used) (i : InstanceValue) : Type 0 where
  pub matrix : IsMatrix i.matrix
  pub custom : i.custom < 2 ^ 24
  pub sbt : i.sbt < 2 ^ 24
  pub flags : i.flags.0 < 16
  pub not_both : forces_both i.flags ≡ false
  pub kept : IsSomeAnd (bounds_in used i.id) (KeepsBounds i.matrix)

pub record IsInstance (used : List Used) (i : Option InstanceValue) : Type 0 where
  pub limits : IfSome i (IsActive used)

-- a top structure within the limits: at most 2^16 instances, each within its limits, and not both flags that ask for speed
pub record IsTop (t : TopValue) : Type 0 where
  pub count : length t.contents.instances ≤ 2 ^ 16
  pub each : All (IsInstance t.used) t.contents.instances
  pub flags : has_both_fast t.contents.flags ≡ false
