-- What it is that an instance is read, or breaks a rule, in relational words: each answer has its cause, and the causes
-- contradict each other. (Own: the rules X5 to X8 and their order.)
use Rattle.std.specs.Prelude.{ℕ, ◌≡◌, ◌<◌, ◌^◌, true, false, Result, Ok, Err, Option, Some, None, List}
use Rattle.ray_geom.specs.Boxes.{BoxValue}
use Rattle.ray_geom.specs.Transform.{IsMatrix}
use Rattle.ray_bytes.specs.declared.data_rule.DataRule.{DataRule}
use Rattle.ray_bytes.specs.declared.data_rule.DataRule.TheVariants.{X5, X6, X7, X8}
use Rattle.ray_bytes.specs.declared.instance_record.InstanceRecord.{InstanceRecord}
use Rattle.ray_bytes.specs.References.{reference_of}
use Rattle.ray_contents.specs.Bounds.{KeepsBounds}
use Rattle.ray_top.specs.declared.used.Used.{Used}
use Rattle.ray_top.specs.Instances.{InstanceValue, instance_from, matrix_from, flags_in, forces_both}
use Rattle.ray_top.specs.InstanceReading.{bounds_in}

-- a record has the reference of no structure in use, and not 0
pub record RefersToNone (used : List Used) (from : InstanceRecord) : Type 0 where
  pub not_zero : from.reference ≡ 0 → ⊥
  pub none : (id : ℕ) → id < 2 ^ 32 → from.reference ≡ reference_of id → bounds_in used id ≡ None

-- a record has the reference of a structure in use with these bounds
pub record RefersTo (used : List Used) (from : InstanceRecord) (id : ℕ) (bounds : Option BoxValue) : Type 0 where
  pub below : id < 2 ^ 32
  pub reference : from.reference ≡ reference_of id
  pub in_use : bounds_in used id ≡ Some bounds

-- and its transform is beyond the limits
pub record IsBeyond (used : List Used) (from : InstanceRecord) : Type 0 where
  pub id : ℕ
  pub bounds : Option BoxValue
  pub refers : RefersTo used from id bounds
  pub beyond : IsMatrix (matrix_from from.rows) → ⊥

-- or it is within the limits, but doesn't keep the bounds
pub record LeavesTheWorld (used : List Used) (from : InstanceRecord) : Type 0 where
  pub id : ℕ
  pub bounds : Option BoxValue
  pub refers : RefersTo used from id bounds
  pub limits : IsMatrix (matrix_from from.rows)
  pub leaves : KeepsBounds (matrix_from from.rows) bounds → ⊥

-- or it keeps them
pub record Keeps (used : List Used) (from : InstanceRecord) (id : ℕ) : Type 0 where
  pub bounds : Option BoxValue
  pub refers : RefersTo used from id bounds
  pub limits : IsMatrix (matrix_from from.rows)
  pub kept : KeepsBounds (matrix_from from.rows) bounds

-- but the flags force both opaque and no opaque
pub record ForcesBoth (used : List Used) (from : InstanceRecord) : Type 0 where
  pub id : ℕ
  pub keeps : Keeps used from id
  pub both : forces_both (flags_in from) ≡ true

-- or don't, and the instance is that of the record
pub record IsPlaced (used : List Used) (from : InstanceRecord) (i : InstanceValue) : Type 0 where
  pub keeps : Keeps used from i.id
  pub not_both : forces_both (flags_in from) ≡ false
  pub value : i ≡ instance_from from i.id

-- what an answer is caused by
abbrev pub IsRead : List Used → InstanceRecord → Result (Option InstanceValue) DataRule → Type 0
IsRead used from (Ok None) = from.reference ≡ 0
IsRead used from (Ok (Some i)) = IsPlaced used from i
IsRead used from (Err X5) = RefersToNone used from
IsRead used from (Err X6) = IsBeyond used from
IsRead used from (Err X7) = LeavesTheWorld used from
IsRead used from (Err X8) = ForcesBoth used from
IsRead used from (Err rule) = ⊥
