-- How instances are read: which structure each refers to, and which data rule is broken first. (Vulkan, "Acceleration
-- Structures": instances and inactive instances; own: the rules X5 to X9 and their order.)
--
-- By hand, where id 3 alone is in use, with the bounds (0,0,0) to (4,4,0): the reference 1024 is that of id 3. Reference 0
-- makes an instance inactive whatever else it holds. 1025 and 768, which is that of id 2, break X5, also with a matrix of
-- zeros; 1024 with a matrix of zeros breaks X6. A translation by (524284,0,0) keeps the bounds, whose greatest corner it
-- maps to (524288,4,0); one by (524285,0,0) breaks X7. Flags 12 break X8, and so do flags 28, whose bit 16 is dropped.
use Rattle.std.specs.Prelude.{ℕ, ◌==◌, Bool, true, if◌then◌else◌, Result, Ok, Err, Option, Some, None, option_map, List, is_some}
use Rattle.std.specs.Bool.{beq}
use Rattle.std.specs.List.{fold, list_all}
use Rattle.ray_geom.specs.declared.vec3.Vec3.{Vec3}
use Rattle.ray_geom.specs.Boxes.{BoxValue, corners_of}
use Rattle.ray_geom.specs.Transform.{MatrixValue}
use Rattle.ray_bytes.specs.declared.data_rule.DataRule.{DataRule}
use Rattle.ray_bytes.specs.declared.data_rule.DataRule.TheVariants.{X5, X6, X7, X8, X9}
use Rattle.ray_bytes.specs.declared.data_fault.DataFault.{DataFault}
use Rattle.ray_bytes.specs.declared.instance_record.InstanceRecord.{InstanceRecord}
use Rattle.ray_bytes.specs.declared.reference.Reference.{Reference}
use Rattle.ray_bytes.specs.declared.reference.Reference.TheVariants.{Inactive, Structure, Unknown}
use Rattle.ray_bytes.specs.References.{structure_of}
use Rattle.ray_bytes.specs.Slices.{record_at}
use Rattle.ray_bytes.specs.Records.{instance_of}
use Rattle.ray_bytes.specs.Views.{Row}
use Rattle.ray_contents.specs.Gathering.{gathered}
use Rattle.ray_contents.specs.Limits.{image_within, matrix_within}
use Rattle.ray_primitives.specs.Outcomes.{at_element}
use Rattle.ray_primitives.specs.Updates.{old_at}
use Rattle.ray_top.specs.declared.used.Used.{Used}
use Rattle.ray_top.specs.Instances.{InstanceValue, instance_from, matrix_from, flags_in, forces_both}

-- ---- the structures in use

-- what is known of an id, and one entry more: the bounds that stand in it, where it is of this id
abbrev pub noted : ℕ → Option (Option BoxValue) → Used → Option (Option BoxValue)
noted id so_far used = if used.id == id then Some used.bounds else so_far

-- the bounds of the structure of an id in use: those of its entry, and of its last one where it has several; none where the
-- id isn't in use. A structure without active primitives has no bounds
unfoldable pub bounds_in : List Used → ℕ → Option (Option BoxValue)
bounds_in used id = fold (noted id) None used

-- ---- one instance

-- whether the image of a corner is within the limits
abbrev pub keeps_corner : MatrixValue → Vec3 → Bool
keeps_corner m corner = is_some (image_within m corner)

-- the same of the eight corners of bounds; where there are no bounds, there are none to check
unfoldable pub bounds_kept : MatrixValue → Option BoxValue → Bool
bounds_kept m None = true
bounds_kept m (Some box) = list_all (keeps_corner m) (corners_of box)

-- the instance of a record and an id; X8 where it forces both opaque and no opaque
abbrev pub forced : InstanceRecord → ℕ → Result (Option InstanceValue) DataRule
forced from id = if forces_both (flags_in from) then Err X8 else Ok (Some (instance_from from id))

-- the same where its transform keeps the bounds of its structure; X7 where it doesn't
abbrev pub bounded : InstanceRecord → ℕ → Option BoxValue → MatrixValue → Result (Option InstanceValue) DataRule
bounded from id bounds m = if bounds_kept m bounds then forced from id else Err X7

-- the same where its transform is within the limits; X6 where it is beyond them
abbrev pub limited : InstanceRecord → ℕ → Option BoxValue → Option MatrixValue → Result (Option InstanceValue) DataRule
limited from id bounds None = Err X6
limited from id bounds (Some m) = bounded from id bounds m

-- the same where its structure is in use; X5 where it isn't
abbrev pub in_use : InstanceRecord → ℕ → Option (Option BoxValue) → Result (Option InstanceValue) DataRule
in_use from id None = Err X5
in_use from id (Some bounds) = limited from id bounds (matrix_within (matrix_from from.rows))

-- the instance of a record with what it refers to: with no structure it is inactive, and nothing else of it is looked at;
-- a number that is the reference of no id breaks X5
abbrev pub referring : List Used → InstanceRecord → Reference → Result (Option InstanceValue) DataRule
referring used from Inactive = Ok None
referring used from (Structure id) = in_use from id (bounds_in used id)
referring used from Unknown = Err X5

-- the instance of a record; one that isn't whole, which no rule speaks of, is inactive
abbrev pub instance_read : List Used → Option InstanceRecord → Result (Option InstanceValue) DataRule
instance_read used None = Ok None
instance_read used (Some from) = referring used from (structure_of from.reference)

-- ---- all of them

-- an instance, or the rule that it breaks as an update of another: X9 where it becomes active or inactive
abbrev pub instance_after : Option (Option InstanceValue) → Option InstanceValue → Result (Option InstanceValue) DataRule
instance_after None i = Ok i
instance_after (Some old) i = if beq (is_some old) (is_some i) then Ok i else Err X9

-- an instance that is read, as an update of the one of its number, if it is one
abbrev pub updated_instance : Option (Option InstanceValue) → Result (Option InstanceValue) DataRule → Result (Option InstanceValue) DataRule
updated_instance old (Ok i) = instance_after old i
updated_instance old (Err rule) = Err rule

-- record i of the buffer, where it is whole
abbrev pub record_in : Row → ℕ → Option InstanceRecord
record_in row i = option_map instance_of (record_at row.bytes row.start 64 64 i)

-- instance i, or the least rule that it breaks, with its place: a top structure has one geometry
unfoldable pub instance_element : List Used → Row → Option (List (Option InstanceValue)) → ℕ → Result (Option InstanceValue) DataFault
instance_element used row olds i = at_element 0 i (updated_instance (old_at olds i) (instance_read used (record_in row i)))

-- the first instances, or the first rule that is broken
abbrev pub instances_read : List Used → Row → Option (List (Option InstanceValue)) → ℕ → Result (List (Option InstanceValue)) DataFault
instances_read used row olds count = gathered (instance_element used row olds) count
