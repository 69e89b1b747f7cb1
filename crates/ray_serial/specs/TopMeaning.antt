-- What bytes that are the form of a top structure stand for: its instances, each with the reference that its handle is; and
-- the structure that it stands for where these structures are in use. (Own: the form, the rules X5 and X7.)
use Rattle.std.specs.Prelude.{ℕ, ◌-◌, ◌==◌, if◌then◌else◌, Result, Ok, Err, Option, Some, None, option_and_then, unwrap_or, List, ◌++◌, length, map, slice_get, take}
use Rattle.std.specs.List.{flat_map}
use Rattle.byteorder.specs.Endian.{little_bytes}
use Rattle.ray_bytes.specs.declared.data_rule.DataRule.{DataRule}
use Rattle.ray_bytes.specs.declared.data_rule.DataRule.TheVariants.{X5, X7}
use Rattle.ray_bytes.specs.declared.data_fault.DataFault.{DataFault}
use Rattle.ray_bytes.specs.declared.instance_record.InstanceRecord.{InstanceRecord}
use Rattle.ray_bytes.specs.declared.reference.Reference.{Reference}
use Rattle.ray_bytes.specs.declared.reference.Reference.TheVariants.{Inactive, Structure, Unknown}
use Rattle.ray_bytes.specs.Records.{instance_of}
use Rattle.ray_bytes.specs.References.{structure_of}
use Rattle.ray_contents.specs.Gathering.{gathered}
use Rattle.ray_primitives.specs.Outcomes.{at_element}
use Rattle.ray_top.specs.declared.used.Used.{Used}
use Rattle.ray_top.specs.Contents.{TopValue, top_with}
use Rattle.ray_top.specs.Instances.{InstanceValue}
use Rattle.ray_top.specs.InstanceReading.{bounds_in, in_use}
use Rattle.ray_form.specs.InstanceBytes.{is_active, instance_parts}
use Rattle.ray_form.specs.Form.{payload_in, flags_of_payload, instances_of_payload}
use Rattle.ray_serial.specs.Meaning.{handle_in}

-- ---- the instances

-- a record with another reference
abbrev pub with_reference : ℕ → InstanceRecord → InstanceRecord
with_reference reference from = record from { reference = reference }

-- the reference of an active instance: number k stands for handle k - 1. (That there is such a handle the form's line 8 says.)
unfoldable pub reference_in : List ℕ → InstanceRecord → ℕ
reference_in bytes from = unwrap_or (handle_in bytes (from.reference - 1)) 0

-- an instance with the reference that its handle is; none where it is inactive
abbrev pub referring_instance : List ℕ → InstanceRecord → Option InstanceRecord
referring_instance bytes from = if is_active from then Some (with_reference (reference_in bytes from) from) else None

unfoldable pub instance_in : List ℕ → List ℕ → Option InstanceRecord
instance_in bytes part = referring_instance bytes (instance_of part)

-- all of them
unfoldable pub instances_in : List ℕ → List (Option InstanceRecord)
instances_in bytes = map (instance_in bytes) (instance_parts (instances_of_payload (payload_in bytes)))

-- ---- the structure

-- an active instance, where its reference is that of a structure in use, and its transform keeps the structure's bounds; else
-- X5 or X7. (`in_use` looks at the transform's limits and at the flags too, which the form's line 8 has kept.)
abbrev pub linked : List Used → InstanceRecord → Reference → Result (Option InstanceValue) DataRule
linked used from (Structure id) = in_use from id (bounds_in used id)
linked used from Inactive = Err X5
linked used from Unknown = Err X5

abbrev pub instance_linked : List Used → Option InstanceRecord → Result (Option InstanceValue) DataRule
instance_linked used None = Ok None
instance_linked used (Some from) = linked used from (structure_of from.reference)

-- instance i, or the rule that it breaks, with its place
unfoldable pub linked_at : List Used → List (Option InstanceRecord) → ℕ → Result (Option InstanceValue) DataFault
linked_at used instances i = at_element 0 i (instance_linked used (option_and_then (λ o. o) (slice_get instances i)))

-- the structure, or the first rule that an instance breaks
unfoldable pub top_in : List Used → List ℕ → Result TopValue DataFault
top_in used bytes =
    top_with (flags_of_payload (payload_in bytes)) used (gathered (linked_at used (instances_in bytes)) (length (instances_in bytes)))

-- a rule that may be broken then
abbrev pub IsLinkRule : DataRule → Type 0
IsLinkRule X5 = Unit {0}
IsLinkRule X7 = Unit {0}
IsLinkRule other = ⊥

-- ---- words of private calls alone

-- the reference that is put into a buffer of instances, so that it is read as the form means it: 0 makes an instance
-- inactive there, and so 1, which is the reference of no structure, stands for a handle that is 0
abbrev pub not_zero : ℕ → ℕ
not_zero reference = if reference == 0 then 1 else reference

unfoldable pub put_reference : List ℕ → InstanceRecord → ℕ
put_reference bytes from = if is_active from then not_zero (reference_in bytes from) else 0

-- the 64 bytes of an instance, and those of all, with these references
unfoldable pub put_part : List ℕ → List ℕ → List ℕ
put_part bytes part = take 56 part ++ little_bytes 8 (put_reference bytes (instance_of part))

unfoldable pub put_parts : List ℕ → List (List ℕ) → List ℕ
put_parts bytes parts = flat_map (put_part bytes) parts
