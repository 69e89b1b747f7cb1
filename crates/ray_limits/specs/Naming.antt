-- What stands at members of further names, as ray_causes has it of others. (Own.)
use Rattle.std.specs.Prelude.{Option, Some, None}
use Rattle.ray_causes.specs.declared.member.Name.{Name}
use Rattle.ray_causes.specs.declared.member.Name.TheVariants as names

-- at the member of one name alone
abbrev pub at_offset : {X : Type 0} → Name → X → Option X
at_offset names.Offset x = Some x
at_offset _ x = None

-- at the members of two names
abbrev pub at_offset_or_size : {X : Type 0} → Name → X → X → Option X
at_offset_or_size names.Offset offset size = Some offset
at_offset_or_size names.Size offset size = Some size
at_offset_or_size _ offset size = None

abbrev pub at_offset_or_data : {X : Type 0} → Name → X → X → Option X
at_offset_or_data names.Offset offset content = Some offset
at_offset_or_data names.Data offset content = Some content
at_offset_or_data _ offset content = None
