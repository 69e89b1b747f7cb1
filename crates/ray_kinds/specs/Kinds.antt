-- Of which kinds structures have to be, as V7 and V19 ask it. (Own.)
use Rattle.std.specs.Prelude.{ℕ, List, Option, Some, None, Bool, false, ◌&&◌, ◌==◌, if◌then◌else◌, length, not, option_map}
use Rattle.std.specs.Option.{option_and_then}
use Rattle.ray_cmd.specs.Copies.{is_form_2}
use Rattle.ray_cmd.specs.declared.asked.Asked.{Asked}
use Rattle.ray_cmd.specs.declared.asked.Asked.TheVariants as asked
use Rattle.ray_cmd.specs.declared.command.Command.{Command}
use Rattle.ray_cmd.specs.declared.command.Command.TheVariants as commands
use Rattle.ray_cmd.specs.declared.copy_mode.CopyMode.{CopyMode}
use Rattle.ray_cmd.specs.declared.copy_mode.CopyMode.TheVariants as copies
use Rattle.ray_cmd.specs.declared.info.Info.{Info}
use Rattle.ray_cmd.specs.declared.rule.Rule.{Rule}
use Rattle.ray_cmd.specs.declared.rule.Rule.TheVariants.{V, X}
use Rattle.ray_cmd.specs.declared.structure_kind.StructureKind.{StructureKind}
use Rattle.ray_cmd.specs.declared.structure_kind.StructureKind.TheVariants as kinds
use Rattle.ray_causes.specs.declared.member.Member.{Member}
use Rattle.ray_causes.specs.declared.member.Member.TheVariants as members
use Rattle.ray_causes.specs.declared.member.Name.{Name}
use Rattle.ray_causes.specs.Geometries.{info_at}
use Rattle.ray_causes.specs.Naming.{at_dst, at_src, at_top, at_uses}
use Rattle.ray_kinds.specs.declared.misfit.Pair.{Pair}
use Rattle.ray_kinds.specs.declared.misfit.Uses.{Uses}
use Rattle.ray_rules.specs.Status.{Status}
use Rattle.ray_rules.specs.Structures.{is_bottom_at, is_top_at}

-- ---- one structure

-- the kind of which the source of a copy has to be
abbrev pub copied_kind : CopyMode → Option StructureKind
copied_kind copies.Clone = None
copied_kind copies.Compact = Some kinds.Bottom

-- the same of a source that is serialized
abbrev pub serialized_kind : Option ℕ → Option StructureKind
serialized_kind form = if is_form_2 form then Some kinds.Bottom else None

-- the same of a structure of which something is asked
abbrev pub asked_kind : Asked → Option StructureKind
asked_kind asked.Compacted = Some kinds.Bottom
asked_kind asked.Serialized = None
asked_kind asked.SerializedForm2 = Some kinds.Bottom
asked_kind asked.Handles = None
asked_kind asked.Size = None

-- the kind of which the structure has to be that a member of the command itself names
abbrev pub own_kind : Command → Name → Option StructureKind
own_kind (commands.CopyStructure mode src dst) name = option_and_then (at_src name) (copied_kind mode)
own_kind (commands.Serialize src dst form) name = option_and_then (at_src name) (serialized_kind form)
own_kind (commands.Trace top rays count hits flags mask script) name = at_top name kinds.Top
own_kind _ name = None

-- the same of an item of a list of the command itself
abbrev pub item_kind : Command → Option StructureKind
item_kind (commands.Deserialize src dst uses) = Some kinds.Bottom
item_kind (commands.Property what structures dst) = asked_kind what
item_kind _ = None

-- the same of any member
abbrev pub kind_wanted : Command → Member → Option StructureKind
kind_wanted c (members.Own name) = own_kind c name
kind_wanted c (members.Item name n) = item_kind c
kind_wanted c (members.InfoItem k name n) = Some kinds.Bottom
kind_wanted c _ = None

-- whether the structure of an id is live and of the other kind
abbrev pub is_other_kind : Status → StructureKind → ℕ → Bool
is_other_kind z kinds.Bottom id = is_top_at z id
is_other_kind z kinds.Top id = is_bottom_at z id

-- ---- the entries of `uses`

abbrev pub uses_for : List ℕ → ℕ → Uses
uses_for ids dst = record { count = length ids; dst = dst }

-- those of the command itself
abbrev pub own_uses : Command → Name → Option Uses
own_uses (commands.Deserialize src dst uses) name = at_uses name (uses_for uses dst)
own_uses _ name = None

-- those of a member
abbrev pub uses_at : Command → Member → Option Uses
uses_at c (members.Own name) = own_uses c name
uses_at c (members.Info k name) =
    option_and_then (λ (info : Info). at_uses name (uses_for info.uses info.dst)) (info_at c k)
uses_at c _ = None

-- whether there are any, for a bottom
abbrev pub are_of_bottom : Status → Uses → Bool
are_of_bottom z uses = is_bottom_at z uses.dst && not (uses.count == 0)

-- ---- a source and a destination

abbrev pub pair : ℕ → ℕ → Pair
pair src dst = record { src = src; dst = dst }

-- those of a copy
abbrev pub own_pair : Command → Name → Option Pair
own_pair (commands.CopyStructure mode src dst) name = at_dst name (pair src dst)
own_pair _ name = None

-- those of an update
abbrev pub info_pair : Name → Info → Option Pair
info_pair name info = option_and_then (at_src name) (option_map (λ src. pair src info.dst) info.src)

-- those of a member
abbrev pub pair_at : Command → Member → Option Pair
pair_at c (members.Own name) = own_pair c name
pair_at c (members.Info k name) = option_and_then (info_pair name) (info_at c k)
pair_at c _ = None

-- the number of the rule that asks that they are of one kind, 0 for none
abbrev pub rule_of_pair : Member → ℕ
rule_of_pair (members.Own name) = 19
rule_of_pair (members.Info k name) = 7
rule_of_pair _ = 0

-- whether a rule asks it
abbrev pub asks_pair : Rule → Member → Bool
asks_pair (V number) member = rule_of_pair member == number
asks_pair (X rule) member = false
