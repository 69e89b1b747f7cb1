-- By what something was built that a command reads, where a rule forbids to read it: what is told of
-- it is so. (Own.)
use Rattle.std.specs.Prelude.{ℕ, ◌≡◌, List, Option, Some, Bool, true, false, ◌&&◌, ◌||◌, ◌==◌, option_map}
use Rattle.ray_cmd.specs.declared.asked.Asked.{Asked}
use Rattle.ray_cmd.specs.declared.asked.Asked.TheVariants as asked
use Rattle.ray_cmd.specs.declared.command.Command.{Command}
use Rattle.ray_cmd.specs.declared.command.Command.TheVariants as commands
use Rattle.ray_cmd.specs.declared.copy_mode.CopyMode.{CopyMode}
use Rattle.ray_cmd.specs.declared.copy_mode.CopyMode.TheVariants as copies
use Rattle.ray_cmd.specs.declared.rule.Rule.{Rule}
use Rattle.ray_cmd.specs.declared.rule.Rule.TheVariants.{V, X}
use Rattle.ray_flags.specs.Flags.{AllowCompaction, AllowUpdate}
use Rattle.ray_rules.specs.declared.built.Built.{Built}
use Rattle.ray_rules.specs.Ids.{look}
use Rattle.ray_rules.specs.Sources.{is_deserialized_at, is_stale, was_built_without}
use Rattle.ray_rules.specs.Status.{Status, built_at}
use Rattle.ray_causes.specs.declared.member.Member.{Member}
use Rattle.ray_causes.specs.declared.member.Member.TheVariants as members
use Rattle.ray_causes.specs.declared.member.Name.{Name}
use Rattle.ray_causes.specs.declared.member.Name.TheVariants as names
use Rattle.ray_causes.specs.Names.{structure_named}
use Rattle.ray_grounds.specs.Entries.{entry_traced, stale_by}
use Rattle.ray_grounds.specs.declared.origin.Lack.{Lack}
use Rattle.ray_grounds.specs.declared.origin.Lack.TheVariants as lacks
use Rattle.ray_grounds.specs.declared.origin.Origin.{Origin}
use Rattle.ray_grounds.specs.declared.origin.Origin.TheVariants as origins

-- ---- what a rule asks

-- whether a name is that of a source
abbrev pub is_src : Name → Bool
is_src names.Src = true
is_src _ = false

-- whether a member is the source of an update
abbrev pub is_update_source : Member → Bool
is_update_source (members.Info k name) = is_src name
is_update_source _ = false

-- whether a member is the source of a copy, or an item of a list
abbrev pub is_read : Member → Bool
is_read (members.Own name) = is_src name
is_read (members.Item name n) = true
is_read _ = false

-- whether a copy is compact, and whether the size of a compact copy is asked
abbrev pub is_compact : CopyMode → Bool
is_compact copies.Clone = false
is_compact copies.Compact = true

abbrev pub is_compacted : Asked → Bool
is_compacted asked.Compacted = true
is_compacted asked.Serialized = false
is_compacted asked.SerializedForm2 = false
is_compacted asked.Handles = false
is_compacted asked.Size = false

-- whether a command compacts what it reads, or asks how large it would be then
abbrev pub compacts : Command → Bool
compacts (commands.CopyStructure mode src dst) = is_compact mode
compacts (commands.Property what structures dst) = is_compacted what
compacts _ = false

-- whether a rule asks of the structure which a member names that it doesn't lack this
abbrev pub asks_origin : Rule → Command → Member → Lack → Bool
asks_origin (V number) c member lacks.Update = number == 14 && is_update_source member
asks_origin (V number) c member lacks.Compaction = number == 18 && (compacts c && is_read member)
asks_origin (V number) c member lacks.Build =
    (number == 13 && is_update_source member) || (number == 18 && (compacts c && is_read member))
asks_origin (X rule) c member lack = false

-- ---- what a structure was built by

-- the number of the command by which the contents of the structure of an id came
abbrev pub stamp_of : Status → ℕ → Option ℕ
stamp_of z id = option_map (λ (b : Built). b.stamp) (built_at z id)

-- whether the structure of an id lacks this
abbrev pub is_lacking : List Command → Status → Lack → ℕ → Bool
is_lacking rec z lacks.Update id = was_built_without rec z AllowUpdate id
is_lacking rec z lacks.Compaction id = was_built_without rec z AllowCompaction id
is_lacking rec z lacks.Build id = is_deserialized_at rec z id

-- ---- both

-- a rule asks this of a command, the command says this, and what is compared is so where a status
-- stands
abbrev pub IsOrigin : List Command → Status → Command → Rule → Origin → Type 0
IsOrigin rec z c rule (origins.Lacking member id stamp lack) =
    (asks_origin rule c member lack ≡ true)
    × ((structure_named c member ≡ Some id)
    × ((stamp_of z id ≡ Some stamp) × (is_lacking rec z lack id ≡ true)))
IsOrigin rec z c rule (origins.Stale n entry stale) =
    (rule ≡ V 21)
    × ((entry_traced rec z c n ≡ Some entry)
    × ((stale_by entry.stamp (look z.structures entry.id) ≡ Some stale) × (is_stale z entry.stamp entry.id ≡ true)))
