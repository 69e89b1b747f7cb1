-- How many of what a command has, and how many there may be, as V10 asks it. (Own.)
use Rattle.std.specs.Prelude.{ℕ, ◌+◌, List, Option, Some, None, if◌then◌else◌, length, nat_lt, option_map, sum}
use Rattle.std.specs.Option.{option_and_then}
use Rattle.ray_cmd.specs.declared.command.Command.{Command}
use Rattle.ray_cmd.specs.declared.command.Command.TheVariants as commands
use Rattle.ray_cmd.specs.declared.info.Info.{Info}
use Rattle.ray_causes.specs.declared.member.Member.{Member}
use Rattle.ray_causes.specs.declared.member.Member.TheVariants as members
use Rattle.ray_causes.specs.declared.member.Name.{Name}
use Rattle.ray_causes.specs.Geometries.{info_at}
use Rattle.ray_causes.specs.Naming.{at_buffers, at_structures, at_uses}
use Rattle.ray_crowds.specs.declared.crowd.Count.{Count}
use Rattle.ray_crowds.specs.declared.spot.Spot.{Spot}
use Rattle.ray_crowds.specs.declared.spot.Spot.TheVariants as spots
use Rattle.ray_rules.specs.Ranges.{primitives}
use Rattle.ray_rules.specs.Shapes.{most_primitives}
use Rattle.ray_rules.specs.Status.{Status}
use Rattle.ray_rules.specs.Structures.{is_top, is_top_at}

abbrev pub count : ℕ → ℕ → Count
count number most = record { number = number; most = most }

-- a count, where there is one and it is more than may be
abbrev pub too_many_by : Count → Option Count
too_many_by c = if nat_lt c.most c.number then Some c else None

abbrev pub too_many : Option Count → Option Count
too_many c = option_and_then too_many_by c

-- ---- entries

-- of a list of the command itself
abbrev pub own_entries : Command → Name → Option Count
own_entries (commands.Deserialize src dst uses) name = at_uses name (count (length uses) 4096)
own_entries (commands.Property what structures dst) name = at_structures name (count (length structures) 4096)
own_entries (commands.Barrier src_stages src_access dst_stages dst_access buffers) name =
    option_and_then (λ (ids : List ℕ). at_buffers name (count (length ids) 4096)) buffers
own_entries _ name = None

-- of a list of an info
abbrev pub info_entries : Name → Info → Option Count
info_entries name info = at_uses name (count (length info.uses) 4096)

-- of a list that ray_causes names
abbrev pub member_entries : Command → Member → Option Count
member_entries c (members.Own name) = own_entries c name
member_entries c (members.Info k name) = option_and_then (info_entries name) (info_at c k)
member_entries c _ = None

-- of the counts of a `sizes`
abbrev pub counts_entries : Command → Option Count
counts_entries (commands.Sizes kind counts) = Some (count (length counts) 256)
counts_entries _ = None

-- of the infos of a build
abbrev pub infos_entries : Command → Option Count
infos_entries (commands.Build infos) = Some (count (length infos) 4096)
infos_entries _ = None

-- of the list at a spot
abbrev pub entries_at : Command → Spot → Option Count
entries_at c (spots.Member member) = member_entries c member
entries_at c spots.Counts = counts_entries c
entries_at c spots.Count = None
entries_at c spots.Infos = infos_entries c
entries_at c (spots.Geometry k g) = None
entries_at c spots.Script = None
entries_at c (spots.Rule n) = None
entries_at c (spots.Geometries k) = option_map (λ (info : Info). count (length info.geometries) 256) (info_at c k)

-- ---- primitives

-- of the counts of a `sizes`
abbrev pub counts_primitives : Command → Option Count
counts_primitives (commands.Sizes kind counts) = Some (count (sum counts) (most_primitives (is_top kind)))
counts_primitives _ = None

-- of the geometries of an info
abbrev pub info_primitives : Status → Info → Count
info_primitives z info = count (primitives info.geometries) (most_primitives (is_top_at z info.dst))

-- of the list at a spot
abbrev pub primitives_at : Status → Command → Spot → Option Count
primitives_at z c spots.Counts = counts_primitives c
primitives_at z c (spots.Geometries k) = option_map (info_primitives z) (info_at c k)
primitives_at z c _ = None

-- ---- structures and rays

-- the live structures, with the one that a command makes
abbrev pub structures_with : Status → Command → Option Count
structures_with z (commands.Structure id kind buffer offset size) = Some (count (length z.structures + 1) 4096)
structures_with z _ = None

-- the rays of a trace
abbrev pub rays_of : Command → Option Count
rays_of (commands.Trace top rays n hits flags mask script) = Some (count n 1048576)
rays_of _ = None
