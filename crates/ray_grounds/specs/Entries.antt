-- The entries of `uses` by which a traced top was built, and why one of them is stale. (Own.)
use Rattle.std.specs.Prelude.{ℕ, List, Option, Some, None, option_map, nat_lt, if◌then◌else◌, slice_get}
use Rattle.std.specs.Option.{option_and_then}
use Rattle.ray_cmd.specs.declared.command.Command.{Command}
use Rattle.ray_rules.specs.declared.built.Built.{Built}
use Rattle.ray_rules.specs.declared.live_structure.LiveStructure.{LiveStructure}
use Rattle.ray_rules.specs.Origins.{uses_of}
use Rattle.ray_rules.specs.Status.{Status, built_at}
use Rattle.ray_rules.specs.Structures.{is_bottom}
use Rattle.ray_causes.specs.declared.member.Member.TheVariants as members
use Rattle.ray_causes.specs.declared.member.Name.TheVariants as names
use Rattle.ray_causes.specs.Names.{structure_named}
use Rattle.ray_grounds.specs.declared.origin.Entry.{Entry}
use Rattle.ray_grounds.specs.declared.origin.Stale.{Stale}
use Rattle.ray_grounds.specs.declared.origin.Stale.TheVariants as stales

-- entry number n of what a top was built by
abbrev pub entry_in : List Command → ℕ → ℕ → Built → Option Entry
entry_in rec top n built =
    option_map (λ id. record { top = top; stamp = built.stamp; id = id }) (slice_get (uses_of rec built) n)

-- the same of the top of an id
abbrev pub entry_of : List Command → Status → ℕ → ℕ → Option Entry
entry_of rec z n top = option_and_then (entry_in rec top n) (built_at z top)

-- the same of the top that a command traces
abbrev pub entry_traced : List Command → Status → Command → ℕ → Option Entry
entry_traced rec z c n = option_and_then (entry_of rec z n) (structure_named c (members.Own names.Top))

-- why what a structure was built by can't be referred to by a top of a stamp, if it can't
abbrev pub later_by : ℕ → Option Built → Option Stale
later_by stamp None = Some stales.Unbuilt
later_by stamp (Some built) = if nat_lt stamp built.written then Some (stales.Rewritten built.written) else None

-- why a structure can't be referred to by a top of a stamp, if it can't
abbrev pub stale_by : ℕ → Option LiveStructure → Option Stale
stale_by stamp None = Some stales.Gone
stale_by stamp (Some structure) =
    if is_bottom structure.kind then later_by stamp structure.built else Some stales.Top
