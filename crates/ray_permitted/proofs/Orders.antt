-- Recordings run along orders made by hand, store late, fetch early, parts exchanged: by computing each comes to what
-- recording order comes to. The last one's order isn't permitted, and comes to another text.
use Rattle.std.proofs.Common.{ℕ, ◌≡◌, List, [], ◌∷◌, ◌++◌, Some, None, refl}
use Rattle.ray_schedule.specs.Events.{Fetch, Store, Act}
use Rattle.ray_cmd.specs.declared.asked.Asked.TheVariants.{Serialized, Size}
use Rattle.ray_cmd.specs.declared.build_mode.BuildMode.TheVariants.{Build}
use Rattle.ray_cmd.specs.declared.command.Command.{Command}
use Rattle.ray_cmd.specs.declared.command.Command.TheVariants as commands
use Rattle.ray_cmd.specs.declared.copy_mode.CopyMode.TheVariants.{Clone, Compact}
use Rattle.ray_cmd.specs.declared.place.Place.TheVariants.{Whole}
use Rattle.ray_cmd.specs.declared.rule.Rule.TheVariants.{X}
use Rattle.ray_bytes.specs.declared.data_rule.DataRule.TheVariants.{X13}
use Rattle.ray_cmd.specs.declared.read_form.ReadForm.TheVariants.{Hex, U64}
use Rattle.ray_cmd.specs.declared.structure_kind.StructureKind.TheVariants.{Bottom}
use Rattle.ray_rules.specs.Status.{after}
use Rattle.ray_action.specs.Clients.{scripts}
use Rattle.ray_action.specs.Memory.{bytes_from}
use Rattle.ray_action.specs.Pieces.{actions_from, actions_of, host_action}
use Rattle.ray_action.specs.Running.{Refused, Text, run_of}
use Rattle.ray_action.specs.Text.{digits_line}
use Rattle.ray_permitted.specs.Along.{run_along}
use Rattle.ray_permitted.specs.Job.{recorded}

-- a buffer of bytes, one of structures, and the end of a recording that hands on to the host
abbrev bytes : ℕ → ℕ → Command
bytes id size = commands.Buffer id size (record { 0 = 12 }) None

abbrev hand_on : Command
hand_on = commands.Barrier (record { 0 = 7 }) (record { 0 = 512 }) (record { 0 = 8 }) (record { 0 = 64 }) None

abbrev finish : List Command → List Command
finish reads = hand_on ∷ commands.End ∷ commands.Submit ∷ commands.Wait ∷ reads

-- two fills of two buffers
abbrev apart : List Command
apart =
    bytes 0 4
    ∷ bytes 1 4
    ∷ commands.Begin
    ∷ commands.Fill 0 0 4 7
    ∷ commands.Fill 1 0 4 9
    ∷ finish (commands.Read 0 0 4 Hex ∷ commands.Read 1 0 4 Hex ∷ [])

apart_exchanged : run_along (recorded apart) 11
    (Act 0 ∷ Act 1 ∷ Act 2 ∷ Fetch 4 ∷ Store 4 ∷ Fetch 3 ∷ Store 3 ∷ Fetch 5 ∷ Store 5 ∷ Act 6 ∷ Act 7 ∷ Act 8 ∷ Act 9 ∷ Act 10 ∷ [])
    ≡ run_of (scripts apart) apart
unfolding run_of run_along actions_from actions_of host_action after bytes_from
apart_exchanged = refl

apart_stored_late : run_along (recorded apart) 11
    (Act 0 ∷ Act 1 ∷ Act 2 ∷ Fetch 3 ∷ Fetch 4 ∷ Store 4 ∷ Store 3 ∷ Fetch 5 ∷ Store 5 ∷ Act 6 ∷ Act 7 ∷ Act 8 ∷ Act 9 ∷ Act 10 ∷ [])
    ≡ run_of (scripts apart) apart
unfolding run_of run_along actions_from actions_of host_action after bytes_from
apart_stored_late = refl

-- two regions of a copy
abbrev regions : List Command
regions =
    commands.Buffer 0 4 (record { 0 = 12 }) (Some (1 ∷ 2 ∷ 3 ∷ 4 ∷ []))
    ∷ bytes 1 4
    ∷ commands.Begin
    ∷ commands.Copy 0 1 (record { src_offset = 0; dst_offset = 2; size = 2 } ∷ record { src_offset = 2; dst_offset = 0; size = 2 } ∷ [])
    ∷ finish (commands.Read 1 0 4 Hex ∷ [])

regions_exchanged : run_along (recorded regions) 9
    (Act 0 ∷ Act 1 ∷ Act 2 ∷ Fetch 4 ∷ Store 4 ∷ Fetch 3 ∷ Store 3 ∷ Fetch 5 ∷ Store 5 ∷ Act 6 ∷ Act 7 ∷ Act 8 ∷ Act 9 ∷ [])
    ≡ run_of (scripts regions) regions
unfolding run_of run_along actions_from actions_of host_action after bytes_from
regions_exchanged = refl

regions_fetched_early : run_along (recorded regions) 9
    (Act 0 ∷ Act 1 ∷ Act 2 ∷ Fetch 3 ∷ Fetch 4 ∷ Store 3 ∷ Store 4 ∷ Fetch 5 ∷ Store 5 ∷ Act 6 ∷ Act 7 ∷ Act 8 ∷ Act 9 ∷ [])
    ≡ run_of (scripts regions) regions
unfolding run_of run_along actions_from actions_of host_action after bytes_from
regions_fetched_early = refl

-- a fill and an update of one buffer
abbrev beside : List Command
beside =
    bytes 0 8
    ∷ commands.Begin
    ∷ commands.Fill 0 0 4 5
    ∷ commands.Update 0 4 (6 ∷ 7 ∷ 8 ∷ 9 ∷ [])
    ∷ finish (commands.Read 0 0 8 Hex ∷ [])

beside_exchanged : run_along (recorded beside) 9
    (Act 0 ∷ Act 1 ∷ Fetch 3 ∷ Fetch 2 ∷ Store 3 ∷ Store 2 ∷ Fetch 4 ∷ Store 4 ∷ Act 5 ∷ Act 6 ∷ Act 7 ∷ Act 8 ∷ [])
    ≡ run_of (scripts beside) beside
unfolding run_of run_along actions_from actions_of host_action after bytes_from
beside_exchanged = refl

-- three updates of bytes of one buffer
abbrev three : List Command
three =
    bytes 0 12
    ∷ commands.Begin
    ∷ commands.Update 0 0 (1 ∷ 1 ∷ 1 ∷ 1 ∷ [])
    ∷ commands.Update 0 4 (2 ∷ 2 ∷ 2 ∷ 2 ∷ [])
    ∷ commands.Update 0 8 (3 ∷ 3 ∷ 3 ∷ 3 ∷ [])
    ∷ finish (commands.Read 0 0 12 Hex ∷ [])

three_turned_round : run_along (recorded three) 10
    (Act 0 ∷ Act 1 ∷ Fetch 4 ∷ Store 4 ∷ Fetch 3 ∷ Store 3 ∷ Fetch 2 ∷ Store 2 ∷ Fetch 5 ∷ Store 5 ∷ Act 6 ∷ Act 7 ∷ Act 8 ∷ Act 9 ∷ [])
    ≡ run_of (scripts three) three
unfolding run_of run_along actions_from actions_of host_action after bytes_from
three_turned_round = refl

three_in_one_wave : run_along (recorded three) 10
    (Act 0 ∷ Act 1 ∷ Fetch 3 ∷ Fetch 4 ∷ Fetch 2 ∷ Store 4 ∷ Store 2 ∷ Store 3 ∷ Fetch 5 ∷ Store 5 ∷ Act 6 ∷ Act 7 ∷ Act 8 ∷ Act 9 ∷ [])
    ≡ run_of (scripts three) three
unfolding run_of run_along actions_from actions_of host_action after bytes_from
three_in_one_wave = refl

-- a size that is asked beside a fill that is copied on behind a barrier
abbrev sizes : List Command
sizes =
    bytes 0 4
    ∷ bytes 1 4
    ∷ bytes 2 8
    ∷ commands.Buffer 3 1024 (record { 0 = 32 }) None
    ∷ commands.Structure 0 Bottom 3 0 512
    ∷ commands.Begin
    ∷ commands.Property Size (0 ∷ []) (record { buffer = 2; offset = 0 })
    ∷ commands.Fill 0 0 4 7
    ∷ commands.Barrier (record { 0 = 1 }) (record { 0 = 2 }) (record { 0 = 1 }) (record { 0 = 1 }) None
    ∷ commands.Copy 0 1 (record { src_offset = 0; dst_offset = 0; size = 4 } ∷ [])
    ∷ finish (commands.Read 1 0 4 Hex ∷ commands.Read 2 0 8 U64 ∷ [])

sizes_stored_late : run_along (recorded sizes) 16
    (Act 0 ∷ Act 1 ∷ Act 2 ∷ Act 3 ∷ Act 4 ∷ Act 5 ∷ Fetch 6 ∷ Fetch 7 ∷ Store 7 ∷ Fetch 8 ∷ Store 8 ∷ Fetch 9 ∷ Store 9 ∷ Store 6 ∷ Fetch 10 ∷ Store 10 ∷ Act 11 ∷ Act 12 ∷ Act 13 ∷ Act 14 ∷ Act 15 ∷ [])
    ≡ run_of (scripts sizes) sizes
unfolding run_of run_along actions_from actions_of host_action after bytes_from
sizes_stored_late = refl

sizes_fetched_late : run_along (recorded sizes) 16
    (Act 0 ∷ Act 1 ∷ Act 2 ∷ Act 3 ∷ Act 4 ∷ Act 5 ∷ Fetch 7 ∷ Store 7 ∷ Fetch 8 ∷ Store 8 ∷ Fetch 9 ∷ Fetch 6 ∷ Store 6 ∷ Store 9 ∷ Fetch 10 ∷ Store 10 ∷ Act 11 ∷ Act 12 ∷ Act 13 ∷ Act 14 ∷ Act 15 ∷ [])
    ≡ run_of (scripts sizes) sizes
unfolding run_of run_along actions_from actions_of host_action after bytes_from
sizes_fetched_late = refl

-- two infos of a build, and what both are serialized as
abbrev infos : List Command
infos =
    bytes 2 512
    ∷ commands.Buffer 3 2048 (record { 0 = 32 }) None
    ∷ commands.Buffer 4 1024 (record { 0 = 16 }) None
    ∷ commands.Structure 0 Bottom 3 0 512
    ∷ commands.Structure 1 Bottom 3 512 512
    ∷ commands.Begin
    ∷ commands.Build (record { mode = Build; dst = 0; src = None; flags = record { 0 = 1 }; scratch = record { buffer = 4; offset = 0 }; geometries = []; uses = [] } ∷ record { mode = Build; dst = 1; src = None; flags = record { 0 = 2 }; scratch = record { buffer = 4; offset = 512 }; geometries = []; uses = [] } ∷ [])
    ∷ commands.Barrier (record { 0 = 7 }) (record { 0 = 512 }) (record { 0 = 7 }) (record { 0 = 768 }) None
    ∷ commands.Property Serialized (0 ∷ 1 ∷ []) (record { buffer = 2; offset = 0 })
    ∷ finish (commands.Read 2 0 16 U64 ∷ [])

infos_exchanged : run_along (recorded infos) 14
    (Act 0 ∷ Act 1 ∷ Act 2 ∷ Act 3 ∷ Act 4 ∷ Act 5 ∷ Fetch 7 ∷ Store 7 ∷ Fetch 6 ∷ Store 6 ∷ Fetch 8 ∷ Store 8 ∷ Fetch 9 ∷ Store 9 ∷ Fetch 10 ∷ Store 10 ∷ Act 11 ∷ Act 12 ∷ Act 13 ∷ Act 14 ∷ [])
    ≡ run_of (scripts infos) infos
unfolding run_of run_along actions_from actions_of host_action after bytes_from
infos_exchanged = refl

infos_in_one_wave : run_along (recorded infos) 14
    (Act 0 ∷ Act 1 ∷ Act 2 ∷ Act 3 ∷ Act 4 ∷ Act 5 ∷ Fetch 7 ∷ Fetch 6 ∷ Store 6 ∷ Store 7 ∷ Fetch 8 ∷ Store 8 ∷ Fetch 9 ∷ Store 9 ∷ Fetch 10 ∷ Store 10 ∷ Act 11 ∷ Act 12 ∷ Act 13 ∷ Act 14 ∷ [])
    ≡ run_of (scripts infos) infos
unfolding run_of run_along actions_from actions_of host_action after bytes_from
infos_in_one_wave = refl

-- a clone beside an update of bytes
abbrev clones : List Command
clones =
    bytes 2 512
    ∷ commands.Buffer 3 2048 (record { 0 = 32 }) None
    ∷ commands.Buffer 4 1024 (record { 0 = 16 }) None
    ∷ commands.Structure 0 Bottom 3 0 512
    ∷ commands.Structure 1 Bottom 3 512 512
    ∷ commands.Begin
    ∷ commands.Build (record { mode = Build; dst = 0; src = None; flags = record { 0 = 1 }; scratch = record { buffer = 4; offset = 0 }; geometries = []; uses = [] } ∷ [])
    ∷ commands.Barrier (record { 0 = 7 }) (record { 0 = 512 }) (record { 0 = 7 }) (record { 0 = 768 }) None
    ∷ commands.CopyStructure Clone 0 1
    ∷ commands.Update 2 0 (9 ∷ 9 ∷ 9 ∷ 9 ∷ [])
    ∷ finish (commands.Read 2 0 4 Hex ∷ [])

clones_exchanged : run_along (recorded clones) 15
    (Act 0 ∷ Act 1 ∷ Act 2 ∷ Act 3 ∷ Act 4 ∷ Act 5 ∷ Fetch 6 ∷ Store 6 ∷ Fetch 7 ∷ Store 7 ∷ Fetch 9 ∷ Store 9 ∷ Fetch 8 ∷ Store 8 ∷ Fetch 10 ∷ Store 10 ∷ Act 11 ∷ Act 12 ∷ Act 13 ∷ Act 14 ∷ [])
    ≡ run_of (scripts clones) clones
unfolding run_of run_along actions_from actions_of host_action after bytes_from
clones_exchanged = refl

clones_stored_late : run_along (recorded clones) 15
    (Act 0 ∷ Act 1 ∷ Act 2 ∷ Act 3 ∷ Act 4 ∷ Act 5 ∷ Fetch 6 ∷ Store 6 ∷ Fetch 7 ∷ Store 7 ∷ Fetch 8 ∷ Fetch 9 ∷ Store 9 ∷ Store 8 ∷ Fetch 10 ∷ Store 10 ∷ Act 11 ∷ Act 12 ∷ Act 13 ∷ Act 14 ∷ [])
    ≡ run_of (scripts clones) clones
unfolding run_of run_along actions_from actions_of host_action after bytes_from
clones_stored_late = refl

-- two compact copies into structures that are too small: the lesser command is told
abbrev refused : List Command
refused =
    bytes 2 512
    ∷ commands.Buffer 3 2048 (record { 0 = 32 }) None
    ∷ commands.Buffer 4 1024 (record { 0 = 16 }) None
    ∷ commands.Structure 0 Bottom 3 0 512
    ∷ commands.Structure 1 Bottom 3 512 8
    ∷ commands.Structure 5 Bottom 3 1024 8
    ∷ commands.Begin
    ∷ commands.Build (record { mode = Build; dst = 0; src = None; flags = record { 0 = 2 }; scratch = record { buffer = 4; offset = 0 }; geometries = []; uses = [] } ∷ [])
    ∷ commands.Barrier (record { 0 = 7 }) (record { 0 = 512 }) (record { 0 = 7 }) (record { 0 = 768 }) None
    ∷ commands.CopyStructure Compact 0 1
    ∷ commands.CopyStructure Compact 0 5
    ∷ finish (commands.Read 2 0 8 Hex ∷ [])

refused_exchanged : run_along (recorded refused) 16
    (Act 0 ∷ Act 1 ∷ Act 2 ∷ Act 3 ∷ Act 4 ∷ Act 5 ∷ Act 6 ∷ Fetch 7 ∷ Store 7 ∷ Fetch 8 ∷ Store 8 ∷ Fetch 10 ∷ Store 10 ∷ Fetch 9 ∷ Store 9 ∷ Fetch 11 ∷ Store 11 ∷ Act 12 ∷ Act 13 ∷ Act 14 ∷ Act 15 ∷ [])
    ≡ run_of (scripts refused) refused
unfolding run_of run_along actions_from actions_of host_action after bytes_from
refused_exchanged = refl

refused_tells : run_of (scripts refused) refused ≡ Refused (record { command = 9; rule = X X13; place = Whole })
unfolding run_of actions_from actions_of host_action after bytes_from
refused_tells = refl

-- a copy behind a fill, and a fill of another buffer that nothing orders
abbrev chain : List Command
chain =
    bytes 0 4
    ∷ bytes 1 4
    ∷ bytes 2 4
    ∷ commands.Begin
    ∷ commands.Fill 0 0 4 3
    ∷ commands.Barrier (record { 0 = 1 }) (record { 0 = 2 }) (record { 0 = 1 }) (record { 0 = 1 }) None
    ∷ commands.Copy 0 1 (record { src_offset = 0; dst_offset = 0; size = 4 } ∷ [])
    ∷ commands.Fill 2 0 4 8
    ∷ finish (commands.Read 1 0 4 Hex ∷ commands.Read 2 0 4 Hex ∷ [])

chain_exchanged : run_along (recorded chain) 14
    (Act 0 ∷ Act 1 ∷ Act 2 ∷ Act 3 ∷ Fetch 4 ∷ Store 4 ∷ Fetch 5 ∷ Store 5 ∷ Fetch 7 ∷ Fetch 6 ∷ Store 6 ∷ Store 7 ∷ Fetch 8 ∷ Store 8 ∷ Act 9 ∷ Act 10 ∷ Act 11 ∷ Act 12 ∷ Act 13 ∷ [])
    ≡ run_of (scripts chain) chain
unfolding run_of run_along actions_from actions_of host_action after bytes_from
chain_exchanged = refl

chain_barrier_late : run_along (recorded chain) 14
    (Act 0 ∷ Act 1 ∷ Act 2 ∷ Act 3 ∷ Fetch 4 ∷ Store 4 ∷ Fetch 7 ∷ Store 7 ∷ Fetch 6 ∷ Store 6 ∷ Fetch 5 ∷ Store 5 ∷ Fetch 8 ∷ Store 8 ∷ Act 9 ∷ Act 10 ∷ Act 11 ∷ Act 12 ∷ Act 13 ∷ [])
    ≡ run_of (scripts chain) chain
unfolding run_of run_along actions_from actions_of host_action after bytes_from
chain_barrier_late = refl

-- two copies of one source
abbrev readers : List Command
readers =
    commands.Buffer 0 4 (record { 0 = 12 }) (Some (1 ∷ 2 ∷ 3 ∷ 4 ∷ []))
    ∷ bytes 1 4
    ∷ bytes 2 4
    ∷ commands.Begin
    ∷ commands.Copy 0 1 (record { src_offset = 0; dst_offset = 0; size = 4 } ∷ [])
    ∷ commands.Copy 0 2 (record { src_offset = 2; dst_offset = 0; size = 2 } ∷ [])
    ∷ finish (commands.Read 1 0 4 Hex ∷ commands.Read 2 0 4 Hex ∷ [])

readers_exchanged : run_along (recorded readers) 12
    (Act 0 ∷ Act 1 ∷ Act 2 ∷ Act 3 ∷ Fetch 5 ∷ Fetch 4 ∷ Store 5 ∷ Store 4 ∷ Fetch 6 ∷ Store 6 ∷ Act 7 ∷ Act 8 ∷ Act 9 ∷ Act 10 ∷ Act 11 ∷ [])
    ≡ run_of (scripts readers) readers
unfolding run_of run_along actions_from actions_of host_action after bytes_from
readers_exchanged = refl

-- two command buffers with a wait between them: what stands before the wait goes in any order, and so does what
-- stands behind it
abbrev waits : List Command
waits =
    bytes 0 4
    ∷ bytes 1 4
    ∷ bytes 2 4
    ∷ commands.Begin
    ∷ commands.Fill 0 0 4 1
    ∷ commands.Fill 1 0 4 2
    ∷ commands.End
    ∷ commands.Submit
    ∷ commands.Wait
    ∷ commands.Begin
    ∷ commands.Copy 0 1 (record { src_offset = 0; dst_offset = 1; size = 1 } ∷ [])
    ∷ commands.Update 2 0 (9 ∷ 8 ∷ 7 ∷ 6 ∷ [])
    ∷ finish (commands.Read 2 0 4 Hex ∷ commands.Read 1 0 4 Hex ∷ [])

waits_exchanged : run_along (recorded waits) 18
    (Act 0 ∷ Act 1 ∷ Act 2 ∷ Act 3 ∷ Fetch 5 ∷ Fetch 4 ∷ Store 4 ∷ Store 5 ∷ Act 6 ∷ Act 7 ∷ Act 8 ∷ Act 9 ∷ Fetch 10 ∷ Fetch 11 ∷ Store 11 ∷ Store 10 ∷ Fetch 12 ∷ Store 12 ∷ Act 13 ∷ Act 14 ∷ Act 15 ∷ Act 16 ∷ Act 17 ∷ [])
    ≡ run_of (scripts waits) waits
unfolding run_of run_along actions_from actions_of host_action after bytes_from
waits_exchanged = refl

-- what the first of them shows
apart_shows : run_of (scripts apart) apart ≡ Text (digits_line (7 ∷ 0 ∷ 0 ∷ 0 ∷ []) ++ (digits_line (9 ∷ 0 ∷ 0 ∷ 0 ∷ []) ++ []))
unfolding run_of actions_from actions_of host_action after bytes_from
apart_shows = refl

-- two fills of one buffer, which a barrier orders, and the same exchanged
abbrev ordered : List Command
ordered =
    bytes 0 4
    ∷ commands.Begin
    ∷ commands.Fill 0 0 4 7
    ∷ commands.Barrier (record { 0 = 1 }) (record { 0 = 2 }) (record { 0 = 1 }) (record { 0 = 2 }) None
    ∷ commands.Fill 0 0 4 9
    ∷ finish (commands.Read 0 0 4 Hex ∷ [])

ordered_shows : run_of (scripts ordered) ordered ≡ Text (digits_line (9 ∷ 0 ∷ 0 ∷ 0 ∷ []) ++ [])
unfolding run_of actions_from actions_of host_action after bytes_from
ordered_shows = refl

not_permitted : run_along (recorded ordered) 10
    (Act 0 ∷ Act 1 ∷ Fetch 4 ∷ Store 4 ∷ Fetch 3 ∷ Store 3 ∷ Fetch 2 ∷ Store 2 ∷ Fetch 5 ∷ Store 5 ∷ Act 6 ∷ Act 7 ∷ Act 8 ∷ Act 9 ∷ [])
    ≡ Text (digits_line (7 ∷ 0 ∷ 0 ∷ 0 ∷ []) ++ [])
unfolding run_along actions_from actions_of host_action after bytes_from
not_permitted = refl
