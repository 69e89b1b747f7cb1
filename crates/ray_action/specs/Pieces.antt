-- The actions of a recording: those of each command, with what the status before it tells. (Own.)
use Rattle.std.specs.Prelude.{ℕ, ◌+◌, ◌*◌, ◌/◌, ◌%◌, List, [], ◌∷◌, ◌++◌, map, Option, Some, None, if◌then◌else◌, unwrap_or, length, slice_index_or}
use Rattle.std.specs.List.{range_with_len}
use Rattle.ray_flags.specs.declared.ray_flags.RayFlags.{RayFlags}
use Rattle.ray_flags.specs.declared.usage.Usage.{Usage}
use Rattle.ray_cmd.specs.declared.asked.Asked.{Asked}
use Rattle.ray_cmd.specs.declared.build_mode.BuildMode.{BuildMode}
use Rattle.ray_cmd.specs.declared.build_mode.BuildMode.TheVariants as modes
use Rattle.ray_cmd.specs.declared.command.Command.{Command}
use Rattle.ray_cmd.specs.declared.command.Command.TheVariants as commands
use Rattle.ray_cmd.specs.declared.geometry.Geometry.{Geometry}
use Rattle.ray_cmd.specs.declared.info.Info.{Info}
use Rattle.ray_cmd.specs.declared.region.Region.{Region}
use Rattle.ray_cmd.specs.declared.spot.Spot.{Spot}
use Rattle.ray_cmd.specs.declared.stretch.Stretch.{Stretch}
use Rattle.ray_cmd.specs.declared.structure_kind.StructureKind.{StructureKind}
use Rattle.ray_cmd.specs.declared.structure_kind.StructureKind.TheVariants as kinds
use Rattle.ray_cmd.specs.declared.thing.Thing.{Thing}
use Rattle.ray_cmd.specs.declared.thing.Thing.TheVariants as things
use Rattle.ray_rules.specs.declared.byte_range.ByteRange.{ByteRange}
use Rattle.ray_rules.specs.declared.live_structure.LiveStructure.{LiveStructure}
use Rattle.ray_rules.specs.Access.{uses_at, rays_of_piece}
use Rattle.ray_rules.specs.Buffers.{is_alone}
use Rattle.ray_rules.specs.Ids.{look}
use Rattle.ray_rules.specs.Ranges.{range}
use Rattle.ray_rules.specs.Status.{Status, at_first}
use Rattle.ray_rules.specs.Status as status
use Rattle.ray_action.specs.Action.{Action, Building, MakeBuffer, MakeStructure, DestroyBuffer, DestroyStructure, ShowSizes, ShowBytes, UpdateBytes, FillBytes, CopyBytes, BuildBottom, UpdateBottom, BuildTop, UpdateTop, CopyStructure, SerializeStructure, DeserializeStructure, TellProperty, TraceRays, Rest, Impossible}

-- ---- builds: one info each

abbrev pub building : Status → ℕ → Info → Building
building z k info = record { info = k; dst = info.dst; buffers = z.buffers }

-- what an info does whose destination is a bottom structure
abbrev pub bottom_action : Building → Info → BuildMode → Option ℕ → Action
bottom_action build info modes.Build src = BuildBottom build info.flags info.geometries
bottom_action build info modes.Update (Some src) = UpdateBottom build src info.geometries
bottom_action build info modes.Update None = Impossible

-- and a top structure, from its one geometry
abbrev pub top_action_of : Building → Info → Geometry → BuildMode → Option ℕ → Action
top_action_of build info instances modes.Build src = BuildTop build info.flags info.uses instances
top_action_of build info instances modes.Update (Some src) = UpdateTop build src info.uses instances
top_action_of build info instances modes.Update None = Impossible

abbrev pub top_action : Building → Info → List Geometry → Action
top_action build info (instances ∷ []) = top_action_of build info instances info.mode info.src
top_action build info _ = Impossible

-- by what its destination is
abbrev pub info_action_by : Building → Info → StructureKind → Action
info_action_by build info kinds.Bottom = bottom_action build info info.mode info.src
info_action_by build info kinds.Top = top_action build info info.geometries

abbrev pub info_action_on : Building → Info → Option LiveStructure → Action
info_action_on build info None = Impossible
info_action_on build info (Some s) = info_action_by build info s.kind

abbrev pub info_action : Status → ℕ → Info → Action
info_action z k info = info_action_on (building z k info) info (look z.structures info.dst)

-- of the infos from number k on
abbrev pub info_actions : Status → ℕ → List Info → List Action
info_actions z k [] = []
info_actions z k (info ∷ infos) = info_action z k info ∷ info_actions z (k + 1) infos

-- ---- copies: one region each

abbrev pub region_action : ℕ → ℕ → Region → Action
region_action src dst region =
    CopyBytes (range src region.src_offset region.size) (range dst region.dst_offset region.size)

-- ---- traces: 64 rays each, and at the end those that are left

-- the cull mask: the low 8 bits of the number that is given (SPV_KHR_ray_query)
abbrev pub cull_mask : ℕ → ℕ
cull_mask mask = mask % 256

-- where the rays of piece k stand, 40 bytes each, and where their hits go, 80 bytes each
abbrev pub rays_range : Spot → ℕ → ℕ → ByteRange
rays_range rays count k = range rays.buffer (rays.offset + 40 * (64 * k)) (40 * rays_of_piece count k)

abbrev pub hits_range : Spot → ℕ → ℕ → ByteRange
hits_range hits count k = range hits.buffer (hits.offset + 80 * (64 * k)) (80 * rays_of_piece count k)

abbrev pub rays_action : List Command → Status → ℕ → Spot → Spot → ℕ → RayFlags → ℕ → ℕ → Action
rays_action rec z top rays hits count flags mask k = TraceRays (record {
  top = top;
  uses = uses_at rec z top;
  rays = rays_range rays count k;
  hits = hits_range hits count k;
  first = 64 * k;
  count = rays_of_piece count k;
  flags = flags;
  mask = cull_mask mask;
})

-- how many pieces a trace of so many rays has
abbrev pub trace_pieces : ℕ → ℕ
trace_pieces count = (count + 63) / 64

-- ---- every command

-- what is destroyed
abbrev pub destroyed : Thing → ℕ → Action
destroyed things.Buffer id = DestroyBuffer id
destroyed things.Structure id = DestroyStructure id

-- the telling of a property: a number of 64 bits for each structure
abbrev pub property_action : Asked → List ℕ → Spot → Action
property_action what structures dst = TellProperty what structures (range dst.buffer dst.offset (8 * length structures))

-- the bytes of a stretch
abbrev pub stretch_range : Stretch → ByteRange
stretch_range stretch = range stretch.buffer stretch.offset stretch.size

-- what a new buffer holds before the zeros. One for scratch memory alone, or for structures alone, keeps no bytes: they are
-- part of no state, and by V3 no command reads or writes them
abbrev pub content_of : Usage → Option (List ℕ) → Option (List ℕ)
content_of usage content = if is_alone usage then None else Some (unwrap_or content [])

-- what a host command does
unfoldable pub host_action : Command → Action
host_action (commands.Buffer id size usage content) = MakeBuffer id size (content_of usage content)
host_action (commands.Structure id kind buffer offset size) = MakeStructure id (record { kind = kind; size = size })
host_action (commands.Destroy what id) = destroyed what id
host_action (commands.Sizes kind counts) = ShowSizes kind counts
host_action (commands.Read buffer offset size form) = ShowBytes (range buffer offset size) form
host_action _ = Rest

-- the actions of a command where this status stands before it: those of its pieces, or the one of a host
-- command
unfoldable pub actions_of : List Command → Status → Command → List Action
actions_of rec z (commands.Buffer id size usage content) = host_action (commands.Buffer id size usage content) ∷ []
actions_of rec z (commands.Structure id kind buffer offset size) = host_action (commands.Structure id kind buffer offset size) ∷ []
actions_of rec z (commands.Destroy what id) = host_action (commands.Destroy what id) ∷ []
actions_of rec z (commands.Sizes kind counts) = host_action (commands.Sizes kind counts) ∷ []
actions_of rec z commands.Begin = Rest ∷ []
actions_of rec z commands.End = Rest ∷ []
actions_of rec z commands.Submit = Rest ∷ []
actions_of rec z commands.Wait = Rest ∷ []
actions_of rec z (commands.Read buffer offset size form) = host_action (commands.Read buffer offset size form) ∷ []
actions_of rec z (commands.Update buffer offset content) = UpdateBytes (range buffer offset (length content)) content ∷ []
actions_of rec z (commands.Fill buffer offset size value) = FillBytes (range buffer offset size) value ∷ []
actions_of rec z (commands.Copy src dst regions) = map (region_action src dst) regions
actions_of rec z (commands.Build infos) = info_actions z 0 infos
actions_of rec z (commands.CopyStructure mode src dst) = CopyStructure mode src dst ∷ []
actions_of rec z (commands.Serialize src dst form) = SerializeStructure src (stretch_range dst) form ∷ []
actions_of rec z (commands.Deserialize src dst uses) = DeserializeStructure (stretch_range src) dst uses ∷ []
actions_of rec z (commands.Property what structures dst) = property_action what structures dst ∷ []
actions_of rec z (commands.Barrier src_stages src_access dst_stages dst_access buffers) = Rest ∷ []
actions_of rec z (commands.Trace top rays count hits flags mask script) =
    map (rays_action rec z top rays hits count flags mask) (range_with_len 0 (trace_pieces count))

-- command number i, where there is one
abbrev pub command_at : List Command → ℕ → Command
command_at rec i = slice_index_or rec i commands.Begin

-- an action with the number of its command
pub record Numbered : Type 0 where
  pub command : ℕ
  pub action : Action

abbrev pub numbered : ℕ → Action → Numbered
numbered i action = record { command = i; action = action }

-- the actions of the commands that are left, from number i on, where this status stands
unfoldable pub actions_from : List Command → ℕ → Status → List Command → List Numbered
actions_from rec i z [] = []
actions_from rec i z (c ∷ cs) =
    map (numbered i) (actions_of rec z c) ++ actions_from rec (i + 1) (status.after i c z) cs

-- the actions of a recording, in recording order
abbrev pub actions : List Command → List Numbered
actions rec = actions_from rec 0 at_first rec
