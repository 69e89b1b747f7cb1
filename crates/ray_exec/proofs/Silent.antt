-- A piece of a device command has no text.
use Rattle.std.proofs.Common.{ℕ, zero, suc, ◌≡◌, ◌+◌, List, [], ◌∷◌, map, Option, Some, None, true, refl}
use Rattle.std.specs.Prelude.{slice_get, unwrap_or}
use Rattle.std.specs.List.{range_with_len}
use Rattle.ray_flags.specs.declared.ray_flags.RayFlags.{RayFlags}
use Rattle.ray_script.specs.declared.raw_rule.RawRule.{RawRule}
use Rattle.ray_cmd.specs.declared.build_mode.BuildMode.{BuildMode}
use Rattle.ray_cmd.specs.declared.build_mode.BuildMode.TheVariants as modes
use Rattle.ray_cmd.specs.declared.command.Command.{Command}
use Rattle.ray_cmd.specs.declared.command.Command.TheVariants as commands
use Rattle.ray_cmd.specs.declared.geometry.Geometry.{Geometry}
use Rattle.ray_cmd.specs.declared.info.Info.{Info}
use Rattle.ray_cmd.specs.declared.region.Region.{Region}
use Rattle.ray_cmd.specs.declared.spot.Spot.{Spot}
use Rattle.ray_cmd.specs.declared.structure_kind.StructureKind.{StructureKind}
use Rattle.ray_cmd.specs.declared.structure_kind.StructureKind.TheVariants as kinds
use Rattle.ray_rules.specs.declared.live_structure.LiveStructure.{LiveStructure}
use Rattle.ray_rules.specs.Ids.{look}
use Rattle.ray_rules.specs.Status.{Status}
use Rattle.ray_rules.specs.Kinds.{kind_of}
use Rattle.ray_action.specs.Action.{Action, Building, Rest}
use Rattle.ray_action.specs.Outcomes.{Output}
use Rattle.ray_action.specs.Pieces.{actions_of, building, bottom_action, top_action_of, top_action, info_action_by, info_action_on, info_actions, region_action, rays_action, trace_pieces}
use Rattle.ray_action.specs.Text.{text_of}
use Rattle.ray_device.specs.Pieces.{is_device, part_action}

-- an action has no text, and so it is with each of several
abbrev IsSilent : Action → Type 0
IsSilent a = (o : Output) → text_of a o ≡ []

abbrev AreSilent : List Action → Type 0
AreSilent [] = Unit {0}
AreSilent (a ∷ rest) = IsSilent a × AreSilent rest

top-silent : (build : Building) (info : Info) (g : Geometry) (mode : BuildMode) (src : Option ℕ) → IsSilent (top_action_of build info g mode src)
top-silent build info g modes.Build src o = refl
top-silent build info g modes.Update (Some id) o = refl
top-silent build info g modes.Update None o = refl

tops-silent : (build : Building) (info : Info) (gs : List Geometry) → IsSilent (top_action build info gs)
tops-silent build info [] o = refl
tops-silent build info (g ∷ []) o = top-silent build info g info.mode info.src o
tops-silent build info (g ∷ (h ∷ gs)) o = refl

bottom-silent : (build : Building) (info : Info) (mode : BuildMode) (src : Option ℕ) → IsSilent (bottom_action build info mode src)
bottom-silent build info modes.Build src o = refl
bottom-silent build info modes.Update (Some id) o = refl
bottom-silent build info modes.Update None o = refl

kind-silent : (build : Building) (info : Info) (kind : StructureKind) → IsSilent (info_action_by build info kind)
kind-silent build info kinds.Bottom o = bottom-silent build info info.mode info.src o
kind-silent build info kinds.Top o = tops-silent build info info.geometries o

info-silent : (build : Building) (info : Info) (found : Option LiveStructure) → IsSilent (info_action_on build info found)
info-silent build info None o = refl
info-silent build info (Some s) o = kind-silent build info s.kind o

infos-silent : (z : Status) (k : ℕ) (infos : List Info) → AreSilent (info_actions z k infos)
infos-silent z k [] = tt
infos-silent z k (info ∷ infos) = (info-silent (building z k info) info (look z.structures info.dst), infos-silent z (k + 1) infos)

regions-silent : (src dst : ℕ) (regions : List Region) → AreSilent (map (region_action src dst) regions)
regions-silent src dst [] = tt
regions-silent src dst (region ∷ regions) = (λ o. refl, regions-silent src dst regions)

rays-silent : (rec : List Command) (z : Status) (top : ℕ) (rays hits : Spot) (count : ℕ) (flags : RayFlags) (mask : ℕ) (script : List RawRule) (ks : List ℕ)
    → AreSilent (map (rays_action rec z top rays hits count flags mask) ks)
rays-silent rec z top rays hits count flags mask script [] = tt
rays-silent rec z top rays hits count flags mask script (k ∷ ks) = (λ o. refl, rays-silent rec z top rays hits count flags mask script ks)

all-silent : (rec : List Command) (z : Status) (c : Command) → is_device c ≡ true → AreSilent (actions_of rec z c)
unfolding kind_of actions_of
all-silent rec z (commands.Buffer id size usage content) is = absurd cc
all-silent rec z (commands.Structure id kind buffer offset size) is = absurd cc
all-silent rec z (commands.Destroy what id) is = absurd cc
all-silent rec z (commands.Sizes kind counts) is = absurd cc
all-silent rec z commands.Begin is = absurd cc
all-silent rec z commands.End is = absurd cc
all-silent rec z commands.Submit is = absurd cc
all-silent rec z commands.Wait is = absurd cc
all-silent rec z (commands.Read buffer offset size form) is = absurd cc
all-silent rec z (commands.Update buffer offset content) is = (λ o. refl, tt)
all-silent rec z (commands.Fill buffer offset size value) is = (λ o. refl, tt)
all-silent rec z (commands.Copy src dst regions) is = regions-silent src dst regions
all-silent rec z (commands.Build infos) is = infos-silent z 0 infos
all-silent rec z (commands.CopyStructure mode src dst) is = (λ o. refl, tt)
all-silent rec z (commands.Serialize src dst form) is = (λ o. refl, tt)
all-silent rec z (commands.Deserialize src dst uses) is = (λ o. refl, tt)
all-silent rec z (commands.Property what structures dst) is = (λ o. refl, tt)
all-silent rec z (commands.Barrier src_stages src_access dst_stages dst_access buffers) is = (λ o. refl, tt)
all-silent rec z (commands.Trace top rays count hits flags mask script) is =
    rays-silent rec z top rays hits count flags mask script (range_with_len 0 (trace_pieces count))

-- number k of them
one-silent : (acts : List Action) (k : ℕ) → AreSilent acts → IsSilent (unwrap_or (slice_get acts k) Rest)
one-silent [] k are o = refl
one-silent (a ∷ acts) zero are o = are.0 o
one-silent (a ∷ acts) (suc k) are o = one-silent acts k are.1 o

pub part_silent : (rec : List Command) (z : Status) (c : Command) (k : ℕ) (o : Output) → is_device c ≡ true → text_of (part_action rec z c k) o ≡ []
part_silent rec z c k o is = one-silent (actions_of rec z c) k (all-silent rec z c is) o
