-- Each piece of a device command is one of its actions, and what is stored of it.
use Rattle.std.proofs.Common.{ℕ, zero, suc, ◌≡◌, ◌<◌, ◌+◌, List, [], ◌∷◌, length, Option, Some, None, refl, ap, subst, ◌∙◌, arith}
use Rattle.std.specs.Prelude.{slice_get, option_map, unwrap_or}
use Rattle.std.specs.List.{range_with_len}
use Rattle.std.proofs.lemmas.Option.{slice_get-map, get_or_from_slice_get}
use Rattle.ray_cmd.specs.declared.build_mode.BuildMode.{BuildMode}
use Rattle.ray_cmd.specs.declared.build_mode.BuildMode.TheVariants as modes
use Rattle.ray_cmd.specs.declared.command.Command.{Command}
use Rattle.ray_cmd.specs.declared.command.Command.TheVariants as commands
use Rattle.ray_cmd.specs.declared.geometry.Geometry.{Geometry}
use Rattle.ray_cmd.specs.declared.info.Info.{Info}
use Rattle.ray_cmd.specs.declared.region.Region.{Region}
use Rattle.ray_cmd.specs.declared.structure_kind.StructureKind.{StructureKind}
use Rattle.ray_cmd.specs.declared.structure_kind.StructureKind.TheVariants as kinds
use Rattle.ray_cmd.specs.declared.spot.Spot.{Spot}
use Rattle.ray_flags.specs.declared.ray_flags.RayFlags.{RayFlags}
use Rattle.ray_script.specs.declared.raw_rule.RawRule.{RawRule}
use Rattle.ray_rules.specs.declared.live_structure.LiveStructure.{LiveStructure}
use Rattle.ray_rules.specs.Ranges.{range}
use Rattle.ray_rules.specs.Hazards.{status_at}
use Rattle.ray_rules.specs.Ids.{look}
use Rattle.ray_rules.specs.Status.{Status}
use Rattle.ray_rules.specs.Kinds.{kind_of}
use Rattle.ray_action.specs.Memory.{Memory, Location}
use Rattle.ray_action.specs.Action.{Action, Building, UpdateBytes, FillBytes, CopyStructure, SerializeStructure, DeserializeStructure, Rest}
use Rattle.ray_action.specs.Outcomes.{Output, Gives}
use Rattle.ray_action.specs.Pieces.{actions_of, command_at, building, bottom_action, top_action_of, top_action, info_action_by, info_action_on, info_action, info_actions, region_action, rays_action, trace_pieces, property_action, stretch_range}
use Rattle.ray_action.specs.Storing.{put}
use Rattle.ray_device.specs.declared.piece.Piece.{Piece}
use Rattle.ray_device.specs.Pieces.{piece_count, part_action, piece_action, IsPiece}
use Rattle.ray_device.specs.Storing.{IsStorable, CanHold, CanStore, CanHoldIn, put_part, put_contents, put_region, put_info}

-- the command of a number that is there
pub command_is : (rec : List Command) (i : ℕ) (c : Command) → slice_get rec i ≡ Some c → command_at rec i ≡ c
command_is rec i c e = get_or_from_slice_get rec i c commands.Begin e

-- ---- the parts of a list

-- info number k, and the actions of infos from a number on
pub infos-part : (z : Status) (first : ℕ) (infos : List Info) (k : ℕ)
    → slice_get (info_actions z first infos) k ≡ option_map (info_action z (first + k)) (slice_get infos k)
infos-part z first [] k = refl
infos-part z first (info ∷ infos) zero = ap (λ n. Some (info_action z n info)) (omega arith)
infos-part z first (info ∷ infos) (suc k) =
    infos-part z (first + 1) infos k
    ∙ ap (λ n. option_map (info_action z n) (slice_get infos k)) (omega arith)

-- number k of those from a number on
pub range-part : (first n k : ℕ) → k < n → slice_get (range_with_len first n) k ≡ Some (first + k)
range-part first zero k within = absurd (omega arith)
range-part first (suc n) zero within = ap Some (omega arith)
range-part first (suc n) (suc k) within = range-part (first + 1) n k (omega arith) ∙ ap Some (omega arith)

-- ---- one info

info-top : (build : Building) (info : Info) (output : Output) (m : Memory) (gs : List Geometry) (mode : BuildMode) (src : Option ℕ)
    → (g : Geometry) → IsStorable (top_action_of build info g mode src) output m → CanHold build.dst output m
info-top build info output m gs modes.Build src g s = s
info-top build info output m gs modes.Update (Some id) g s = s
info-top build info output m gs modes.Update None g s = absurd s

info-tops : (build : Building) (info : Info) (output : Output) (m : Memory) (gs : List Geometry)
    → IsStorable (top_action build info gs) output m → CanHold build.dst output m
info-tops build info output m [] s = absurd s
info-tops build info output m (g ∷ []) s = info-top build info output m [] info.mode info.src g s
info-tops build info output m (g ∷ (h ∷ gs)) s = absurd s

info-bottom : (build : Building) (info : Info) (output : Output) (m : Memory) (mode : BuildMode) (src : Option ℕ)
    → IsStorable (bottom_action build info mode src) output m → CanHold build.dst output m
info-bottom build info output m modes.Build src s = s
info-bottom build info output m modes.Update (Some id) s = s
info-bottom build info output m modes.Update None s = absurd s

info-kind : (build : Building) (info : Info) (output : Output) (m : Memory) (kind : StructureKind)
    → IsStorable (info_action_by build info kind) output m → CanHold build.dst output m
info-kind build info output m kinds.Bottom s = info-bottom build info output m info.mode info.src s
info-kind build info output m kinds.Top s = info-tops build info output m info.geometries s

info-holds : (build : Building) (info : Info) (output : Output) (m : Memory) (found : Option LiveStructure)
    → IsStorable (info_action_on build info found) output m → CanHold build.dst output m
info-holds build info output m None s = absurd s
info-holds build info output m (Some live) s = info-kind build info output m live.kind s

-- and what it leaves
put-top : (build : Building) (info : Info) (output : Output) (m : Memory) (mode : BuildMode) (src : Option ℕ) (g : Geometry)
    → IsStorable (top_action_of build info g mode src) output m → (l : Location) → put (top_action_of build info g mode src) (Gives output) m l ≡ put_contents build.dst output m l
put-top build info output m modes.Build src g s l = refl
put-top build info output m modes.Update (Some id) g s l = refl
put-top build info output m modes.Update None g s l = absurd s

put-tops : (build : Building) (info : Info) (output : Output) (m : Memory) (gs : List Geometry)
    → IsStorable (top_action build info gs) output m → (l : Location) → put (top_action build info gs) (Gives output) m l ≡ put_contents build.dst output m l
put-tops build info output m [] s l = absurd s
put-tops build info output m (g ∷ []) s l = put-top build info output m info.mode info.src g s l
put-tops build info output m (g ∷ (h ∷ gs)) s l = absurd s

put-bottom : (build : Building) (info : Info) (output : Output) (m : Memory) (mode : BuildMode) (src : Option ℕ)
    → IsStorable (bottom_action build info mode src) output m → (l : Location) → put (bottom_action build info mode src) (Gives output) m l ≡ put_contents build.dst output m l
put-bottom build info output m modes.Build src s l = refl
put-bottom build info output m modes.Update (Some id) s l = refl
put-bottom build info output m modes.Update None s l = absurd s

put-kind : (build : Building) (info : Info) (output : Output) (m : Memory) (kind : StructureKind)
    → IsStorable (info_action_by build info kind) output m → (l : Location) → put (info_action_by build info kind) (Gives output) m l ≡ put_contents build.dst output m l
put-kind build info output m kinds.Bottom s l = put-bottom build info output m info.mode info.src s l
put-kind build info output m kinds.Top s l = put-tops build info output m info.geometries s l

put-info : (build : Building) (info : Info) (output : Output) (m : Memory) (found : Option LiveStructure)
    → IsStorable (info_action_on build info found) output m → (l : Location) → put (info_action_on build info found) (Gives output) m l ≡ put_contents build.dst output m l
put-info build info output m None s l = absurd s
put-info build info output m (Some live) s l = put-kind build info output m live.kind s l

from-none : (k : ℕ) → 0 + k ≡ k
from-none k = omega arith

-- ---- every command

-- number k of a list that is mapped
some-part : {X : Type 0} (f : X → Action) (found : Option X) (k : ℕ) (x : X) → found ≡ Some x → unwrap_or (option_map f found) Rest ≡ f x
some-part f found k x e = ap (λ o. unwrap_or (option_map f o) Rest) e

pub first-part : (a : Action) (k : ℕ) → k < 1 → unwrap_or (slice_get (a ∷ []) k) Rest ≡ a
first-part a zero within = refl
first-part a (suc k) within = absurd (omega arith)

-- what part k of each command does
pub copy-part : (rec : List Command) (z : Status) (src dst : ℕ) (regions : List Region) (k : ℕ) (found : Option Region)
    → slice_get regions k ≡ found → part_action rec z (commands.Copy src dst regions) k ≡ unwrap_or (option_map (region_action src dst) found) Rest
unfolding actions_of
copy-part rec z src dst regions k found e =
    ap (λ o. unwrap_or o Rest) (slice_get-map (region_action src dst) regions k)
    ∙ ap (λ o. unwrap_or (option_map (region_action src dst) o) Rest) e

pub build-part : (rec : List Command) (z : Status) (infos : List Info) (k : ℕ) (found : Option Info)
    → slice_get infos k ≡ found → part_action rec z (commands.Build infos) k ≡ unwrap_or (option_map (info_action z k) found) Rest
unfolding actions_of
build-part rec z infos k found e =
    ap (λ o. unwrap_or o Rest) (infos-part z 0 infos k)
    ∙ (ap (λ n. unwrap_or (option_map (info_action z n) (slice_get infos k)) Rest) (from-none k)
    ∙ ap (λ o. unwrap_or (option_map (info_action z k) o) Rest) e)

pub trace-part : (rec : List Command) (z : Status) (top : ℕ) (rays : Spot) (count : ℕ) (hits : Spot) (flags : RayFlags) (mask : ℕ) (script : List RawRule) (k : ℕ)
    → k < trace_pieces count → part_action rec z (commands.Trace top rays count hits flags mask script) k ≡ rays_action rec z top rays hits count flags mask k
unfolding actions_of
trace-part rec z top rays count hits flags mask script k within =
    ap (λ o. unwrap_or o Rest)
    (slice_get-map (rays_action rec z top rays hits count flags mask) (range_with_len 0 (trace_pieces count)) k
    ∙ ap (option_map (rays_action rec z top rays hits count flags mask)) (range-part 0 (trace_pieces count) k within))
    ∙ ap (rays_action rec z top rays hits count flags mask) (from-none k)

-- ---- stores

abbrev Stores : List Command → Status → Command → ℕ → Output → Memory → Type 0
Stores rec z c k output m = (l : Location) → put (part_action rec z c k) (Gives output) m l ≡ put_part c k output m l

stores-by : (rec : List Command) (z : Status) (c : Command) (k : ℕ) (output : Output) (m : Memory) (a : Action) → part_action rec z c k ≡ a
    → ((l : Location) → put a (Gives output) m l ≡ put_part c k output m l) → Stores rec z c k output m
stores-by rec z c k output m a e same l = ap (λ x. put x (Gives output) m l) e ∙ same l

region-stores : (src dst : ℕ) (found : Option Region) (output : Output) (m : Memory) (l : Location)
    → put (unwrap_or (option_map (region_action src dst) found) Rest) (Gives output) m l ≡ put_region dst found output m l
region-stores src dst None output m l = refl
region-stores src dst (Some region) output m l = refl

info-stores : (z : Status) (k : ℕ) (found : Option Info) (output : Output) (m : Memory)
    → IsStorable (unwrap_or (option_map (info_action z k) found) Rest) output m → (l : Location)
    → put (unwrap_or (option_map (info_action z k) found) Rest) (Gives output) m l ≡ put_info found output m l
info-stores z k None output m s l = refl
info-stores z k (Some info) output m s l = put-info (building z k info) info output m (look z.structures info.dst) s l

info-can : (z : Status) (k : ℕ) (found : Option Info) (output : Output) (m : Memory)
    → IsStorable (unwrap_or (option_map (info_action z k) found) Rest) output m → CanHoldIn found output m
info-can z k None output m s = tt
info-can z k (Some info) output m s = info-holds (building z k info) info output m (look z.structures info.dst) s

-- what is stored of part k of a command
part-stores : (rec : List Command) (z : Status) (c : Command) (k : ℕ) (output : Output) (m : Memory) → k < piece_count c
    → IsStorable (part_action rec z c k) output m → Stores rec z c k output m
unfolding kind_of actions_of put_part
part-stores rec z (commands.Buffer id size usage content) k output m within s = absurd (omega arith)
part-stores rec z (commands.Structure id kind buffer offset size) k output m within s = absurd (omega arith)
part-stores rec z (commands.Destroy what id) k output m within s = absurd (omega arith)
part-stores rec z (commands.Sizes kind counts) k output m within s = absurd (omega arith)
part-stores rec z commands.Begin k output m within s = absurd (omega arith)
part-stores rec z commands.End k output m within s = absurd (omega arith)
part-stores rec z commands.Submit k output m within s = absurd (omega arith)
part-stores rec z commands.Wait k output m within s = absurd (omega arith)
part-stores rec z (commands.Read buffer offset size form) k output m within s = absurd (omega arith)
part-stores rec z (commands.Update buffer offset content) k output m within s =
    stores-by rec z (commands.Update buffer offset content) k output m (UpdateBytes (range buffer offset (length content)) content)
    (first-part _ k within) (λ l. refl)
part-stores rec z (commands.Fill buffer offset size value) k output m within s =
    stores-by rec z (commands.Fill buffer offset size value) k output m (FillBytes (range buffer offset size) value)
    (first-part _ k within) (λ l. refl)
part-stores rec z (commands.Copy src dst regions) k output m within s =
    stores-by rec z (commands.Copy src dst regions) k output m (unwrap_or (option_map (region_action src dst) (slice_get regions k)) Rest)
    (copy-part rec z src dst regions k (slice_get regions k) refl) (region-stores src dst (slice_get regions k) output m)
part-stores rec z (commands.Build infos) k output m within s =
    let is = build-part rec z infos k (slice_get infos k) refl in
    stores-by rec z (commands.Build infos) k output m (unwrap_or (option_map (info_action z k) (slice_get infos k)) Rest)
    is (info-stores z k (slice_get infos k) output m (subst (λ a. IsStorable a output m) is s))
part-stores rec z (commands.CopyStructure mode src dst) k output m within s =
    stores-by rec z (commands.CopyStructure mode src dst) k output m (CopyStructure mode src dst)
    (first-part _ k within) (λ l. refl)
part-stores rec z (commands.Serialize src dst form) k output m within s =
    stores-by rec z (commands.Serialize src dst form) k output m (SerializeStructure src (stretch_range dst) form) (first-part _ k within) (λ l. refl)
part-stores rec z (commands.Deserialize src dst uses) k output m within s =
    stores-by rec z (commands.Deserialize src dst uses) k output m (DeserializeStructure (stretch_range src) dst uses) (first-part _ k within) (λ l. refl)
part-stores rec z (commands.Property what structures dst) k output m within s =
    stores-by rec z (commands.Property what structures dst) k output m (property_action what structures dst)
    (first-part _ k within) (λ l. refl)
part-stores rec z (commands.Barrier src_stages src_access dst_stages dst_access buffers) k output m within s =
    stores-by rec z (commands.Barrier src_stages src_access dst_stages dst_access buffers) k output m Rest (first-part _ k within) (λ l. refl)
part-stores rec z (commands.Trace top rays count hits flags mask script) k output m within s =
    stores-by rec z (commands.Trace top rays count hits flags mask script) k output m (rays_action rec z top rays hits count flags mask k)
    (trace-part rec z top rays count hits flags mask script k within) (λ l. refl)

-- and what that needs
part-can : (rec : List Command) (z : Status) (c : Command) (k : ℕ) (output : Output) (m : Memory) → k < piece_count c
    → IsStorable (part_action rec z c k) output m → CanStore c k output m
unfolding kind_of actions_of
part-can rec z (commands.Buffer id size usage content) k output m within s = tt
part-can rec z (commands.Structure id kind buffer offset size) k output m within s = tt
part-can rec z (commands.Destroy what id) k output m within s = tt
part-can rec z (commands.Sizes kind counts) k output m within s = tt
part-can rec z commands.Begin k output m within s = tt
part-can rec z commands.End k output m within s = tt
part-can rec z commands.Submit k output m within s = tt
part-can rec z commands.Wait k output m within s = tt
part-can rec z (commands.Read buffer offset size form) k output m within s = tt
part-can rec z (commands.Update buffer offset content) k output m within s = tt
part-can rec z (commands.Fill buffer offset size value) k output m within s = tt
part-can rec z (commands.Copy src dst regions) k output m within s = tt
part-can rec z (commands.Build infos) k output m within s =
    info-can z k (slice_get infos k) output m
    (subst (λ a. IsStorable a output m) (build-part rec z infos k (slice_get infos k) refl) s)
part-can rec z (commands.CopyStructure mode src dst) k output m within s =
    subst (λ a. IsStorable a output m) (first-part (CopyStructure mode src dst) k within) s
part-can rec z (commands.Serialize src dst form) k output m within s = tt
part-can rec z (commands.Deserialize src dst uses) k output m within s =
    subst (λ a. IsStorable a output m) (first-part (DeserializeStructure (stretch_range src) dst uses) k within) s
part-can rec z (commands.Property what structures dst) k output m within s = tt
part-can rec z (commands.Barrier src_stages src_access dst_stages dst_access buffers) k output m within s = tt
part-can rec z (commands.Trace top rays count hits flags mask script) k output m within s = tt

-- the same of a piece
pub stores : (rec : List Command) (piece : Piece) (c : Command) (output : Output) (m : Memory) → IsPiece rec piece → slice_get rec piece.command ≡ Some c
    → IsStorable (piece_action rec piece) output m → (l : Location) → put (piece_action rec piece) (Gives output) m l ≡ put_part c piece.part output m l
stores rec piece c output m is found s =
    let e = command_is rec piece.command c found in
    subst (λ (x : Command). (l : Location) → put (piece_action rec piece) (Gives output) m l ≡ put_part x piece.part output m l) e
    (part-stores rec (status_at rec piece.command) (command_at rec piece.command) piece.part output m is.part s)

pub can_store : (rec : List Command) (piece : Piece) (c : Command) (output : Output) (m : Memory) → IsPiece rec piece → slice_get rec piece.command ≡ Some c
    → IsStorable (piece_action rec piece) output m → CanStore c piece.part output m
can_store rec piece c output m is found s =
    subst (λ (x : Command). CanStore x piece.part output m) (command_is rec piece.command c found)
    (part-can rec (status_at rec piece.command) (command_at rec piece.command) piece.part output m is.part s)

pub part_within : (rec : List Command) (piece : Piece) (c : Command) → IsPiece rec piece → slice_get rec piece.command ≡ Some c → piece.part < piece_count c
part_within rec piece c is found = subst (λ (x : Command). piece.part < piece_count x) (command_is rec piece.command c found) is.part
