-- Pieces of one command don't conflict.
use Rattle.std.proofs.Common.{◌≡◌, ◌<◌, ◌*◌, ℕ, List, [], Option, Some, None, refl, sym, ◌∙◌, ap, subst, arith, map, length}
use Rattle.std.specs.Prelude.{slice_get, option_map}
use Rattle.std.specs.List.{range_with_len}
use Rattle.std.specs.Option.{option_map_or}
use Rattle.ray_cmd.specs.declared.command.Command.{Command}
use Rattle.ray_cmd.specs.declared.command.Command.TheVariants as commands
use Rattle.ray_cmd.specs.declared.info.Info.{Info}
use Rattle.ray_cmd.specs.declared.place.Place.TheVariants.{Part}
use Rattle.ray_ranges.specs.First.{meets_before}
use Rattle.ray_rules.specs.declared.stage.Stage.{Stage}
use Rattle.ray_rules.specs.Access.{info_accesses, no_access, piece_accesses, stage_of}
use Rattle.ray_rules.specs.Conflicts.{first_conflict, sources_in, target_of, v16}
use Rattle.ray_rules.specs.Ranges.{range}
use Rattle.ray_rules.specs.Ranges as ranges
use Rattle.ray_rules.specs.Status.{Status}
use Rattle.ray_rules.specs.Kinds.{kind_of}
use Rattle.ray_action.specs.Action.{Action}
use Rattle.ray_action.specs.Memory.{Location}
use Rattle.ray_action.specs.Pieces.{actions_of, rays_action, region_action, trace_pieces}
use Rattle.ray_action.specs.Touching.{TouchesWithin}
use Rattle.ray_action.proofs.Touching.{touch_within}
use Rattle.ray_rules.proofs.Kept.{no_part}
use Rattle.ray_permitted.proofs.Truth.{made_of_item, made_of_number, one_item, within}
use Rattle.ray_permitted.proofs.Waits.{not_broken}
use Rattle.ray_permitted.proofs.InfosApart.{Clash, InfoTouches, clear_at, info_at, infos_apart, touches_of_info}
use Rattle.ray_permitted.proofs.RegionsApart.{regions_apart}
use Rattle.ray_permitted.proofs.RaysApart.{rays_apart}

unmapped : (found : Option ℕ) → option_map Part found ≡ None → found ≡ None
unmapped None e = refl
unmapped (Some k) e = absurd cc

-- where a command has one action
abbrev OneOnly : ℕ → ℕ → Type 0
OneOnly k m = k < m → m ≡ 0 → ⊥

no_second_one : (k m : ℕ) → OneOnly k m
no_second_one k m less none = omega (arith, less, none)

info_of_piece : (rec : List Command) (z : Status) (infos : List Info) (k : ℕ) (a : Action) (info : Info) → slice_get infos k ≡ Some info
    → TouchesWithin a (piece_accesses rec z (commands.Build infos) k) → InfoTouches a info
unfolding piece_accesses
info_of_piece rec z infos k a info there within =
    touches_of_info z a info (subst (λ o. TouchesWithin a (option_map_or (info_accesses z.buffers) o no_access)) there within)

-- two pieces of a command that keeps V16
pub pieces_apart : (rec : List Command) (z : Status) (c : Command) (s : Stage) (k m : ℕ) (a b : Action) (l : Location) → v16 c ≡ None → stage_of c ≡ Some s → k < m
    → slice_get (actions_of rec z c) k ≡ Some a → slice_get (actions_of rec z c) m ≡ Some b → Clash a b l → ⊥
unfolding actions_of stage_of kind_of v16
pieces_apart rec z (commands.Update buffer offset content) s k m a b l e stage less here there clash = no_second_one k m less (one_item _ b m there).0
pieces_apart rec z (commands.Fill buffer offset size value) s k m a b l e stage less here there clash = no_second_one k m less (one_item _ b m there).0
pieces_apart rec z (commands.CopyStructure mode src dst) s k m a b l e stage less here there clash = no_second_one k m less (one_item _ b m there).0
pieces_apart rec z (commands.Serialize src dst form) s k m a b l e stage less here there clash = no_second_one k m less (one_item _ b m there).0
pieces_apart rec z (commands.Deserialize src dst uses) s k m a b l e stage less here there clash = no_second_one k m less (one_item _ b m there).0
pieces_apart rec z (commands.Property what structures dst) s k m a b l e stage less here there clash = no_second_one k m less (one_item _ b m there).0
pieces_apart rec z (commands.Copy src dst regions) s k m a b l e stage less here there clash =
    let r = made_of_item (region_action src dst) regions k a here in
    let t = made_of_item (region_action src dst) regions m b there in
    let fail = no_part (meets_before (map target_of regions) (sources_in src dst regions)) (range_with_len 0 (length (map target_of regions))) e in
    regions_apart src dst regions k m r.0 t.0 l fail less r.1 t.1 (subst (λ x. Clash x (region_action src dst t.0) l) (sym r.2) (subst (λ x. Clash a x l) (sym t.2) clash))
pieces_apart rec z (commands.Build infos) s k m a b l e stage less here there clash =
    let x = info_at z 0 infos k a here in
    let y = info_at z 0 infos m b there in
    infos_apart a b x.0 y.0 l (info_of_piece rec z infos k a x.0 x.1 (touch_within rec z (commands.Build infos) s k a stage here))
    (info_of_piece rec z infos m b y.0 y.1 (touch_within rec z (commands.Build infos) s m b stage there))
    ((clear_at [] 0 infos (unmapped (first_conflict [] 0 infos) e) m y.0 y.1).1 k x.0 less x.1) clash
pieces_apart rec z (commands.Trace top rays count hits flags mask script) s k m a b l e stage less here there clash =
    let act = rays_action rec z top rays hits count flags mask in
    let r = made_of_number act 0 (trace_pieces count) k a here in
    let t = made_of_number act 0 (trace_pieces count) m b there in
    let first : act k ≡ a = ap act (omega arith) ∙ r.1 in
    let second : act m ≡ b = ap act (omega arith) ∙ t.1 in
    rays_apart rec z top rays hits count flags mask k m l
    (not_broken (ranges.meets (range rays.buffer rays.offset (40 * count)) (range hits.buffer hits.offset (80 * count))) e) less r.0 t.0
    (subst (λ x. Clash x (act m) l) (sym first) (subst (λ x. Clash a x l) (sym second) clash))
pieces_apart rec z _ s k m a b l e stage less here there clash = absurd cc
