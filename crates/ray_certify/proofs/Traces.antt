-- A trace between two commands of a run, and its rays.
use Rattle.std.proofs.Common.{ℕ, ◌≡◌, ◌<◌, ◌%◌, List, [], Option, Some, None, refl, ap, sym, subst, ◌∙◌}
use Rattle.std.specs.Prelude.{IfSome, option_and_then, option_map}
use Rattle.ray_flags.specs.declared.ray_flags.RayFlags.{RayFlags}
use Rattle.ray_script.specs.declared.raw_rule.RawRule.{RawRule}
use Rattle.ray_script.specs.Meaning.{script_decision}
use Rattle.ray_top.specs.Contents.{TopValue}
use Rattle.ray_top.specs.Trees.{without_tree}
use Rattle.ray_candidates.specs.Candidates.{Structures}
use Rattle.ray_candidates.specs.Standing.{AreStanding, structures_in}
use Rattle.ray_cmd.specs.declared.command.Command.{Command}
use Rattle.ray_cmd.specs.declared.command.Command.TheVariants as commands
use Rattle.ray_cmd.specs.declared.spot.Spot.{Spot}
use Rattle.ray_action.specs.Memory.{ContentsAt, Memory, as_top, bytes_at}
use Rattle.ray_action.specs.Pieces.{rays_range}
use Rattle.ray_action.specs.Traceable.{IsTraceable, bottoms_of}
use Rattle.ray_memory.specs.declared.tracing.TraceInputs.{TraceInputs}
use Rattle.ray_memory.specs.Tracing.{TraceSeen, all_rays, lent, row_of, seen_from, seen_of}
use Rattle.ray_certify.specs.Rays.{first_rays}
use Rattle.ray_certify.specs.Scenes.{rays_in}
use Rattle.ray_certify.proofs.Lines.{joined_none}

-- without rays
pub none_traced : (m : Memory) (i : ℕ) (c : Command) (top : ℕ) (rays : Spot) (count : ℕ) (hits : Spot) (flags : RayFlags) (mask : ℕ) (script : List RawRule)
    → c ≡ commands.Trace top rays count hits flags mask script → count ≡ 0 → rays_in m i c ≡ []
none_traced m i c top rays count hits flags mask script is none =
    ap (rays_in m i) (is ∙ ap (λ n. commands.Trace top rays n hits flags mask script) none) ∙ joined_none _

-- no trace
pub not_traced : (m : Memory) (i : ℕ) (c : Command) → ((top : ℕ) (rays : Spot) (count : ℕ) (hits : Spot) (flags : RayFlags) (mask : ℕ) (script : List RawRule)
    → c ≡ commands.Trace top rays count hits flags mask script → ⊥) → rays_in m i c ≡ []
not_traced m i (commands.Buffer id size usage content) not = refl
not_traced m i (commands.Structure id kind buffer offset size) not = refl
not_traced m i (commands.Destroy what id) not = refl
not_traced m i (commands.Sizes kind counts) not = refl
not_traced m i commands.Begin not = refl
not_traced m i commands.End not = refl
not_traced m i commands.Submit not = refl
not_traced m i commands.Wait not = refl
not_traced m i (commands.Read buffer offset size form) not = refl
not_traced m i (commands.Update buffer offset content) not = refl
not_traced m i (commands.Fill buffer offset size value) not = refl
not_traced m i (commands.Copy src dst regions) not = refl
not_traced m i (commands.Build infos) not = refl
not_traced m i (commands.CopyStructure mode src dst) not = refl
not_traced m i (commands.Serialize src dst form) not = refl
not_traced m i (commands.Deserialize src dst uses) not = refl
not_traced m i (commands.Property what structures dst) not = refl
not_traced m i (commands.Barrier src_stages src_access dst_stages dst_access buffers) not = refl
not_traced m i (commands.Trace top rays count hits flags mask script) not = absurd (not top rays count hits flags mask script refl)

-- what is lent stands as the trace asks
lent-stands : (bottoms : Structures) (top : TopValue) (bytes : Option (List ℕ)) (t : TraceInputs) → Some (lent t) ≡ seen_from bottoms (Some top) bytes → AreStanding top bottoms
    → AreStanding (without_tree t.top.now) (structures_in t.bottoms.now)
lent-stands bottoms top None t is standing = absurd cc
lent-stands bottoms top (Some bytes) t is standing =
    let same : lent t ≡ record { top = top; bottoms = bottoms; rays = row_of bytes } = inside is in
    subst (λ (s : TraceSeen). AreStanding s.top s.bottoms) (sym same) standing
  where
    inside : {x y : TraceSeen} → Some x ≡ Some y → x ≡ y
    inside e = cc

by_inputs : (m : Memory) (top : ℕ) (range : Option (List ℕ)) (found : Option TopValue) (t : TopValue) → found ≡ Some t → AreStanding t (bottoms_of m) → (inputs : Option TraceInputs)
    → option_map lent inputs ≡ seen_from (bottoms_of m) found range → IfSome inputs (λ (x : TraceInputs). AreStanding (without_tree x.top.now) (structures_in x.bottoms.now))
by_inputs m top range found t is standing None same = tt
by_inputs m top range found t is standing (Some x) same =
    lent-stands (bottoms_of m) t range x (subst (λ (f : Option TopValue). Some (lent x) ≡ seen_from (bottoms_of m) f range) is same) standing

pub inputs_stand : (m : Memory) (c : Command) (top : ℕ) (rays : Spot) (count : ℕ) (hits : Spot) (flags : RayFlags) (mask : ℕ) (script : List RawRule)
    → c ≡ commands.Trace top rays count hits flags mask script → IsTraceable m top (rays_range rays count 0) flags → (inputs : Option TraceInputs) → option_map lent inputs ≡ seen_of m c
    → IfSome inputs (λ (x : TraceInputs). AreStanding (without_tree x.top.now) (structures_in x.bottoms.now))
inputs_stand m c top rays count hits flags mask script is can inputs same =
    by_inputs m top (bytes_at m (all_rays rays count)) (option_and_then as_top (m (ContentsAt top))) can.top can.is_it can.standing inputs (same ∙ ap (seen_of m) is)

-- its rays
pub rays_traced : (m : Memory) (i : ℕ) (c : Command) (top : ℕ) (rays : Spot) (count : ℕ) (hits : Spot) (flags : RayFlags) (mask : ℕ) (script rules : List RawRule) (seen : Option TraceSeen)
    → c ≡ commands.Trace top rays count hits flags mask script → rules ≡ script → seen ≡ seen_of m c
    → rays_in m i c ≡ first_rays (record { command = i; flags = flags; mask = mask % 256 }) (script_decision rules) seen count
rays_traced m i c top rays count hits flags mask script rules seen is same there =
    ap (rays_in m i) is
    ∙ (λ j. first_rays (record { command = i; flags = flags; mask = mask % 256 }) (script_decision (sym same j)) ((sym (there ∙ ap (seen_of m) is)) j) count)
