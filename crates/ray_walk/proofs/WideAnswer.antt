-- By the nodes of wide trees a walk finds, and opens, what it does by those of the binary trees.
use Rattle.std.proofs.Common.{ℕ, suc, ◌≡◌, ◌≤◌, ◌+◌, ◌++◌, Bool, true, false, if◌then◌else◌, Option, List, [], ◌∷◌, length, refl, sym, ap, subst, ◌∙◌, sum_by, arith}
use Rattle.std.specs.Prelude.{All, IfOk, Result, Ok, Err, replicate}
use Rattle.std.specs.List.{flat_map}
use Rattle.std.proofs.lemmas.List.{length-replicate}
use Rattle.std.proofs.lemmas.List.Concat.{flat_map-cons, length-flat_map}
use Rattle.std.proofs.lemmas.List.Elements.{All-head, All-tail}
use Rattle.std.proofs.lemmas.List.Sums.{sum_by-cons}
use Rattle.ray_geom.specs.declared.ratio.Ratio.{Ratio}
use Rattle.ray_query.specs.declared.candidate.Candidate.{Candidate}
use Rattle.ray_query.specs.declared.commit.Commit.{Commit}
use Rattle.ray_query.specs.declared.decision.Decision.{Decision}
use Rattle.ray_query.specs.Play.{play, start}
use Rattle.ray_nearest.specs.declared.node.WalkNode.{WalkNode}
use Rattle.ray_nearest.specs.Answer.{answer_in}
use Rattle.ray_query.specs.KeyOrder.{AreApart, in_key_order}
use Rattle.ray_nearest.specs.Parts.{AreParts, SceneParts, all_from, scene_of, tested_at}
use Rattle.ray_nearest.specs.Scene.{IsScene, found_in, opened_in}
use Rattle.ray_query.specs.Limits.{distance_of}
use Rattle.ray_nearest.proofs.Growing.{IsScene-scene_of, every-each, opened-each}
use Rattle.ray_candidates.specs.Candidates.{trace_answer}
use Rattle.ray_candidates.specs.Standing.{structures_in}
use Rattle.ray_walk.specs.Sound.{IsWalkable}
use Rattle.ray_walk.specs.Traced.{IsNode, Traced, finds, parts_of, traced_scene}
use Rattle.ray_walk.specs.WideScene.{IsWideNode, narrow, wide_parts, wide_scene}
use Rattle.ray_walk.proofs.Answering.{apart, walk-answer}
use Rattle.ray_walk.proofs.Walking.{are-parts}
use Rattle.ray_walk.proofs.WideParts.{are-wide-parts}
use Rattle.ray_walk.proofs.WideSame.{given, leaves-same}

-- ---- in any scene

module _ (Known : WalkNode → Type 0) (p : SceneParts) (parts : AreParts Known p) where
  found-given : (ns : List WalkNode) → All Known ns → flat_map (scene_of p).every ns ≡ flat_map (given p p.finds) ns
  found-given [] known = refl
  found-given (n ∷ ns) known =
      flat_map-cons (scene_of p).every n ns
      ∙ ((λ i. every-each Known p parts (suc (p.rank n)) n (All-head Known n ns known) (omega arith) i ++ found-given ns (All-tail Known n ns known) i)
      ∙ sym (flat_map-cons (given p p.finds) n ns))

  -- a mark for each primitive that is tested at a node within a limit
  abbrev pub marks : Option Ratio → WalkNode → List (Unit {0})
  marks limit n = replicate (tested_at p limit n) tt

  opened-marks : (limit : Option Ratio) (n : WalkNode) → Known n → (scene_of p).opened limit n ≡ length (given p (marks limit) n)
  opened-marks limit n known =
      opened-each Known p parts limit (suc (p.rank n)) n known (omega arith)
      ∙ ((λ i. sum_by (λ m. sym (length-replicate (tested_at p limit m) tt) i) (all_from p n)) ∙ sym (length-flat_map (marks limit) (all_from p n)))

  opened-given : (limit : Option Ratio) (ns : List WalkNode) → All Known ns → sum_by ((scene_of p).opened limit) ns ≡ length (flat_map (given p (marks limit)) ns)
  opened-given limit ns known = each ns known ∙ sym (length-flat_map (given p (marks limit)) ns)
    where
      each : (ns : List WalkNode) → All Known ns → sum_by ((scene_of p).opened limit) ns ≡ sum_by (λ n. length (given p (marks limit) n)) ns
      each [] known = refl
      each (n ∷ ns) known =
          let one = sum_by-cons ((scene_of p).opened limit) n ns in
          let other = sum_by-cons (λ m. length (given p (marks limit) m)) n ns in
          let first = opened-marks limit n (All-head Known n ns known) in
          let rest = each ns (All-tail Known n ns known) in
          omega (arith, one, other, first, rest)

none-marked : (b : Bool) → replicate {A = Unit {0}} (if b then 0 else 0) tt ≡ []
none-marked true = refl
none-marked false = refl

-- ---- in that of a ray

module _ (s : Traced) (w : IsWalkable s) where
  found-same : found_in (scene_of (wide_parts s)) ≡ found_in (scene_of (parts_of s))
  found-same =
      found-given (IsWideNode s) (wide_parts s) (are-wide-parts s w) (wide_parts s).roots (are-wide-parts s w).roots
      ∙ (leaves-same s w (are-parts s w) (are-wide-parts s w) (finds s) (λ n. finds s (narrow s n))
      (record { top_inner = λ n. refl; top_leaf = λ n. refl; inner = λ i n. refl })
      (record { top_inner = λ n. refl; top_leaf = λ n. refl; inner = λ i n. refl }) (λ i n. refl)
      ∙ sym (found-given (IsNode s) (parts_of s) (are-parts s w) (parts_of s).roots (are-parts s w).roots))

  opened-same : (limit : Option Ratio) → opened_in (scene_of (wide_parts s)) limit ≡ opened_in (scene_of (parts_of s)) limit
  opened-same limit =
      let binary = marks (IsNode s) (parts_of s) (are-parts s w) limit in
      let wide = marks (IsWideNode s) (wide_parts s) (are-wide-parts s w) limit in
      opened-given (IsWideNode s) (wide_parts s) (are-wide-parts s w) limit (wide_parts s).roots (are-wide-parts s w).roots
      ∙ (ap length (leaves-same s w (are-parts s w) (are-wide-parts s w) binary wide
      (record { top_inner = λ n. none-marked _; top_leaf = λ n. none-marked _; inner = λ i n. none-marked _ })
      (record { top_inner = λ n. none-marked _; top_leaf = λ n. none-marked _; inner = λ i n. none-marked _ }) (λ i n. refl))
      ∙ sym (opened-given (IsNode s) (parts_of s) (are-parts s w) limit (parts_of s).roots (are-parts s w).roots))

  pub is-wide-scene : IsScene (IsWideNode s) (wide_scene s)
  unfolding wide_scene
  is-wide-scene = IsScene-scene_of (IsWideNode s) (wide_parts s) (are-wide-parts s w) (subst AreApart (sym found-same) (apart s w))

  pub wide-answer : (meaning : Candidate → Decision) (number : ℕ)
      → answer_in meaning number s.flags (wide_scene s) ≡ trace_answer meaning s.top.contents (structures_in s.bottoms) s.ray number s.flags s.mask
  unfolding wide_scene traced_scene
  wide-answer meaning number =
      ap (λ fs. (play meaning number s.flags start (in_key_order fs)).committed) found-same ∙ walk-answer s w meaning number

  pub wide-opened : (limit : Option Ratio) → opened_in (wide_scene s) limit ≡ opened_in (traced_scene s) limit
  unfolding wide_scene traced_scene
  wide-opened limit = opened-same limit

-- ---- of a scene that is told by its parts

pub trace-answer : (s t : Traced) → IsWalkable s → s ≡ t → (meaning : Candidate → Decision) (number : ℕ)
    → answer_in meaning number t.flags (wide_scene s) ≡ trace_answer meaning t.top.contents (structures_in t.bottoms) t.ray number t.flags t.mask
trace-answer s t w same meaning number =
    subst (λ (u : Traced). answer_in meaning number u.flags (wide_scene s) ≡ trace_answer meaning u.top.contents (structures_in u.bottoms) u.ray number u.flags u.mask) same
    (wide-answer s w meaning number)

-- the bound, where there is an answer
pub trace-bound : {E : Type 0} (s t : Traced) → IsWalkable s → s ≡ t → (r : Result (Option Commit) E) (now later : ℕ)
    → IfOk r (λ answer. later ≤ now + opened_in (wide_scene s) (distance_of answer)) → IfOk r (λ answer. later ≤ now + opened_in (traced_scene t) (distance_of answer))
trace-bound s t w same (Ok answer) now later bound =
    let is : opened_in (wide_scene s) (distance_of answer) ≡ opened_in (traced_scene t) (distance_of answer) =
    wide-opened s w (distance_of answer) ∙ ap (λ (u : Traced). opened_in (traced_scene u) (distance_of answer)) same in
    omega (arith, is, bound)
trace-bound s t w same (Err e) now later bound = bound
