-- A trace of the memory as it is, and as its action sees it: the same, since the structures of active
-- instances are those that are named to be in use.
use Rattle.std.proofs.Common.{ℕ, ◌≡◌, ◌+◌, List, Option, Some, None, Ok, Bool, true, false, refl, ap, sym, subst, ◌∙◌, get_or}
use Rattle.std.specs.Prelude.{IfSome, option_and_then, if◌then◌else◌}
use Rattle.ray_geom.specs.Scene.{RayValue}
use Rattle.ray_bytes.specs.Hits.{hit_bytes}
use Rattle.ray_action.specs.Clients.{Meaning}
use Rattle.ray_query.specs.declared.found.Found.{Found}
use Rattle.ray_query.specs.Play.{play, start}
use Rattle.ray_query.specs.Record.{record_of}
use Rattle.ray_contents.specs.Gathering.{gathered}
use Rattle.ray_top.specs.Instances.{InstanceValue}
use Rattle.ray_top.specs.Contents.{TopValue}
use Rattle.ray_candidates.specs.Candidates.{Structures}
use Rattle.ray_candidates.specs.Laws.{AgreeFor}
use Rattle.ray_candidates.specs.Standing.{IsStanding, AreStanding}
use Rattle.ray_candidates.proofs.Agreeing.{candidates-agree}
use Rattle.ray_geometries.specs.Contents as bottom_specs
use Rattle.ray_action.specs.Memory.{Memory, Contents, ContentsAt, as_bottom, as_top, bytes_at}
use Rattle.ray_action.specs.Areas.{has}
use Rattle.ray_action.specs.Action.{Tracing}
use Rattle.ray_action.specs.Outcomes.{bottoms_in, hit_by, hit_at, ray_in, hits_outcome, trace_outcome}
use Rattle.ray_action.specs.Seeing.{see_structures}
use Rattle.ray_device.specs.Laws.{TracesAreFree}
use Rattle.ray_action.specs.Traceable.{bottoms_of}
use Rattle.ray_device.specs.Tracing.{rays_outcome, traced_through}

-- what is seen of an id is what stands there, where anything is seen
seen-at : (b : Bool) (contents : Option Contents) (bottom : bottom_specs.ContentsValue) → option_and_then as_bottom (if b then contents else None) ≡ Some bottom
    → option_and_then as_bottom (if b then contents else None) ≡ option_and_then as_bottom contents
seen-at true contents bottom e = refl
seen-at false contents bottom e = absurd cc

module _ (m : Memory) (uses : List ℕ) (top : TopValue) (standing : AreStanding top (bottoms_in (see_structures m uses))) where
  seen : Structures
  seen = bottoms_in (see_structures m uses)

  agree-one : (i : Option InstanceValue) → IfSome i (IsStanding top.used (bottoms_in (see_structures m uses)))
      → IfSome i (λ (j : InstanceValue). bottoms_in (see_structures m uses) j.id ≡ bottoms_of m j.id)
  agree-one None s = s
  agree-one (Some i) s = seen-at (has uses i.id) (m (ContentsAt i.id)) s.bottom s.stands

  agree : AgreeFor top.contents (bottoms_in (see_structures m uses)) (bottoms_of m)
  agree = record { each = λ n d below. agree-one (get_or top.contents.instances n d) (standing.each n d below) }

  stands-one : (i : Option InstanceValue) → IfSome i (IsStanding top.used (bottoms_in (see_structures m uses))) → IfSome i (IsStanding top.used (bottoms_of m))
  stands-one None s = s
  stands-one (Some i) s = record {
    bottom = s.bottom;
    stands = sym (seen-at (has uses i.id) (m (ContentsAt i.id)) s.bottom s.stands) ∙ s.stands;
    bounds = s.bounds;
  }

  stands : AreStanding top (bottoms_of m)
  stands = record { each = λ n d below. stands-one (get_or top.contents.instances n d) (standing.each n d below) }

-- the hit of a ray is the same
same-hit : (meaning : Meaning) (trace : Tracing) (m : Memory) (top : TopValue) (number : ℕ) (ray : Option RayValue) → AreStanding top (bottoms_in (see_structures m trace.uses))
    → hit_by meaning top (bottoms_in (see_structures m trace.uses)) trace.flags trace.mask number ray
    ≡ hit_by meaning top (bottoms_of m) trace.flags trace.mask number ray
same-hit meaning trace m top number None standing = refl
same-hit meaning trace m top number (Some ray) standing =
    ap (λ (fs : List Found). Ok (hit_bytes (record_of ((play meaning number trace.flags start fs).committed))))
    (candidates-agree top.contents (bottoms_in (see_structures m trace.uses)) (bottoms_of m) ray trace.flags trace.mask (agree m trace.uses top standing))

same-hits : (meaning : Meaning) (trace : Tracing) (m : Memory) (top : TopValue) (rays : List ℕ) → AreStanding top (bottoms_in (see_structures m trace.uses))
    → hits_outcome (gathered (hit_at meaning trace top (see_structures m trace.uses) rays) trace.count)
    ≡ rays_outcome top (bottoms_of m) meaning trace.flags trace.mask rays trace.first trace.count
unfolding rays_outcome
same-hits meaning trace m top rays standing =
    λ i. hits_outcome (gathered (λ k. same-hit meaning trace m top (trace.first + k) (ray_in rays k) standing i) trace.count)

same-trace : (meaning : Meaning) (trace : Tracing) (m : Memory) (rays : Option (List ℕ)) (found : Option TopValue) (top : TopValue) → found ≡ Some top
    → AreStanding top (bottoms_in (see_structures m trace.uses))
    → trace_outcome meaning trace (see_structures m trace.uses) rays found
    ≡ traced_through (bottoms_of m) rays found trace.first trace.count trace.flags trace.mask meaning
same-trace meaning trace m None found top is standing = refl
same-trace meaning trace m (Some rays) None top is standing = absurd cc
same-trace meaning trace m (Some rays) (Some t) top is standing =
    let same : t ≡ top = cc in
    same-hits meaning trace m t rays (subst (λ (x : TopValue). AreStanding x (bottoms_in (see_structures m trace.uses))) (sym same) standing)

pub traces-are_free : TracesAreFree
traces-are_free meaning trace m ready = record {
  can = record {
    rays = ready.rays;
    top = ready.top;
    is_it = ready.is_it;
    standing = stands m trace.uses ready.top ready.standing;
    flags_agree = ready.flags;
  };
  same = same-trace meaning trace m (bytes_at m trace.rays) (option_and_then as_top (m (ContentsAt trace.top))) ready.top ready.is_it ready.standing;
}
