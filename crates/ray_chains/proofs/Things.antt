-- What a thing's fronts have to do with those of everything.
use Rattle.std.proofs.Common.{◌≡◌, ◌≤◌, ◌<◌, ◌⊎◌, ℕ, zero, suc, Bool, true, refl, sym, subst, ◌∙◌, inl, inr, arith}
use Rattle.ray_chains.specs.Dependencies.{IsIn}
use Rattle.ray_chains.specs.Fronts.{front}
use Rattle.ray_chains.specs.Overrides.{HoldsStages, IsLastOver}
use Rattle.ray_chains.specs.Queues.{Node, Event, Source, any_stage, any_access, is_among, nodes_at, steps, everywhere}
use Rattle.ray_chains.specs.QueueLaws.{IsOfQueue, ActsOver, IsQuiet, IsQuietBelow, holds_node, ThingsSince, ThingsAlike}
use Rattle.ray_chains.proofs.Fronts.{stays, gives, gives-all, comes}
use Rattle.ray_chains.proofs.Overrides.{over-more, overrides-are-exact}
use Rattle.ray_chains.proofs.Nodes.{at-of, at-in, nodes-at-in}
use Rattle.ray_chains.proofs.Events.{from-known, acting-alike, hold-taken, hold-only}
use Rattle.ray_chains.proofs.Across.{signals-alike}

-- ---- where no barrier was limited to the thing

things-within :
    (acts : ℕ → Bool) (events : ℕ → Event) (source : Source) (queue n k : ℕ) (v : Node) → ActsOver events acts
    → IsQuietBelow events acts queue n → IsOfQueue queue v → k ≤ n
    → front acts (steps events source) k v ≤ front (everywhere events) (steps events source) k v
things-within acts events source queue n zero v over quiet of l = omega arith
things-within acts events source queue n (suc k) v over quiet of l =
    let all : ℕ = front (everywhere events) (steps events source) (suc k) v in
    let s = stays (everywhere events) (steps events source) k v in
    let old = things-within acts events source queue n k v over quiet of (omega arith) in
    comes acts (steps events source) k v (front (everywhere events) (steps events source) (suc k) v) (omega arith) (λ on h.
    let alike =
    acting-alike events k source (events k) (acts k) queue v of h (λ scopes buffers e. quiet k scopes buffers l e) (over k)
    in
    let acting = sym alike ∙ on in (
      λ t. gives-all (everywhere events) (steps events source) k v acting t h,
      λ u i.
          let g = gives (everywhere events) (steps events source) k u v acting i h in
          elim (from-known events k source (events k) queue v u of h i) [
            | inl (stage, t, e) ↦
                (let b =
                things-within acts events source queue n k u over quiet (subst (IsOfQueue queue) (sym e) (at-of queue stage)) (omega arith)
                in
                omega arith)
            | inr (submit, e) ↦
                (let b =
                subst (λ x. front acts (steps events source) k x ≡ front (everywhere events) (steps events source) k x) (sym e)
                (signals-alike acts events source k submit over)
                in
                omega arith)
          ],
    ))

pub things-alike : ThingsAlike
things-alike acts events source queue n v over of quiet =
    let a = things-within acts events source queue n n v over quiet of (omega arith) in
    let b = over-more (steps events source) (everywhere events) acts over n v in
    omega arith

-- ---- where one was

pub holds-stages : (events : ℕ → Event) (source : Source) (queue : ℕ) → HoldsStages (steps events source) (holds_node events) (nodes_at queue any_stage)
holds-stages events source queue = record {
  taken = λ u m i from.
      let (stage, t, e) = nodes-at-in queue any_stage u i in
      subst (λ x. holds_node events x m ≡ true) (sym e)
      (hold-taken events m source (events m) queue stage (subst (λ x. IsIn x (steps events source m).from) e from));
  only = λ u m i held.
      let (stage, t, e) = nodes-at-in queue any_stage u i in
      let found =
      hold-only events m source (events m) queue stage (subst (λ x. holds_node events x m ≡ true) e held)
      in
      subst (λ x. IsIn x (steps events source m).from ⊎ ((steps events source m).takes_all ≡ true)) (sym e) found;
}

pub last-over :
    (acts : ℕ → Bool) (events : ℕ → Event) (source : Source) (queue t n : ℕ) → ActsOver events acts → t < n
    → IsQuiet events acts queue t n
    → IsLastOver acts (everywhere events) (steps events source) (nodes_at queue any_stage)
    (is_among queue any_stage any_access) t n
last-over acts events source queue t n over l quiet = record {
  below = l;
  over = over;
  agree = λ m v after before of h.
      acting-alike events m source (events m) (acts m) queue v of h
      (λ scopes buffers e. quiet m scopes buffers after before e) (over m);
  known = λ m v u after before of h acting i.
      elim (from-known events m source (events m) queue v u of h i) [
        | inl (stage, t, e) ↦
            inl (
              subst (IsOfQueue queue) (sym e) (at-of queue stage),
              subst (λ x. IsIn x (nodes_at queue any_stage)) (sym e) (at-in queue any_stage stage refl),
            )
        | inr (submit, e) ↦
            inr (subst (λ x. front acts (steps events source) m x ≡ front (everywhere events) (steps events source) m x)
            (sym e) (signals-alike acts events source m submit over))
      ];
}

pub things-since : ThingsSince
things-since acts events source queue t n v over of l quiet =
    overrides-are-exact Node acts (everywhere events) (steps events source) (holds_node events)
    (nodes_at queue any_stage) (is_among queue any_stage any_access) t n v (holds-stages events source queue)
    (last-over acts events source queue t n over l quiet) of
