-- Steps of which some act on everything, and others on some things alone: of one such thing it is enough
-- to keep its fronts just after the last step that acted on it and not on everything. (Own.)
use Rattle.std.specs.Prelude.{◌≡◌, ◌<◌, ◌⊎◌, ℕ, suc, max, Bool, true, List, nat_lt, if◌then◌else◌}
use Rattle.ray_chains.specs.Dependencies.{Step, IsIn}
use Rattle.ray_chains.specs.Fronts.{front, greatest_of}

module _ {N : Type 0} where
  -- the steps of the chains that begin at a stage u: all that is done is taken up where a step holds u
  abbrev pub chain_from : (N → ℕ → Bool) → (ℕ → Step N) → N → ℕ → Step N
  chain_from holds steps u m = record { takes_all = holds u m; from = (steps m).from; to = (steps m).to }

  -- the front of a thing where number n stands, by its fronts just after step t: the greatest of the front
  -- of everything, its own old one, and its own old one at each stage from which a chain of steps on
  -- everything, begun after t, leads to the node
  abbrev pub front_since : (ℕ → Bool) → (ℕ → Step N) → (N → ℕ → Bool) → List N → ℕ → (N → ℕ) → ℕ → N → ℕ
  front_since everywhere steps holds stages t own n v =
      max (front everywhere steps n v)
      (max (own v)
      (greatest_of
      (λ u. if nat_lt t (front everywhere (chain_from holds steps u) n v) then own u else 0) stages))

  -- which steps hold a stage: those that take up from it, and beside them none but those that take all
  pub record HoldsStages (steps : ℕ → Step N) (holds : N → ℕ → Bool) (stages : List N) : Type 0 where
    pub taken : (u : N) (m : ℕ) → IsIn u stages → IsIn u (steps m).from → holds u m ≡ true
    pub only :
        (u : N) (m : ℕ) → IsIn u stages → holds u m ≡ true
        → IsIn u (steps m).from ⊎ ((steps m).takes_all ≡ true)

  -- step t is the last before number n that acted on the thing and not on everything, as far as nodes near
  -- it are concerned: between the two, steps to such nodes act on the thing exactly where they act on
  -- everything, and those that do take up from stages, or from nodes whose front is that of everything
  pub record IsLastOver (acts everywhere : ℕ → Bool) (steps : ℕ → Step N) (stages : List N) (near : N → Bool) (t n : ℕ) : Type 0 where
    pub below : t < n
    pub over : (m : ℕ) → everywhere m ≡ true → acts m ≡ true
    pub agree :
        (m : ℕ) (v : N) → t < m → m < n → near v ≡ true → (steps m).to v ≡ true → acts m ≡ everywhere m
    pub known :
        (m : ℕ) (v u : N) → t < m → m < n → near v ≡ true → (steps m).to v ≡ true → everywhere m ≡ true
        → IsIn u (steps m).from
        → ((near u ≡ true) × IsIn u stages) ⊎ (front acts steps m u ≡ front everywhere steps m u)

-- what is kept of the last such step is enough
abbrev pub OverridesAreExact : Type 0 → Type 0
OverridesAreExact N =
    (acts everywhere : ℕ → Bool) (steps : ℕ → Step N) (holds : N → ℕ → Bool) (stages : List N)
    (near : N → Bool) (t n : ℕ) (v : N)
    → HoldsStages steps holds stages → IsLastOver acts everywhere steps stages near t n → near v ≡ true
    → front acts steps n v
    ≡ front_since everywhere steps holds stages t (front acts steps (suc t)) n v
