-- What has reached a node is what was done below one number, the node's front. (Own.)
use Rattle.std.specs.Prelude.{◌≡◌, ◌<◌, ◌≤◌, ℕ, zero, suc, max, Bool, true, false, List, [], ◌∷◌, nat_lt, if◌then◌else◌}
use Rattle.ray_chains.specs.Dependencies.{Step, IsIn, reached}

-- the greatest number that a function has on a list, 0 where the list is empty
abbrev pub greatest_of : {X : Type 0} → (X → ℕ) → List X → ℕ
greatest_of f [] = 0
greatest_of f (x ∷ xs) = max (f x) (greatest_of f xs)

module _ {N : Type 0} where
  -- below which number step number n takes up what was done, by the nodes' fronts before it
  abbrev pub taken_up : Step N → ℕ → (N → ℕ) → ℕ
  taken_up s n fronts = if s.takes_all then n else greatest_of fronts s.from

  -- the nodes' fronts after step number n
  abbrev pub front_after : Step N → ℕ → (N → ℕ) → N → ℕ
  front_after s n fronts v = max (fronts v) (if s.to v then taken_up s n fronts else 0)

  -- the front of a node where number n stands
  abbrev pub front : (ℕ → Bool) → (ℕ → Step N) → ℕ → N → ℕ
  front acts steps zero v = 0
  front acts steps (suc n) v =
      if acts n then front_after (steps n) n (front acts steps n) v else front acts steps n v

-- a front is exact: what was done as number i has reached a node where i is below the node's front
abbrev pub FrontsAreExact : Type 0 → Type 0
FrontsAreExact N =
    (acts : ℕ → Bool) (steps : ℕ → Step N) (i n : ℕ) (v : N)
    → reached acts steps i n v ≡ nat_lt i (front acts steps n v)

-- what is known of fronts without looking into them: they never exceed the number at which they stand nor
-- fall; a step that doesn't act changes none; one that acts hands on to the nodes of its `to` all, where it
-- takes all, and else what has reached a node of its `from`; and nothing more comes
pub record AreBounded {N : Type 0} (acts : ℕ → Bool) (steps : ℕ → Step N) : Type 0 where
  pub within : (n : ℕ) (v : N) → front acts steps n v ≤ n
  pub stays : (n : ℕ) (v : N) → front acts steps n v ≤ front acts steps (suc n) v
  pub still : (n : ℕ) (v : N) → acts n ≡ false → front acts steps (suc n) v ≡ front acts steps n v
  pub gives_all :
      (n : ℕ) (v : N) → acts n ≡ true → (steps n).takes_all ≡ true → (steps n).to v ≡ true
      → n ≤ front acts steps (suc n) v
  pub gives :
      (n : ℕ) (u v : N) → acts n ≡ true → IsIn u (steps n).from → (steps n).to v ≡ true
      → front acts steps n u ≤ front acts steps (suc n) v
  pub comes :
      (n : ℕ) (v : N) (b : ℕ) → front acts steps n v ≤ b
      → (acts n ≡ true → (steps n).to v ≡ true
      → ((steps n).takes_all ≡ true → n ≤ b)
      × ((u : N) → IsIn u (steps n).from → front acts steps n u ≤ b))
      → front acts steps (suc n) v ≤ b

-- all fronts are
abbrev pub FrontsAreBounded : Type 0 → Type 0
FrontsAreBounded N = (acts : ℕ → Bool) (steps : ℕ → Step N) → AreBounded acts steps

-- which steps act at number i or before it doesn't matter to what was done as number i
abbrev pub LaterStepsCount : Type 0 → Type 0
LaterStepsCount N =
    (acts others : ℕ → Bool) (steps : ℕ → Step N) (i n : ℕ) (v : N)
    → ((m : ℕ) → i < m → acts m ≡ others m)
    → reached acts steps i n v ≡ reached others steps i n v

-- steps are taken over by other steps at other nodes: where one acts so does the other, which at the
-- mapped nodes takes, takes up from and hands on to no fewer
pub record AreTakenOver {N M : Type 0} (map_node : N → M) (acts : ℕ → Bool) (steps : ℕ → Step N) (other_acts : ℕ → Bool) (others : ℕ → Step M) : Type 0 where
  pub acting : (m : ℕ) → acts m ≡ true → other_acts m ≡ true
  pub taking : (m : ℕ) → (steps m).takes_all ≡ true → (others m).takes_all ≡ true
  pub from : (m : ℕ) (u : N) → IsIn u (steps m).from → IsIn (map_node u) (others m).from
  pub to : (m : ℕ) (v : N) → (steps m).to v ≡ true → (others m).to (map_node v) ≡ true

-- fronts go through such a map
abbrev pub FrontsGoThrough : Type 0 → Type 0 → Type 0
FrontsGoThrough N M =
    (map_node : N → M) (acts : ℕ → Bool) (steps : ℕ → Step N) (other_acts : ℕ → Bool) (others : ℕ → Step M)
    → AreTakenOver map_node acts steps other_acts others → (n : ℕ) (v : N)
    → front acts steps n v ≤ front other_acts others n (map_node v)
