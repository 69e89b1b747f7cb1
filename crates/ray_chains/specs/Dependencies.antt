-- What dependencies hand on: a step hands on to some nodes what has reached others, or all that was
-- done before it, so that steps make chains. (Vulkan: execution and memory dependencies and dependency
-- chains; own: nodes and steps, of which every kind of order is an instance.)
use Rattle.std.specs.Prelude.{◌≡◌, ℕ, zero, suc, Bool, false, ◌&&◌, ◌||◌, ◌⊎◌, List, [], ◌∷◌, nat_lt, if◌then◌else◌}
use Rattle.std.specs.List.{list_any}

-- one step of dependency chains: whether it takes up all that was done before it, from which nodes it
-- takes up what has reached them, and to which it hands on what it takes up
pub record Step (N : Type 0) : Type 0 where
  pub takes_all : Bool
  pub from : List N
  pub to : N → Bool

-- x is a member of a list
abbrev pub IsIn : {X : Type 0} → X → List X → Type 0
IsIn x [] = ⊥
IsIn x (y ∷ ys) = (x ≡ y) ⊎ IsIn x ys

module _ {N : Type 0} where
  -- the nodes that something has reached after one more step
  abbrev pub reached_after : Step N → (N → Bool) → N → Bool
  reached_after s reaches v = reaches v || ((s.takes_all || list_any reaches s.from) && s.to v)

  -- whether what was done as number i has reached a node where number n stands, by the steps after i that
  -- act
  abbrev pub reached : (ℕ → Bool) → (ℕ → Step N) → ℕ → ℕ → N → Bool
  reached acts steps i zero v = false
  reached acts steps i (suc n) v =
      if nat_lt i n then
      (if acts n then reached_after (steps n) (reached acts steps i n) v else reached acts steps i n v)
      else false
