-- Words of private calls alone, which a reader of the public contracts needs not: what a walk does with one turn.
use Rattle.std.specs.Prelude.{ℕ, ◌≡◌, ◌⊎◌, ◌+◌, true, false, Option, Some, None, All, List, ◌∷◌}
use Rattle.std.specs.List.Sorted.{IsPermutation}
use Rattle.ray_query.specs.Play.{QueryState}
use Rattle.ray_query.specs.declared.candidate.Candidate.{Candidate as Offer}
use Rattle.ray_query.specs.declared.decision.Decision.{Decision}
use Rattle.ray_query.specs.Machine.{QueryValue}
use Rattle.ray_query.specs.Play.{play_one}
use Rattle.ray_nearest.specs.declared.node.WalkNode.{WalkNode}
use Rattle.ray_nearest.specs.declared.turn.Turn.{Turn}
use Rattle.ray_nearest.specs.declared.turn.Turn.TheVariants.{Node, Candidate}
use Rattle.ray_nearest.specs.Adding.{IsOpened}
use Rattle.ray_nearest.specs.Scene.{SceneValue}
use Rattle.ray_query.specs.Limits.{distance_of, is_within}
use Rattle.ray_nearest.specs.Turns.{is_before, turn_at}

-- the next turn of a walk whose query stands so: none where the query is over, or where all turns that wait are beyond the
-- committed distance; else a first one, which isn't
abbrev pub IsNext : QueryState → List Turn → Option Turn → List Turn → Type 0
IsNext st old None new = (st.over ≡ true) ⊎ All (λ y. is_within (distance_of st.committed) (turn_at y) ≡ false) old
IsNext st old (Some x) new =
    (st.over ≡ false) × (is_within (distance_of st.committed) (turn_at x) ≡ true) × IsPermutation old (x ∷ new) × All (λ y. is_before y x ≡ false) new

-- the node of a turn is one that the scene knows
abbrev pub IsKnown : (WalkNode → Type 0) → Turn → Type 0
IsKnown IsNode (Node e n) = IsNode n
IsKnown IsNode (Candidate f) = Unit {0}

-- a query, the turns that wait and the steps, before and after a turn was taken: a node is opened, a candidate played
abbrev pub Takes : (Offer → Decision) → SceneValue → Turn → QueryValue → List Turn → ℕ → QueryValue → List Turn → ℕ → Type 0
Takes meaning s (Node e n) q old now r new later =
    (r ≡ q) × IsOpened (distance_of q.state.committed) s n old new × (later ≡ now + s.tests n)
Takes meaning s (Candidate f) q old now r new later =
    (r ≡ record q { state = play_one meaning q.ray q.flags q.state f }) × (new ≡ old) × (later ≡ now)
