-- Lists in rising order of keys, and how often a key stands in a list.
use Rattle.std.specs.Prelude.{ℕ, ◌≤◌, cond, if◌then◌else◌, List, [], ◌∷◌}
use Rattle.std.specs.List.{sum_by}
use Rattle.std.specs.Ordering.{is_eq}
use Rattle.ray_query.specs.declared.found.Found.{Found}
use Rattle.ray_query.specs.declared.key.Key.{Key}
use Rattle.ray_query.specs.Key.{found_key, key_cmp, key_lt}

-- one put before the first whose key is above its own (own)
abbrev pub inserted : Found → List Found → List Found
inserted f [] = f ∷ []
inserted f (g ∷ gs) = if key_lt (found_key f) (found_key g) then f ∷ (g ∷ gs) else g ∷ inserted f gs

-- a list in rising order of keys (own)
unfoldable pub in_key_order : List Found → List Found
in_key_order [] = []
in_key_order (f ∷ fs) = inserted f (in_key_order fs)

-- 1 where this has a key, else 0
abbrev pub has_key : Key → Found → ℕ
has_key k f = cond (is_eq (key_cmp k (found_key f))) 1 0

-- no key stands twice in a list (own)
pub record AreApart (fs : List Found) : Type 0 where
  pub once : (k : Key) → sum_by (has_key k) fs ≤ 1
