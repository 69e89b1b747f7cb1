use Rattle.std.proofs.Common.{◌≡◌, ◌||◌, ℕ, Bool, take}
use Rattle.std.specs.List.{list_any}
use Rattle.ray_valid.proofs.seen.put_all.Given as goal

-- those so far are put there
abbrev pub invariant-loop-id : goal.invariant-loop-id
invariant-loop-id l =
    (test : ℕ → Bool) → list_any test l.ids.keys ≡ (list_any test (take l.id-index l.uses) || list_any test l.initial.ids.keys)
