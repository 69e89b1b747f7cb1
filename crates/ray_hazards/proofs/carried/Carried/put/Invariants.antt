use Rattle.std.proofs.Common.{◌≡◌, take, ℕ}
use Rattle.std.specs.BTreeMap.{get}
use Rattle.std.specs.Ordering.{nat_cmp}
use Rattle.ray_hazards.specs.Carrying.{put_all}
use Rattle.ray_hazards.proofs.carried.Carried.put.Given as goal

-- those so far are in their places
abbrev pub invariant-loop-limit : goal.invariant-loop-limit
invariant-loop-limit l = record {
  all : l.self.all ≡ l.initial.self.all;
  put :
      (made : ℕ)
      → get nat_cmp l.self.overrides made ≡ put_all (take l.limit-index l.limits) (get nat_cmp l.initial.self.overrides) made;
}
