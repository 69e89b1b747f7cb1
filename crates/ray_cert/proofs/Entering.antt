-- Reaches of one value are entered alike.
use Rattle.std.proofs.Common.{◌≡◌, refl, ap, Option, Some, None, option_map}
use Rattle.std.specs.Ordering.{is_le}
use Rattle.ray_geom.specs.declared.ratio.Ratio.{Ratio}
use Rattle.ray_geom.specs.RatioLaws.{ratio_cmp-total}
use Rattle.ray_prune.specs.declared.reach.Reach.{Reach}
use Rattle.ray_prune.specs.BoxReach.{IsSameReach}
use Rattle.ray_query.specs.Limits.{is_open}

pub entered-same : (limit : Ratio) (a b : Option Reach) → IsSameReach a b
    → is_open (Some limit) (option_map (λ (r : Reach). r.entry) a) ≡ is_open (Some limit) (option_map (λ (r : Reach). r.entry) b)
entered-same limit None None same = refl
entered-same limit None (Some b) same = absurd same
entered-same limit (Some a) None same = absurd same
entered-same limit (Some a) (Some b) same = ap is_le (ratio_cmp-total.congr a.entry b.entry limit same.0)
