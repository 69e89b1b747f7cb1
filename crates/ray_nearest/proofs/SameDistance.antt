-- Ratios of one value come at one distance.
use Rattle.std.proofs.Common.{◌≡◌, ◌∙◌, refl, sym, ap, Option, Some, None}
use Rattle.std.specs.Ordering.{is_le, ordering_reverse, ordering_then}
use Rattle.std.specs.declared.cmp.Ordering.{Ordering}
use Rattle.std.specs.declared.cmp.Ordering.TheVariants.{Less, Equal, Greater}
use Rattle.ray_geom.specs.declared.ratio.Ratio.{Ratio}
use Rattle.ray_geom.specs.Ratio.{ratio_cmp}
use Rattle.ray_geom.specs.RatioLaws.{ratio_cmp-total}
use Rattle.ray_nearest.specs.declared.waiting.Waiting.{Waiting}
use Rattle.ray_query.specs.Limits.{is_within}
use Rattle.ray_nearest.specs.Turns.{turn_at}
use Rattle.ray_nearest.specs.TurnLaws.{turn_of}

pub same-left : (a b c : Ratio) → ratio_cmp a b ≡ Equal → ratio_cmp a c ≡ ratio_cmp b c
same-left a b c same = ratio_cmp-total.congr a b c same

pub same-right : (a b c : Ratio) → ratio_cmp a b ≡ Equal → ratio_cmp c a ≡ ratio_cmp c b
same-right a b c same =
    ratio_cmp-total.antisymm c a ∙ (ap ordering_reverse (same-left a b c same) ∙ sym (ratio_cmp-total.antisymm c b))

pub same-within : (limit : Option Ratio) (a b : Ratio) → ratio_cmp a b ≡ Equal → is_within limit a ≡ is_within limit b
same-within None a b same = refl
same-within (Some c) a b same = ap is_le (same-left a b c same)

-- two that wait stand to each other as their turns' distances do
pub same-waiting : (x y : Waiting) → ratio_cmp x.at y.at ≡ ratio_cmp (turn_at (turn_of x)) (turn_at (turn_of y))
same-waiting x y = same-left x.at (turn_at (turn_of x)) y.at x.same ∙ same-right y.at (turn_at (turn_of y)) (turn_at (turn_of x)) y.same

pub then-first : (r t : Ordering) → (r ≡ Equal → ⊥) → ordering_then r t ≡ r
then-first Less t apart = refl
then-first Equal t apart = absurd (apart refl)
then-first Greater t apart = refl
