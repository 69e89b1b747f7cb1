-- What is left of a wide node, by the window or by what slabs tell.
use Rattle.std.proofs.Common.{ℕ, length, ◌≡◌, ◌<◌, Option, Some, None, IfSome, sym, ap, subst}
use Rattle.ray_geom.specs.declared.ratio.Ratio.{Ratio}
use Rattle.ray_geom.specs.ObjectRay.{IsObjectRay}
use Rattle.ray_lanes.specs.declared.lanes.Lanes8.{Lanes8}
use Rattle.ray_lanes.specs.declared.lanes.Window.{Window}
use Rattle.ray_lanes.specs.Overlap.{HasBit, Overlaps}
use Rattle.ray_slabs.specs.declared.slabs.Slabs.{Slabs}
use Rattle.ray_slabs.specs.Bounds.{AreBounds}
use Rattle.ray_wide.specs.Wides.{lanes_in}
use Rattle.ray_window.specs.Windows.{window_of}
use Rattle.ray_query.specs.Limits.{is_open}
use Rattle.ray_walk.specs.declared.bounding.Eight.{Eight}
use Rattle.ray_walk.specs.declared.trees.Trees.{Trees}
use Rattle.ray_walk.specs.Aims.{AreMet, AreTrees, LeavesOut}
use Rattle.ray_walk.specs.Bounding.{AreTold, IsEight, whole}
use Rattle.ray_walk.proofs.LeftOut.{child-out, child-shut}
use Rattle.ray_walk.proofs.Told.{eight-is}

module _ (t : Trees) (trees : AreTrees t.tree.now t.wide.now) (limit : Option Ratio) (w : ℕ) (small : w < length t.wide.now.nodes) where
  pub left-seen : IsObjectRay t.ray.now → (window : Window) → window ≡ window_of t.ray.now limit → (met : ℕ)
      → AreMet (lanes_in t.wide.now.nodes w) window met → LeavesOut limit t w met
  left-seen ray window is met met_is j few clear =
      child-out t.tree.now t.wide.now trees t.ray.now ray limit t.level w j small few
      (λ o. clear ((met_is j few).1 (subst (λ (x : Window). Overlaps (lanes_in t.wide.now.nodes w) x j) (sym is) o)))

  -- what was told of the eight boxes is so, and what it leaves out is left out
  pub told-eight : (slabs : Slabs) → AreBounds t.ray.now whole None slabs → (eight : Option Eight) (met : ℕ)
      → AreTold slabs (lanes_in t.wide.now.nodes w) eight met → IfSome eight (IsEight t.ray.now (lanes_in t.wide.now.nodes w))
  told-eight slabs bounds None met told = absurd told
  told-eight slabs bounds (Some e) met told = eight-is t.ray.now slabs bounds (lanes_in t.wide.now.nodes w) e told.0

  pub left-told : (slabs : Slabs) → AreBounds t.ray.now whole None slabs → (eight : Option Eight) (met : ℕ)
      → AreTold slabs (lanes_in t.wide.now.nodes w) eight met → LeavesOut limit t w met
  left-told slabs bounds None met told j few clear = absurd told
  left-told slabs bounds (Some e) met told j few clear =
      child-shut t.tree.now t.wide.now trees t.ray.now limit t.level w j small few
      (λ box. ap (is_open limit)
      ((eight-is t.ray.now slabs bounds (lanes_in t.wide.now.nodes w) e told.0 j few box).missed (λ bit. clear (subst (λ n. HasBit n j) (sym told.1) bit))))
