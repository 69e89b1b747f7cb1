-- The test of the corners of bounds tells what it is that they are kept.
use Rattle.std.proofs.Common.{◌≡◌, ◌^◌, ◌↔◌, Bool, true, false, Option, Some, None, refl}
use Rattle.std.specs.Prelude.{IsTrue, is_some}
use Rattle.std.proofs.lemmas.List.Sums.{AllPass-from_list_all, list_all-from_AllPass}
use Rattle.ray_geom.specs.declared.vec3.Vec3.{Vec3}
use Rattle.ray_geom.specs.Vector.{IsShort}
use Rattle.ray_geom.specs.Boxes.{BoxValue, corners_of}
use Rattle.ray_geom.specs.Transform.{MatrixValue}
use Rattle.ray_geom.specs.Decided.{where_so, short_decided}
use Rattle.ray_contents.specs.Limits.{point_within}
use Rattle.ray_contents.specs.Bounds.{KeepsBounds}
use Rattle.ray_top.specs.InstanceReading.{bounds_kept, keeps_corner}

so_where : {P X : Type 0} (d : Dec P) (x : X) → is_some (where_so d x) ≡ true → P
so_where (yes p) x e = p
so_where (no n) x e = absurd cc

where_so-some : {P X : Type 0} (d : Dec P) (x : X) → P → is_some (where_so d x) ≡ true
where_so-some (yes p) x q = refl
where_so-some (no n) x q = absurd (n q)

short_where : (v : Vec3) → is_some (point_within v) ≡ true → IsShort (2 ^ 19) v
unfolding point_within
short_where v e = so_where (short_decided (2 ^ 19) v) v e

where_short : (v : Vec3) → IsShort (2 ^ 19) v → is_some (point_within v) ≡ true
unfolding point_within
where_short v h = where_so-some (short_decided (2 ^ 19) v) v h

pub KeepsBounds-kept : (m : MatrixValue) (bounds : Option BoxValue) → bounds_kept m bounds ≡ true → KeepsBounds m bounds
unfolding bounds_kept
KeepsBounds-kept m None e = tt
KeepsBounds-kept m (Some box) e = record {
  each = λ k d below. short_where _ (AllPass-from_list_all (keeps_corner m) (corners_of box) e k d below);
}

pub bounds_kept-KeepsBounds : (m : MatrixValue) (bounds : Option BoxValue) → KeepsBounds m bounds → bounds_kept m bounds ≡ true
unfolding bounds_kept
bounds_kept-KeepsBounds m None h = refl
bounds_kept-KeepsBounds m (Some box) h =
    list_all-from_AllPass (keeps_corner m) (corners_of box) (λ k d below. where_short _ (h.each k d below))

-- a test that holds exactly where they are kept
same_test : (a b : Bool) → (a ≡ true → b ≡ true) → (b ≡ true → a ≡ true) → a ≡ b
same_test true true f g = refl
same_test true false f g = let h = f refl in cc
same_test false true f g = let h = g refl in cc
same_test false false f g = refl

pub bounds_kept-test : (m : MatrixValue) (bounds : Option BoxValue) (test : Bool) → (IsTrue test ↔ KeepsBounds m bounds) → test ≡ bounds_kept m bounds
bounds_kept-test m bounds test h =
    same_test test (bounds_kept m bounds) (λ e. bounds_kept-KeepsBounds m bounds (h.0 e)) (λ e. h.1 (KeepsBounds-kept m bounds e))
