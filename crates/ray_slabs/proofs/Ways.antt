-- Where a ray is on an axis, as a way and a speed without signs: the way to a plane is affine in the plane.
use Rattle.std.proofs.Common.{ℕ, suc, ◌≡◌, ◌+◌, ◌*◌, ◌^◌, ap, ◌∙◌, Bool, true, false, arith}
use Rattle.std.specs.Prelude.{ℤ, pos, negsuc, ◌+ℤ◌, ◌-ℤ◌, ◌*ℤ◌, ◌≤ℤ◌, ◌↔◌, unsigned_abs}
use Rattle.std.proofs.lemmas.Int.{ints}
use Rattle.ray_geom.specs.Vector.{IsWithin}
use Rattle.ray_geom.proofs.Ring.{sub_ℤ-*ℤ}
use Rattle.ray_prune.specs.BoxSpan.{near_end, far_end, IsBetween, IsOnAxis}
use Rattle.ray_prune.specs.BoxReach.{natural_part, way_in, way_out}
use Rattle.ray_prune.proofs.Scaling.{negsuc-*ℤ}
use Rattle.ray_slabs.specs.Slopes.{is_falling, start_of}
use Rattle.ray_slabs.specs.Axes.{first_by, last_by}
use Rattle.ray_slabs.proofs.Products.{lifted_is}

-- the way to a plane, times |det|: from the start, up or down by |det| for each plane
abbrev pub way_to : Bool → ℕ → ℤ → ℕ → ℤ
way_to false size start plane = start +ℤ pos (plane * size)
way_to true size start plane = start -ℤ pos (plane * size)

-- a plane without its sign
abbrev pub lifted : ℤ → ℕ
lifted p = natural_part (p +ℤ pos (2 ^ 19))

-- the ray is between two planes: the way in is done and the way out isn't passed
pub record IsUnderWay (det lo hi o m : ℤ) (n d : ℕ) : Type 0 where
  pub entered : (way_to (is_falling det m) (unsigned_abs det) (start_of det o m) (first_by (is_falling det m) (lifted lo) (lifted hi)) *ℤ pos d) ≤ℤ pos (n * unsigned_abs m)
  pub not_left : pos (n * unsigned_abs m) ≤ℤ (way_to (is_falling det m) (unsigned_abs det) (start_of det o m) (last_by (is_falling det m) (lifted lo) (lifted hi)) *ℤ pos d)

-- the product of a plane and a determinant
times_up : (k : ℕ) (p : ℤ) (l : ℕ) → pos l ≡ p +ℤ pos (2 ^ 19) → pos k *ℤ p ≡ pos (l * k) -ℤ pos (2 ^ 19 * k)
times_up k (pos p) l is = omega (arith, ints, ap (λ x. x *ℤ pos k) is)
times_up k (negsuc p) l is =
    let e : l + suc p ≡ 524288 = omega (arith, ints) in
    omega (arith, ints, ap (λ x. x * k) e)

times_down : (k : ℕ) (p : ℤ) (l : ℕ) → pos l ≡ p +ℤ pos (2 ^ 19) → negsuc k *ℤ p ≡ pos (2 ^ 19 * (k + 1)) -ℤ pos (l * suc k)
times_down k p l is =
    let e = negsuc-*ℤ k p in
    let f = times_up (suc k) p l is in
    omega (arith, ints)

-- which end is crossed first, by the signs
record IsWay (near far o m : ℤ) (first last : ℤ) : Type 0 where
  pub in_is : first ≡ way_in near far o m
  pub out_is : last ≡ way_out near far o m

signs_way : (det lo hi o m : ℤ) → IsWithin (2 ^ 19) lo → IsWithin (2 ^ 19) hi →
    IsWay (near_end det lo hi) (far_end det lo hi) o m
    (way_to (is_falling det m) (unsigned_abs det) (start_of det o m) (first_by (is_falling det m) (lifted lo) (lifted hi)))
    (way_to (is_falling det m) (unsigned_abs det) (start_of det o m) (last_by (is_falling det m) (lifted lo) (lifted hi)))
signs_way (pos k) lo hi o (pos s) a b =
    let x = times_up k lo (lifted lo) (lifted_is lo a) in
    let y = times_up k hi (lifted hi) (lifted_is hi b) in
    record { in_is = omega (arith, ints); out_is = omega (arith, ints) }
signs_way (pos k) lo hi o (negsuc s) a b =
    let x = times_up k lo (lifted lo) (lifted_is lo a) in
    let y = times_up k hi (lifted hi) (lifted_is hi b) in
    record { in_is = omega (arith, ints); out_is = omega (arith, ints) }
signs_way (negsuc k) lo hi o (pos s) a b =
    let x = times_down k lo (lifted lo) (lifted_is lo a) in
    let y = times_down k hi (lifted hi) (lifted_is hi b) in
    record { in_is = omega (arith, ints); out_is = omega (arith, ints) }
signs_way (negsuc k) lo hi o (negsuc s) a b =
    let x = times_down k lo (lifted lo) (lifted_is lo a) in
    let y = times_down k hi (lifted hi) (lifted_is hi b) in
    record { in_is = omega (arith, ints); out_is = omega (arith, ints) }

-- between the planes exactly where the way in is done and the way out isn't passed
ways_between : (near far o m first last : ℤ) (n d : ℕ) → IsWay near far o m first last →
    IsBetween near far o m n d ↔ (((first *ℤ pos d) ≤ℤ pos (n * unsigned_abs m)) × (pos (n * unsigned_abs m) ≤ℤ (last *ℤ pos d)))
ways_between near far o (pos s) first last n d way =
    let p : first *ℤ pos d ≡ (near *ℤ pos d) -ℤ (o *ℤ pos d) = ap (λ x. x *ℤ pos d) way.in_is ∙ sub_ℤ-*ℤ near o (pos d) in
    let q : last *ℤ pos d ≡ (far *ℤ pos d) -ℤ (o *ℤ pos d) = ap (λ x. x *ℤ pos d) way.out_is ∙ sub_ℤ-*ℤ far o (pos d) in (
      λ h.
          let above = h.above in
          let below = h.below in
          (omega (arith, ints), omega (arith, ints)),
      λ h.
          let enters = h.0 in
          let leaves = h.1 in
          record { above = omega (arith, ints); below = omega (arith, ints) },
    )
ways_between near far o (negsuc s) first last n d way =
    let p : first *ℤ pos d ≡ (o *ℤ pos d) -ℤ (far *ℤ pos d) = ap (λ x. x *ℤ pos d) way.in_is ∙ sub_ℤ-*ℤ o far (pos d) in
    let q : last *ℤ pos d ≡ (o *ℤ pos d) -ℤ (near *ℤ pos d) = ap (λ x. x *ℤ pos d) way.out_is ∙ sub_ℤ-*ℤ o near (pos d) in (
      λ h.
          let above = h.above in
          let below = h.below in
          (omega (arith, ints), omega (arith, ints)),
      λ h.
          let enters = h.0 in
          let leaves = h.1 in
          record { above = omega (arith, ints); below = omega (arith, ints) },
    )

pub under_way : (det lo hi o m : ℤ) (n d : ℕ) → IsWithin (2 ^ 19) lo → IsWithin (2 ^ 19) hi → IsOnAxis det lo hi o m n d → IsUnderWay det lo hi o m n d
under_way det lo hi o m n d a b h =
    let ends = (ways_between (near_end det lo hi) (far_end det lo hi) o m _ _ n d (signs_way det lo hi o m a b)).0 h in
    record { entered = ends.0; not_left = ends.1 }

pub on_axis : (det lo hi o m : ℤ) (n d : ℕ) → IsWithin (2 ^ 19) lo → IsWithin (2 ^ 19) hi → IsUnderWay det lo hi o m n d → IsOnAxis det lo hi o m n d
on_axis det lo hi o m n d a b h =
    (ways_between (near_end det lo hi) (far_end det lo hi) o m _ _ n d (signs_way det lo hi o m a b)).1 (h.entered, h.not_left)
