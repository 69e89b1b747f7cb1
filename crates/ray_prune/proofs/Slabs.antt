-- Which distances a slab holds, and what is left of a reach that is narrowed to it.
use Rattle.std.proofs.Common.{ℕ, ◌≡◌, ◌*◌, ◌^◌, ◌<◌, ap, ◌∙◌, refl, sym, subst, arith}
use Rattle.std.specs.Prelude.{ℤ, pos, negsuc, neg_ℤ, ◌-ℤ◌, ◌*ℤ◌, ◌≤ℤ◌, ◌<ℤ◌, ◌↔◌, unsigned_abs}
use Rattle.std.specs.Int.{w64}
use Rattle.std.specs.Int.RustNames.{FitsSigned}
use Rattle.std.proofs.lemmas.Int.{ints}
use Rattle.ray_geom.specs.declared.ratio.Ratio.{Ratio}
use Rattle.ray_prune.specs.declared.slab.Slab.{Slab}
use Rattle.ray_prune.specs.declared.reach.Reach.{Reach}
use Rattle.ray_geom.specs.Vector.{IsWithin}
use Rattle.ray_geom.specs.Fraction.{IsAtMost}
use Rattle.ray_prune.specs.BoxSpan.{near_end, far_end, IsBetween}
use Rattle.ray_prune.specs.Slabs.{IsPast, IsBefore, IsInSlab, Narrows}
use Rattle.ray_geom.proofs.Ring.{sub_ℤ-*ℤ}
use Rattle.ray_geom.proofs.Bounds.{IsWithin-mul}
use Rattle.ray_prune.proofs.Spans.{at_most_chain}

-- the ends of a box fit, and are at most 6 * 2^55
pub record EndsFit (det lo hi : ℤ) : Type 0 where
  pub lo_fits : FitsSigned w64 (det *ℤ lo)
  pub hi_fits : FitsSigned w64 (det *ℤ hi)
  pub lo_within : IsWithin (6 * 2 ^ 55) (det *ℤ lo)
  pub hi_within : IsWithin (6 * 2 ^ 55) (det *ℤ hi)

pub ends_fit : (det lo hi : ℤ) → IsWithin (6 * 2 ^ 36) det → IsWithin (2 ^ 19) lo → IsWithin (2 ^ 19) hi → EndsFit det lo hi
ends_fit det lo hi p q r =
    let x : IsWithin (6 * 2 ^ 36 * 2 ^ 19) (det *ℤ lo) = IsWithin-mul (6 * 2 ^ 36) (2 ^ 19) det lo p q in
    let y : IsWithin (6 * 2 ^ 36 * 2 ^ 19) (det *ℤ hi) = IsWithin-mul (6 * 2 ^ 36) (2 ^ 19) det hi p r in
    omega (arith, ints)

-- the ends by the sign of det
pub near_end-negative : (det lo hi : ℤ) → det <ℤ pos 0 → near_end det lo hi ≡ det *ℤ hi
near_end-negative (pos det) lo hi h = absurd (omega (arith, ints))
near_end-negative (negsuc det) lo hi h = refl

pub far_end-negative : (det lo hi : ℤ) → det <ℤ pos 0 → far_end det lo hi ≡ det *ℤ lo
far_end-negative (pos det) lo hi h = absurd (omega (arith, ints))
far_end-negative (negsuc det) lo hi h = refl

pub near_end-positive : (det lo hi : ℤ) → pos 0 ≤ℤ det → near_end det lo hi ≡ det *ℤ lo
near_end-positive (pos det) lo hi h = refl
near_end-positive (negsuc det) lo hi h = absurd (omega (arith, ints))

pub far_end-positive : (det lo hi : ℤ) → pos 0 ≤ℤ det → far_end det lo hi ≡ det *ℤ hi
far_end-positive (pos det) lo hi h = refl
far_end-positive (negsuc det) lo hi h = absurd (omega (arith, ints))

times_negative : (n : ℕ) (m : ℤ) → m <ℤ pos 0 → pos n *ℤ m ≡ neg_ℤ (pos (n * unsigned_abs m))
times_negative n (pos m) h = absurd (omega (arith, ints))
times_negative n (negsuc m) h = omega (arith, ints)

times_positive : (n : ℕ) (m : ℤ) → pos 0 ≤ℤ m → pos n *ℤ m ≡ pos (n * unsigned_abs m)
times_positive n (pos m) h = omega (arith, ints)
times_positive n (negsuc m) h = absurd (omega (arith, ints))

-- where m is negative, o + t m is between the ends where t is from (o - far) / |m| to (o - near) / |m|
pub IsBetween-falling : (near far o m first last : ℤ) (size : ℕ) →
    m <ℤ pos 0 → first ≡ o -ℤ far → last ≡ o -ℤ near → size ≡ unsigned_abs m → (n d : ℕ) →
    IsBetween near far o m n d ↔ IsInSlab record { near = first; far = last; size = size } n d
IsBetween-falling near far o m first last size negative first_is last_is size_is n d =
    let move : pos n *ℤ m ≡ neg_ℤ (pos (n * unsigned_abs m)) = times_negative n m negative in
    let steps : n * size ≡ n * unsigned_abs m = ap (λ x. n * x) size_is in
    let from : first *ℤ pos d ≡ (o *ℤ pos d) -ℤ (far *ℤ pos d) = ap (λ x. x *ℤ pos d) first_is ∙ sub_ℤ-*ℤ o far (pos d) in
    let to : last *ℤ pos d ≡ (o *ℤ pos d) -ℤ (near *ℤ pos d) = ap (λ x. x *ℤ pos d) last_is ∙ sub_ℤ-*ℤ o near (pos d) in (
      λ h.
          let above = h.above in
          let below = h.below in
          record { past = record { at_least = omega (arith, ints) }; before = record { at_most = omega (arith, ints) } },
      λ h.
          let past = h.past.at_least in
          let before = h.before.at_most in
          record { above = omega (arith, ints); below = omega (arith, ints) },
    )

-- where it isn't, t is from (near - o) / |m| to (far - o) / |m|
pub IsBetween-rising : (near far o m first last : ℤ) (size : ℕ) →
    pos 0 ≤ℤ m → first ≡ near -ℤ o → last ≡ far -ℤ o → size ≡ unsigned_abs m → (n d : ℕ) →
    IsBetween near far o m n d ↔ IsInSlab record { near = first; far = last; size = size } n d
IsBetween-rising near far o m first last size positive first_is last_is size_is n d =
    let move : pos n *ℤ m ≡ pos (n * unsigned_abs m) = times_positive n m positive in
    let steps : n * size ≡ n * unsigned_abs m = ap (λ x. n * x) size_is in
    let from : first *ℤ pos d ≡ (near *ℤ pos d) -ℤ (o *ℤ pos d) = ap (λ x. x *ℤ pos d) first_is ∙ sub_ℤ-*ℤ near o (pos d) in
    let to : last *ℤ pos d ≡ (far *ℤ pos d) -ℤ (o *ℤ pos d) = ap (λ x. x *ℤ pos d) last_is ∙ sub_ℤ-*ℤ far o (pos d) in (
      λ h.
          let above = h.above in
          let below = h.below in
          record { past = record { at_least = omega (arith, ints) }; before = record { at_most = omega (arith, ints) } },
      λ h.
          let past = h.past.at_least in
          let before = h.before.at_most in
          record { above = omega (arith, ints); below = omega (arith, ints) },
    )

IsPast-at_most : (near : ℤ) (size n d : ℕ) → pos 0 <ℤ near →
    IsAtMost (unsigned_abs near) size n d ↔ IsPast near size n d
IsPast-at_most (pos near) size n d h = (
  λ p. record { at_least = omega (arith, ints) },
  λ p. let at_least = p.at_least in omega (arith, ints),
)
IsPast-at_most (negsuc near) size n d h = absurd (omega (arith, ints))

IsBefore-at_most : (far : ℤ) (size n d : ℕ) → pos 0 ≤ℤ far →
    IsAtMost n d (unsigned_abs far) size ↔ IsBefore far size n d
IsBefore-at_most (pos far) size n d h = (
  λ p. record { at_most = omega (arith, ints) },
  λ p. let at_most = p.at_most in omega (arith, ints),
)
IsBefore-at_most (negsuc far) size n d h = absurd (omega (arith, ints))

beside : {P Q R S : Type 0} → P ↔ (Q × R) → R ↔ S → P ↔ (Q × S)
beside p q = (λ h. ((p.0 h).0, q.0 (p.0 h).1), λ h. p.1 (h.0, q.1 h.1))

-- the greater of two is at most what both are at most
pub later_left : (a b : Ratio) → IsAtMost a.num a.den b.num b.den → (n d : ℕ) →
    IsAtMost b.num b.den n d ↔ (IsAtMost a.num a.den n d × IsAtMost b.num b.den n d)
later_left a b le n d =
    (λ h. (at_most_chain a.num a.den b.num b.den n d b.positive le h, h), λ h. h.1)

pub later_right : (a b : Ratio) → IsAtMost b.num b.den a.num a.den → (n d : ℕ) →
    IsAtMost a.num a.den n d ↔ (IsAtMost a.num a.den n d × IsAtMost b.num b.den n d)
later_right a b le n d =
    (λ h. (h, at_most_chain b.num b.den a.num a.den n d a.positive le h), λ h. h.0)

-- what is at most the lesser of two is at most both
pub earlier_left : (a b : Ratio) → IsAtMost a.num a.den b.num b.den → (n d : ℕ) →
    IsAtMost n d a.num a.den ↔ (IsAtMost n d a.num a.den × IsAtMost n d b.num b.den)
earlier_left a b le n d =
    (λ h. (h, at_most_chain n d a.num a.den b.num b.den a.positive h le), λ h. h.0)

pub earlier_right : (a b : Ratio) → IsAtMost b.num b.den a.num a.den → (n d : ℕ) →
    IsAtMost n d b.num b.den ↔ (IsAtMost n d a.num a.den × IsAtMost n d b.num b.den)
earlier_right a b le n d =
    (λ h. (at_most_chain n d b.num b.den a.num a.den b.positive h le, h), λ h. h.1)

-- an end that is raised or lowered to that of a slab
pub raised : (entry f : Ratio) (near : ℤ) (num size : ℕ) → pos 0 <ℤ near → num ≡ unsigned_abs near →
    ((n d : ℕ) → 0 < d → IsAtMost f.num f.den n d ↔ (IsAtMost entry.num entry.den n d × IsAtMost num size n d)) →
    (n d : ℕ) → 0 < d → IsAtMost f.num f.den n d ↔ (IsAtMost entry.num entry.den n d × IsPast near size n d)
raised entry f near num size positive is h n d d_positive =
    beside (h n d d_positive) (subst (λ x. IsAtMost x size n d ↔ IsPast near size n d) (sym is) (IsPast-at_most near size n d positive))

pub lowered : (exit f : Ratio) (far : ℤ) (num size : ℕ) → pos 0 ≤ℤ far → num ≡ unsigned_abs far →
    ((n d : ℕ) → 0 < d → IsAtMost n d f.num f.den ↔ (IsAtMost n d exit.num exit.den × IsAtMost n d num size)) →
    (n d : ℕ) → 0 < d → IsAtMost n d f.num f.den ↔ (IsAtMost n d exit.num exit.den × IsBefore far size n d)
lowered exit f far num size positive is h n d d_positive =
    beside (h n d d_positive) (subst (λ x. IsAtMost n d x size ↔ IsBefore far size n d) (sym is) (IsBefore-at_most far size n d positive))

-- a reach whose two ends are narrowed
pub Narrows-ends : (reach : Reach) (entry exit : Ratio) (slab : Slab) →
    ((n d : ℕ) → 0 < d → IsAtMost entry.num entry.den n d ↔ (IsAtMost reach.entry.num reach.entry.den n d × IsPast slab.near slab.size n d)) →
    ((n d : ℕ) → 0 < d → IsAtMost n d exit.num exit.den ↔ (IsAtMost n d reach.exit.num reach.exit.den × IsBefore slab.far slab.size n d)) →
    Narrows (IsInSlab slab) reach record { entry = entry; exit = exit }
Narrows-ends reach entry exit slab p q n d d_positive = (
  λ h.
      let from = (p n d d_positive).0 h.from in
      let to = (q n d d_positive).0 h.to in
      (record { from = from.0; to = to.0 }, record { past = from.1; before = to.1 }),
  λ h. record { from = (p n d d_positive).1 (h.0.from, h.1.past); to = (q n d d_positive).1 (h.0.to, h.1.before) },
)
