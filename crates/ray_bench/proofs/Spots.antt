-- What a spot adds to those that are met.
use Rattle.std.proofs.Common.{◌≡◌, ℕ, ◌+◌, ◌%◌, length, get_or, refl, inl, inr, subst, ap, ◌∙◌, add-one, arith}
use Rattle.std.specs.Prelude.{List}
use Rattle.std.proofs.Math.Nat.{mod-lt}
use Rattle.std.proofs.lemmas.List.FromFn.{length-map-range_with_len, get_or-map-range_with_len}
use Rattle.ray_bench.specs.declared.spot.Spot.{Spot}
use Rattle.ray_bench.specs.Spots.{spot_of, all_spots, IsMet, AreMet}

-- the item of the list of spots at a place that begins anew is the spot of that place
spot_of-get_or : (spots : List Spot) (k : ℕ) (spot : Spot) → spots ≡ all_spots →
    spot ≡ get_or spots (k % length spots) spot → spot ≡ spot_of (k % 128)
spot_of-get_or spots k spot same at =
    let long : length spots ≡ 128 = ap (λ s. length s) same ∙ length-map-range_with_len spot_of 0 128 in
    at ∙ (ap (λ s. get_or s (k % length spots) spot) same ∙
    (ap (λ n. get_or all_spots (k % n) spot) long ∙
    get_or-map-range_with_len spot_of 0 128 (k % 128) (k % 128) spot (mod-lt k (omega arith)) (omega arith)))

AreMet-met : (k met : ℕ) → IsMet (spot_of (k % 128)) → AreMet k met → AreMet (k + 1) (met + 1)
AreMet-met k met this so_far = rw add-one (inl (this, (met, so_far, refl)))

AreMet-missed : (k met : ℕ) → (IsMet (spot_of (k % 128)) → ⊥) → AreMet k met → AreMet (k + 1) met
AreMet-missed k met this so_far = rw add-one (inr (this, so_far))

-- one spot more, that is met
pub AreMet-some : (spots : List Spot) (k met : ℕ) (spot : Spot) → spots ≡ all_spots →
    spot ≡ get_or spots (k % length spots) spot → IsMet spot → AreMet k met → AreMet (k + 1) (met + 1)
AreMet-some spots k met spot same at is so_far =
    AreMet-met k met (subst (λ s. IsMet s) (spot_of-get_or spots k spot same at) is) so_far

-- or that isn't
pub AreMet-none : (spots : List Spot) (k met : ℕ) (spot : Spot) → spots ≡ all_spots →
    spot ≡ get_or spots (k % length spots) spot → (IsMet spot → ⊥) → AreMet k met → AreMet (k + 1) met
AreMet-none spots k met spot same at never so_far =
    AreMet-missed k met (subst (λ s. IsMet s → ⊥) (spot_of-get_or spots k spot same at) never) so_far
