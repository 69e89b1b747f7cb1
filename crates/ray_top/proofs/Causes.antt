-- Each answer of a reading has its cause.
use Rattle.std.proofs.Common.{ℕ, ◌≡◌, ◌<◌, ◌^◌, ◌↔◌, Bool, true, false, Ok, Err, Option, Some, None, List, refl, sym, subst}
use Rattle.std.specs.Prelude.{if◌then◌else◌}
use Rattle.ray_geom.specs.Boxes.{BoxValue}
use Rattle.ray_geom.specs.Transform.{MatrixValue, IsMatrix}
use Rattle.ray_geom.specs.Decided.{where_so, matrix_decided}
use Rattle.ray_bytes.specs.declared.data_rule.DataRule.TheVariants.{X7, X8}
use Rattle.ray_bytes.specs.declared.instance_record.InstanceRecord.{InstanceRecord}
use Rattle.ray_bytes.specs.declared.reference.Reference.{Reference}
use Rattle.ray_bytes.specs.declared.reference.Reference.TheVariants.{Inactive, Structure, Unknown}
use Rattle.ray_bytes.specs.References.{reference_of, structure_of}
use Rattle.ray_contents.specs.Limits.{matrix_within}
use Rattle.ray_contents.specs.Bounds.{KeepsBounds}
use Rattle.ray_top.specs.declared.used.Used.{Used}
use Rattle.ray_top.specs.Instances.{instance_from, matrix_from, flags_in, forces_both}
use Rattle.ray_top.specs.InstanceReading.{bounds_in, bounds_kept, forced, limited, in_use, referring, instance_read}
use Rattle.ray_top.specs.Laws.{RefersTo, Keeps, IsRead}
use Rattle.ray_top.proofs.Corners.{KeepsBounds-kept, bounds_kept-KeepsBounds}
use Rattle.ray_top.proofs.Limits.{matrix_is}

where_none : {P X : Type 0} (d : Dec P) (x : X) → where_so d x ≡ None → P → ⊥
where_none (yes p) x e = absurd cc
where_none (no n) x e = n

not_matrix : (m : MatrixValue) → matrix_within m ≡ None → IsMatrix m → ⊥
unfolding matrix_within
not_matrix m e = where_none (matrix_decided m) m e

by_force : (used : List Used) (from : InstanceRecord) (id : ℕ) (both : Bool) → forces_both (flags_in from) ≡ both → Keeps used from id →
    IsRead used from (if both then Err X8 else Ok (Some (instance_from from id)))
by_force used from id true e keeps = record { id = id; keeps = keeps; both = e }
by_force used from id false e keeps = record { keeps = keeps; not_both = e; value = refl }

by_bounds : (used : List Used) (from : InstanceRecord) (id : ℕ) (bounds : Option BoxValue) (m : MatrixValue) (kept : Bool) → bounds_kept m bounds ≡ kept →
    matrix_from from.rows ≡ m → IsMatrix (matrix_from from.rows) → RefersTo used from id bounds → IsRead used from (if kept then forced from id else Err X7)
by_bounds used from id bounds m true e same limits refers =
    by_force used from id (forces_both (flags_in from)) refl (record {
      bounds = bounds;
      refers = refers;
      limits = limits;
      kept = subst (λ n. KeepsBounds n bounds) (sym same) (KeepsBounds-kept m bounds e);
    })
by_bounds used from id bounds m false e same limits refers = record {
  id = id;
  bounds = bounds;
  refers = refers;
  limits = limits;
  leaves = λ keeps. let kept : bounds_kept m bounds ≡ true = bounds_kept-KeepsBounds m bounds (subst (λ n. KeepsBounds n bounds) same keeps) in absurd cc;
}

by_matrix : (used : List Used) (from : InstanceRecord) (id : ℕ) (bounds : Option BoxValue) (within : Option MatrixValue) →
    matrix_within (matrix_from from.rows) ≡ within → RefersTo used from id bounds → IsRead used from (limited from id bounds within)
by_matrix used from id bounds None e refers = record { id = id; bounds = bounds; refers = refers; beyond = not_matrix (matrix_from from.rows) e }
by_matrix used from id bounds (Some m) e refers =
    let is = matrix_is (matrix_from from.rows) m e in by_bounds used from id bounds m (bounds_kept m bounds) refl is.1 is.0 refers

-- what a reference is, by what it says of the number
record IsReference (number : ℕ) (reference : Reference) : Type 0 where
  inactive : (reference ≡ Inactive) ↔ (number ≡ 0)
  structure : (id : ℕ) → (reference ≡ Structure id) ↔ ((id < 2 ^ 32) × (number ≡ reference_of id))

by_use : (used : List Used) (from : InstanceRecord) (id : ℕ) (known : Option (Option BoxValue)) → bounds_in used id ≡ known →
    IsReference from.reference (Structure id) → IsRead used from (in_use from id known)
by_use used from id None e is = record {
  not_zero = λ zero. let same : Structure id ≡ Inactive = is.inactive.1 zero in absurd cc;
  none = λ other below named.
      let named_so : Structure id ≡ Structure other = (is.structure other).1 (below, named) in
      let same : id ≡ other = cc in
      subst (λ k. bounds_in used k ≡ None) same e;
}
by_use used from id (Some bounds) e is =
    let named = (is.structure id).0 refl in
    by_matrix used from id bounds (matrix_within (matrix_from from.rows)) refl (record { below = named.0; reference = named.1; in_use = e })

by_reference : (used : List Used) (from : InstanceRecord) (reference : Reference) → IsReference from.reference reference → IsRead used from (referring used from reference)
by_reference used from Inactive is = is.inactive.0 refl
by_reference used from (Structure id) is = by_use used from id (bounds_in used id) refl is
by_reference used from Unknown is = record {
  not_zero = λ zero. let same : Unknown ≡ Inactive = is.inactive.1 zero in absurd cc;
  none = λ id below named. let same : Unknown ≡ Structure id = (is.structure id).1 (below, named) in absurd cc;
}

pub IsRead-read : (used : List Used) (from : InstanceRecord) (reference : Reference) → reference ≡ structure_of from.reference →
    ((reference ≡ Inactive) ↔ (from.reference ≡ 0)) → ((id : ℕ) → (reference ≡ Structure id) ↔ ((id < 2 ^ 32) × (from.reference ≡ reference_of id))) →
    IsRead used from (instance_read used (Some from))
IsRead-read used from reference value inactive structure =
    subst (λ r. IsRead used from (referring used from r)) value
    (by_reference used from reference (record { inactive = inactive; structure = structure }))
