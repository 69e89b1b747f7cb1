-- The instances that are read are within the limits.
use Rattle.std.proofs.Common.{ℕ, ◌≡◌, ◌<◌, ◌%◌, ◌^◌, Bool, true, false, Result, Ok, Err, Option, Some, None, option_map, List, length, refl, sym, ap, subst, arith}
use Rattle.std.specs.Prelude.{All, IsSomeAnd, is_some, if◌then◌else◌}
use Rattle.std.specs.Bool.{beq}
use Rattle.ray_geom.specs.Boxes.{BoxValue}
use Rattle.ray_geom.specs.Transform.{MatrixValue, IsMatrix}
use Rattle.ray_geom.specs.Decided.{where_so, matrix_decided}
use Rattle.ray_bytes.specs.declared.data_rule.DataRule.{DataRule}
use Rattle.ray_bytes.specs.declared.data_rule.DataRule.TheVariants.{X7, X8, X9}
use Rattle.ray_bytes.specs.declared.instance_record.InstanceRecord.{InstanceRecord}
use Rattle.ray_bytes.specs.declared.reference.Reference.{Reference}
use Rattle.ray_bytes.specs.declared.reference.Reference.TheVariants.{Inactive, Structure, Unknown}
use Rattle.ray_bytes.specs.References.{structure_of}
use Rattle.ray_bytes.specs.Records.{instance_of}
use Rattle.ray_bytes.specs.Slices.{record_at}
use Rattle.ray_bytes.specs.Views.{Row}
use Rattle.ray_contents.specs.Limits.{matrix_within}
use Rattle.ray_contents.specs.Bounds.{KeepsBounds}
use Rattle.ray_contents.proofs.Gathered.{All-gathered, gathered_all}
use Rattle.ray_primitives.specs.Updates.{old_at}
use Rattle.ray_primitives.proofs.Results.{element_ok, if_ok, ok_same}
use Rattle.ray_top.specs.declared.used.Used.{Used}
use Rattle.ray_top.specs.Instances.{InstanceValue, instance_from, matrix_from, flags_in, forces_both}
use Rattle.ray_top.specs.InstanceReading.{bounds_in, bounds_kept, forced, limited, in_use, referring, instance_read, instance_after, updated_instance, record_in, instance_element, instances_read}
use Rattle.ray_top.specs.Contents.{IsInstance}
use Rattle.ray_top.proofs.Corners.{KeepsBounds-kept}

-- what the low bits of a word keep
record IsRecord (from : InstanceRecord) : Type 0 where
  custom : from.custom < 2 ^ 24
  sbt : from.sbt < 2 ^ 24

low : (n : ℕ) → n % 2 ^ 24 < 2 ^ 24
low n = omega arith

low_flags : (n : ℕ) → n % 16 < 16
low_flags n = omega arith

-- of a choice whose one side is an error
if_not : {X : Type 0} (b : Bool) (r : Result X DataRule) (rule : DataRule) (x : X) → (if b then Err rule else r) ≡ Ok x → (b ≡ false) × (r ≡ Ok x)
if_not true r rule x e = absurd cc
if_not false r rule x e = (refl, e)

where_is : {P X : Type 0} (d : Dec P) (x y : X) → where_so d x ≡ Some y → P × (x ≡ y)
where_is (yes p) x y e = (p, cc)
where_is (no n) x y e = absurd cc

pub matrix_is : (m p : MatrixValue) → matrix_within m ≡ Some p → IsMatrix m × (m ≡ p)
unfolding matrix_within
matrix_is m p e = where_is (matrix_decided m) m p e

inactive_limits : (used : List Used) (i : Option InstanceValue) (r : Result (Option InstanceValue) DataRule) → r ≡ Ok None → r ≡ Ok i → IsInstance used i
inactive_limits used i r p e = subst (λ x. IsInstance used x) (ok_same None i r p e) (record { limits = tt })

-- one instance, by what was found of it
limited_limits : (used : List Used) (from : InstanceRecord) (id : ℕ) (bounds : Option BoxValue) (within : Option MatrixValue) (i : Option InstanceValue) →
    IsRecord from → bounds_in used id ≡ Some bounds → matrix_within (matrix_from from.rows) ≡ within → limited from id bounds within ≡ Ok i → IsInstance used i
limited_limits used from id bounds None i is_record p q e = absurd cc
limited_limits used from id bounds (Some m) i is_record p q e =
    let matrix = matrix_is (matrix_from from.rows) m q in
    let bounded = if_ok (bounds_kept m bounds) (forced from id) X7 i e in
    let once = if_not (forces_both (flags_in from)) (Ok (Some (instance_from from id))) X8 i bounded.1 in
    let keeps : KeepsBounds (matrix_from from.rows) bounds = subst (λ n. KeepsBounds n bounds) (sym matrix.1) (KeepsBounds-kept m bounds bounded.0) in
    subst (λ x. IsInstance used x) (ok_same (Some (instance_from from id)) i (Ok (Some (instance_from from id))) refl once.1)
    (record {
      limits = record {
        matrix = matrix.0;
        custom = is_record.custom;
        sbt = is_record.sbt;
        flags = low_flags from.flags;
        not_both = once.0;
        kept = subst (λ o. IsSomeAnd o (KeepsBounds (matrix_from from.rows))) (sym p) keeps;
      };
    })

in_use_limits : (used : List Used) (from : InstanceRecord) (id : ℕ) (known : Option (Option BoxValue)) (i : Option InstanceValue) →
    IsRecord from → bounds_in used id ≡ known → in_use from id known ≡ Ok i → IsInstance used i
in_use_limits used from id None i is_record p e = absurd cc
in_use_limits used from id (Some bounds) i is_record p e = limited_limits used from id bounds (matrix_within (matrix_from from.rows)) i is_record p refl e

referring_limits : (used : List Used) (from : InstanceRecord) (reference : Reference) (i : Option InstanceValue) →
    IsRecord from → referring used from reference ≡ Ok i → IsInstance used i
referring_limits used from Inactive i is_record e = inactive_limits used i (Ok None) refl e
referring_limits used from (Structure id) i is_record e = in_use_limits used from id (bounds_in used id) i is_record refl e
referring_limits used from Unknown i is_record e = absurd cc

read_limits : (used : List Used) (found : Option (List ℕ)) (i : Option InstanceValue) → instance_read used (option_map instance_of found) ≡ Ok i → IsInstance used i
read_limits used None i e = inactive_limits used i (Ok None) refl e
read_limits used (Some bytes) i e =
    let from : InstanceRecord = instance_of bytes in
    referring_limits used from (structure_of from.reference) i (record { custom = low _; sbt = low _ }) e

after_same : (old : Option (Option InstanceValue)) (a b : Option InstanceValue) → instance_after old a ≡ Ok b → a ≡ b
after_same None a b e = ok_same a b (Ok a) refl e
after_same (Some old) a b e = ok_same a b (Ok a) refl (if_ok (beq (is_some old) (is_some a)) (Ok a) X9 b e).1

updated_ok : (old : Option (Option InstanceValue)) (r : Result (Option InstanceValue) DataRule) (i : Option InstanceValue) → updated_instance old r ≡ Ok i → r ≡ Ok i
updated_ok old (Ok a) i e = ap Ok (after_same old a i e)
updated_ok old (Err rule) i e = absurd cc

element_limits : (used : List Used) (row : Row) (olds : Option (List (Option InstanceValue))) (k : ℕ) (i : Option InstanceValue) →
    instance_element used row olds k ≡ Ok i → IsInstance used i
unfolding instance_element
element_limits used row olds k i e =
    let read = instance_read used (record_in row k) in
    read_limits used (record_at row.bytes row.start 64 64 k) i
    (updated_ok (old_at olds k) read i (element_ok 0 k (updated_instance (old_at olds k) read) i e))

-- what the instances that are read keep
pub record AreRead (used : List Used) (count : ℕ) (instances : List (Option InstanceValue)) : Type 0 where
  pub as_many : length instances ≡ count
  pub each : All (IsInstance used) instances

pub AreRead-instances_read : (used : List Used) (row : Row) (olds : Option (List (Option InstanceValue))) (count : ℕ) (instances : List (Option InstanceValue)) →
    instances_read used row olds count ≡ Ok instances → AreRead used count instances
AreRead-instances_read used row olds count instances e =
    let element = instance_element used row olds in
    record {
      as_many = (gathered_all element count instances e).as_many;
      each = All-gathered (IsInstance used) element (element_limits used row olds) count instances e;
    }
