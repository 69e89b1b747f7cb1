-- Which rules an instance of a form may break.
use Rattle.std.proofs.Common.{ℕ, zero, suc, ◌≡◌, ◌==◌, ◌&&◌, Bool, true, false, not, List, [], ◌∷◌, length, map, Option, Some, None, Result, Ok, Err, refl, ap, subst}
use Rattle.std.specs.Prelude.{IfErr, slice_get, is_some, nat_le, nat_lt, option_and_then, if◌then◌else◌}
use Rattle.std.specs.List.{list_all}
use Rattle.ray_geom.specs.Boxes.{BoxValue}
use Rattle.ray_geom.specs.Transform.{MatrixValue}
use Rattle.ray_bytes.specs.Records.{instance_of}
use Rattle.ray_bytes.specs.References.{structure_of}
use Rattle.ray_bytes.specs.declared.data_rule.DataRule.{DataRule}
use Rattle.ray_bytes.specs.declared.data_rule.DataRule.TheVariants.{X5, X7, X8}
use Rattle.ray_bytes.specs.declared.data_fault.DataFault.{DataFault}
use Rattle.ray_bytes.specs.declared.instance_record.InstanceRecord.{InstanceRecord}
use Rattle.ray_bytes.specs.declared.reference.Reference.{Reference}
use Rattle.ray_bytes.specs.declared.reference.Reference.TheVariants.{Inactive, Structure, Unknown}
use Rattle.ray_contents.specs.Gathering.{gathered, IsFirstOrAll}
use Rattle.ray_contents.specs.Limits.{matrix_within}
use Rattle.ray_contents.proofs.Gathered.{gathered_law}
use Rattle.ray_flags.specs.declared.build_flags.BuildFlags.{BuildFlags}
use Rattle.ray_primitives.specs.Outcomes.{at_element}
use Rattle.ray_top.specs.declared.used.Used.{Used}
use Rattle.ray_top.specs.Contents.{top_with}
use Rattle.ray_top.specs.Instances.{InstanceValue, instance_from, matrix_from, flags_in, forces_both}
use Rattle.ray_top.specs.InstanceReading.{bounds_in, bounds_kept, forced, limited, in_use}
use Rattle.ray_form.specs.InstanceBytes.{is_active, is_placed, is_instance, instance_parts, are_instances}
use Rattle.ray_form.specs.Form.{handle_count_in, payload_in, is_top_payload, flags_of_payload, instances_of_payload, has_bad_element}
use Rattle.ray_serial.specs.Meaning.{IsForm, is_top_form}
use Rattle.ray_serial.specs.TopMeaning.{with_reference, reference_in, instance_in, instances_in, linked, instance_linked, linked_at, top_in, IsLinkRule}
use Rattle.ray_serial.proofs.KeptLines.{KeepsLines-unbroken}
use Rattle.ray_serial.proofs.Words.{not_true}

-- ---- one instance

-- a record keeps X6 and X8
record IsGood (from : InstanceRecord) : Type 0 where
  matrix : is_some (matrix_within (matrix_from from.rows)) ≡ true
  not_both : forces_both (flags_in from) ≡ false

abbrev broken : DataRule → Result (Option InstanceValue) DataRule
broken rule = Err rule

some_rule : (a b : DataRule) → broken a ≡ broken b → a ≡ b
some_rule a b e = cc

rule_is : (a b : DataRule) → IsLinkRule a → a ≡ b → IsLinkRule b
rule_is a b h e = subst (λ r. IsLinkRule r) e h

forced_rule : (from : InstanceRecord) (id : ℕ) (rule : DataRule) (both : Bool) → both ≡ false →
    (if both then Err X8 else Ok (Some (instance_from from id))) ≡ Err rule → IsLinkRule rule
forced_rule from id rule true p e = absurd cc
forced_rule from id rule false p e = absurd cc

bounded_rule : (from : InstanceRecord) (id : ℕ) (rule : DataRule) (kept : Bool) → forces_both (flags_in from) ≡ false →
    (if kept then forced from id else Err X7) ≡ Err rule → IsLinkRule rule
bounded_rule from id rule true p e = forced_rule from id rule (forces_both (flags_in from)) p e
bounded_rule from id rule false p e = rule_is X7 rule tt (some_rule X7 rule e)

limited_rule : (from : InstanceRecord) (id : ℕ) (bounds : Option BoxValue) (rule : DataRule) (m : Option MatrixValue) → is_some m ≡ true →
    forces_both (flags_in from) ≡ false → limited from id bounds m ≡ Err rule → IsLinkRule rule
limited_rule from id bounds rule None p q e = absurd cc
limited_rule from id bounds rule (Some m) p q e = bounded_rule from id rule (bounds_kept m bounds) q e

in_use_rule : (from : InstanceRecord) (id : ℕ) (rule : DataRule) (known : Option (Option BoxValue)) → IsGood from → in_use from id known ≡ Err rule → IsLinkRule rule
in_use_rule from id rule None good e = rule_is X5 rule tt (some_rule X5 rule e)
in_use_rule from id rule (Some bounds) good e = limited_rule from id bounds rule (matrix_within (matrix_from from.rows)) good.matrix good.not_both e

linked_rule : (used : List Used) (from : InstanceRecord) (rule : DataRule) (reference : Reference) → IsGood from → linked used from reference ≡ Err rule → IsLinkRule rule
linked_rule used from rule Inactive good e = rule_is X5 rule tt (some_rule X5 rule e)
linked_rule used from rule (Structure id) good e = in_use_rule from id rule (bounds_in used id) good e
linked_rule used from rule Unknown good e = rule_is X5 rule tt (some_rule X5 rule e)

-- an instance that is read of 64 bytes
both : (a b : Bool) → (a && b) ≡ true → (a ≡ true) × (b ≡ true)
both true b e = (refl, e)
both false b e = absurd cc

placed_good : (handles : ℕ) (from : InstanceRecord) → is_placed handles from ≡ true → IsGood from
unfolding is_placed
placed_good handles from e =
    let p = both (nat_le from.reference handles && is_some (matrix_within (matrix_from from.rows)) && nat_lt from.flags 16) (not (forces_both (flags_in from))) e in
    let q = both (nat_le from.reference handles && is_some (matrix_within (matrix_from from.rows))) (nat_lt from.flags 16) p.0 in
    let r = both (nat_le from.reference handles) (is_some (matrix_within (matrix_from from.rows))) q.0 in
    record { matrix = r.1; not_both = not_true (forces_both (flags_in from)) p.1 }

by_active : (used : List Used) (handles reference : ℕ) (from : InstanceRecord) (rule : DataRule) (active zeros : Bool) →
    (if active then is_placed handles from else zeros) ≡ true → instance_linked used (if active then Some (with_reference reference from) else None) ≡ Err rule → IsLinkRule rule
by_active used handles reference from rule true zeros is e =
    let good = placed_good handles from is in
    linked_rule used (with_reference reference from) rule (structure_of reference) (record { matrix = good.matrix; not_both = good.not_both }) e
by_active used handles reference from rule false zeros is e = absurd cc

instance_rule : (used : List Used) (bytes part : List ℕ) (rule : DataRule) → is_instance (handle_count_in bytes) part ≡ true →
    instance_linked used (instance_in bytes part) ≡ Err rule → IsLinkRule rule
unfolding is_instance instance_in
instance_rule used bytes part rule is e =
    by_active used (handle_count_in bytes) (reference_in bytes (instance_of part)) (instance_of part) rule (is_active (instance_of part))
    (list_all (λ byte. byte == 0) part) is e

-- ---- all of them

abbrev faulty : DataFault → Result (Option InstanceValue) DataFault
faulty fault = Err fault

element_rule : (k : ℕ) (r : Result (Option InstanceValue) DataRule) (fault : DataFault) → at_element 0 k r ≡ Err fault → ((rule : DataRule) → r ≡ Err rule → IsLinkRule rule) →
    IsLinkRule fault.rule
element_rule k (Ok i) fault e each = absurd cc
element_rule k (Err rule) fault e each = let same : rule ≡ fault.rule = ap (λ (f : DataFault). f.rule) (some_fault _ fault e) in rule_is rule fault.rule (each rule refl) same
  where
    some_fault : (a b : DataFault) → faulty a ≡ faulty b → a ≡ b
    some_fault a b p = cc

at_number : (used : List Used) (bytes : List ℕ) (rule : DataRule) (parts : List (List ℕ)) (k : ℕ) → list_all (is_instance (handle_count_in bytes)) parts ≡ true →
    instance_linked used (option_and_then (λ o. o) (slice_get (map (instance_in bytes) parts) k)) ≡ Err rule → IsLinkRule rule
at_number used bytes rule [] k all e = absurd cc
at_number used bytes rule (p ∷ ps) zero all e =
    instance_rule used bytes p rule (both (is_instance (handle_count_in bytes) p) (list_all (is_instance (handle_count_in bytes)) ps) all).0 e
at_number used bytes rule (p ∷ ps) (suc k) all e =
    at_number used bytes rule ps k (both (is_instance (handle_count_in bytes) p) (list_all (is_instance (handle_count_in bytes)) ps) all).1 e

first_fault : {X F : Type 0} (f : ℕ → Result X F) (n : ℕ) (fault : F) → gathered f n ≡ Err fault → (k : ℕ) × (f k ≡ Err fault)
first_fault f n fault e =
    let first = subst (λ r. IsFirstOrAll f n r) e (gathered_law f n) in (first.0, first.1.is_fault)

built_rule : (flags : BuildFlags) (used : List Used) (r : Result (List (Option InstanceValue)) DataFault) → ((fault : DataFault) → r ≡ Err fault → IsLinkRule fault.rule) →
    IfErr (top_with flags used r) (λ fault. IsLinkRule fault.rule)
built_rule flags used (Ok instances) each = tt
built_rule flags used (Err fault) each = each fault refl

good_part : (top all other : Bool) → top ≡ true → (if top then not all else other) ≡ false → all ≡ true
good_part true true other p e = refl
good_part true false other p e = absurd cc
good_part false all other p e = absurd cc

all_instances : (bytes : List ℕ) → IsForm bytes → is_top_form bytes ≡ true →
    list_all (is_instance (handle_count_in bytes)) (instance_parts (instances_of_payload (payload_in bytes))) ≡ true
unfolding has_bad_element are_instances
all_instances bytes is top =
    let k = KeepsLines-unbroken bytes is.unbroken in
    let payload = payload_in bytes in
    good_part (is_top_payload payload) (list_all (is_instance (handle_count_in bytes)) (instance_parts (instances_of_payload payload)))
    _ top k.elements

pub top_in-rule : (used : List Used) (bytes : List ℕ) → IsForm bytes → is_top_form bytes ≡ true → IfErr (top_in used bytes) (λ fault. IsLinkRule fault.rule)
unfolding top_in instances_in linked_at
top_in-rule used bytes is top =
    let all = all_instances bytes is top in
    let parts = instance_parts (instances_of_payload (payload_in bytes)) in
    let instances = map (instance_in bytes) parts in
    built_rule (flags_of_payload (payload_in bytes)) used (gathered (linked_at used instances) (length instances)) (λ fault e.
    let k = first_fault (linked_at used instances) (length instances) fault e in
    element_rule k.0 (instance_linked used (option_and_then (λ o. o) (slice_get instances k.0))) fault k.1
    (λ rule h. at_number used bytes rule parts k.0 all h))
