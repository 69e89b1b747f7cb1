-- Parts of bytes.
use Rattle.std.proofs.Common.{ℕ, ◌≡◌, ◌≤◌, ◌+◌, ◌*◌, Bool, true, false, List, length, take, drop, Some, None, option_map, refl, sym, ap, ◌∙◌, arith}
use Rattle.std.specs.Prelude.{nat_le, if◌then◌else◌}
use Rattle.std.proofs.lemmas.Bool.Decides.{nat_tests}
use Rattle.std.proofs.Math.Seq.{take-length}
use Rattle.ray_bytes.specs.declared.instance_record.InstanceRecord.{InstanceRecord}
use Rattle.ray_bytes.specs.Records.{instance_of}
use Rattle.ray_bytes.specs.Slices.{record_at}

if_true : {X : Type 0} (b : Bool) (x y : X) → b ≡ true → (if b then x else y) ≡ x
if_true true x y e = refl
if_true false x y e = absurd cc

le_test : (a b : ℕ) → a ≤ b → nat_le a b ≡ true
le_test a b h = grind (arith, nat_tests)

-- bytes that are one record
whole_record : (n : ℕ) (bytes : List ℕ) → length bytes ≡ n → record_at bytes 0 n n 0 ≡ Some bytes
whole_record n bytes e =
    let start : 0 + 0 * n ≡ 0 = omega arith in
    if_true (nat_le (0 + 0 * n + n) (length bytes)) (Some (take n (drop (0 + 0 * n) bytes))) None (le_test (0 + 0 * n + n) (length bytes) (omega arith))
    ∙ ap Some (ap (λ k. take n (drop k bytes)) start ∙ (ap (λ k. take k bytes) (sym e) ∙ take-length bytes))

some_same : {X : Type 0} (x y : X) → Some x ≡ Some y → x ≡ y
some_same x y e = cc

pub instance_whole : (bytes : List ℕ) (from : InstanceRecord) → length bytes ≡ 64 → option_map instance_of (record_at bytes 0 64 64 0) ≡ Some from →
    from ≡ instance_of bytes
instance_whole bytes from long e =
    sym (some_same (instance_of bytes) from (sym (ap (λ o. option_map instance_of o) (whole_record 64 bytes long)) ∙ e))
