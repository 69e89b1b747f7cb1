-- What is Ok, and what follows of it.
use Rattle.std.proofs.Common.{ℕ, ◌^◌, ◌≡◌, Bool, true, false, Result, Ok, Err, Some, refl, subst}
use Rattle.std.specs.Prelude.{IfOk, if◌then◌else◌}
use Rattle.ray_geom.specs.declared.vec3.Vec3.{Vec3}
use Rattle.ray_geom.specs.Vector.{IsShort}
use Rattle.ray_geom.specs.Decided.{where_so, short_decided}
use Rattle.ray_bytes.specs.declared.data_rule.DataRule.{DataRule}
use Rattle.ray_bytes.specs.declared.data_fault.DataFault.{DataFault}
use Rattle.ray_contents.specs.Limits.{point_within}
use Rattle.ray_primitives.specs.declared.build_fault.BuildFault.{BuildFault}
use Rattle.ray_primitives.specs.declared.build_fault.BuildFault.TheVariants.{Data, NoMemory}
use Rattle.ray_primitives.specs.Outcomes.{Gives, at_element}

-- what follows where a reading gives something holds of the result
pub IfOk-Gives : {X : Type 0} (P : X → Type 0) (read : Result X DataFault) (r : Result X BuildFault) → Gives read r → ((x : X) → read ≡ Ok x → P x) → IfOk r P
IfOk-Gives P read (Ok x) gives then_P = then_P x gives
IfOk-Gives P read (Err (Data fault)) gives then_P = tt
IfOk-Gives P read (Err NoMemory) gives then_P = tt

pub element_ok : {X : Type 0} (geometry element : ℕ) (r : Result X DataRule) (x : X) → at_element geometry element r ≡ Ok x → r ≡ Ok x
element_ok geometry element (Ok y) x e = let same : y ≡ x = cc in cc
element_ok geometry element (Err rule) x e = absurd cc

-- what is given is given once
pub ok_same : {X : Type 0} (x y : X) (r : Result X DataRule) → r ≡ Ok x → r ≡ Ok y → x ≡ y
ok_same x y r p q = cc

-- of a choice whose other side is an error
pub if_ok : {X : Type 0} (b : Bool) (r : Result X DataRule) (rule : DataRule) (x : X) → (if b then r else Err rule) ≡ Ok x → (b ≡ true) × (r ≡ Ok x)
if_ok true r rule x e = (refl, e)
if_ok false r rule x e = absurd cc

if_short : {P X : Type 0} (d : Dec P) (x y : X) → where_so d x ≡ Some y → P × (x ≡ y)
if_short (yes p) x y e = (p, cc)
if_short (no n) x y e = absurd cc

-- what is within the limits is
pub short_within : (v p : Vec3) → point_within v ≡ Some p → IsShort (2 ^ 19) p
unfolding point_within
short_within v p e = let h = if_short (short_decided (2 ^ 19) v) v p e in subst (λ w. IsShort (2 ^ 19) w) h.1 h.0
