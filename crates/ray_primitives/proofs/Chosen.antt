-- What follows where a test is passed, or a choice gives something.
use Rattle.std.proofs.Common.{◌≡◌, ◌&&◌, Bool, true, false, Option, Some, None, refl}
use Rattle.std.specs.Prelude.{if◌then◌else◌}

-- of a choice whose other side is none
pub if_some : {X : Type 0} (b : Bool) (o : Option X) (x : X) → (if b then o else None) ≡ Some x → (b ≡ true) × (o ≡ Some x)
if_some true o x e = (refl, e)
if_some false o x e = absurd cc

pub same_some : {X : Type 0} (x y : X) (o : Option X) → o ≡ Some x → o ≡ Some y → x ≡ y
same_some x y o p q = cc

pub record AreTrue (a b c : Bool) : Type 0 where
  pub first : a ≡ true
  pub second : b ≡ true
  pub third : c ≡ true

pub three : (a b c : Bool) → ((a && b) && c) ≡ true → AreTrue a b c
three true true true e = record { first = refl; second = refl; third = refl }
three true true false e = absurd cc
three true false c e = absurd cc
three false b c e = absurd cc
