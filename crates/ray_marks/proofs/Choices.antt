-- Tests and choices.
use Rattle.std.proofs.Common.{◌≡◌, ◌<◌, ◌≤◌, ℕ, ◌-◌, max, Bool, true, false, if◌then◌else◌, arith, refl}
use Rattle.std.proofs.lemmas.Bool.Decides.{nat_tests}
use Rattle.ray_marks.specs.Rising.{is_in}

-- a range that begins k cells later has the cells that are k further on
pub is_in-later : (start end c k : ℕ) → k ≤ c → is_in (start - k) (end - k) (c - k) ≡ is_in start end c
is_in-later start end c k h = grind (arith, nat_tests)

pub is_in-true : (start end c : ℕ) → start ≤ c → c < end → is_in start end c ≡ true
is_in-true start end c s e = grind (arith, nat_tests)

pub is_in-above : (start end c : ℕ) → end ≤ c → is_in start end c ≡ false
is_in-above start end c e = grind (arith, nat_tests)

pub is_in-none : (start end c : ℕ) → end ≤ start → is_in start end c ≡ false
is_in-none start end c e = grind (arith, nat_tests)

pub is_in-below : (start end c : ℕ) → c < start → is_in start end c ≡ false
is_in-below start end c e = grind (arith, nat_tests)

-- a choice of what is at most w is at most w
pub choice-le : (b : Bool) (x y w : ℕ) → (b ≡ true → x ≤ w) → (b ≡ false → y ≤ w) → (if b then x else y) ≤ w
choice-le true x y w p q = p refl
choice-le false x y w p q = q refl

-- what is at most the new mark stays below it in a choice
pub max-choice : (b : Bool) (w x value : ℕ) → w ≤ value → max w (if b then value else x) ≡ (if b then value else max w x)
max-choice true w x value h = omega arith
max-choice false w x value h = refl
