-- The bits of a number spread, and those of three numbers in turns.
use Rattle.std.proofs.Common.{◌≡◌, ◌∙◌, ◌+◌, ◌*◌, ◌/◌, ◌%◌, ◌^◌, ◌<◌, ◌≤◌, ℕ, zero, suc, List, [], ◌∷◌, map, get_or, refl, sym, ap, ap₂, arith}
use Rattle.std.specs.List.{range_with_len}
use Rattle.std.specs.Int.Bits.{block_half}
use Rattle.std.proofs.Math.Nat.{pow-suc, pow-zero}
use Rattle.std.proofs.lemmas.List.FromFn.{get_or-map-range_with_len}
use Rattle.ray_morton.specs.Keys.{interleaved}
use Rattle.ray_morton.specs.Entries.{spread}

pub spread_none : (x : ℕ) → spread 0 x ≡ 0
unfolding spread
spread_none x = refl

pub spread_more : (bits x : ℕ) → spread (suc bits) x ≡ 8 * spread bits (x / 2) + x % 2
unfolding spread
spread_more bits x = refl

-- it has a seventh of the room at most
pub spread_small : (bits x : ℕ) → 7 * spread bits x + 1 ≤ 8 ^ bits
spread_small zero x = omega (arith, spread_none x, pow-zero 8)
spread_small (suc bits) x = omega (arith, spread_more bits x, pow-suc 8 bits, spread_small bits (x / 2))

-- a number with so many bits below it
odd_end : (a k r : ℕ) → (a * 2 ^ suc k + r) % 2 ≡ r % 2
odd_end a k r =
    let power : 2 ^ suc k ≡ 2 * 2 ^ k = omega (arith, pow-suc 2 k) in
    let twice : a * 2 ^ suc k ≡ 2 * (a * 2 ^ k) = ap (λ p. a * p) power ∙ swap a (2 ^ k) in
    omega (arith, twice)
  where
    swap : (x y : ℕ) → x * (2 * y) ≡ 2 * (x * y)
    swap x y = grind arith

eight : (s p : ℕ) → s * (8 * p) ≡ 8 * (s * p)
eight s p = grind arith

pub spread_join : (bits low a r : ℕ) → r < 2 ^ low → spread (low + bits) (a * 2 ^ low + r) ≡ spread bits a * 8 ^ low + spread low r
spread_join bits zero a r small =
    let none : r ≡ 0 = omega (arith, small, pow-zero 2) in
    let whole : a * 2 ^ 0 + r ≡ a = omega (arith, none) in
    let all : 0 + bits ≡ bits = omega arith in
    (λ i. spread (all i) (whole i)) ∙ omega (arith, spread_none r)
spread_join bits (suc low) a r small =
    let half : r / 2 < 2 ^ low = omega (arith, small, pow-suc 2 low) in
    let step = spread_join bits low a (r / 2) half in
    let more : 8 ^ suc low ≡ 8 * 8 ^ low = omega (arith, pow-suc 8 low) in
    let power : spread bits a * 8 ^ suc low ≡ 8 * (spread bits a * 8 ^ low) = ap (λ p. spread bits a * p) more ∙ eight (spread bits a) (8 ^ low) in
    let all : suc low + bits ≡ suc (low + bits) = omega arith in
    ap (λ n. spread n (a * 2 ^ suc low + r)) all
    ∙ spread_more (low + bits) (a * 2 ^ suc low + r)
    ∙ ap₂ (λ s e. 8 * s + e) (ap (spread (low + bits)) (block_half a low r) ∙ step) (odd_end a low r)
    ∙ omega (arith, power, spread_more low r)

pub spread_ten_is : (x a b : ℕ) → a ≡ spread 5 (x / 32) → b ≡ spread 5 (x % 32) → a * 32768 + b ≡ spread 10 x
spread_ten_is x a b p q =
    let whole : (x / 32) * 2 ^ 5 + x % 32 ≡ x = omega arith in
    ap₂ (λ u v. u * 32768 + v) p q ∙ sym (spread_join 5 5 (x / 32) (x % 32) (omega arith)) ∙ ap (spread 10) whole

pub spread_all_is : (x a b : ℕ) → a ≡ spread 10 (x / 1024) → b ≡ spread 10 (x % 1024) → a * 1073741824 + b ≡ spread 20 x
spread_all_is x a b p q =
    let whole : (x / 1024) * 2 ^ 10 + x % 1024 ≡ x = omega arith in
    ap₂ (λ u v. u * 1073741824 + v) p q ∙ sym (spread_join 10 10 (x / 1024) (x % 1024) (omega arith)) ∙ ap (spread 20) whole

-- the table
table_is : map (spread 5) (range_with_len 0 32) ≡
    0 ∷ 1 ∷ 8 ∷ 9 ∷ 64 ∷ 65 ∷ 72 ∷ 73 ∷ 512 ∷ 513 ∷ 520 ∷ 521 ∷ 576 ∷ 577 ∷ 584 ∷ 585 ∷ 4096 ∷ 4097 ∷ 4104 ∷ 4105 ∷
    4160 ∷ 4161 ∷ 4168 ∷ 4169 ∷ 4608 ∷ 4609 ∷ 4616 ∷ 4617 ∷ 4672 ∷ 4673 ∷ 4680 ∷ 4681 ∷ []
unfolding spread
table_is = refl

pub table_at : (table : List ℕ) (x d : ℕ) → x < 32 → table ≡
    0 ∷ 1 ∷ 8 ∷ 9 ∷ 64 ∷ 65 ∷ 72 ∷ 73 ∷ 512 ∷ 513 ∷ 520 ∷ 521 ∷ 576 ∷ 577 ∷ 584 ∷ 585 ∷ 4096 ∷ 4097 ∷ 4104 ∷ 4105 ∷
    4160 ∷ 4161 ∷ 4168 ∷ 4169 ∷ 4608 ∷ 4609 ∷ 4616 ∷ 4617 ∷ 4672 ∷ 4673 ∷ 4680 ∷ 4681 ∷ [] → get_or table x d ≡ spread 5 x
table_at table x d small is =
    ap (λ l. get_or l x d) (is ∙ sym table_is) ∙ get_or-map-range_with_len (spread 5) 0 32 x x d small (omega arith)

-- the bits of three numbers in turns are each number's, spread
interleaved_none : (x y z : ℕ) → interleaved 0 x y z ≡ 0
unfolding interleaved
interleaved_none x y z = refl

interleaved_more : (bits x y z : ℕ)
    → interleaved (suc bits) x y z ≡ 8 * interleaved bits (x / 2) (y / 2) (z / 2) + (4 * (x % 2) + (2 * (y % 2) + z % 2))
unfolding interleaved
interleaved_more bits x y z = refl

pub interleaved_is : (bits x y z : ℕ) → interleaved bits x y z ≡ 4 * spread bits x + (2 * spread bits y + spread bits z)
interleaved_is zero x y z = omega (arith, interleaved_none x y z, spread_none x, spread_none y, spread_none z)
interleaved_is (suc bits) x y z =
    omega (
      arith,
      interleaved_more bits x y z,
      interleaved_is bits (x / 2) (y / 2) (z / 2),
      spread_more bits x,
      spread_more bits y,
      spread_more bits z,
    )

-- so a key has 60 bits
pub interleaved_small : (x y z : ℕ) → interleaved 20 x y z < 2 ^ 60
interleaved_small x y z = omega (arith, interleaved_is 20 x y z, spread_small 20 x, spread_small 20 y, spread_small 20 z)
