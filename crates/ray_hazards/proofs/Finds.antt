-- What tests find in lists, and what two accesses share.
use Rattle.std.proofs.Common.{◌≡◌, ◌<◌, ◌≤◌, ◌&&◌, ◌||◌, ◌∷◌, [], ℕ, suc, Bool, true, false, List, Option, Some, None, All, map, refl, sym, ap, subst, arith}
use Rattle.std.specs.List.{list_all, list_any}
use Rattle.std.proofs.lemmas.Bool.Decides.{nat_tests}
use Rattle.ray_ranges.specs.declared.range.Range.{Range}
use Rattle.ray_rules.specs.declared.access_type.AccessType.{AccessType}
use Rattle.ray_rules.specs.declared.access_type.AccessType.TheVariants.{TransferRead, TransferWrite, ShaderRead, ShaderWrite, StructureRead, StructureWrite, HostRead, HostWrite}
use Rattle.ray_rules.specs.declared.reach.Reach.{Reach}
use Rattle.ray_rules.specs.declared.reach.Reach.TheVariants.{Bytes, Structure, Scratch}
use Rattle.ray_rules.specs.Hazards.{shares}
use Rattle.ray_rules.specs.Makers.{buffer_of, is_one, maker_of_buffer}
use Rattle.ray_rules.specs.Status.{Status}
use Rattle.ray_hazards.specs.Cells.{cell_of, has_cell}
use Rattle.ray_hazards.specs.Lasts.{same_access}

-- accesses that are the same are one
pub same-is : (a b : AccessType) → same_access a b ≡ true → a ≡ b
same-is TransferRead TransferRead e = refl
same-is TransferWrite TransferWrite e = refl
same-is ShaderRead ShaderRead e = refl
same-is ShaderWrite ShaderWrite e = refl
same-is StructureRead StructureRead e = refl
same-is StructureWrite StructureWrite e = refl
same-is HostRead HostRead e = refl
same-is HostWrite HostWrite e = refl
same-is _ _ e = absurd cc

pub is-same : (a : AccessType) → same_access a a ≡ true
is-same TransferRead = refl
is-same TransferWrite = refl
is-same ShaderRead = refl
is-same ShaderWrite = refl
is-same StructureRead = refl
is-same StructureWrite = refl
is-same HostRead = refl
is-same HostWrite = refl

pub false-true : false ≡ true → ⊥
false-true e = absurd cc

-- a conjunction, and its parts
pub both : (a b : Bool) → a ≡ true → b ≡ true → (a && b) ≡ true
both true b e f = f
both false b e f = absurd cc

pub left : (a b : Bool) → (a && b) ≡ true → a ≡ true
left true b e = refl
left false b e = absurd cc

pub right : (a b : Bool) → (a && b) ≡ true → b ≡ true
right true b e = e
right false b e = absurd cc

-- an item is found by a test that another follows from
pub any-back :
    {X Y : Type 0} (f : X → Y) (p : X → Bool) (q : Y → Bool) (P : X → Type 0) (xs : List X) → All P xs
    → ((x : X) → P x → q (f x) ≡ true → p x ≡ true) → list_any q (map f xs) ≡ true → list_any p xs ≡ true
any-back f p q P [] each step found = absurd cc
any-back f p q P (x ∷ xs) each step found =
    choose (q (f x)) (p x) (list_any q (map f xs)) (list_any p xs) found (step x (each 0 x (omega arith)))
    (any-back f p q P xs (λ k d below. each (suc k) d (omega (arith, below))) step)
  where
    choose : (a b r s : Bool) → (a || r) ≡ true → (a ≡ true → b ≡ true) → (r ≡ true → s ≡ true) → (b || s) ≡ true
    choose true true r s e h k = refl
    choose true false r s e h k = absurd (false-true (h refl))
    choose false true r s e h k = refl
    choose false false r s e h k = k e

-- a cell between
pub in-range : (starts : List ℕ) (r : Range) (c : ℕ) → cell_of starts r.from ≤ c → c < cell_of starts r.end → has_cell starts r c ≡ true
in-range starts r c from below = grind (arith, nat_tests)

pub from-range : (starts : List ℕ) (r : Range) (c : ℕ) → has_cell starts r c ≡ true → cell_of starts r.from ≤ c
from-range starts r c in-it = grind (arith, nat_tests)

pub below-range : (starts : List ℕ) (r : Range) (c : ℕ) → has_cell starts r c ≡ true → c < cell_of starts r.end
below-range starts r c in-it = grind (arith, nat_tests)

-- what two statuses share is of one buffer, or a structure
pub one-is : (a b : Option ℕ) → is_one a b ≡ true → a ≡ b
one-is (Some a) (Some b) e = let same : a ≡ b = grind (arith, nat_tests) in ap Some same
one-is None b e = absurd cc
one-is (Some a) None e = absurd cc

pub one-buffer : (z u : Status) (r s : Reach) → shares z u r s ≡ true → buffer_of z r ≡ buffer_of u s
one-buffer z u (Bytes r) (Bytes s) e =
    one-is (maker_of_buffer z r.buffer) (maker_of_buffer u s.buffer)
    (left (is_one (maker_of_buffer z r.buffer) (maker_of_buffer u s.buffer)) _ e)
one-buffer z u (Structure a) (Structure b) e = refl
one-buffer z u (Scratch r) (Scratch s) e =
    one-is (maker_of_buffer z r.buffer) (maker_of_buffer u s.buffer)
    (left (is_one (maker_of_buffer z r.buffer) (maker_of_buffer u s.buffer)) _ e)
one-buffer z u (Bytes r) (Structure s) e = absurd cc
one-buffer z u (Bytes r) (Scratch s) e = absurd cc
one-buffer z u (Structure r) (Bytes s) e = absurd cc
one-buffer z u (Structure r) (Scratch s) e = absurd cc
one-buffer z u (Scratch r) (Bytes s) e = absurd cc
one-buffer z u (Scratch r) (Structure s) e = absurd cc

-- an item that a test finds, where others hold of all items
pub record Picked {X Y : Type 0} (f : X → Y) (p q : X → Bool) (P : X → Type 0) (xs : List X) : Type 0 where
  pub item : X
  pub found : p item ≡ true
  pub also : q item ≡ true
  pub so : P item
  pub there : (g : Y → Bool) → g (f item) ≡ true → list_any g (map f xs) ≡ true

pub pick :
    {X Y : Type 0} (f : X → Y) (p q : X → Bool) (P : X → Type 0) (xs : List X) → list_any p xs ≡ true
    → list_all q xs ≡ true → All P xs → Picked f p q P xs
pick f p q P [] found also so = absurd cc
pick {Y = Y} f p q P (x ∷ xs) found also so =
    choose (p x) refl
    (λ e. pick f p q P xs e (right (q x) (list_all q xs) also) (λ k d below. so (suc k) d (omega (arith, below))))
  where
    here : (g : Y → Bool) (y : Y) (r : Bool) → g y ≡ true → (g y || r) ≡ true
    here g y r e = subst (λ (b : Bool). (b || r) ≡ true) (sym e) refl

    later : (a b : Bool) → b ≡ true → (a || b) ≡ true
    later true b e = refl
    later false b e = e

    choose : (b : Bool) → p x ≡ b → (list_any p xs ≡ true → Picked f p q P xs) → Picked f p q P (x ∷ xs)
    choose true e others = record {
      item = x;
      found = e;
      also = left (q x) (list_all q xs) also;
      so = so 0 x (omega arith);
      there = λ g t. here g (f x) (list_any g (map f xs)) t;
    }
    choose false e others =
        let rest = others (subst (λ (b : Bool). (b || list_any p xs) ≡ true) e found) in
        record {
          item = rest.item;
          found = rest.found;
          also = rest.also;
          so = rest.so;
          there = λ g t. later (g (f x)) (list_any g (map f xs)) (rest.there g t);
        }
