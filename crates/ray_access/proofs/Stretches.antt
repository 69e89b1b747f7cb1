-- What is reached shares something exactly where its numbers meet.
use Rattle.std.proofs.Common.{◌≡◌, ◌≤◌, ◌<◌, ◌+◌, ◌*◌, ◌^◌, ℕ, Option, Some, None, Bool, true, false, ◌&&◌, ◌==◌, refl, sym, ap, ◌∙◌, arith}
use Rattle.std.proofs.lemmas.Bool.Decides.{nat_tests}
use Rattle.ray_ranges.specs.declared.range.Range.{Range}
use Rattle.ray_ranges.specs.Meeting.{meets}
use Rattle.ray_rules.specs.declared.reach.Reach.{Reach}
use Rattle.ray_rules.specs.declared.reach.Reach.TheVariants.{Bytes, Structure, Scratch}
use Rattle.ray_rules.specs.Hazards.{is_one, maker_of_buffer, maker_of_structure, shares}
use Rattle.ray_rules.specs.Status.{Status}
use Rattle.ray_access.specs.declared.axis.Memory.{Memory}
use Rattle.ray_access.specs.declared.axis.Memory.TheVariants as memories
use Rattle.ray_access.specs.Axis.{ReachFits, extent_of, memory_number, stretch, stretch_number}

-- bytes of a thing, by their numbers in it
abbrev bytes : ℕ → ℕ → Range
bytes from size = record { from = from; end = from + size }

-- two ranges within stretches that begin at numbers of these
within_one :
    (p q a b c d : ℕ) → a + b ≤ 2 ^ 70 → c + d ≤ 2 ^ 70
    → ((p == q) && meets (bytes a b) (bytes c d))
    ≡ meets (record { from = p * 2 ^ 70 + a; end = p * 2 ^ 70 + (a + b) }) (record { from = q * 2 ^ 70 + c; end = q * 2 ^ 70 + (c + d) })
within_one p q a b c d e f = grind (arith, nat_tests)

-- two stretches have one number exactly where they are of one kind and of one command
same_number : (memory : Memory) (p q : ℕ) → (p == q) ≡ (stretch_number memory p == stretch_number memory q)
same_number memories.Bytes p q = grind (arith, nat_tests)
same_number memories.Structures p q = grind (arith, nat_tests)
same_number memories.Scratch p q = grind (arith, nat_tests)

-- parts of what commands made, of one kind of memory
parts_meet :
    (memory : Memory) (m n : Option ℕ) (a b c d : ℕ) → a + b ≤ 2 ^ 70 → c + d ≤ 2 ^ 70
    → (is_one m n && meets (bytes a b) (bytes c d)) ≡ meets (stretch memory m a b) (stretch memory n c d)
parts_meet memory None n a b c d e f = grind (arith, nat_tests)
parts_meet memory (Some p) None a b c d e f = grind (arith, nat_tests)
parts_meet memory (Some p) (Some q) a b c d e f =
    ap (λ t. t && meets (bytes a b) (bytes c d)) (same_number memory p q)
    ∙ within_one (stretch_number memory p) (stretch_number memory q) a b c d e f

-- parts of two stretches of other numbers
numbers_apart :
    (s t a b c d : ℕ) → (s == t) ≡ false → a + b ≤ 2 ^ 70 → c + d ≤ 2 ^ 70
    → meets (record { from = s * 2 ^ 70 + a; end = s * 2 ^ 70 + (a + b) }) (record { from = t * 2 ^ 70 + c; end = t * 2 ^ 70 + (c + d) }) ≡ false
numbers_apart s t a b c d other e f = grind (arith, nat_tests)

-- stretches of two kinds of memory have two numbers
kinds_apart :
    (one other : Memory) (p q : ℕ) → memory_number one < memory_number other
    → (stretch_number one p == stretch_number other q) ≡ false
kinds_apart memories.Bytes memories.Structures p q less = grind (arith, nat_tests)
kinds_apart memories.Bytes memories.Scratch p q less = grind (arith, nat_tests)
kinds_apart memories.Structures memories.Scratch p q less = grind (arith, nat_tests)
kinds_apart memories.Bytes memories.Bytes p q less = absurd (omega (arith, less))
kinds_apart memories.Structures memories.Bytes p q less = absurd (omega (arith, less))
kinds_apart memories.Structures memories.Structures p q less = absurd (omega (arith, less))
kinds_apart memories.Scratch memories.Bytes p q less = absurd (omega (arith, less))
kinds_apart memories.Scratch memories.Structures p q less = absurd (omega (arith, less))
kinds_apart memories.Scratch memories.Scratch p q less = absurd (omega (arith, less))

-- parts of what commands made, of two kinds of memory, of which the first is the lesser
apart :
    (one other : Memory) (m n : Option ℕ) (a b c d : ℕ) → memory_number one < memory_number other
    → a + b ≤ 2 ^ 70 → c + d ≤ 2 ^ 70 → meets (stretch one m a b) (stretch other n c d) ≡ false
apart one other None n a b c d less e f = grind (arith, nat_tests)
apart one other (Some p) None a b c d less e f = grind (arith, nat_tests)
apart one other (Some p) (Some q) a b c d less e f =
    numbers_apart (stretch_number one p) (stretch_number other q) a b c d (kinds_apart one other p q less) e f

-- whether ranges meet doesn't depend on which comes first
turned : (r s : Range) → meets r s ≡ meets s r
turned r s = grind (arith, nat_tests)

-- whether one is, where bytes of it are
one_only : (q : Bool) → (q && meets (bytes 0 1) (bytes 0 1)) ≡ q
one_only true = refl
one_only false = refl

-- the law
pub sharing :
    (z w : Status) (r s : Reach) → ReachFits r → ReachFits s → shares z w r s ≡ meets (extent_of z r) (extent_of w s)
sharing z w (Bytes r) (Bytes s) e f =
    parts_meet memories.Bytes (maker_of_buffer z r.buffer) (maker_of_buffer w s.buffer) r.from r.size s.from s.size e f
sharing z w (Bytes r) (Structure s) e f =
    sym (apart memories.Bytes memories.Structures (maker_of_buffer z r.buffer) (maker_of_structure w s) r.from r.size 0 1 (omega arith) e (omega arith))
sharing z w (Bytes r) (Scratch s) e f =
    sym (apart memories.Bytes memories.Scratch (maker_of_buffer z r.buffer) (maker_of_buffer w s.buffer) r.from r.size s.from s.size (omega arith) e f)
sharing z w (Structure r) (Bytes s) e f =
    sym (turned (extent_of z (Structure r)) (extent_of w (Bytes s)) ∙ apart memories.Bytes memories.Structures (maker_of_buffer w s.buffer) (maker_of_structure z r) s.from s.size 0 1 (omega arith) f (omega arith))
sharing z w (Structure r) (Structure s) e f =
    sym (one_only (is_one (maker_of_structure z r) (maker_of_structure w s))) ∙ parts_meet memories.Structures (maker_of_structure z r) (maker_of_structure w s) 0 1 0 1 (omega arith) (omega arith)
sharing z w (Structure r) (Scratch s) e f =
    sym (apart memories.Structures memories.Scratch (maker_of_structure z r) (maker_of_buffer w s.buffer) 0 1 s.from s.size (omega arith) (omega arith) f)
sharing z w (Scratch r) (Bytes s) e f =
    sym (turned (extent_of z (Scratch r)) (extent_of w (Bytes s)) ∙ apart memories.Bytes memories.Scratch (maker_of_buffer w s.buffer) (maker_of_buffer z r.buffer) s.from s.size r.from r.size (omega arith) f e)
sharing z w (Scratch r) (Structure s) e f =
    sym (turned (extent_of z (Scratch r)) (extent_of w (Structure s)) ∙ apart memories.Structures memories.Scratch (maker_of_structure w s) (maker_of_buffer z r.buffer) 0 1 r.from r.size (omega arith) (omega arith) e)
sharing z w (Scratch r) (Scratch s) e f =
    parts_meet memories.Scratch (maker_of_buffer z r.buffer) (maker_of_buffer w s.buffer) r.from r.size s.from s.size e f
