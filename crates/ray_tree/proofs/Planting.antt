-- One step of planting the nodes of a tree by halves.
use Rattle.std.proofs.Common.{◌≡◌, ◌∙◌, ◌+◌, ◌-◌, ◌*◌, ◌/◌, ◌^◌, ◌<◌, ◌≤◌, ◌++◌, ℕ, zero, suc, List, [], ◌∷◌, length, set, refl, sym, ap, ap₂, arith, append_assoc, length-append}
use Rattle.std.proofs.Math.Nat.{pow-suc, pow-zero}
use Rattle.ray_tree.specs.declared.node.Node.{Node}
use Rattle.ray_tree.specs.declared.node.Node.TheVariants.{Inner}
use Rattle.ray_tree.specs.Plans.{Plan, Few, Both, size, places_of, spell, halves}
use Rattle.ray_tree.proofs.Spelled.{length-spell}
use Rattle.ray_tree.proofs.Halved.{halved, halves_none, halves_few, halves_more}

pub few_halves : (h count : ℕ) → count ≤ 4 → halves h count ≡ Few count
few_halves zero count few = halves_none count
few_halves (suc h) count few = halves_few h count few

-- more than four places take a level more
pub record IsTall (h : ℕ) : Type 0 where
  pub some : 0 < h
  pub twice : 2 ^ h ≡ 2 * 2 ^ (h - 1)

pub tall : (h count : ℕ) → 4 < count → count ≤ 4 * 2 ^ h → IsTall h
tall zero count many le = absurd (omega (arith, pow-zero 2))
tall (suc h) count many le =
    let same : suc h - 1 ≡ h = omega arith in
    record { some = omega arith; twice = omega (arith, pow-suc 2 h, ap (λ k. 2 ^ k) same) }

set_middle : (before : List Node) (x y : Node) (after : List Node) → set (before ++ (x ∷ after)) (length before) y ≡ before ++ (y ∷ after)
set_middle [] x y after = refl
set_middle (b ∷ before) x y after = ap (λ l. b ∷ l) (set_middle before x y after)

regrouped : (n0 : List Node) (x : Node) (ls rs : List Node) → ((n0 ++ (x ∷ [])) ++ ls) ++ rs ≡ n0 ++ (x ∷ (ls ++ rs))
regrouped n0 x ls rs = simp append_assoc

pub planted_both : (n0 n1 n2 n3 : List Node) (x : Node) (first half : ℕ) (l r : Plan)
    → n1 ≡ n0 ++ (x ∷ []) → n2 ≡ n1 ++ spell (length n1) first l → n3 ≡ n2 ++ spell (length n2) (first + half) r → places_of l ≡ half
    → set n3 (length n0) (Inner (length n0 + 1) (length n2)) ≡ n0 ++ spell (length n0) first (Both l r)
planted_both n0 n1 n2 n3 x first half l r a b c full =
    let one : length n1 ≡ length n0 + 1 = ap length a ∙ length-append n0 (x ∷ []) in
    let two : length n2 ≡ (length n0 + 1) + size l = omega (arith, ap length b, length-append n1 (spell (length n1) first l), length-spell (length n1) first l, one) in
    let ls = spell (length n0 + 1) first l in
    let rs = spell ((length n0 + 1) + size l) (first + places_of l) r in
    let left : n2 ≡ (n0 ++ (x ∷ [])) ++ ls = b ∙ ap₂ (λ u v. u ++ v) a (ap (λ k. spell k first l) one) in
    let all : n3 ≡ n0 ++ (x ∷ (ls ++ rs)) =
    c ∙ ap₂ (λ u v. u ++ v) left (λ i. spell (two i) (first + sym full i) r) ∙ regrouped n0 x ls rs in
    (λ i. set (all i) (length n0) (Inner (length n0 + 1) (two i)))
    ∙ set_middle n0 x (Inner (length n0 + 1) ((length n0 + 1) + size l)) (ls ++ rs)

pub planted : (n0 n1 n2 n3 : List Node) (x : Node) (at right first count h : ℕ) → at ≡ length n0
    → n1 ≡ n0 ++ (x ∷ []) → n2 ≡ n1 ++ spell (length n1) first (halves (h - 1) ((count + 1) / 2)) → right ≡ length n2
    → n3 ≡ n2 ++ spell (length n2) (first + (count + 1) / 2) (halves (h - 1) (count - (count + 1) / 2))
    → 4 < count → count ≤ 4 * 2 ^ h
    → set n3 at (Inner (at + 1) right) ≡ n0 ++ spell (length n0) first (halves h count)
planted n0 n1 n2 n3 x at right first count zero e a b f c many low = absurd (omega (arith, pow-zero 2))
planted n0 n1 n2 n3 x at right first count (suc h) e a b f c many low =
    let same : suc h - 1 ≡ h = omega arith in
    let half = (count + 1) / 2 in
    let l = halves h half in
    let r = halves h (count - half) in
    let full = (halved h half (omega arith) (omega (arith, pow-suc 2 h))).full in
    (λ i. set n3 (e i) (Inner (e i + 1) (f i)))
    ∙ planted_both n0 n1 n2 n3 x first half l r a
    (b ∙ ap (λ k. n1 ++ spell (length n1) first (halves k half)) same)
    (c ∙ ap (λ k. n2 ++ spell (length n2) (first + half) (halves k (count - half))) same) full
    ∙ ap (λ p. n0 ++ spell (length n0) first p) (sym (halves_more h count many))
