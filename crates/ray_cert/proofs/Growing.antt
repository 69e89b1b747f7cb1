-- Trees grow, one structure after the other, until the stated tree of each instance's structure stands there.
use Rattle.std.proofs.Common.{◌≡◌, ◌∙◌, ◌+◌, ◌<◌, ◌≤◌, refl, sym, ap, subst, ℕ, suc, zero, List, [], ◌∷◌, Option, Some, None, option_map, option_and_then, length, get_or, slice_get, inl, inr, arith}
use Rattle.std.specs.Prelude.{IfSome, ◌==◌}
use Rattle.std.proofs.lemmas.Bool.{cases_eq, cond-false, cond-true, eq-eqb, ne_eqb}
use Rattle.ray_tree.specs.Trees.{TreeValue}
use Rattle.ray_bottom.specs.Slots.{Slots, structure_at}
use Rattle.ray_bottom.specs.Trees.{BottomWithTree}
use Rattle.ray_top.specs.Instances.{InstanceValue}
use Rattle.ray_top.specs.Contents.{ContentsValue as TopContents}
use Rattle.ray_candidates.specs.Candidates.{active_instance}
use Rattle.ray_cert.specs.Parts.{AreRight, AreStatedFor, GrowsFor, IsStatedFor, PutsTree, Trees, tree_at, tree_of}

pub right-none : (bottoms : Slots) (trees : Trees) → trees ≡ [] → AreRight bottoms trees
right-none bottoms trees none = record { each = λ id tree at. absurd (never (sym at ∙ ap (tree_at id) none)) }
  where
    never : {t : TreeValue} → Some t ≡ None → ⊥
    never p = absurd (cc)

module _ (bottoms : Slots) (before : Trees) (right : AreRight bottoms before) where
  -- nothing is put
  pub grows-none : GrowsFor bottoms None before before
  grows-none = record { right = right; kept = λ i is. is; there = tt }

  pub grows-there : (i : InstanceValue) (tree : TreeValue) → tree_at i.id before ≡ Some tree → GrowsFor bottoms (Some i) before before
  grows-there i tree at = record { right = right; kept = λ j is. is; there = record { tree = at ∙ right.each i.id tree at } }

  pub grows-nothing : (i : InstanceValue) → tree_at i.id before ≡ None → structure_at i.id bottoms ≡ None → GrowsFor bottoms (Some i) before before
  grows-nothing i none empty = record {
    right = right;
    kept = λ j is. is;
    there = record { tree = none ∙ ap (option_map tree_of) (sym empty) };
  }

  -- one is put
  module _ (id : ℕ) (b : BottomWithTree) (after : Trees) (stands : structure_at id bottoms ≡ Some b) (put : PutsTree id (tree_of b) before after) where
    at-put : (q : ℕ) → q ≡ id → tree_at q after ≡ option_map tree_of (structure_at q bottoms)
    at-put q same =
        put.each q
        ∙ (cond-true (q == id) (Some (tree_of b)) (tree_at q before) (eq-eqb q id same)
        ∙ ap (option_map tree_of) (sym (ap (λ k. structure_at k bottoms) same ∙ stands)))

    at-other : (q : ℕ) → (q ≡ id → ⊥) → tree_at q after ≡ tree_at q before
    at-other q differs = put.each q ∙ cond-false (q == id) (Some (tree_of b)) (tree_at q before) (ne_eqb q id differs)

    pub grows-put : (i : InstanceValue) → i.id ≡ id → GrowsFor bottoms (Some i) before after
    grows-put i is = record {
      right = record {
        each = λ q tree at. elim (cases_eq q id) [
          | inl same ↦ sym at ∙ at-put q same
          | inr differs ↦ right.each q tree (sym (at-other q differs) ∙ at)
        ];
      };
      kept = λ j stated. elim (cases_eq j.id id) [
        | inl same ↦ record { tree = at-put j.id same }
        | inr differs ↦ record { tree = at-other j.id differs ∙ stated.tree }
      ];
      there = record { tree = at-put i.id is };
    }

-- ---- all instances

-- the instances of numbers below one
pub record AreStatedBelow (top : TopContents) (bottoms : Slots) (trees : Trees) (n : ℕ) : Type 0 where
  pub right : AreRight bottoms trees
  pub each : (k : ℕ) → k < n → IfSome (active_instance top k) (IsStatedFor bottoms trees)

pub none-below : (top : TopContents) (bottoms : Slots) (trees : Trees) → trees ≡ [] → AreStatedBelow top bottoms trees 0
none-below top bottoms trees none = record { right = right-none bottoms trees none; each = λ k below. absurd (omega (arith, below)) }

still : (bottoms : Slots) (before after : Trees) (o : Option InstanceValue) → ((i : InstanceValue) → IsStatedFor bottoms before i → IsStatedFor bottoms after i)
    → IfSome o (IsStatedFor bottoms before) → IfSome o (IsStatedFor bottoms after)
still bottoms before after None kept is = tt
still bottoms before after (Some i) kept is = kept i is

pub one-more : (top : TopContents) (bottoms : Slots) (before after : Trees) (n : ℕ) (o : Option InstanceValue) → AreStatedBelow top bottoms before n
    → o ≡ active_instance top n → GrowsFor bottoms o before after → AreStatedBelow top bottoms after (n + 1)
one-more top bottoms before after n o so_far is grows = record {
  right = grows.right;
  each = λ k below. elim (cases_eq k n) [
    | inl same ↦ subst (λ m. IfSome (active_instance top m) (IsStatedFor bottoms after)) (sym same)
        (subst (λ q. IfSome q (IsStatedFor bottoms after)) is grows.there)
    | inr differs ↦ still bottoms before after (active_instance top k) grows.kept (so_far.each k (omega (arith, below, differs)))
  ];
}

at-get : {X : Type 0} (xs : List X) (k : ℕ) (d : X) → k < length xs → slice_get xs k ≡ Some (get_or xs k d)
at-get [] k d below = absurd (omega (arith, below))
at-get (x ∷ xs) zero d below = refl
at-get (x ∷ xs) (suc k) d below = at-get xs k d (omega (arith, below))

pub all-stated : (top : TopContents) (bottoms : Slots) (trees : Trees) (n : ℕ) → length top.instances ≤ n → AreStatedBelow top bottoms trees n
    → AreStatedFor top bottoms trees
all-stated top bottoms trees n all so_far = record {
  each = λ k d below.
      subst (λ o. IfSome o (IsStatedFor bottoms trees)) (ap (option_and_then (λ j. j)) (at-get top.instances k d below))
      (so_far.each k (omega (arith, all, below)));
}
