-- The numbers at which touches begin.
use Rattle.std.proofs.Common.{◌≡◌, ◌<◌, ◌≤◌, ◌+◌, ◌||◌, ◌==◌, ℕ, zero, suc, Bool, true, false, List, [], ◌∷◌, All, map, get_or, take, length, refl, sym, ◌∙◌, ap, subst, inl, inr, arith, nat_lt}
use Rattle.std.specs.List.{list_any}
use Rattle.std.specs.BTreeSet.{insert_key}
use Rattle.std.specs.Ordering.{nat_cmp, MatchOrdering, match_ordering}
use Rattle.std.specs.declared.cmp.Ordering.{Ordering}
use Rattle.std.specs.declared.cmp.Ordering.TheVariants.{Less, Equal, Greater}
use Rattle.std.proofs.lemmas.Bool.{cases_Bool, ltb-true}
use Rattle.std.proofs.lemmas.Bool.Decides.{nat_tests}
use Rattle.std.proofs.lemmas.Cmp.{ranked}
use Rattle.std.proofs.lemmas.List.{take_more}
use Rattle.std.proofs.Math.Seq.{take-length}
use Rattle.std.proofs.lemmas.List.Elements.{All-append, All-cons}
use Rattle.ray_access.specs.declared.touched.Touched.{Touched}
use Rattle.ray_access.specs.Axis.{touched}
use Rattle.ray_access.specs.Lists.{AreTouched}
use Rattle.ray_cmd.specs.declared.command.Command.{Command}
use Rattle.ray_rules.specs.declared.touch.Touch.{Touch}
use Rattle.std.specs.Prelude.{slice_get, Some}
use Rattle.ray_rules.specs.Hazards.{accesses_at, after_if, status_at}
use Rattle.ray_rules.specs.Status.{Status, after}
use Rattle.ray_hazards.specs.Cells.{is_start}
use Rattle.ray_hazards.specs.Checks.{AreStarted, HasAll, HasStarts, IsPlacedAt}
use Rattle.ray_hazards.specs.Lasts.{ArePlaced, HaveStarts, host_reads_at}

twice : (a b : Bool) → (a || b) ≡ (a || (a || b))
twice true b = refl
twice false b = refl

turned : (a b c : Bool) → (a || (b || c)) ≡ (b || (a || c))
turned true true c = refl
turned true false c = refl
turned false b c = refl

-- one more number in a set, by how it stands to the first
any_by :
    (test : ℕ → Bool) (order : Ordering) (x k : ℕ) (xs : List ℕ) → MatchOrdering order (k < x) (k ≡ x) (x < k)
    → list_any test (insert_key nat_cmp xs k) ≡ (test k || list_any test xs)
    → list_any test (match_ordering order (k ∷ x ∷ xs) (x ∷ xs) (x ∷ insert_key nat_cmp xs k))
    ≡ (test k || (test x || list_any test xs))
any_by test Less x k xs l next = refl
any_by test Equal x k xs same next = twice (test x) (list_any test xs) ∙ ap (λ y. test y || (test x || list_any test xs)) (sym same)
any_by test Greater x k xs g next = ap (λ b. test x || b) next ∙ turned (test x) (test k) (list_any test xs)

pub any-insert : (test : ℕ → Bool) (xs : List ℕ) (k : ℕ) → list_any test (insert_key nat_cmp xs k) ≡ (test k || list_any test xs)
any-insert test [] k = refl
any-insert test (x ∷ xs) k = any_by test (nat_cmp k x) x k xs (ranked k x (nat_cmp k x) refl) (any-insert test xs k)

-- what is there with one more
or-right : (a b : Bool) → b ≡ true → (a || b) ≡ true
or-right true b e = refl
or-right false b e = e

or-left : (a b : Bool) → a ≡ true → (a || b) ≡ true
or-left true b e = refl
or-left false b e = absurd cc

-- a set of no touches
pub starts-none : (keys : List ℕ) → HasStarts [] keys keys
starts-none keys = record { kept = λ p e. e; added = λ k d below. absurd (omega (arith, below)) }

-- of one touch more
pub starts-more :
    (touches : List Touched) (k : ℕ) (d : Touched) (old mid new : List ℕ) → k < length touches
    → ((test : ℕ → Bool) → list_any test new ≡ (test (get_or touches k d).range.from || list_any test mid))
    → HasStarts (take k touches) old mid → HasStarts (take (k + 1) touches) old new
starts-more touches k d old mid new below more has =
    let x = get_or touches k d in
    let further : (p : ℕ) → is_start mid p ≡ true → is_start new p ≡ true =
    λ p e. more (λ s. s == p) ∙ or-right (x.range.from == p) (is_start mid p) e
    in
    record {
      kept = λ p e. further p (has.kept p e);
      added =
          subst (AreStarted new) (sym (take_more touches k d below))
          (All-append (λ (t : Touched). is_start new t.range.from ≡ true) (take k touches) (x ∷ [])
          (λ j e l. further (get_or (take k touches) j e).range.from (has.added j e l))
          (All-cons (λ (t : Touched). is_start new t.range.from ≡ true) x [] (more (λ s. s == x.range.from)
          ∙ or-left (x.range.from == x.range.from) (is_start mid x.range.from) (grind (arith, nat_tests)))
          (λ j e l. absurd (omega (arith, l)))));
    }

-- of all touches
pub starts-all :
    (touches : List Touched) (k : ℕ) (old new : List ℕ) → k ≡ length touches → HasStarts (take k touches) old new
    → HasStarts touches old new
starts-all touches k old new e has =
    subst (λ ts. HasStarts ts old new) (subst (λ j. take j touches ≡ touches) (sym e) (take-length touches)) has

-- what holds of each image holds of each item
all-back :
    {X Y : Type 0} (f : X → Y) (P : Y → Type 0) (xs : List X) → All P (map f xs) → (k : ℕ) (d : X) → k < length xs
    → P (f (get_or xs k d))
all-back f P [] all k d below = absurd (omega (arith, below))
all-back f P (x ∷ xs) all zero d below = all 0 (f d) (omega arith)
all-back f P (x ∷ xs) all (suc k) d below =
    all-back f P xs (λ j e l. all (suc j) e (omega (arith, l))) k d (omega (arith, below))

-- touches that are placed stay so in a greater set
wider :
    (rec : List Command) (old new : List ℕ) (i : ℕ) (ts : List Touch)
    → ((p : ℕ) → is_start old p ≡ true → is_start new p ≡ true) → ArePlaced rec old i ts → ArePlaced rec new i ts
wider rec old new i ts kept are = record {
  fit = are.fit;
  start = λ k d below. kept _ (are.start k d below);
}

-- those of the command are
pub placed-now :
    (rec : List Command) (keys : List ℕ) (n : ℕ) (ts : List Touch) (list : List Touched)
    → AreTouched (status_at rec n) ts list → AreStarted keys list → ArePlaced rec keys n ts
placed-now rec keys n ts list are started = record {
  fit = are.fit;
  start =
      all-back (touched (status_at rec n)) (λ (t : Touched). is_start keys t.range.from ≡ true) ts
      (subst (AreStarted keys) are.are started);
}

-- those of a list stay started in a greater set
pub further-started :
    (old new : List ℕ) (list : List Touched) → ((p : ℕ) → is_start old p ≡ true → is_start new p ≡ true)
    → AreStarted old list → AreStarted new list
further-started old new list kept started = λ k d below. kept _ (started k d below)

-- a command more
pub starts-next :
    (rec : List Command) (n : ℕ) (old new : List ℕ) → HasAll old new → IsPlacedAt rec new n → HaveStarts rec old n
    → HaveStarts rec new (suc n)
starts-next rec n old new all placed have = record {
  reads = λ i l.
      next (λ j. ArePlaced rec new j (accesses_at rec j).reads) i l (λ m. wider rec old new i _ all (have.reads i m)) placed.reads;
  writes = λ i l.
      next (λ j. ArePlaced rec new j (accesses_at rec j).writes) i l (λ m. wider rec old new i _ all (have.writes i m)) placed.writes;
  host_reads = λ i l.
      next (λ j. ArePlaced rec new j (host_reads_at rec j)) i l (λ m. wider rec old new i _ all (have.host_reads i m)) placed.host_reads;
}
  where
    next : (P : ℕ → Type 0) (i : ℕ) → i < suc n → (i < n → P i) → P n → P i
    next P i l before at =
        elim (cases_Bool (nat_lt i n)) [
          | inl t ↦ before (ltb-true i n t)
          | inr f ↦ let same : n ≡ i = grind (arith, nat_tests) in subst P same at
        ]

-- the status of the next command
pub status-next :
    (rec : List Command) (n : ℕ) (c : Command) (z new : Status) → slice_get rec n ≡ Some c → z ≡ status_at rec n
    → new ≡ after n c z → new ≡ status_at rec (suc n)
status-next rec n c z new there at e =
    e ∙ (ap (after n c) at ∙ ap (λ o. after_if n o (status_at rec n)) (sym there))

-- of fewer commands, and in a set that has as much
pub starts-fewer : (rec : List Command) (keys : List ℕ) (n : ℕ) → HaveStarts rec keys (suc n) → HaveStarts rec keys n
starts-fewer rec keys n have = record {
  reads = λ i l. have.reads i (omega arith);
  writes = λ i l. have.writes i (omega arith);
  host_reads = λ i l. have.host_reads i (omega arith);
}

pub starts-like :
    (rec : List Command) (old new : List ℕ) (n : ℕ) → ((p : ℕ) → is_start new p ≡ is_start old p)
    → HaveStarts rec old n → HaveStarts rec new n
starts-like rec old new n same have =
    let kept : (p : ℕ) → is_start old p ≡ true → is_start new p ≡ true = λ p e. same p ∙ e in
    record {
      reads = λ i l. wider rec old new i _ kept (have.reads i l);
      writes = λ i l. wider rec old new i _ kept (have.writes i l);
      host_reads = λ i l. wider rec old new i _ kept (have.host_reads i l);
    }

pub starts-some :
    (rec : List Command) (keys : List ℕ) (n k : ℕ) → k ≤ n → HaveStarts rec keys n → HaveStarts rec keys k
starts-some rec keys n k e have = record {
  reads = λ i l. have.reads i (omega arith);
  writes = λ i l. have.writes i (omega arith);
  host_reads = λ i l. have.host_reads i (omega arith);
}
