-- Each kind of step keeps the claim rule.
use Rattle.std.proofs.Common.{◌≡◌, ℕ, ◌+◌, ◌%◌, ◌^◌, ◌<◌, ◌≤◌, Bool, true, false, cond, min, ◌||◌, List, [], ◌∷◌, ◌++◌, length, get_or, set, sym, refl, ap, ◌∙◌, subst, arith, length-set, length-append, get_or-set_same, ⊎_elim, ◌⊎◌, inl, inr, true≢false}
use Rattle.std.proofs.Math.Nat.{min-eq_right, min-le_right}
use mathlib.Core.Option.{none, some, some-injective, some-ne-none}
use mathlib.Core.Logic.{dite}
use native.Mathlib.Decide.{dec_le}
use lib.ListN.{get_elem?}
use Rattle.atomic_table.specs.Table.{State, Me, step, keeps, stepped, Allows, Splits, Joins, Final, Seen}
use Rattle.atomic_table.proofs.Lists.{at_set, at_snoc}
use Rattle.ray_claim.specs.declared.rule.View.{View}
use Rattle.ray_claim.specs.Rule.{times, once_below, mark, IsClaimed, HasClaims}
use Rattle.ray_claim.specs.Steps.{knows, cut, fresh, both, spent, Draws}
use Rattle.ray_claim.specs.Seats.{SeatView, seat_view, view_of}
use Rattle.ray_claim.specs.Draws.{IsCounted}
use Rattle.atomic_table.specs.Seated.{TableId}
use Rattle.ray_claim.proofs.Sums.{total_set, total_snoc, part_le, marks_le, times_append, once_more, once_full, once_none, short, short_of_min}

-- a fact about each view after a change of one
each_set : (F : View → Type 0) (views : List View) (id : ℕ) (w : View) → F w → ((j : ℕ) (v : View) → get_elem? views j ≡ some v → F v)
    → (j : ℕ) (v : View) → get_elem? (set views id w) j ≡ some v → F v
each_set F views id w mine all j v at = ⊎_elim (λ t. subst F t.1 mine) (λ t. all j v t.1) (at_set views id j w v at)

-- a fact about each view after one is added
each_snoc : (F : View → Type 0) (views : List View) (w : View) → F w → ((j : ℕ) (v : View) → get_elem? views j ≡ some v → F v)
    → (j : ℕ) (v : View) → get_elem? (views ++ w ∷ []) j ≡ some v → F v
each_snoc F views w mine all j v at = ⊎_elim (λ t. all j v t) (λ e. subst F e mine) (at_snoc views w v j at)

-- the mark of a view by its two parts
abbrev marked : Bool → Bool → ℕ
marked ended spent = cond (ended || spent) 1 0

-- the word doesn't wrap
no_wrap : (n c : ℕ) (views : List View) → n < 2 ^ 32 → IsClaimed n c views → (c + 1) % 2 ^ 64 ≡ c + 1
no_wrap n c views small r = let most = r.at_most in let seats = r.seats in let marks = marks_le views in omega arith

-- the rule of the table, where the word becomes k and one view becomes w
placed : (n : ℕ) (s : State (Unit {0}) View) (k id : ℕ) (held : List (ℕ × Unit {0})) (w : View) → length s.words ≡ 1
    → IsClaimed n k (set s.views id w) → HasClaims n (stepped s 0 k id held w keeps)
placed n s k id held w one r =
    (length-set s.words 0 k ∙ one, subst (λ m. IsClaimed n m (set s.views id w)) (sym (get_or-set_same s.words 0 k 0 (omega arith))) r)

module _ (n c : ℕ) (views : List View) (id : ℕ) (v : View) (r : IsClaimed n c views) (at : get_elem? views id ≡ some v) (going : v.ended ≡ false) (unspent : v.spent ≡ false) where
  unmarked : mark v ≡ 0
  unmarked = ap (λ (m : Bool × Bool). marked m.0 m.1) (λ i. (going i, unspent i))

  -- a draw that finds a number
  drawn_one : c < n → IsClaimed n (c + 1) (set views id (knows (v.drawn ++ c ∷ []) v.ended v.spent v.splits (v.steps + 1)))
  drawn_one less = let w : View = knows (v.drawn ++ c ∷ []) v.ended v.spent v.splits (v.steps + 1) in record {
    each_once = λ x.
        let t = total_set (λ u. times x u.drawn) views id v w at in
        let longer = times_append x v.drawn (c ∷ []) in
        let more = once_more x c n less in
        let old = r.each_once x in
        omega arith;
    ended = each_set (λ u. u.ended ≡ true → n ≤ c + 1) views id w (λ e. absurd (true≢false (sym e ∙ going))) (λ j u there e. let le = r.ended j u there e in omega arith);
    at_most = omega arith;
    steps = let t = total_set (λ u. u.steps) views id v w at in let old = r.steps in omega arith;
    seats = let t = total_set (λ u. u.splits) views id v w at in let l = length-set views id w in let old = r.seats in omega arith;
    spent = each_set (λ u. u.spent ≡ true → (u.drawn ≡ []) × (u.splits ≡ 0)) views id w (λ e. absurd (true≢false (sym e ∙ unspent))) r.spent;
  }

  -- a draw that finds none
  drawn_none : n ≤ c → IsClaimed n (c + 1) (set views id (knows v.drawn true v.spent v.splits (v.steps + 1)))
  drawn_none full = let w : View = knows v.drawn true v.spent v.splits (v.steps + 1) in record {
    each_once = λ x.
        let t = total_set (λ u. times x u.drawn) views id v w at in
        let same = once_full x c n full in
        let old = r.each_once x in
        omega arith;
    ended = each_set (λ u. u.ended ≡ true → n ≤ c + 1) views id w (λ _. omega arith) (λ j u there e. let le = r.ended j u there e in omega arith);
    at_most =
        let t = total_set mark views id v w at in
        let was = unmarked in
        let now : mark w ≡ 1 = refl in
        let old = r.at_most in
        omega arith;
    steps = let t = total_set (λ u. u.steps) views id v w at in let old = r.steps in omega arith;
    seats = let t = total_set (λ u. u.splits) views id v w at in let l = length-set views id w in let old = r.seats in omega arith;
    spent = each_set (λ u. u.spent ≡ true → (u.drawn ≡ []) × (u.splits ≡ 0)) views id w (λ e. absurd (true≢false (sym e ∙ unspent))) r.spent;
  }

-- what a seat has drawn stands there once, below the lesser of c and n
drawn_once : (n c : ℕ) (views : List View) (id : ℕ) (v : View) → IsClaimed n c views → get_elem? views id ≡ some v
    → (x : ℕ) → times x v.drawn ≤ once_below x (min c n)
drawn_once n c views id v r at x = let old = r.each_once x in let part = part_le (λ u. times x u.drawn) views id v at in omega arith

-- no seat has drawn the number of the word that is found
unseen : (n c : ℕ) (views : List View) → IsClaimed n c views → (id : ℕ) (v : View) → get_elem? views id ≡ some v → times c v.drawn ≡ 0
unseen n c views r id v at = let old = r.each_once c in let here = once_none c n in let part = part_le (λ u. times c u.drawn) views id v at in omega arith

-- a draw keeps the rule, and tells what it tells
pub draws : (n slots id : ℕ) (me : Me (Unit {0}) View) → n < 2 ^ 32 → me.0.ended ≡ false → me.0.spent ≡ false
    → Allows (HasClaims n) slots id me 0 (λ x. (x + 1) % 2 ^ 64) (Draws n (step slots 0 1 0 none) me)
draws n slots id me small going unspent s r _ at _ =
    let c : ℕ = get_or s.words 0 0 in
    let v : View = me.0 in
    let fit = no_wrap n c s.views small r.1 in
    dite (dec_le n c)
    (λ full. let w : View = knows v.drawn true v.spent v.splits (v.steps + 1) in
    let new = drawn_none n c s.views id v r.1 at going unspent full in (
      w,
      keeps,
      tt,
      rw fit (placed n s (c + 1) id me.1 w r.0 new),
      (
        refl,
        refl,
        refl,
        record {
          views = s.views;
          seat = id;
          known = at;
          was = r.1;
          is = new;
          counted = refl;
          alone = unseen n c s.views r.1;
          grows = λ less. absurd (omega arith);
          ends = λ _. (refl, refl);
        },
      ),
    ))
    (λ more. let w : View = knows (v.drawn ++ c ∷ []) v.ended v.spent v.splits (v.steps + 1) in
    let new = drawn_one n c s.views id v r.1 at going unspent (omega arith) in (
      w,
      keeps,
      tt,
      rw fit (placed n s (c + 1) id me.1 w r.0 new),
      (
        refl,
        refl,
        refl,
        record {
          views = s.views;
          seat = id;
          known = at;
          was = r.1;
          is = new;
          counted = refl;
          alone = unseen n c s.views r.1;
          grows = λ _. (refl, refl, grown n c s.views id v w at new);
          ends = λ full. absurd (more full);
        },
      ),
    ))
  where
    grown : (n c : ℕ) (views : List View) (id : ℕ) (v w : View) → get_elem? views id ≡ some v → IsClaimed n (c + 1) (set views id w) → length w.drawn ≤ n
    grown n c views id v w at new = short_of_min (c + 1) n w.drawn (λ x.
        let old = new.each_once x in
        let t = total_set (λ u. times x u.drawn) views id v w at in
        let part = part_le (λ u. times x u.drawn) views id v at in
        omega arith)

-- the same, where the play is told n by another name
pub draws_at : (n m slots id : ℕ) (me : Me (Unit {0}) View) → m ≡ n → n < 2 ^ 32 → me.0.ended ≡ false → me.0.spent ≡ false
    → Allows (HasClaims n) slots id me 0 (λ x. (x + 1) % 2 ^ 64) (Draws m (step slots 0 1 0 none) me)
draws_at n m slots id me same small going unspent =
    subst (λ k. Allows (HasClaims n) slots id me 0 (λ x. (x + 1) % 2 ^ 64) (Draws k (step slots 0 1 0 none) me)) (sym same) (draws n slots id me small going unspent)

pub splits : (n id : ℕ) (v : View) → v.spent ≡ false → 0 < v.splits → Splits (HasClaims n) id v (cut v) (fresh v)
splits n id v unspent left s r at = (
  r.0,
  record {
    each_once = λ x.
        let t = total_set (λ u. times x u.drawn) s.views id v (cut v) at in
        let a = total_snoc (λ u. times x u.drawn) (set s.views id (cut v)) (fresh v) in
        let old = r.1.each_once x in
        omega arith;
    ended = each_snoc (λ u. u.ended ≡ true → n ≤ get_or s.words 0 0) (set s.views id (cut v)) (fresh v) (r.1.ended id v at)
        (each_set (λ u. u.ended ≡ true → n ≤ get_or s.words 0 0) s.views id (cut v) (r.1.ended id v at) r.1.ended);
    at_most =
        let t = total_set mark s.views id v (cut v) at in
        let a = total_snoc mark (set s.views id (cut v)) (fresh v) in
        let old = r.1.at_most in
        omega arith;
    steps =
        let t = total_set (λ u. u.steps) s.views id v (cut v) at in
        let a = total_snoc (λ u. u.steps) (set s.views id (cut v)) (fresh v) in
        let old = r.1.steps in
        omega arith;
    seats =
        let t = total_set (λ u. u.splits) s.views id v (cut v) at in
        let a = total_snoc (λ u. u.splits) (set s.views id (cut v)) (fresh v) in
        let l = length-set s.views id (cut v) in
        let m = length-append (set s.views id (cut v)) (fresh v ∷ []) in
        let old = r.1.seats in
        omega arith;
    spent = each_snoc (λ u. u.spent ≡ true → (u.drawn ≡ []) × (u.splits ≡ 0)) (set s.views id (cut v)) (fresh v) (λ e. absurd (true≢false (sym e)))
        (each_set (λ u. u.spent ≡ true → (u.drawn ≡ []) × (u.splits ≡ 0)) s.views id (cut v) (λ e. absurd (true≢false (sym e ∙ unspent))) r.1.spent);
  },
)

or_true : (a b : Bool) → (a || b) ≡ true → (a ≡ true) ⊎ (b ≡ true)
or_true true b e = inl refl
or_true false b e = inr e

-- a join has as many marks as before, at least
more_marks : (a b p q : Bool) → p ≡ false → q ≡ false → marked a p + marked b q ≤ marked (a || b) p + 1
more_marks true true p q e f = omega arith
more_marks true false p q e f = subst (λ z. marked true p + marked false z ≤ marked true p + 1) (sym f) (omega arith)
more_marks false true p q e f = subst (λ z. marked false z + marked true q ≤ marked true z + 1) (sym e) (omega arith)
more_marks false false p q e f = subst (λ z. marked false p + marked false z ≤ marked false p + 1) (sym f) (omega arith)

pub joins : (n id other : ℕ) (v w : View) → v.spent ≡ false → w.spent ≡ false → Joins (HasClaims n) id v other w (both v w) spent
joins n id other v w unspent_v unspent_w s r at apart there =
    let b : View = both v w in
    let was : get_elem? s.views other ≡ some w = ⊎_elim (λ t. absurd (apart t.0)) (λ t. t.1) (at_set s.views id other b w there) in
    let ws : List View = set s.views id b in (
      r.0,
      record {
        each_once = λ x.
            let t = total_set (λ u. times x u.drawn) s.views id v b at in
            let a = total_set (λ u. times x u.drawn) ws other w spent there in
            let longer = times_append x v.drawn w.drawn in
            let old = r.1.each_once x in
            omega arith;
        ended = each_set (λ u. u.ended ≡ true → n ≤ get_or s.words 0 0) ws other spent (λ e. absurd (true≢false (sym e)))
            (each_set (λ u. u.ended ≡ true → n ≤ get_or s.words 0 0) s.views id b
            (λ e. ⊎_elim (r.1.ended id v at) (r.1.ended other w was) (or_true v.ended w.ended e)) r.1.ended);
        at_most =
            let t = total_set mark s.views id v b at in
            let a = total_set mark ws other w spent there in
            let m = more_marks v.ended w.ended v.spent w.spent unspent_v unspent_w in
            let old = r.1.at_most in
            omega arith;
        steps =
            let t = total_set (λ u. u.steps) s.views id v b at in
            let a = total_set (λ u. u.steps) ws other w spent there in
            let old = r.1.steps in
            omega arith;
        seats =
            let t = total_set (λ u. u.splits) s.views id v b at in
            let a = total_set (λ u. u.splits) ws other w spent there in
            let l = length-set s.views id b in
            let m = length-set ws other spent in
            let old = r.1.seats in
            omega arith;
        spent = each_set (λ u. u.spent ≡ true → (u.drawn ≡ []) × (u.splits ≡ 0)) ws other spent (λ _. (refl, refl))
            (each_set (λ u. u.spent ≡ true → (u.drawn ≡ []) × (u.splits ≡ 0)) s.views id b (λ e. absurd (true≢false (sym e ∙ unspent_v))) r.1.spent);
      },
    )

-- what a seat knows when the table is closed
pub record IsClosed (n : ℕ) (drawn : List ℕ) (answer : ℕ) : Type 0 where
  pub once : (x : ℕ) → times x drawn ≤ once_below x answer
  pub counted : length drawn ≤ answer
  pub limited : answer ≤ n

first_word : (ws : List ℕ) (c : ℕ) → get_elem? ws 0 ≡ some c → get_or ws 0 0 ≡ c
first_word [] c at = absurd (some-ne-none c (sym at))
first_word (x ∷ xs) c at = some-injective x c at

-- the view that the table has of a seat is the seat's
seen_as : (v : View) (table : TableId) (seat : SeatView) → seat_view table v.drawn v.ended v.splits v.steps ≡ seat
    → v.spent ≡ false → v ≡ view_of seat
seen_as v table seat is unspent = (λ i. knows v.drawn v.ended (unspent i) v.splits v.steps) ∙ ap view_of is

-- the table's last state tells how many numbers were drawn
pub counted_at : (n m id : ℕ) (v : View) (table : TableId) (seat : SeatView) (ws : List ℕ) (xs : List (Unit {0})) (c answer : ℕ)
    → Final (Seen (HasClaims m) id v) ws xs → get_elem? ws 0 ≡ some c → m ≡ n
    → seat_view table v.drawn v.ended v.splits v.steps ≡ seat → v.spent ≡ false → answer ≡ min c n → IsCounted n seat answer
counted_at n m id v table seat ws xs c answer final word same is unspent least =
    let s : State (Unit {0}) View = final.0 in
    let first : get_or s.words 0 0 ≡ c = ap (λ (l : List ℕ). get_or l 0 0) final.2 ∙ first_word ws c word in
    let ruled : IsClaimed m c s.views = subst (λ k. IsClaimed m k s.views) first final.1.0.1 in
    record {
      word = c;
      views = s.views;
      id = id;
      known = final.1.1 ∙ ap some (seen_as v table seat is unspent);
      ruled = subst (λ k. IsClaimed k c s.views) same ruled;
      answered = least;
    }

pub closed_at : (n : ℕ) (seat : SeatView) (answer : ℕ) → IsCounted n seat answer → IsClosed n seat.drawn answer
closed_at n seat answer told =
    let once : (x : ℕ) → times x seat.drawn ≤ once_below x answer =
    subst (λ a. (x : ℕ) → times x seat.drawn ≤ once_below x a) (sym told.answered)
    (drawn_once n told.word told.views told.id (view_of seat) told.ruled told.known) in
    record {
      once = once;
      counted = short answer seat.drawn once;
      limited = subst (λ a. a ≤ n) (sym told.answered) (min-le_right told.word n);
    }

pub all_at : (n : ℕ) (seat : SeatView) (answer : ℕ) → IsCounted n seat answer → seat.ended ≡ true → answer ≡ n
all_at n seat answer told ended = told.answered ∙ min-eq_right (told.ruled.ended told.id (view_of seat) told.known ended)
