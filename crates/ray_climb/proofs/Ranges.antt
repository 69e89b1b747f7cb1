-- Leaves one after the other: ranges of numbers, cut and put together.
use Rattle.std.proofs.Common.{◌≡◌, ◌∙◌, ℕ, zero, suc, ◌+◌, ◌-◌, ◌<◌, ◌≤◌, true, cond, eqb, List, [], ◌∷◌, ◌++◌, length, take, drop, refl, sym, ap, subst, arith, append_assoc}
use Rattle.std.proofs.lemmas.Bool.Decides.{nat_tests}
use Rattle.std.specs.List.{range_with_len}
use Rattle.std.proofs.lemmas.List.FromFn.{length-range_with_len}
use Rattle.ray_tree.specs.Trees.{TreeValue, leaves_of}
use Rattle.ray_climb.specs.Rule.{times}
use Rattle.ray_climb.specs.Steps.{without}
use Rattle.ray_climb.specs.Seats.{ClimbId, SeatView, seat_view, keeping, leaving, HasEachLeaf, HasTodo, HasDone}
use Rattle.ray_climb.specs.Refits.{RefitValue}
use Rattle.ray_climb.proofs.Sums.{alike}
use Rattle.ray_climb.proofs.Opening.{times_range}

-- one number more behind
range_more : (a n : ℕ) → range_with_len a (suc n) ≡ range_with_len a n ++ (a + n) ∷ []
range_more a zero = ap (λ k. k ∷ []) (omega arith)
range_more a (suc n) =
    ap (λ l. a ∷ l) (range_more (a + 1) n) ∙ ap (λ k. a ∷ (range_with_len (a + 1) n ++ k ∷ [])) (omega arith)

range_append : (a m n : ℕ) → range_with_len a m ++ range_with_len (a + m) n ≡ range_with_len a (m + n)
range_append a zero n = (λ i. range_with_len (same i) n) ∙ ap (range_with_len a) (omega arith)
  where
    same : a + 0 ≡ a
    same = omega arith
range_append a (suc m) n =
    ap (λ k. a ∷ (range_with_len (a + 1) m ++ range_with_len k n)) further ∙ ap (λ l. a ∷ l) (range_append (a + 1) m n) ∙ ap (range_with_len a) longer
  where
    further : a + suc m ≡ (a + 1) + m
    further = omega arith

    longer : suc (m + n) ≡ suc m + n
    longer = omega arith

range_take : (a k n : ℕ) → k ≤ n → take k (range_with_len a n) ≡ range_with_len a k
range_take a zero n le = refl
range_take a (suc k) zero le = absurd (omega arith)
range_take a (suc k) (suc n) le = ap (λ l. a ∷ l) (range_take (a + 1) k n (omega arith))

range_drop : (a k n : ℕ) → k ≤ n → drop k (range_with_len a n) ≡ range_with_len (a + k) (n - k)
range_drop a zero n le = λ i. range_with_len (same i) (none i)
  where
    same : a ≡ a + 0
    same = omega arith

    none : n ≡ n - 0
    none = omega arith
range_drop a (suc k) zero le = absurd (omega arith)
range_drop a (suc k) (suc n) le = range_drop (a + 1) k n (omega arith) ∙ (λ i. range_with_len (further i) (fewer i))
  where
    further : (a + 1) + k ≡ a + suc k
    further = omega arith

    fewer : n - k ≡ suc n - suc k
    fewer = omega arith

itself : (k : ℕ) → eqb k k ≡ true
itself k = grind (arith, nat_tests)

first_off : (k n : ℕ) → without k (range_with_len k (suc n)) ≡ range_with_len (k + 1) n
first_off k n = ap (λ b. cond b (range_with_len (k + 1) n) (k ∷ without k (range_with_len (k + 1) n))) (itself k)

-- the next leaf is there
pub next_there : (k n : ℕ) → 0 < n → 0 < times k (range_with_len k n)
next_there k zero h = absurd (omega arith)
next_there k (suc n) h = let one = alike k k refl in omega arith

-- and goes from what is to be done to what is
pub next_done : (id : ClimbId) (done : List ℕ) (from to leaf : ℕ) → from ≤ leaf → leaf < to
    → seat_view id (without leaf (range_with_len leaf (to - leaf))) ((done ++ range_with_len from (leaf - from)) ++ leaf ∷ [])
    ≡ seat_view id (range_with_len (leaf + 1) (to - (leaf + 1))) (done ++ range_with_len from (leaf + 1 - from))
next_done id done from to leaf le lt = λ i. seat_view id (todo i) (all i)
  where
    todo : without leaf (range_with_len leaf (to - leaf)) ≡ range_with_len (leaf + 1) (to - (leaf + 1))
    todo = ap (λ k. without leaf (range_with_len leaf k)) one_more ∙ first_off leaf (to - (leaf + 1))
      where
        one_more : to - leaf ≡ suc (to - (leaf + 1))
        one_more = omega arith

    last : range_with_len from (leaf - from) ++ leaf ∷ [] ≡ range_with_len from (leaf + 1 - from)
    last = ap (λ k. range_with_len from (leaf - from) ++ k ∷ []) there ∙ sym (range_more from (leaf - from)) ∙ ap (range_with_len from) longer
      where
        there : leaf ≡ from + (leaf - from)
        there = omega arith

        longer : suc (leaf - from) ≡ leaf + 1 - from
        longer = omega arith

    all : (done ++ range_with_len from (leaf - from)) ++ leaf ∷ [] ≡ done ++ range_with_len from (leaf + 1 - from)
    all = append_assoc done (range_with_len from (leaf - from)) (leaf ∷ []) ∙ ap (λ l. done ++ l) last

-- a seat that keeps the first of its leaves, and one that has the others
pub kept_range : (id : ClimbId) (from middle to : ℕ) → from ≤ middle → middle ≤ to
    → keeping (length (range_with_len from (to - from)) - (to - middle)) (seat_view id (range_with_len from (to - from)) []) ≡ seat_view id (range_with_len from (middle - from)) []
kept_range id from middle to le lt =
    ap (λ k. keeping (k - (to - middle)) (seat_view id (range_with_len from (to - from)) [])) (length-range_with_len from (to - from))
    ∙ ap (λ l. seat_view id l []) (range_take from ((to - from) - (to - middle)) (to - from) (omega arith) ∙ ap (range_with_len from) fewer)
  where
    fewer : (to - from) - (to - middle) ≡ middle - from
    fewer = omega arith

pub left_range : (id : ClimbId) (from middle to : ℕ) → from ≤ middle → middle ≤ to
    → leaving (length (range_with_len from (to - from)) - (to - middle)) (seat_view id (range_with_len from (to - from)) []) ≡ seat_view id (range_with_len middle (to - middle)) []
left_range id from middle to le lt =
    ap (λ k. leaving (k - (to - middle)) (seat_view id (range_with_len from (to - from)) [])) (length-range_with_len from (to - from))
    ∙ ap (λ l. seat_view id l []) (range_drop from ((to - from) - (to - middle)) (to - from) (omega arith) ∙ (λ i. range_with_len (same i) (others i)))
  where
    same : from + ((to - from) - (to - middle)) ≡ middle
    same = omega arith

    others : (to - from) - ((to - from) - (to - middle)) ≡ to - middle
    others = omega arith

-- leaves that are done one behind the other
pub done_range : (from middle to : ℕ) → from ≤ middle → middle ≤ to
    → range_with_len from (middle - from) ++ range_with_len middle (to - middle) ≡ range_with_len from (to - from)
done_range from middle to le lt =
    ap (λ k. range_with_len from (middle - from) ++ range_with_len k (to - middle)) there ∙ range_append from (middle - from) (to - middle) ∙ ap (range_with_len from) longer
  where
    there : middle ≡ from + (middle - from)
    there = omega arith

    longer : (middle - from) + (to - middle) ≡ to - from
    longer = omega arith

-- the leaves below their number are each leaf
pub each_in_range : (tree : TreeValue) (n : ℕ) → n ≡ length (leaves_of tree) → HasEachLeaf tree (range_with_len 0 n)
each_in_range tree n is = record { once = λ k lt. times_range k 0 n (omega arith) (omega arith) }

pub each_done : (r s : RefitValue) (n from : ℕ) (done : List ℕ) → r ≡ s → n ≡ length (leaves_of s.tree) → done ≡ range_with_len 0 (n - 0) → HasEachLeaf r.tree done
each_done r s n from done is n_is done_is =
    subst (λ x. HasEachLeaf x.tree done) (sym is)
    (subst (HasEachLeaf s.tree) (sym (done_is ∙ ap (range_with_len 0) none)) (each_in_range s.tree n n_is))
  where
    none : n - 0 ≡ n
    none = omega arith

pub todo_long : (id : ClimbId) (from to : ℕ) (s : SeatView) → HasTodo id from to s → length s.todo ≡ to - from
todo_long id from to s is = ap (λ x. length x.todo) is ∙ length-range_with_len from (to - from)

pub kept_todo : (id : ClimbId) (from middle to : ℕ) (old new : SeatView) → from ≤ middle → middle ≤ to → HasTodo id from to old
    → new ≡ keeping (length old.todo - (to - middle)) old → HasTodo id from middle new
kept_todo id from middle to old new le lt is cut =
    cut ∙ ap (λ s. keeping (length s.todo - (to - middle)) s) is ∙ kept_range id from middle to le lt

pub left_todo : (id : ClimbId) (from middle to : ℕ) (old new : SeatView) → from ≤ middle → middle ≤ to → HasTodo id from to old
    → new ≡ leaving (length old.todo - (to - middle)) old → HasTodo id middle to new
left_todo id from middle to old new le lt is cut =
    cut ∙ ap (λ s. leaving (length s.todo - (to - middle)) s) is ∙ left_range id from middle to le lt

pub joined_done : (id : ClimbId) (from middle to : ℕ) (a b new : SeatView) → from ≤ middle → middle ≤ to → HasDone id from middle a → HasDone id middle to b
    → new ≡ seat_view a.id (a.todo ++ b.todo) (a.done ++ b.done) → HasDone id from to new
joined_done id from middle to a b new le lt p q is =
    is ∙ (λ i. seat_view (p i).id ((p i).todo ++ (q i).todo) ((p i).done ++ (q i).done)) ∙ ap (λ l. seat_view id [] l) (done_range from middle to le lt)
