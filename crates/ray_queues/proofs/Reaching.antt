-- Which mark of a semaphore is found, and what one more signal changes of what is found.
use Rattle.std.proofs.Common.{◌≡◌, ◌<◌, ◌≤◌, ◌∙◌, ◌+◌, ◌-◌, ℕ, zero, suc, Bool, true, false, ◌&&◌, List, [], ◌∷◌, ◌++◌, Option, Some, None, length, map, take, get_or, nat_lt, refl, sym, ap, subst, arith}
use Rattle.std.specs.Prelude.{◌==◌, if◌then◌else◌, is_some, nat_le, slice_get}
use Rattle.std.specs.BTreeMap.{get, is_at}
use Rattle.std.specs.List.{find}
use Rattle.std.specs.List.Sorted.{IsNonDecreasingBy}
use Rattle.std.specs.Option.{option_or}
use Rattle.std.specs.Ordering.{nat_cmp}
use Rattle.std.proofs.lemmas.Bool.Decides.{nat_tests}
use Rattle.std.proofs.lemmas.List.{map-append, take_more}
use Rattle.std.proofs.lemmas.List.Folds.{find-append}
use Rattle.std.proofs.lemmas.List.Sorted.{IsNonDecreasingBy-push}
use Rattle.ray_chains.specs.Queues.{TimelinePoint}
use Rattle.ray_submits.specs.declared.point.SemaphorePoint.{SemaphorePoint}
use Rattle.ray_queues.specs.declared.marks.Marks.{Marks}
use Rattle.ray_queues.specs.declared.per_queue.PerQueue.{PerQueue}
use Rattle.ray_queues.specs.declared.rising.Mark.{Mark}
use Rattle.ray_queues.specs.Marks.{AddMarks, found_for, is_enough, list_of, mark_of, reaches}

-- ---- numbers and options

below-is : (a v : ℕ) → nat_lt a v ≡ true → nat_le v a ≡ false
below-is a v e = grind (arith, nat_tests)

from-is : (a v : ℕ) → nat_lt a v ≡ false → nat_le v a ≡ true
from-is a v e = grind (arith, nat_tests)

above : (a u v : ℕ) → nat_le v a ≡ false → nat_le u a ≡ true → nat_le v u ≡ false
above a u v e f = grind (arith, nat_tests)

lower : (a v : ℕ) → nat_le v a ≡ false → a ≤ v
lower a v e = grind (arith, nat_tests)

at-key : (a b : ℕ) → is_at (nat_cmp a) b ≡ (a == b)
at-key a b = grind (arith, nat_tests)

same-number : (a b : ℕ) → (a == b) ≡ true → a ≡ b
same-number a b e = grind (arith, nat_tests)

or-none : (o : Option Mark) → option_or o None ≡ o
or-none None = refl
or-none (Some m) = refl

or-or : (a b c : Option Mark) → option_or (option_or a b) c ≡ option_or a (option_or b c)
or-or None b c = refl
or-or (Some m) b c = refl

-- ---- the marks of a semaphore

-- the first that has at least a value stands where those below it end
pub found-at :
    (ms : List Mark) (value i : ℕ) → i ≤ length ms
    → ((k : ℕ) (d : Mark) → k < i → nat_lt (get_or ms k d).value value ≡ true)
    → ((k : ℕ) (d : Mark) → i ≤ k → k < length ms → nat_lt (get_or ms k d).value value ≡ false)
    → slice_get ms i ≡ find (reaches value) ms
found-at [] value i e below from = refl
found-at (m ∷ ms) value zero e below from =
    λ j. if sym (from-is m.value value (from 0 m (omega arith) (omega arith))) j then Some m else find (reaches value) ms
found-at (m ∷ ms) value (suc i) e below from =
    found-at ms value i (omega (arith, e)) (λ k d l. below (suc k) d (omega (arith, l)))
    (λ k d f l. from (suc k) d (omega (arith, f)) (omega (arith, l)))
    ∙ λ j. if sym (below-is m.value value (below 0 m (omega arith))) j then Some m else find (reaches value) ms

-- where none has a value, each is below it
all-below :
    (ms : List Mark) (value k : ℕ) (d : Mark) → is_some (find (reaches value) ms) ≡ false → k < length ms
    → (get_or ms k d).value ≤ value
all-below [] value k d e below = absurd (omega (arith, below))
all-below (m ∷ ms) value zero d e below = choose (reaches value m) refl e
  where
    choose : (b : Bool) → reaches value m ≡ b → is_some (if b then Some m else find (reaches value) ms) ≡ false → m.value ≤ value
    choose true f g = absurd cc
    choose false f g = lower m.value value f
all-below (m ∷ ms) value (suc k) d e below =
    choose (reaches value m) e (λ f. all-below ms value k d f (omega (arith, below)))
  where
    choose : (b : Bool) → is_some (if b then Some m else find (reaches value) ms) ≡ false
        → (is_some (find (reaches value) ms) ≡ false → (get_or ms k d).value ≤ value) → (get_or ms k d).value ≤ value
    choose true g rest = absurd cc
    choose false g rest = rest g

-- so one with that value rises above them
pub still-rising :
    (ms now : List Mark) (mark : Mark) → IsNonDecreasingBy (λ (m : Mark). m.value) ms
    → is_some (find (reaches mark.value) ms) ≡ false → now ≡ ms ++ mark ∷ []
    → IsNonDecreasingBy (λ (m : Mark). m.value) now
still-rising ms now mark rises none is =
    subst (IsNonDecreasingBy (λ (m : Mark). m.value)) (sym is)
    (IsNonDecreasingBy-push (λ (m : Mark). m.value) ms mark rises (λ d some. all-below ms mark.value (length ms - 1) d none (omega (arith, some))))

-- where one has its value, a signal changes nothing
covered :
    (ms : List Mark) (mark : Mark) (value : ℕ) → is_some (find (reaches mark.value) ms) ≡ true
    → find (reaches value) ms ≡ option_or (find (reaches value) ms) (find (reaches value) (mark ∷ []))
covered [] mark value e = absurd cc
covered (m ∷ ms) mark value e =
    choose (reaches value m) (reaches mark.value m) refl refl e (covered ms mark value)
  where
    choose : (a b : Bool) → reaches value m ≡ a → reaches mark.value m ≡ b
        → is_some (if b then Some m else find (reaches mark.value) ms) ≡ true
        → (is_some (find (reaches mark.value) ms) ≡ true
        → find (reaches value) ms ≡ option_or (find (reaches value) ms) (find (reaches value) (mark ∷ [])))
        → (if a then Some m else find (reaches value) ms)
        ≡ option_or (if a then Some m else find (reaches value) ms) (find (reaches value) (mark ∷ []))
    choose true b f g h rest = refl
    choose false true f g h rest =
        sym (or-none (find (reaches value) ms))
        ∙ λ j. option_or (find (reaches value) ms) (if sym (above m.value mark.value value f g) j then Some mark else None)
    choose false false f g h rest = rest h

pub raise-known :
    (old new : List Mark) (mark : Mark) → is_some (find (reaches mark.value) old) ≡ true → new ≡ old
    → (value : ℕ) → find (reaches value) new ≡ option_or (find (reaches value) old) (find (reaches value) (mark ∷ []))
raise-known old new mark e same = λ value. ap (find (reaches value)) same ∙ covered old mark value e

pub raise-new :
    (old new : List Mark) (mark : Mark) → new ≡ old ++ mark ∷ []
    → (value : ℕ) → find (reaches value) new ≡ option_or (find (reaches value) old) (find (reaches value) (mark ∷ []))
raise-new old new mark is = λ value. ap (find (reaches value)) is ∙ find-append (reaches value) old (mark ∷ [])

-- ---- the marks of all

pub adds-none : (old : Marks) → AddMarks old [] old
adds-none old = record { found = λ wait. sym (or-none (found_for old wait)) }

pub adds-one :
    (old taken new : Marks) (mark : Mark) (before after : List Mark)
    → before ≡ list_of (get nat_cmp old.raised mark.semaphore)
    → ((other : ℕ) → get nat_cmp taken.raised other
    ≡ (if is_at (nat_cmp mark.semaphore) other then None else get nat_cmp old.raised other))
    → ((value : ℕ) → find (reaches value) after
    ≡ option_or (find (reaches value) before) (find (reaches value) (mark ∷ [])))
    → ((other : ℕ) → get nat_cmp new.raised other
    ≡ (if is_at (nat_cmp mark.semaphore) other then Some after else get nat_cmp taken.raised other))
    → AddMarks old (mark ∷ []) new
adds-one old taken new mark before after was gone raised put =
    record { found = λ wait. each wait (mark.semaphore == wait.semaphore) refl }
  where
    each : (wait : TimelinePoint) (b : Bool) → (mark.semaphore == wait.semaphore) ≡ b
        → found_for new wait ≡ option_or (found_for old wait) (find (is_enough wait) (mark ∷ []))
    each wait true e =
        let key = at-key mark.semaphore wait.semaphore ∙ e in
        let there : get nat_cmp new.raised wait.semaphore ≡ Some after =
        put wait.semaphore ∙ λ j. if key j then Some after else get nat_cmp taken.raised wait.semaphore in
        let before_is : before ≡ list_of (get nat_cmp old.raised wait.semaphore) =
        was ∙ ap (λ s. list_of (get nat_cmp old.raised s)) (same-number mark.semaphore wait.semaphore e) in
        (λ j. find (reaches wait.value) (list_of (there j)))
        ∙ (raised wait.value
        ∙ λ j. option_or (find (reaches wait.value) (before_is j))
        (if sym e j && nat_le wait.value mark.value then Some mark else None))
    each wait false e =
        let key = at-key mark.semaphore wait.semaphore ∙ e in
        let there : get nat_cmp new.raised wait.semaphore ≡ get nat_cmp old.raised wait.semaphore =
        put wait.semaphore
        ∙ ((λ j. if key j then Some after else get nat_cmp taken.raised wait.semaphore)
        ∙ (gone wait.semaphore ∙ λ j. if key j then None else get nat_cmp old.raised wait.semaphore)) in
        (λ j. find (reaches wait.value) (list_of (there j)))
        ∙ (sym (or-none (found_for old wait))
        ∙ λ j. option_or (found_for old wait) (if sym e j && nat_le wait.value mark.value then Some mark else None))

pub adds-more :
    (n k : ℕ) (numbers : PerQueue) (signals : List SemaphorePoint) (d : SemaphorePoint) (old now new : Marks)
    → k < length signals → AddMarks old (map (mark_of n numbers) (take k signals)) now
    → AddMarks now (mark_of n numbers (get_or signals k d) ∷ []) new
    → AddMarks old (map (mark_of n numbers) (take (k + 1) signals)) new
adds-more n k numbers signals d old now new below done one =
    let past : List Mark = map (mark_of n numbers) (take k signals) in
    let next : List Mark = mark_of n numbers (get_or signals k d) ∷ [] in
    let split : map (mark_of n numbers) (take (k + 1) signals) ≡ past ++ next =
    ap (map (mark_of n numbers)) (take_more signals k d below)
    ∙ map-append (mark_of n numbers) (take k signals) (get_or signals k d ∷ []) in
    subst (λ ms. AddMarks old ms new) (sym split) (record {
      found = λ wait.
          one.found wait
          ∙ ((λ j. option_or (done.found wait j) (find (is_enough wait) next))
          ∙ (or-or (found_for old wait) (find (is_enough wait) past) (find (is_enough wait) next)
          ∙ λ j. option_or (found_for old wait) (sym (find-append (is_enough wait) past next) j)));
    })
