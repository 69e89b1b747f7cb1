-- What is carried by signals, and the marks of them.
use Rattle.std.proofs.Common.{◌≡◌, ◌≢◌, ◌<◌, ◌∙◌, ℕ, suc, ◌+◌, Bool, true, false, ◌||◌, List, [], ◌∷◌, ◌++◌, Option, Some, None, All, length, map, take, get_or, refl, sym, ap, subst, arith}
use Rattle.std.specs.Prelude.{◌==◌, max, if◌then◌else◌}
use Rattle.std.specs.BTreeMap.{is_at}
use Rattle.std.specs.List.{find}
use Rattle.std.specs.Map.{lookup}
use Rattle.std.specs.Option.{option_map, option_or}
use Rattle.std.specs.Ordering.{nat_cmp}
use Rattle.std.proofs.lemmas.Bool.Decides.{nat_tests}
use Rattle.std.proofs.lemmas.List.{map-append, take_more}
use Rattle.std.proofs.lemmas.List.Elements.{All-map}
use Rattle.ray_chains.specs.declared.stage.Stage.{Stage}
use Rattle.ray_chains.specs.Fronts.{greatest_of}
use Rattle.ray_chains.specs.QueueLaws.{source_of}
use Rattle.ray_chains.specs.Queues.{Event, Node, Signalled, Submit, TimelinePoint, meets, met_by, or_here, signal_of, signals_enough}
use Rattle.ray_chains.proofs.Across.{signals-carry}
use Rattle.ray_rules.specs.Order.{always}
use Rattle.ray_submits.specs.declared.point.SemaphorePoint.{SemaphorePoint}
use Rattle.ray_submits.specs.Submits.{QueueCommands}
use Rattle.ray_queues.specs.declared.marks.Marks.{Marks}
use Rattle.ray_queues.specs.declared.per_queue.PerQueue.{PerQueue}
use Rattle.ray_queues.specs.declared.rising.Mark.{Mark}
use Rattle.ray_queues.specs.Events.{event_at, timeline_point}
use Rattle.ray_queues.specs.Marks.{AddMarks, AreMarks, IsSent, first_enough, found_for, is_enough, list_of, mark_of, number_for, number_sent, numbers_in, reaches}
use Rattle.ray_queues.specs.Numbers.{all_queues, greater_queues}
use Rattle.ray_queues.specs.Sources.{ArePerQueue, front_from, number_met}
use Rattle.ray_queues.proofs.Counting.{all-queues, greater-queues, same-queues}

max-zero : (a : ℕ) → max a 0 ≡ a
max-zero a = omega arith

pub other-number : (a b : ℕ) → a ≢ b → (a == b) ≡ false
other-number a b h = grind (arith, nat_tests)

-- what holds of all holds of the one that is found
found-all : {X : Type 0} (P : X → Type 0) (test : X → Bool) (xs : List X) (x : X) → All P xs → find test xs ≡ Some x → P x
found-all P test [] x all e = absurd cc
found-all P test (y ∷ xs) x all e =
    choose (test y) e (λ f. found-all P test xs x (λ i d below. all (suc i) d (omega (arith, below))) f)
  where
    choose : (b : Bool) → (if b then Some y else find test xs) ≡ Some x → (find test xs ≡ Some x → P x) → P x
    choose true f rest = let same : y ≡ x = cc in subst P same (all 0 y (omega arith))
    choose false f rest = rest f

-- ---- what meets a wait

sent-is :
    (q : QueueCommands) (queue n x : ℕ) (signals : List TimelinePoint) (from : ℕ) (stage : Stage)
    → event_at q x ≡ Submit queue signals → x < n
    → front_from q from stage n (Signalled x) ≡ number_sent q queue x from stage
sent-is q queue n x signals from stage is below =
    signals-carry always (event_at q) (source_of from stage None) queue x n signals (λ m e. refl) is below

zero-met :
    (q : QueueCommands) (n : ℕ) (wait : TimelinePoint) → (wait.value == 0) ≡ true
    → ArePerQueue (number_for q n wait) (all_queues 0)
zero-met q n wait e = all-queues (number_for q n wait) 0 (λ from stage i.
    greatest_of (front_from q from stage n) (if e i then [] else signal_of (first_enough q wait n)))

by-mark :
    (q : QueueCommands) (n : ℕ) (wait : TimelinePoint) (o : Option Mark) → (wait.value == 0) ≡ false
    → option_map (λ (m : Mark). m.submit) o ≡ first_enough q wait n → ((m : Mark) → o ≡ Some m → IsSent q n m)
    → ArePerQueue (number_for q n wait) (numbers_in o)
by-mark q n wait None e f sent = all-queues (number_for q n wait) 0 (λ from stage i.
    greatest_of (front_from q from stage n) (if e i then [] else signal_of (sym f i)))
by-mark q n wait (Some m) e f sent =
    let is = sent m refl in
    same-queues (number_for q n wait) (number_sent q is.queue m.submit) m.numbers (λ from stage.
    (λ i. greatest_of (front_from q from stage n) (if e i then [] else signal_of (sym f i)))
    ∙ (max-zero (front_from q from stage n (Signalled m.submit))
    ∙ sent-is q is.queue n m.submit is.signals from stage is.is is.below))
    is.numbers

-- a wait for 0, and another
pub met-zero :
    (q : QueueCommands) (n : ℕ) (wait : TimelinePoint) (numbers : PerQueue) → (wait.value == 0) ≡ true
    → numbers ≡ all_queues 0 → ArePerQueue (number_for q n wait) numbers
met-zero q n wait numbers e is = subst (ArePerQueue (number_for q n wait)) (sym is) (zero-met q n wait e)

pub met-mark :
    (q : QueueCommands) (n : ℕ) (wait : TimelinePoint) (marks : Marks) (o : Option Mark) (numbers : PerQueue)
    → (wait.value == 0) ≡ false → o ≡ found_for marks wait → numbers ≡ numbers_in o
    → AreMarks q n marks → ArePerQueue (number_for q n wait) numbers
met-mark q n wait marks o numbers e found is are =
    subst (ArePerQueue (number_for q n wait)) (sym is)
    (by-mark q n wait o e (ap (option_map (λ (m : Mark). m.submit)) found ∙ are.found wait) (λ m f. are.sent wait m (sym found ∙ f)))

-- ---- several waits

greatest-append : {X : Type 0} (f : X → ℕ) (xs ys : List X) → greatest_of f (xs ++ ys) ≡ max (greatest_of f xs) (greatest_of f ys)
greatest-append f [] ys = omega arith
greatest-append f (x ∷ xs) ys = let e = greatest-append f xs ys in omega arith

met-append :
    (events : ℕ → Event) (n : ℕ) (f : Node → ℕ) (waits : List TimelinePoint) (wait : TimelinePoint)
    → greatest_of f (met_by events n (waits ++ wait ∷ [])) ≡ max (greatest_of f (met_by events n waits)) (greatest_of f (meets events n wait))
met-append events n f [] wait =
    let e = greatest-append f (meets events n wait) [] in omega arith
met-append events n f (w ∷ waits) wait =
    let e = greatest-append f (meets events n w) (met_by events n (waits ++ wait ∷ [])) in
    let g = greatest-append f (meets events n w) (met_by events n waits) in
    let h = met-append events n f waits wait in
    omega arith

pub met-none : (q : QueueCommands) (n : ℕ) → ArePerQueue (number_met q n []) (all_queues 0)
met-none q n = all-queues (number_met q n []) 0 (λ from stage. refl)

pub met-more :
    (q : QueueCommands) (n k : ℕ) (waits : List SemaphorePoint) (d : SemaphorePoint) (numbers one both : PerQueue)
    → k < length waits
    → ArePerQueue (number_met q n (map timeline_point (take k waits))) numbers
    → ArePerQueue (number_for q n (timeline_point (get_or waits k d))) one → both ≡ greater_queues numbers one
    → ArePerQueue (number_met q n (map timeline_point (take (k + 1) waits))) both
met-more q n k waits d numbers one both below are is e =
    let points : List TimelinePoint = map timeline_point (take k waits) in
    let next : TimelinePoint = timeline_point (get_or waits k d) in
    let split : map timeline_point (take (k + 1) waits) ≡ points ++ next ∷ [] =
    ap (map timeline_point) (take_more waits k d below) ∙ map-append timeline_point (take k waits) (get_or waits k d ∷ []) in
    subst (ArePerQueue (number_met q n (map timeline_point (take (k + 1) waits)))) (sym e)
    (same-queues (number_met q n (map timeline_point (take (k + 1) waits)))
    (λ from stage. max (number_met q n points from stage) (number_for q n next from stage))
    (greater_queues numbers one) (λ from stage.
    (λ i. greatest_of (front_from q from stage n) (met_by (event_at q) n (split i)))
    ∙ met-append (event_at q) n (front_from q from stage n) points next)
    (greater-queues (number_met q n points) (number_for q n next) numbers one are is))

-- ---- from a command to the next

none-is : {A : Type 0} (m : Mark) → None ≡ Some m → A
none-is m e = absurd cc

pub marks-none : (q : QueueCommands) (marks : Marks) → marks.raised.entries ≡ [] → AreMarks q 0 marks
marks-none q marks e =
    let nothing : (wait : TimelinePoint) → found_for marks wait ≡ None =
    λ wait. ap (λ es. find (reaches wait.value) (list_of (lookup (is_at (nat_cmp wait.semaphore)) es))) e in
    record {
      found = λ wait. ap (option_map (λ (m : Mark). m.submit)) (nothing wait);
      sent = λ wait m f. none-is m (sym (nothing wait) ∙ f);
    }

here-none : (o : Option ℕ) (n : ℕ) → or_here o false n ≡ o
here-none None n = refl
here-none (Some m) n = refl

later : (q : QueueCommands) (n : ℕ) (m : Mark) → IsSent q n m → IsSent q (suc n) m
later q n m is = record {
  queue = is.queue;
  signals = is.signals;
  is = is.is;
  below = let b = is.below in omega arith;
  numbers = is.numbers;
}

-- a command that is no `submit`
pub marks-still :
    (q : QueueCommands) (n : ℕ) (marks : Marks) → ((wait : TimelinePoint) → signals_enough wait (event_at q n) ≡ false)
    → AreMarks q n marks → AreMarks q (suc n) marks
marks-still q n marks other are = record {
  found = λ wait. are.found wait ∙ sym ((λ i. or_here (first_enough q wait n) (other wait i) n) ∙ here-none (first_enough q wait n) n);
  sent = λ wait m f. later q n m (are.sent wait m f);
}

find-new :
    (wait : TimelinePoint) (n queue : ℕ) (numbers : PerQueue) (signals : List SemaphorePoint)
    → option_map (λ (m : Mark). m.submit) (find (is_enough wait) (map (mark_of n numbers) signals))
    ≡ (if signals_enough wait (Submit queue (map timeline_point signals)) then Some n else None)
find-new wait n queue numbers [] = refl
find-new wait n queue numbers (p ∷ signals) =
    choose (is_enough wait (mark_of n numbers p)) (find-new wait n queue numbers signals)
  where
    choose : (b : Bool)
        → option_map (λ (m : Mark). m.submit) (find (is_enough wait) (map (mark_of n numbers) signals))
        ≡ (if signals_enough wait (Submit queue (map timeline_point signals)) then Some n else None)
        → option_map (λ (m : Mark). m.submit)
        (if b then Some (mark_of n numbers p) else find (is_enough wait) (map (mark_of n numbers) signals))
        ≡ (if b || signals_enough wait (Submit queue (map timeline_point signals)) then Some n else None)
    choose true rest = refl
    choose false rest = rest

either : (a b : Option Mark) (t : Bool) (n : ℕ) → option_map (λ (m : Mark). m.submit) b ≡ (if t then Some n else None)
    → option_map (λ (m : Mark). m.submit) (option_or a b) ≡ or_here (option_map (λ (m : Mark). m.submit) a) t n
either None b t n e = e
either (Some m) b t n e = refl

-- what holds of each of two holds of the first that is there
of-either : (P : Mark → Type 0) (a b : Option Mark) (m : Mark) → option_or a b ≡ Some m → (a ≡ Some m → P m) → (b ≡ Some m → P m) → P m
of-either P None b m e first second = second e
of-either P (Some x) b m e first second = first e

-- a `submit`
pub marks-sent :
    (q : QueueCommands) (n queue : ℕ) (old new : Marks) (signals : List SemaphorePoint) (numbers : PerQueue)
    → event_at q n ≡ Submit queue (map timeline_point signals) → ArePerQueue (number_sent q queue n) numbers
    → AddMarks old (map (mark_of n numbers) signals) new → AreMarks q n old → AreMarks q (suc n) new
marks-sent q n queue old new signals numbers is carried added are =
    let here : List Mark = map (mark_of n numbers) signals in
    let all : All (IsSent q (suc n)) here =
    All-map (IsSent q (suc n)) (mark_of n numbers) signals (λ i d below. record {
      queue = queue;
      signals = map timeline_point signals;
      is = is;
      below = omega arith;
      numbers = carried;
    }) in
    record {
      found = λ wait.
          ap (option_map (λ (m : Mark). m.submit)) (added.found wait)
          ∙ (either (found_for old wait) (find (is_enough wait) here)
          (signals_enough wait (Submit queue (map timeline_point signals))) n (find-new wait n queue numbers signals)
          ∙ λ i. or_here (are.found wait i) (signals_enough wait (sym is i)) n);
      sent = λ wait m f.
          of-either (IsSent q (suc n)) (found_for old wait) (find (is_enough wait) here) m (sym (added.found wait) ∙ f)
          (λ g. later q n m (are.sent wait m g)) (λ g. found-all (IsSent q (suc n)) (is_enough wait) here m all g);
    }
