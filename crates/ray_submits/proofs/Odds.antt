-- The first signal that is at odds with those before it, looked for one after the other.
use Rattle.std.proofs.Common.{◌≡◌, ◌<◌, ◌≤◌, ◌∙◌, ℕ, ◌+◌, true, false, List, [], ◌∷◌, ◌++◌, Some, None, length, map, take, drop, get_or, sym, ap, subst, add-one, append_assoc, append-nil}
use Rattle.std.specs.Prelude.{if◌then◌else◌}
use Rattle.std.specs.BTreeMap.{is_at}
use Rattle.std.specs.Ordering.{nat_cmp}
use Rattle.std.proofs.Math.Seq.{drop-cons, take-length}
use Rattle.std.proofs.lemmas.List.{drop_all, map-append, take_more}
use Rattle.ray_submits.specs.declared.point.SemaphorePoint.{SemaphorePoint}
use Rattle.ray_submits.specs.declared.semaphores.Semaphores.{Semaphores}
use Rattle.ray_submits.specs.Seen.{AreSeen, is_odd_in, seen_after, seen_at}
use Rattle.ray_submits.specs.Semaphores.{Signal, first_odd, signal_by}
use Rattle.ray_submits.proofs.Signals.{odd-seen, seen-more}

-- these points as signals of a queue
abbrev pub signals : ℕ → List SemaphorePoint → List Signal
signals queue points = map (signal_by queue) points

-- the first signals of a submission are none at odds, and what is kept is so of them too
pub record ArePassed (queue : ℕ) (points : List SemaphorePoint) (k : ℕ) (earlier : List Signal) (now : Semaphores) : Type 0 where
  pub left :
      first_odd (earlier ++ signals queue (take k points)) k (signals queue (drop k points))
      ≡ first_odd earlier 0 (signals queue points)
  pub seen : AreSeen (earlier ++ signals queue (take k points)) now

abbrev pub IsPassed : ℕ → List SemaphorePoint → ℕ → Semaphores → Semaphores → Type 0
IsPassed queue points k old now = (earlier : List Signal) → AreSeen earlier old → ArePassed queue points k earlier now

pub passed-none : (queue : ℕ) (points : List SemaphorePoint) (old : Semaphores) → IsPassed queue points 0 old old
passed-none queue points old earlier are = record {
  left = ap (λ past. first_odd past 0 (signals queue points)) (append-nil earlier);
  seen = subst (λ past. AreSeen past old) (sym (append-nil earlier)) are;
}

-- what is left begins with the next signal
next : (queue : ℕ) (points : List SemaphorePoint) (k : ℕ) (d : SemaphorePoint) → k < length points
    → signals queue (drop k points) ≡ signal_by queue (get_or points k d) ∷ signals queue (drop (k + 1) points)
next queue points k d inside =
    ap (signals queue) (drop-cons points k d inside)
    ∙ λ i. signal_by queue (get_or points k d) ∷ signals queue (drop (sym (add-one k) i) points)

-- and those before are one more after it
pub more : (queue : ℕ) (points : List SemaphorePoint) (k : ℕ) (d : SemaphorePoint) (earlier : List Signal) → k < length points
    → earlier ++ signals queue (take (k + 1) points) ≡ (earlier ++ signals queue (take k points)) ++ signal_by queue (get_or points k d) ∷ []
more queue points k d earlier inside =
    ap (λ ps. earlier ++ signals queue ps) (take_more points k d inside)
    ∙ (ap (λ ss. earlier ++ ss) (map-append (signal_by queue) (take k points) (get_or points k d ∷ []))
    ∙ sym (append_assoc earlier (signals queue (take k points)) (signal_by queue (get_or points k d) ∷ [])))

-- one that is at odds is the first
pub passed-odd : (queue : ℕ) (points : List SemaphorePoint) (k : ℕ) (d : SemaphorePoint) (earlier : List Signal) (old now : Semaphores)
    → k < length points → IsPassed queue points k old now
    → is_odd_in now (signal_by queue (get_or points k d)) ≡ true → AreSeen earlier old
    → first_odd earlier 0 (signals queue points) ≡ Some k
passed-odd queue points k d earlier old now inside is odd are =
    let passed = is earlier are in
    let past = earlier ++ signals queue (take k points) in
    sym passed.left
    ∙ (ap (first_odd past k) (next queue points k d inside)
    ∙ λ i. if (odd-seen past now (signal_by queue (get_or points k d)) passed.seen ∙ odd) i then Some k
    else first_odd (past ++ signal_by queue (get_or points k d) ∷ []) (k + 1) (signals queue (drop (k + 1) points)))

-- one that isn't is passed
pub passed-more : (queue : ℕ) (points : List SemaphorePoint) (k : ℕ) (d : SemaphorePoint) (old now new : Semaphores)
    → k < length points → IsPassed queue points k old now
    → is_odd_in now (signal_by queue (get_or points k d)) ≡ false
    → ((semaphore : ℕ) → seen_at new semaphore
    ≡ (if is_at (nat_cmp (get_or points k d).semaphore) semaphore then Some (seen_after queue (get_or points k d).value (seen_at now (get_or points k d).semaphore))
    else seen_at now semaphore))
    → IsPassed queue points (k + 1) old new
passed-more queue points k d old now new inside is even updates earlier are =
    let passed = is earlier are in
    let past = earlier ++ signals queue (take k points) in
    let past_more = more queue points k d earlier inside in
    record {
      left =
          ap (λ ss. first_odd ss (k + 1) (signals queue (drop (k + 1) points))) past_more
          ∙ (sym (ap (first_odd past k) (next queue points k d inside)
          ∙ λ i. if (odd-seen past now (signal_by queue (get_or points k d)) passed.seen ∙ even) i then Some k
          else first_odd (past ++ signal_by queue (get_or points k d) ∷ []) (k + 1) (signals queue (drop (k + 1) points)))
          ∙ passed.left);
      seen = subst (λ ss. AreSeen ss new) (sym past_more) (seen-more past now new (signal_by queue (get_or points k d)) updates passed.seen);
    }

-- where all are passed none is at odds
pub none-odd : (queue : ℕ) (points : List SemaphorePoint) (k : ℕ) (earlier : List Signal) (old now : Semaphores)
    → length points ≤ k → IsPassed queue points k old now → AreSeen earlier old
    → first_odd earlier 0 (signals queue points) ≡ None
none-odd queue points k earlier old now past is are =
    sym (is earlier are).left
    ∙ ap (λ ps. first_odd (earlier ++ signals queue (take k points)) k (signals queue ps)) (drop_all k points past)

-- and what is kept is so of all
pub all-passed : (queue : ℕ) (points : List SemaphorePoint) (k : ℕ) (earlier : List Signal) (old now : Semaphores)
    → k ≡ length points → IsPassed queue points k old now → AreSeen earlier old
    → AreSeen (earlier ++ signals queue points) now
all-passed queue points k earlier old now same is are =
    subst (λ ps. AreSeen (earlier ++ signals queue ps) now)
    ((λ i. take (same i) points) ∙ take-length points) (is earlier are).seen
