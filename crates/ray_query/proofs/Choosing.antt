-- What a play commits, its client chose; what it passes over, it passes over to the end.
use Rattle.std.proofs.Common.{◌≡◌, ◌∙◌, inl, inr, refl, sym, ap, ℕ, Bool, true, false, List, [], ◌∷◌, Option, Some, None}
use Rattle.std.specs.Prelude.{Contains, IfSome, cond, filter, if◌then◌else◌}
use Rattle.std.specs.Ordering.{is_lt}
use Rattle.std.specs.declared.cmp.Ordering.{Ordering}
use Rattle.std.specs.declared.cmp.Ordering.TheVariants.{Less, Equal, Greater}
use Rattle.std.proofs.lemmas.List.Elements.{All-contains_itself}
use Rattle.ray_geom.specs.declared.frac.Frac.{Frac}
use Rattle.ray_flags.specs.declared.ray_flags.RayFlags.{RayFlags}
use Rattle.ray_query.specs.declared.key.Key.{Key}
use Rattle.ray_query.specs.declared.found.Found.{Found}
use Rattle.ray_query.specs.declared.candidate.Candidate.{Candidate}
use Rattle.ray_query.specs.declared.commit.Commit.{Commit}
use Rattle.ray_query.specs.declared.decision.Decision.{Decision}
use Rattle.ray_query.specs.declared.decision.Decision.TheVariants.{Ignore, Confirm, GenerateEntry, GenerateExit, GenerateAt, Terminate, ConfirmTerminate}
use Rattle.ray_query.specs.Key.{commit_key, found_key, is_below, key_at, key_cmp, key_lt}
use Rattle.ray_query.specs.Play.{QueryState, candidate_of, commits_unasked, committed_at, counts, decided, ended, is_in_span, is_triangle, offered, play, play_one, start}
use Rattle.ray_query.specs.Laws.{Commits, CommitsAreChosen, IsChosen, LeavesOut, PassedStays}
use Rattle.ray_query.proofs.Orders.{Each, Each-from_All, key_cmp-total}
use Rattle.ray_query.proofs.Playing.{play_one-passed}

-- what holds on both ways of a choice holds of the choice
either : (Q : QueryState → Type 0) (b : Bool) (x y : QueryState) → (b ≡ true → Q x) → (b ≡ false → Q y) → Q (if b then x else y)
either Q true x y so not_so = so refl
either Q false x y so not_so = not_so refl

-- a fact of a state that doesn't depend on whether it is over, nor on the number of offers
record IsOfCommit (Q : QueryState → Type 0) : Type 0 where
  pub ends : (s : QueryState) → Q s → Q (ended s)
  pub offers : (s : QueryState) → Q s → Q (offered s)

module _ (Q : QueryState → Type 0) (free : IsOfCommit Q) (flags : RayFlags) (f : Found) where
  -- is kept by a decision where it is kept by what that commits
  decided-keeps : (d : Decision) (st : QueryState) → Q st → ((t : Frac) → Commits d f t → Q (committed_at flags f t st)) → Q (decided flags f d st)
  decided-keeps Ignore st before commit = before
  decided-keeps Confirm st before commit = either Q (is_triangle f.kind) _ st (λ triangle. commit f.t (triangle, refl)) (λ _. before)
  decided-keeps GenerateEntry st before commit = either Q (is_triangle f.kind) st _ (λ _. before) (λ box. commit f.t (box, refl))
  decided-keeps GenerateExit st before commit = either Q (is_triangle f.kind) st _ (λ _. before) (λ box. commit f.exit (box, refl))
  decided-keeps (GenerateAt t) st before commit =
      either Q (is_in_span f t) _ st
      (λ inside. either Q (is_triangle f.kind) st _ (λ _. before) (λ box. commit t (box, inside, refl))) (λ _. before)
  decided-keeps Terminate st before commit = free.ends st before
  decided-keeps ConfirmTerminate st before commit =
      either Q (is_triangle f.kind) _ st (λ triangle. free.ends _ (commit f.t (triangle, refl))) (λ _. before)

  -- and by one candidate
  play_one-keeps : (meaning : Candidate → Decision) (ray : ℕ) (st : QueryState) → Q st
      → (commits_unasked f ≡ true → Q (committed_at flags f f.t st))
      → (commits_unasked f ≡ false → (t : Frac) → Commits (meaning (candidate_of ray st f)) f t → Q (committed_at flags f t (offered st)))
      → Q (play_one meaning ray flags st f)
  play_one-keeps meaning ray st before unasked asked =
      either Q st.over st _ (λ _. before)
      (λ _. either Q (counts f f.t st) _ st
      (λ _. either Q (commits_unasked f) _ _ unasked
      (λ ask. decided-keeps (meaning (candidate_of ray st f)) (offered st) (free.offers st before) (asked ask)))
      (λ _. before))

-- ---- what is committed was chosen

-- a fact of the committed hit
abbrev OfHit : (Commit → Type 0) → QueryState → Type 0
OfHit P st = IfSome st.committed P

OfHit-free : (P : Commit → Type 0) → IsOfCommit (OfHit P)
OfHit-free P = record { ends = λ s before. before; offers = λ s before. before }

-- it is kept by a commit of which it holds
OfHit-new : (P : Commit → Type 0) (flags : RayFlags) (f : Found) (t : Frac) (st : QueryState) → OfHit P st → P (record { found = f; t = t }) → OfHit P (committed_at flags f t st)
OfHit-new P flags f t st before new = either (OfHit P) (counts f t st) _ st (λ _. new) (λ _. before)

-- all that is played of a list was chosen
chosen-from : (meaning : Candidate → Decision) (ray : ℕ) (flags : RayFlags) (whole : List Found) (st : QueryState) (fs : List Found)
    → OfHit (IsChosen meaning ray whole) st → Each (Contains whole) fs → OfHit (IsChosen meaning ray whole) (play meaning ray flags st fs)
chosen-from meaning ray flags whole st [] before among = before
chosen-from meaning ray flags whole st (f ∷ fs) before (member, rest) =
    chosen-from meaning ray flags whole (play_one meaning ray flags st f) fs
    (play_one-keeps (OfHit (IsChosen meaning ray whole)) (OfHit-free (IsChosen meaning ray whole)) flags f meaning ray st before
    (λ unasked. OfHit-new (IsChosen meaning ray whole) flags f f.t st before (record { member = member; cause = inl (unasked, refl) }))
    (λ ask t by. OfHit-new (IsChosen meaning ray whole) flags f t (offered st) before (record { member = member; cause = inr (ask, st.offers, by) })))
    rest

pub play-chosen : CommitsAreChosen
play-chosen meaning ray flags fs = chosen-from meaning ray flags fs start fs tt (Each-from_All (Contains fs) fs (All-contains_itself fs))

-- ---- what is passed over stays so

less : (o : Ordering) → is_lt o ≡ true → o ≡ Less
less Less p = refl
less Equal p = absurd cc
less Greater p = absurd cc

-- a key that isn't below one isn't below a lesser one
not_below : (k l m : Key) → key_lt k m ≡ false → key_lt l m ≡ true → key_lt k l ≡ false
not_below k l m not_m l_below = by_test (key_lt k l) refl where
  by_test : (b : Bool) → key_lt k l ≡ b → b ≡ false
  by_test true below =
      let all : key_lt k m ≡ true = ap is_lt (key_cmp-total.trans k l m (less (key_cmp k l) below) (less (key_cmp l m) l_below)) in
      absurd (cc (all, not_m))
  by_test false above = refl

-- of the committed hit, which only comes nearer
abbrev Above : Key → QueryState → Type 0
Above k st = is_below k st.committed ≡ false

Above-free : (k : Key) → IsOfCommit (Above k)
Above-free k = record { ends = λ s before. before; offers = λ s before. before }

nearer : (k l : Key) (o : Option Commit) → is_below k o ≡ false → is_below l o ≡ true → key_lt k l ≡ false
nearer k l None above below = absurd cc
nearer k l (Some c) above below = not_below k l (commit_key c) above below

Above-new : (k : Key) (flags : RayFlags) (f : Found) (t : Frac) (st : QueryState) → Above k st → Above k (committed_at flags f t st)
Above-new k flags f t st before =
    either (Above k) (counts f t st) _ st (λ below. nearer k (key_at f t) st.committed before below) (λ _. before)

play_one-above : (k : Key) (meaning : Candidate → Decision) (ray : ℕ) (flags : RayFlags) (st : QueryState) (f : Found) → Above k st → Above k (play_one meaning ray flags st f)
play_one-above k meaning ray flags st f before =
    play_one-keeps (Above k) (Above-free k) flags f meaning ray st before
    (λ _. Above-new k flags f f.t st before) (λ _ t _. Above-new k flags f t (offered st) before)

pub play-above : PassedStays
play-above meaning ray flags st [] g before = before
play-above meaning ray flags st (f ∷ fs) g before =
    play-above meaning ray flags (play_one meaning ray flags st f) fs g (play_one-above (found_key g) meaning ray flags st f before)

-- ---- what is passed over may be left out

-- what is left out is passed over
abbrev IsPassedOut : (Found → Bool) → QueryState → Found → Type 0
IsPassedOut keep st g = keep g ≡ false → counts g g.t st ≡ false

still : (keep : Found → Bool) (meaning : Candidate → Decision) (ray : ℕ) (flags : RayFlags) (st : QueryState) (f : Found) (fs : List Found)
    → Each (IsPassedOut keep st) fs → Each (IsPassedOut keep (play_one meaning ray flags st f)) fs
still keep meaning ray flags st f [] out = tt
still keep meaning ray flags st f (g ∷ fs) (first, rest) =
    (λ left. play_one-above (found_key g) meaning ray flags st f (first left), still keep meaning ray flags st f fs rest)

filter-from : (keep : Found → Bool) (meaning : Candidate → Decision) (ray : ℕ) (flags : RayFlags) (st : QueryState) (fs : List Found)
    → Each (IsPassedOut keep st) fs → play meaning ray flags st (filter keep fs) ≡ play meaning ray flags st fs
filter-from keep meaning ray flags st [] out = refl
filter-from keep meaning ray flags st (f ∷ fs) (first, rest) =
    by_test (keep f) refl
    (filter-from keep meaning ray flags (play_one meaning ray flags st f) fs (still keep meaning ray flags st f fs rest))
    (filter-from keep meaning ray flags st fs rest) where
      by_test : (b : Bool) → keep f ≡ b
          → play meaning ray flags (play_one meaning ray flags st f) (filter keep fs) ≡ play meaning ray flags (play_one meaning ray flags st f) fs
          → play meaning ray flags st (filter keep fs) ≡ play meaning ray flags st fs
          → play meaning ray flags st (cond b (f ∷ filter keep fs) (filter keep fs)) ≡ play meaning ray flags st (f ∷ fs)
      by_test true kept played later = played
      by_test false left played later =
          later ∙ sym (ap (λ s. play meaning ray flags s fs) (play_one-passed meaning ray flags st f (first left)))

pub play-filter : LeavesOut
play-filter keep meaning ray flags st fs out = filter-from keep meaning ray flags st fs (Each-from_All (IsPassedOut keep st) fs out)
