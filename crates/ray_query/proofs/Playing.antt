-- The play of a list.
use Rattle.std.proofs.Common.{◌≡◌, ◌∙◌, refl, sym, ap, subst, ℕ, suc, Bool, true, false, ◌&&◌, List, [], ◌∷◌, Option, Some, None, arith}
use Rattle.std.specs.Prelude.{All, if◌then◌else◌}
use Rattle.std.proofs.lemmas.List.Elements.{All-cons, All-nil}
use Rattle.ray_geom.specs.declared.frac.Frac.{Frac}
use Rattle.ray_flags.specs.declared.ray_flags.RayFlags.{RayFlags}
use Rattle.ray_query.specs.declared.found.Found.{Found}
use Rattle.ray_query.specs.declared.candidate.Candidate.{Candidate}
use Rattle.ray_query.specs.declared.commit.Commit.{Commit}
use Rattle.ray_query.specs.declared.decision.Decision.{Decision}
use Rattle.ray_query.specs.Key.{KeysRise, found_key, is_below, key_at, key_lt}
use Rattle.ray_query.specs.Play.{QueryState, candidate_of, commits_unasked, committed_at, counts, decided, is_triangle, offered, play, play_one, start}
use Rattle.ray_query.specs.Laws.{ConfirmingCommitsClosest, IgnoringCommitsOpaque, IsClosest, OverStays, PlaysInParts, confirms_all, ignores}
use Rattle.ray_query.proofs.Orders.{Each, KeysRise-first, KeysRise-rest, key_lt-itself, key_lt-not_both}

-- a list in two parts
pub play-append : PlaysInParts
play-append meaning ray flags st [] gs = refl
play-append meaning ray flags st (f ∷ fs) gs = play-append meaning ray flags (play_one meaning ray flags st f) fs gs

-- a choice by a test whose answer is known
chosen : {X : Type 0} (b : Bool) (x y : X) → b ≡ true → (if b then x else y) ≡ x
chosen true x y p = refl
chosen false x y p = absurd cc

other : {X : Type 0} (b : Bool) (x y : X) → b ≡ false → (if b then x else y) ≡ y
other true x y p = absurd cc
other false x y p = refl

-- a query that is over stays
pub play-over : OverStays
play-over meaning ray flags st [] over = refl
play-over meaning ray flags st (f ∷ fs) over =
    let same : play_one meaning ray flags st f ≡ st = chosen st.over st _ over in
    ap (λ s. play meaning ray flags s fs) same ∙ play-over meaning ray flags st fs over

-- a state stays, over or not, where both ways leave it
stays : (over beats : Bool) (st later : QueryState) → beats ≡ false → (if over then st else if beats then later else st) ≡ st
stays true beats st later p = refl
stays false beats st later p = other beats later st p

module _ (meaning : Candidate → Decision) (ray : ℕ) (flags : RayFlags) where
  -- what isn't below the committed key is passed over
  pub play_one-passed : (st : QueryState) (f : Found) → counts f f.t st ≡ false → play_one meaning ray flags st f ≡ st
  play_one-passed st f above = stays st.over (counts f f.t st) st _ above

  -- and so is a list of such
  pub play-passed : (st : QueryState) (fs : List Found) → Each (λ f. counts f f.t st ≡ false) fs → play meaning ray flags st fs ≡ st
  play-passed st [] above = refl
  play-passed st (f ∷ fs) (first, rest) =
      ap (λ s. play meaning ray flags s fs) (play_one-passed st f first) ∙ play-passed st fs rest

-- no element that passes has a key below this one
abbrev NoneBelow : (Found → Bool) → Found → Frac → Found → Type 0
NoneBelow test f t g = test g ≡ true → key_lt (found_key g) (key_at f t) ≡ false

-- what the closest of the rest is stays so before one that doesn't pass
closest-skip : (test : Found → Bool) (f : Found) (fs : List Found) (c : Option Commit) → test f ≡ false → IsClosest test fs c → IsClosest test (f ∷ fs) c
closest-skip test f fs None fails none = All-cons (λ g. test g ≡ false) f fs fails none
closest-skip test f fs (Some c) fails some =
    let (k, below, at) = some.member in
    record {
      member = (suc k, omega (arith, below), at);
      passes = some.passes;
      at_own = some.at_own;
      least = All-cons (NoneBelow test c.found c.t) f fs (λ (passes : test f ≡ true). absurd (cc (passes, fails))) some.least;
    }

-- what is committed at its own distance
abbrev own : Found → Commit
own f = record { found = f; t = f.t }

-- the first that passes is the closest, where keys rise
all_above : (test : Found → Bool) (f : Found) (fs : List Found) → Each (λ g. key_lt (found_key f) (found_key g) ≡ true) fs
    → All (λ g. test g ≡ true → key_lt (found_key g) (found_key f) ≡ false) fs
all_above test f [] above = All-nil _
all_above test f (g ∷ fs) (first, rest) =
    All-cons (NoneBelow test f f.t) g fs (λ (passes : test g ≡ true). key_lt-not_both (found_key f) (found_key g) first) (all_above test f fs rest)

closest-first : (test : Found → Bool) (f : Found) (fs : List Found) → test f ≡ true → KeysRise (f ∷ fs) → IsClosest test (f ∷ fs) (Some (own f))
closest-first test f fs passes rise = record {
  member = (0, omega arith, refl);
  passes = passes;
  at_own = refl;
  least = All-cons (NoneBelow test f f.t) f fs (λ (p : test f ≡ true). key_lt-itself (found_key f)) (all_above test f fs (KeysRise-first f fs rise));
}

-- of a query that isn't over and has committed f, what follows is passed over
passed_behind : (f : Found) (fs : List Found) (st : QueryState) → st.committed ≡ Some (own f)
    → Each (λ g. key_lt (found_key f) (found_key g) ≡ true) fs → Each (λ g. counts g g.t st ≡ false) fs
passed_behind f [] st at above = tt
passed_behind f (g ∷ fs) st at (first, rest) =
    (ap (is_below (found_key g)) at ∙ key_lt-not_both (found_key f) (found_key g) first, passed_behind f fs st at rest)

-- nothing is committed, and the query isn't over
record IsOpen (st : QueryState) : Type 0 where
  pub none : st.committed ≡ None
  pub open_ : st.over ≡ false

-- a client with which just what passes a test commits, at its own distance
record CommitsBy (test : Found → Bool) (meaning : Candidate → Decision) (ray : ℕ) (flags : RayFlags) : Type 0 where
  pub skips : (st : QueryState) (f : Found) → IsOpen st → test f ≡ false → IsOpen (play_one meaning ray flags st f)
  pub takes : (st : QueryState) (f : Found) → IsOpen st → test f ≡ true → (play_one meaning ray flags st f).committed ≡ Some (own f)

-- with such a client the closest that passes commits
closest : (test : Found → Bool) (meaning : Candidate → Decision) (ray : ℕ) (flags : RayFlags) → CommitsBy test meaning ray flags
    → (st : QueryState) (fs : List Found) → IsOpen st → KeysRise fs → IsClosest test fs (play meaning ray flags st fs).committed
closest test meaning ray flags by st [] open_ rise = subst (IsClosest test []) (sym open_.none) (All-nil _)
closest test meaning ray flags by st (f ∷ fs) open_ rise =
    closest-by (test f) refl
    (λ still. closest test meaning ray flags by (play_one meaning ray flags st f) fs still (KeysRise-rest f fs rise)) where
      closest-by : (b : Bool) → test f ≡ b
          → (IsOpen (play_one meaning ray flags st f) → IsClosest test fs (play meaning ray flags (play_one meaning ray flags st f) fs).committed)
          → IsClosest test (f ∷ fs) (play meaning ray flags st (f ∷ fs)).committed
      closest-by false fails rest = closest-skip test f fs _ fails (rest (by.skips st f open_ fails))
      closest-by true passes rest =
          let after : QueryState = play_one meaning ray flags st f in
          let at : after.committed ≡ Some (own f) = by.takes st f open_ passes in
          let stay : play meaning ray flags after fs ≡ after =
          play-passed meaning ray flags after fs (passed_behind f fs after at (KeysRise-first f fs rise)) in
          subst (IsClosest test (f ∷ fs)) (sym (ap (λ (s : QueryState). s.committed) stay ∙ at)) (closest-first test f fs passes rise)

-- a query in its first state is open
start-open : IsOpen start
start-open = record { none = refl; open_ = refl }

-- an open query plays what comes
played : (meaning : Candidate → Decision) (ray : ℕ) (flags : RayFlags) (st : QueryState) (f : Found) → IsOpen st
    → play_one meaning ray flags st f
    ≡ (if commits_unasked f then committed_at flags f f.t st else decided flags f (meaning (candidate_of ray st f)) (offered st))
played meaning ray flags st f o =
    other st.over st _ o.open_ ∙ chosen (counts f f.t st) _ st (ap (is_below (found_key f)) o.none)

-- where nothing is committed a commit counts
commits : (flags : RayFlags) (f : Found) (st : QueryState) → st.committed ≡ None → (committed_at flags f f.t st).committed ≡ Some (own f)
commits flags f st none =
    ap (λ (s : QueryState). s.committed) (chosen (counts f f.t st) _ st (ap (is_below (found_key f)) none))

-- where all is ignored, just the opaque triangles commit
ignoring : (ray : ℕ) (flags : RayFlags) → CommitsBy commits_unasked ignores ray flags
ignoring ray flags = record {
  skips = λ st f o fails. subst IsOpen (sym (played ignores ray flags st f o ∙ other (commits_unasked f) _ _ fails))
      (record { none = o.none; open_ = o.open_ });
  takes = λ st f o passes.
      ap (λ (s : QueryState). s.committed) (played ignores ray flags st f o ∙ chosen (commits_unasked f) _ _ passes) ∙ commits flags f st o.none;
}

pub ignoring-opaque : IgnoringCommitsOpaque
ignoring-opaque ray flags fs rise = closest commits_unasked ignores ray flags (ignoring ray flags) start fs start-open rise

-- of what is no triangle, nothing commits unasked
both-second : (b c : Bool) → c ≡ false → (b && c) ≡ false
both-second true c p = p
both-second false c p = refl

asked : (f : Found) → is_triangle f.kind ≡ false → commits_unasked f ≡ false
asked f no_triangle = both-second f.opaque (is_triangle f.kind) no_triangle

-- where all is confirmed, just the triangles commit
confirming-takes : (ray : ℕ) (flags : RayFlags) (st : QueryState) (f : Found) → IsOpen st → is_triangle f.kind ≡ true
    → (b : Bool) → commits_unasked f ≡ b → (play_one confirms_all ray flags st f).committed ≡ Some (own f)
confirming-takes ray flags st f o triangle true unasked =
    ap (λ (s : QueryState). s.committed) (played confirms_all ray flags st f o ∙ chosen (commits_unasked f) _ _ unasked)
    ∙ commits flags f st o.none
confirming-takes ray flags st f o triangle false offer =
    ap (λ (s : QueryState). s.committed)
    (played confirms_all ray flags st f o ∙ (other (commits_unasked f) _ _ offer ∙ chosen (is_triangle f.kind) _ _ triangle))
    ∙ commits flags f (offered st) o.none

confirming : (ray : ℕ) (flags : RayFlags) → CommitsBy (λ f. is_triangle f.kind) confirms_all ray flags
confirming ray flags = record {
  skips = λ st f o fails.
      subst IsOpen
      (sym (played confirms_all ray flags st f o ∙ (other (commits_unasked f) _ _ (asked f fails) ∙ other (is_triangle f.kind) _ _ fails)))
      (record { none = o.none; open_ = o.open_ });
  takes = λ st f o passes. confirming-takes ray flags st f o passes (commits_unasked f) refl;
}

pub confirming-closest : ConfirmingCommitsClosest
confirming-closest ray flags fs rise =
    closest (λ f. is_triangle f.kind) confirms_all ray flags (confirming ray flags) start fs start-open rise
