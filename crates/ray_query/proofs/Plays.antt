-- What a play does with what is passed over, and where it commits.
use Rattle.std.proofs.Common.{◌≡◌, ◌∙◌, refl, sym, ap, ℕ, Bool, true, false, ◌&&◌, if◌then◌else◌, List, filter}
use Rattle.std.specs.Ordering.{is_le}
use Rattle.ray_geom.specs.declared.frac.Frac.{Frac}
use Rattle.ray_geom.specs.declared.ratio.Ratio.{Ratio}
use Rattle.ray_geom.specs.Frac.{frac_cmp}
use Rattle.ray_geom.specs.Ratio.{ratio_cmp, ratio_of}
use Rattle.ray_flags.specs.declared.ray_flags.RayFlags.{RayFlags}
use Rattle.ray_query.specs.declared.candidate.Candidate.{Candidate}
use Rattle.ray_query.specs.declared.decision.Decision.{Decision}
use Rattle.ray_query.specs.declared.decision.Decision.TheVariants.{Ignore, Confirm, GenerateEntry, GenerateExit, GenerateAt, Terminate, ConfirmTerminate}
use Rattle.ray_query.specs.declared.found.Found.{Found}
use Rattle.ray_query.specs.Laws.{LeavesOut}
use Rattle.ray_query.specs.Play.{QueryState, candidate_of, committed_at, commits_unasked, counts, decided, generated_at, is_in_span, is_triangle, offered, play, play_one}
use Rattle.ray_query.specs.KeyOrder.{AreApart, in_key_order}
use Rattle.ray_query.specs.Limits.{IsInOrder, distance_of, is_within}
use Rattle.ray_query.proofs.Members.{Member}
use Rattle.ray_query.proofs.Orders.{ratio_le-chain}
use Rattle.ray_query.proofs.Rising.{in_key_order-kept}

-- what would be played in a state
abbrev pub plays_in : QueryState → Found → Bool
plays_in st f = counts f f.t st

module _ (leaves : LeavesOut) (meaning : Candidate → Decision) (ray : ℕ) (flags : RayFlags) (st : QueryState) where
  play-kept : (fs : List Found) → play meaning ray flags st (filter (plays_in st) fs) ≡ play meaning ray flags st fs
  play-kept fs = leaves (plays_in st) meaning ray flags st fs (λ k d below fails. fails)

  -- two lists play alike, in order of keys, where they have the same members but for what is passed over
  pub play-same : (fs gs : List Found) → AreApart fs → AreApart gs
      → ((f : Found) → plays_in st f ≡ true → Member f fs → Member f gs) → ((f : Found) → plays_in st f ≡ true → Member f gs → Member f fs)
      → play meaning ray flags st (in_key_order fs) ≡ play meaning ray flags st (in_key_order gs)
  play-same fs gs apart_f apart_g forth back =
      sym (play-kept (in_key_order fs)) ∙
      (ap (play meaning ray flags st) (in_key_order-kept (plays_in st) fs gs apart_f apart_g forth back) ∙ play-kept (in_key_order gs))

-- ---- where it commits: at a distance of the candidate's or beyond

choose : (P : QueryState → Type 0) (b : Bool) (x y : QueryState) → (b ≡ true → P x) → P y → P (if b then x else y)
choose P true x y p q = p refl
choose P false x y p q = q

first_of : (a b : Bool) → (a && b) ≡ true → a ≡ true
first_of true b p = refl
first_of false b p = p

module _ (m : Ratio) where
  -- the committed distance isn't before m
  abbrev pub IsReached : QueryState → Type 0
  IsReached st = is_within (distance_of st.committed) m ≡ true

  abbrev IsAtMost : Frac → Type 0
  IsAtMost t = is_le (ratio_cmp m (ratio_of t)) ≡ true

  reached-committed_at : (flags : RayFlags) (f : Found) (t : Frac) (st : QueryState) → IsAtMost t → IsReached st → IsReached (committed_at flags f t st)
  reached-committed_at flags f t st at reached = choose IsReached (counts f t st) _ st (λ yes_. at) reached

  reached-generated_at : (flags : RayFlags) (f : Found) (t : Frac) (st : QueryState) → IsAtMost t → IsReached st → IsReached (generated_at flags f t st)
  reached-generated_at flags f t st at reached =
      choose IsReached (is_triangle f.kind) st (committed_at flags f t st) (λ yes_. reached) (reached-committed_at flags f t st at reached)

  reached-decided : (flags : RayFlags) (f : Found) (d : Decision) (st : QueryState) → IsAtMost f.t → IsInOrder f → IsReached st
      → IsReached (decided flags f d st)
  reached-decided flags f Ignore st at order reached = reached
  reached-decided flags f Confirm st at order reached =
      choose IsReached (is_triangle f.kind) (committed_at flags f f.t st) st (λ yes_. reached-committed_at flags f f.t st at reached) reached
  reached-decided flags f GenerateEntry st at order reached = reached-generated_at flags f f.t st at reached
  reached-decided flags f GenerateExit st at order reached =
      reached-generated_at flags f f.exit st (ratio_le-chain m (ratio_of f.t) (ratio_of f.exit) at order) reached
  reached-decided flags f (GenerateAt t) st at order reached =
      choose IsReached (is_in_span f t) (generated_at flags f t st) st
      (λ in_. reached-generated_at flags f t st
      (ratio_le-chain m (ratio_of f.t) (ratio_of t) at (first_of (is_le (frac_cmp f.t t)) (is_le (frac_cmp t f.exit)) in_)) reached)
      reached
  reached-decided flags f Terminate st at order reached = reached
  reached-decided flags f ConfirmTerminate st at order reached =
      choose IsReached (is_triangle f.kind) _ st (λ yes_. reached-committed_at flags f f.t st at reached) reached

  pub reached-play_one : (meaning : Candidate → Decision) (ray : ℕ) (flags : RayFlags) (st : QueryState) (f : Found)
      → IsAtMost f.t → IsInOrder f → IsReached st → IsReached (play_one meaning ray flags st f)
  reached-play_one meaning ray flags st f at order reached =
      choose IsReached st.over st _ (λ yes_. reached)
      (choose IsReached (counts f f.t st) _ st
      (λ yes_. choose IsReached (commits_unasked f) (committed_at flags f f.t st) (decided flags f (meaning (candidate_of ray st f)) (offered st))
      (λ unasked. reached-committed_at flags f f.t st at reached)
      (reached-decided flags f (meaning (candidate_of ray st f)) (offered st) at order reached))
      reached)
