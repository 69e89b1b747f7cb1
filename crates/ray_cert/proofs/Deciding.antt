-- A certificate supports its hit exactly where its strings give what is found, and the play of that commits what it names.
use Rattle.std.proofs.Common.{◌≡◌, ◌∙◌, sym, ap, subst, ℕ, Bool, false, List, [], Option, Some, None, option_map}
use Rattle.std.specs.Prelude.{IfSome, IsTrue, ◌↔◌}
use Rattle.ray_geom.specs.declared.ratio.Ratio.{Ratio}
use Rattle.ray_flags.specs.declared.ray_flags.RayFlags.{RayFlags}
use Rattle.ray_query.specs.declared.candidate.Candidate.{Candidate}
use Rattle.ray_query.specs.declared.commit.Commit.{Commit}
use Rattle.ray_query.specs.declared.decision.Decision.{Decision}
use Rattle.ray_query.specs.declared.found.Found.{Found}
use Rattle.ray_query.specs.KeyOrder.{AreApart, in_key_order}
use Rattle.ray_query.specs.Machine.{QueryValue, query_of}
use Rattle.ray_query.specs.Play.{play, start}
use Rattle.ray_cert.specs.declared.named.Named.{Named}
use Rattle.ray_cert.specs.Certificates.{CertValue, SupportsOver, limit_of, name_of, tested_in}
use Rattle.ray_cert.specs.Checking.{gathered_from}
use Rattle.ray_cert.specs.Parts.{Part}
use Rattle.ray_cert.proofs.Marked.{AreCutWith, cuts-gathered, gathered-cuts}
use Rattle.ray_cert.proofs.TestedUpTo.{all_in, tested-apart}

some_same : {X : Type 0} (x y : X) → Some x ≡ Some y → x ≡ y
some_same x y e = cc

pub told-gathered : (end limit : Ratio) (named : Option Named) (cert : CertValue) (ps : List Part) (strings : List (List Bool)) (o : Option (List Found))
    → named ≡ cert.named → limit ≡ limit_of end named → strings ≡ cert.strings → o ≡ gathered_from limit [] ps strings
    → gathered_from (limit_of end cert.named) [] ps cert.strings ≡ o
told-gathered end limit named cert ps strings o names limits same told =
    let limit_is : limit ≡ limit_of end cert.named = limits ∙ ap (limit_of end) names in
    sym (told ∙ (λ i. gathered_from (limit_is i) [] ps (same i)))

module _ (meaning : Candidate → Decision) (number : ℕ) (flags : RayFlags) (end : Ratio) (ps : List Part) (cert : CertValue) where
  -- where the strings give nothing
  pub none-supports : gathered_from (limit_of end cert.named) [] ps cert.strings ≡ None → SupportsOver meaning number flags end ps cert → ⊥
  none-supports none s = let some = cuts-gathered (limit_of end cert.named) [] ps s.cuts cert.strings s.cut in absurd (cc (none, some))

  pub none-exact : gathered_from (limit_of end cert.named) [] ps cert.strings ≡ None → IsTrue false ↔ SupportsOver meaning number flags end ps cert
  none-exact none = (λ t. absurd (cc), λ s. absurd (none-supports none s))

  -- where they give something
  module _ (fs : List Found) (some : gathered_from (limit_of end cert.named) [] ps cert.strings ≡ Some fs) where
    cut_with : AreCutWith (limit_of end cert.named) [] ps cert.strings fs
    cut_with = subst (λ o. IfSome o (AreCutWith (limit_of end cert.named) [] ps cert.strings)) some (gathered-cuts (limit_of end cert.named) [] ps cert.strings)

    pub gathered-apart : AreApart (all_in ps) → AreApart fs
    gathered-apart apart = subst AreApart (sym cut_with.found) (tested-apart ps cut_with.cuts apart)

    pub some-supports : (b : Bool) → IsTrue b ↔ (option_map name_of (play meaning number flags start (in_key_order fs)).committed ≡ cert.named)
        → IsTrue b ↔ SupportsOver meaning number flags end ps cert
    some-supports b decides = (
      λ yes_. record {
        cuts = cut_with.cuts;
        cut = cut_with.are;
        commits = ap (λ gs. option_map name_of (play meaning number flags start (in_key_order gs)).committed) (sym cut_with.found) ∙ decides.0 yes_;
      },
      λ s.
          let same : fs ≡ tested_in ps s.cuts =
          some_same fs (tested_in ps s.cuts) (sym some ∙ cuts-gathered (limit_of end cert.named) [] ps s.cuts cert.strings s.cut) in
          decides.1 (ap (λ gs. option_map name_of (play meaning number flags start (in_key_order gs)).committed) same ∙ s.commits),
    )

    -- by what was compared
    pub some-supports-as : (b : Bool) (name named : Option Named) → name ≡ option_map name_of (play meaning number flags start (in_key_order fs)).committed
        → named ≡ cert.named → IsTrue b ↔ (name ≡ named) → IsTrue b ↔ SupportsOver meaning number flags end ps cert
    some-supports-as b name named played is decides =
        some-supports b (λ t. sym played ∙ (decides.0 t ∙ is), λ same. decides.1 (played ∙ (same ∙ sym is)))

-- what a query that played these committed
pub named-played : (meaning : Candidate → Decision) (number : ℕ) (flags : RayFlags) (query after : QueryValue) (ordered slice found : List Found)
    (committed : Option Commit) (named : Option Named) → query ≡ query_of number flags → ordered ≡ in_key_order found → slice ≡ ordered
    → after ≡ record query { state = play meaning query.ray query.flags query.state slice } → committed ≡ after.state.committed
    → named ≡ option_map name_of committed → named ≡ option_map name_of (play meaning number flags start (in_key_order found)).committed
named-played meaning number flags query after ordered slice found committed named begun sorted lent done told is =
    let all : slice ≡ in_key_order found = lent ∙ sorted in
    is ∙ ap (option_map name_of) (told ∙ (ap (λ (q : QueryValue). q.state.committed) done
    ∙ (λ i. (play meaning (begun i).ray (begun i).flags (begun i).state (all i)).committed)))
