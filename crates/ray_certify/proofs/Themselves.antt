-- Lines that certify their rays are certified, where there is one for each ray.
use Rattle.std.proofs.Common.{ℕ, zero, suc, ◌≡◌, ◌+◌, ◌≤◌, ◌++◌, List, [], ◌∷◌, length, map, Option, Some, None, refl, ap, sym, subst, ◌∙◌, inl, arith, rules}
use Rattle.std.specs.Prelude.{IfSome, IsSome}
use Rattle.ray_cmd.specs.declared.command.Command.{Command}
use Rattle.ray_cmd.specs.declared.command.Command.TheVariants as commands
use Rattle.ray_candidates.specs.Candidates.{joined}
use Rattle.ray_action.specs.Clients.{Meaning}
use Rattle.ray_action.specs.Pieces.{command_at}
use Rattle.ray_memory.specs.Tracing.{TraceSeen}
use Rattle.ray_permitted.specs.Job.{Job}
use Rattle.ray_certify.specs.declared.verdict.Verdict.TheVariants.{Certified}
use Rattle.ray_certify.specs.declared.way.Way.{Way}
use Rattle.ray_certify.specs.Certified.{CertifyThemselves, certificate_lines, certificate_of, line_for, lines_with}
use Rattle.ray_certify.specs.Rays.{SeenRay, TracedRay, count_of, first_rays, ray_count, rays_at, rays_below, rays_of, traced_ray}
use Rattle.ray_certify.specs.Verified.{IsCertifiedBy, IsCertifiedIn, IsVerdict, NameAnswers, NamesAnswerIn}

-- each ray is there
abbrev pub AllSeen : List TracedRay → Type 0
AllSeen [] = Unit {0}
AllSeen (r ∷ rays) = IsSome r.seen × AllSeen rays

-- the verdict on their lines, and what these name
pub themselves_certified : (rays : List TracedRay) → CertifyThemselves rays → AllSeen rays → IsVerdict rays (certificate_lines rays) Certified × NameAnswers rays (certificate_lines rays)
themselves_certified [] certify seen = (refl, tt)
themselves_certified (r ∷ rays) certify seen = by_seen certify.0 seen.0 (themselves_certified rays certify.1 seen.1) r.seen refl
  where
    by_seen : IfSome r.seen (λ s. IsCertifiedBy r s (line_for r s)) → IsSome r.seen → IsVerdict rays (certificate_lines rays) Certified × NameAnswers rays (certificate_lines rays) → (o : Option SeenRay) → r.seen ≡ o → IsVerdict (r ∷ rays) (certificate_lines (r ∷ rays)) Certified × NameAnswers (r ∷ rays) (certificate_lines (r ∷ rays))
    by_seen certified there rest None is = absurd (let some : IsSome {T = SeenRay} None = subst (λ (o : Option SeenRay). IsSome o) is there in cc)
    by_seen certified there rest (Some s) is =
        let lines : certificate_lines (r ∷ rays) ≡ line_for r s ∷ certificate_lines rays = ap (λ o. lines_with r o ++ certificate_lines rays) is in
        let one : IsCertifiedBy r s (line_for r s) = subst (λ o. IfSome o (λ x. IsCertifiedBy r x (line_for r x))) is certified in (
          subst (λ ls. IsVerdict (r ∷ rays) ls Certified) (sym lines) (inl (subst (λ o. IsCertifiedIn r o (line_for r s)) (sym is) one, rest.0)),
          subst (NameAnswers (r ∷ rays)) (sym lines)
              (subst (λ o. NamesAnswerIn r o (line_for r s)) (sym is) (record { cert = certificate_of r s; spelled = refl; names = refl }), rest.1),
        )

-- ---- how many

some_there : (s : SeenRay) → IsSome (Some s)
some_there s = search rules

pub length-both : {X : Type 0} (a b : List X) → length (a ++ b) ≡ length a + length b
length-both [] b = omega arith
length-both (x ∷ a) b = let more = length-both a b in omega (arith, more)

few_with : (r : TracedRay) (o : Option SeenRay) → length (lines_with r o) ≤ 1
few_with r None = omega arith
few_with r (Some s) = omega arith

few_lines : (rays : List TracedRay) → length (certificate_lines rays) ≤ length rays
few_lines [] = omega arith
few_lines (r ∷ rays) =
    let both = length-both (lines_with r r.seen) (certificate_lines rays) in
    let one = few_with r r.seen in
    let rest = few_lines rays in
    omega (arith, both, one, rest)

-- where there are as many lines as rays each is there
as_many : (rays : List TracedRay) → length (certificate_lines rays) ≡ length rays → AllSeen rays
as_many [] same = tt
as_many (r ∷ rays) same = by_seen (λ more. as_many rays more) r.seen refl
  where
    by_seen : (length (certificate_lines rays) ≡ length rays → AllSeen rays) → (o : Option SeenRay) → r.seen ≡ o → AllSeen (r ∷ rays)
    by_seen rest None is =
        let none : length (certificate_lines rays) ≡ suc (length rays) = sym (ap (λ o. length (lines_with r o ++ certificate_lines rays)) is) ∙ same in
        let few = few_lines rays in
        absurd (omega (arith, none, few))
    by_seen rest (Some s) is =
        let some : suc (length (certificate_lines rays)) ≡ suc (length rays) = sym (ap (λ o. length (lines_with r o ++ certificate_lines rays)) is) ∙ same in
        (subst (λ (o : Option SeenRay). IsSome o) (sym is) (some_there s), rest (omega (arith, some)))

first_count : (way : Way) (meaning : Meaning) (seen : Option TraceSeen) (n : ℕ) → length (first_rays way meaning seen n) ≡ n
unfolding joined
first_count way meaning seen zero = refl
first_count way meaning seen (suc n) =
    let both = length-both (first_rays way meaning seen n) (traced_ray way meaning seen n ∷ []) in
    let before = first_count way meaning seen n in
    omega (arith, both, before)

command_count : (i : ℕ) (meaning : Meaning) (seen : Option TraceSeen) (c : Command) → length (rays_of i meaning seen c) ≡ count_of c
command_count i meaning seen (commands.Buffer id size usage content) = refl
command_count i meaning seen (commands.Structure id kind buffer offset size) = refl
command_count i meaning seen (commands.Destroy what id) = refl
command_count i meaning seen (commands.Sizes kind counts) = refl
command_count i meaning seen commands.Begin = refl
command_count i meaning seen commands.End = refl
command_count i meaning seen commands.Submit = refl
command_count i meaning seen commands.Wait = refl
command_count i meaning seen (commands.Read buffer offset size form) = refl
command_count i meaning seen (commands.Update buffer offset content) = refl
command_count i meaning seen (commands.Fill buffer offset size value) = refl
command_count i meaning seen (commands.Copy src dst regions) = refl
command_count i meaning seen (commands.Build infos) = refl
command_count i meaning seen (commands.CopyStructure mode src dst) = refl
command_count i meaning seen (commands.Serialize src dst form) = refl
command_count i meaning seen (commands.Deserialize src dst uses) = refl
command_count i meaning seen (commands.Property what structures dst) = refl
command_count i meaning seen (commands.Barrier src_stages src_access dst_stages dst_access buffers) = refl
command_count i meaning seen (commands.Trace top rays count hits flags mask script) = first_count _ meaning seen count

rays_count : (job : Job) (n : ℕ) → length (rays_below job n) ≡ ray_count job.commands n
unfolding joined ray_count
rays_count job zero = refl
rays_count job (suc n) =
    let both = length-both (rays_below job n) (rays_at job n) in
    let before = rays_count job n in
    let one = command_count n (job.clients n) _ (command_at job.commands n) in
    both ∙ (ap (λ k. k + length (rays_at job n)) before ∙ ap (λ k. ray_count job.commands n + k) one)

pub all_seen : (job : Job) (n : ℕ) → length (certificate_lines (rays_below job n)) ≡ ray_count job.commands n → AllSeen (rays_below job n)
all_seen job n same = as_many (rays_below job n) (same ∙ sym (rays_count job n))
