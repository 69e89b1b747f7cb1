use Rattle.std.proofs.Common.{◌≡◌, ◌∙◌, ap, arith, length, option_and_then, option_copied, subst, sym}
use Rattle.ray_top.specs.Trees.{without_tree}
use Rattle.ray_candidates.specs.Candidates.{joined}
use Rattle.ray_candidates.proofs.Joined.{joined-zero, joined_first}
use Rattle.ray_cert.specs.Checking.{strings_by}
use Rattle.ray_cert.specs.Parts.{placement_at, placement_of}
use Rattle.ray_cert.specs.Certificates.{Supports}
use Rattle.ray_cert.proofs.AllFound.{IsGiven, made-supports}
use Rattle.ray_cert.proofs.Made.{is-made}
use Rattle.ray_cert.proofs.StringsRead.{stated-for}
use Rattle.ray_cert.proofs.making.make_cert.Goals as goal

pub loop-number-init : goal.loop-number-init
loop-number-init g c = record { value = c.new-strings.ensures.items ∙ sym (joined-zero _); rising = omega arith }

pub add_string-requires : goal.add_string-requires
add_string-requires g c =
    stated-for c.args.top.now.contents c.args.stated.now.bottoms.now c.args.stated.now.trees.now c.loop-number.number (option_copied c.active_instance-instance.result)
    c.requires.stated c.active_instance-instance.ensures.value

pub loop-number-preserved : goal.loop-number-preserved
loop-number-preserved g c = record {
  value = joined_first _ _ _ _ _ c.loop-number.invariant.value
      (ap (λ o. strings_by c.limit_of-limit.result c.args.ray.now (option_and_then (placement_of c.args.stated.now.bottoms.now c.args.mask) o)) c.active_instance-instance.ensures.value)
      c.in_ok-add_string.ensures.value;
  rising = omega arith;
}

pub returns-clause-exact : goal.returns-clause-exact
returns-clause-exact g c =
    let a = c.args in
    let l = c.loop-number in
    let end : l.number ≡ length a.top.now.contents.instances = omega arith in
    is-made a.top.now.contents a.stated.now.bottoms.now a.ray.now a.mask a.commit c.new.result c.name_of-named.result c.limit_of-limit.result l.strings.items
    c.new.ensures c.name_of-named.ensures c.limit_of-limit.ensures
    (l.invariant.value ∙ ap (joined (λ n. strings_by c.limit_of-limit.result a.ray.now (placement_at a.top.now.contents a.stated.now.bottoms.now a.mask n))) end)

pub returns-clause-supported : goal.returns-clause-supported
returns-clause-supported g c =
    let a = c.args in
    let l = c.loop-number in
    let end : l.number ≡ length a.top.now.contents.instances = omega arith in
    let made = is-made a.top.now.contents a.stated.now.bottoms.now a.ray.now a.mask a.commit c.new.result c.name_of-named.result c.limit_of-limit.result l.strings.items
    c.new.ensures c.name_of-named.ensures c.limit_of-limit.ensures
    (l.invariant.value ∙ ap (joined (λ n. strings_by c.limit_of-limit.result a.ray.now (placement_at a.top.now.contents a.stated.now.bottoms.now a.mask n))) end) in
    let given : IsGiven (without_tree a.top.now) a.stated.now.bottoms.now a.ray.now = record {
      limits = c.len-limits.ensures.limits;
      standing = c.requires.standing;
      sound = c.sound.ensures;
      is_ray = c.tmax-most.ensures.limits;
    } in
    λ meaning number flags is.
    subst (Supports meaning a.top.now.contents a.stated.now.bottoms.now a.ray.now number flags a.mask) (sym (made flags))
    (made-supports (without_tree a.top.now) a.stated.now.bottoms.now a.ray.now flags a.mask given meaning number a.commit is)
