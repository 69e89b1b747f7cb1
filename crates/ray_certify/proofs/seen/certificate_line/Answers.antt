use Rattle.std.proofs.Common.{◌≡◌, refl, subst, ap, ◌∙◌}
use Rattle.std.specs.Prelude.{IfOk}
use Rattle.ray_cert.specs.Certificates.{CertValue}
use Rattle.ray_cert.specs.Spelling.{IsHitSmall, line_of}
use Rattle.ray_certify.specs.Certified.{certificate_of}
use Rattle.ray_certify.specs.Scenes.{ray_seen, ray_through}
use Rattle.ray_certify.proofs.Lines.{on_ok}
use Rattle.ray_certify.proofs.PartsSame.{made_same, made_supports}
use Rattle.ray_certify.proofs.seen.certificate_line.Goals as goal

pub returns-clause-line : goal.returns-clause-line
returns-clause-line g c =
    let a = c.args in
    let inputs = a.seen.now.inputs in
    let meaning = g.C.Client.meaning a.client.now in
    let same = made_same inputs.top.now.contents inputs.bottoms.now a.ray.now a.way.flags a.way.mask a.number meaning c.in_ok-commit.commit c.in_ok-cert.cert
    c.in_ok-commit.ensures.answer c.in_ok-cert.ensures.exact in
    subst (λ (k : CertValue). IfOk c.write_cert.result (λ line. line.items ≡ line_of a.way.command a.number k)) same c.write_cert.ensures

pub returns-clause-certifies : goal.returns-clause-certifies
returns-clause-certifies g c =
    let a = c.args in
    let inputs = a.seen.now.inputs in
    let meaning = g.C.Client.meaning a.client.now in
    let r = ray_through a.way a.number meaning a.seen.now in
    let s = ray_seen a.seen.now a.ray.now in
    let same = made_same inputs.top.now.contents inputs.bottoms.now a.ray.now a.way.flags a.way.mask a.number meaning c.in_ok-commit.commit c.in_ok-cert.cert
    c.in_ok-commit.ensures.answer c.in_ok-cert.ensures.exact in
    on_ok c.write_cert.result (record {
      cert = certificate_of r s;
      small = record {
        command_small = c.has_small_number.ensures;
        ray_small = c.ranges.number.fits;
        hit_small = subst IsHitSmall (c.named.ensures ∙ ap (λ (k : CertValue). k.named) same) c.has_small_numbers.ensures;
      };
      spelled = refl;
      supports =
          made_supports inputs.top.now.contents inputs.bottoms.now a.ray.now a.way.flags a.way.mask a.number meaning c.in_ok-commit.commit c.in_ok-cert.cert
          c.in_ok-commit.ensures.answer c.in_ok-cert.ensures.exact c.in_ok-cert.ensures.supported;
    })
