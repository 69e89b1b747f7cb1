use Rattle.std.proofs.Common.{◌∙◌, ap, refl, sym}
use Rattle.ray_geom.specs.Ratio.{parts_of}
use Rattle.ray_geom.proofs.Ratios.{ratio_at-is}
use Rattle.ray_cert.specs.Certificates.{limit_of}
use Rattle.ray_cert.proofs.checking.limit_of.Goals as goal

pub returns-in-None : goal.returns-in-None
returns-in-None c =
    let tmax = c.args.ray.now.tmax in
    ratio_at-is c.part.result tmax 65536 (c.part.ensures.num ∙ c.tmax.ensures.value) c.part.ensures.den
    ∙ (sym (ratio_at-is (parts_of tmax) tmax 65536 refl refl) ∙ sym (ap (limit_of (parts_of tmax)) c.in-None.is))
