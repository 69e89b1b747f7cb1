use Rattle.std.proofs.Common.{◌++◌, ◌∙◌, ap, sym}
use Rattle.std.specs.Prelude.{codes, option_map}
use Rattle.ray_certify.specs.Scenes.{ray_seen, ray_through}
use Rattle.ray_certify.proofs.Lines.{adds_none, adds_one, on_ok_to}
use Rattle.ray_certify.proofs.certifying.certify_ray.Goals as goal

pub returns-in-None : goal.returns-in-None
returns-in-None g c =
    let a = c.args in
    adds_none (ray_through a.way a.number (g.C.Client.meaning a.client.now) a.seen.now) a.lines.now.items
    (ap (option_map (ray_seen a.seen.now)) (sym c.ray_at.ensures ∙ c.in-None.is))

pub returns-in_ok-line-in-Some : goal.returns-in_ok-line-in-Some
returns-in_ok-line-in-Some g c =
    let a = c.args in
    let r = ray_through a.way a.number (g.C.Client.meaning a.client.now) a.seen.now in
    let s = ray_seen a.seen.now c.in-Some.ray in
    on_ok_to c.add_line.result
    (λ added. adds_one r s a.lines.now.items c.add_line.new.lines.items
    (ap (option_map (ray_seen a.seen.now)) (sym c.ray_at.ensures ∙ c.in-Some.is))
    (added ∙ ap (λ l. a.lines.now.items ++ (l ++ codes "\n")) (c.as_slice.ensures.value ∙ c.in_ok-line-in-Some.ensures.line))
    c.in_ok-line-in-Some.ensures.certifies)
    c.add_line.ensures
