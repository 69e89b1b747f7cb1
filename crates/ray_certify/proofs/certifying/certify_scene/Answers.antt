use Rattle.std.proofs.Common.{Option, subst, sym}
use Rattle.ray_script.specs.Meaning.{script_decision}
use Rattle.ray_certify.specs.declared.seen.Seen.{Seen}
use Rattle.ray_certify.specs.Rays.{first_rays}
use Rattle.ray_certify.specs.Scenes.{Adds, seen_in}
use Rattle.ray_certify.proofs.Lines.{adds_unseen}
use Rattle.ray_certify.proofs.certifying.certify_scene.Goals as goal

pub returns-in-None : goal.returns-in-None
returns-in-None c =
    let scene = c.args.scene.now in
    subst (λ (o : Option Seen). Adds (first_rays scene.way (script_decision scene.script) (seen_in o) scene.count) c.args.lines.now.items c.args.lines.now.items) (sym c.in-None.is)
    (adds_unseen scene.way (script_decision scene.script) scene.count c.args.lines.now.items)
