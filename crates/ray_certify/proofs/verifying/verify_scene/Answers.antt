use Rattle.ray_script.specs.Meaning.{script_decision}
use Rattle.ray_certify.specs.Scenes.{seen_in}
use Rattle.ray_certify.proofs.Verdicts.{goes_first, goes_next}
use Rattle.ray_certify.proofs.verifying.verify_scene.Goals as goal

pub loop-number-init : goal.loop-number-init
loop-number-init c =
    let scene = c.args.scene.now in
    goes_first c.args.lines.now scene.way (script_decision scene.script) (seen_in scene.seen) c.args.checked

pub loop-number-preserved : goal.loop-number-preserved
loop-number-preserved c =
    let scene = c.args.scene.now in
    goes_next c.args.lines.now scene.way (script_decision scene.script) (seen_in scene.seen) c.loop-number.number c.args.checked c.loop-number.checked _
    c.loop-number.invariant c.in_ok-checked.ensures
