use Rattle.ray_script.specs.Meaning.{script_decision}
use Rattle.ray_certify.specs.Scenes.{GoesOn, scene_rays}
use Rattle.ray_certify.proofs.verifying.verify_scene.Given as goal

-- the lines of the rays so far were looked at
abbrev pub invariant-loop-number : goal.invariant-loop-number
invariant-loop-number l = GoesOn l.fn.lines (scene_rays l.fn.scene l.number) l.initial.checked l.checked
