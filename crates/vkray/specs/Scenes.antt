-- The recording of a made-up scene. (Own.)
use Rattle.std.specs.Prelude.{ℕ, List}
use Rattle.ray_scene.specs.Recording.{scene_text}
use Rattle.vkray.specs.declared.request.Scene.{Scene}

-- its text
abbrev pub text_of_scene : Scene → List ℕ
text_of_scene scene = scene_text scene.side scene.layers scene.rays
