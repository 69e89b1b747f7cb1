-- What an update may not change of a primitive: whether it is active (X9), and the index values of a triangle (X10).
-- (Vulkan: the valid usage of vkCmdBuildAccelerationStructuresKHR for updates.)
use Rattle.std.specs.Prelude.{ℕ, ◌==◌, ◌&&◌, Bool, if◌then◌else◌, Result, Ok, Err, Option, Some, None, List, slice_get, is_some}
use Rattle.std.specs.Bool.{beq}
use Rattle.ray_geom.specs.Boxes.{BoxValue}
use Rattle.ray_bytes.specs.declared.data_rule.DataRule.{DataRule}
use Rattle.ray_bytes.specs.declared.data_rule.DataRule.TheVariants.{X9, X10}
use Rattle.ray_primitives.specs.declared.index_values.IndexValues.{IndexValues}
use Rattle.ray_primitives.specs.Primitives.{TriangleValue}

-- the primitive of this number in the structure that is updated, where there is one
abbrev pub old_at : {X : Type 0} → Option (List X) → ℕ → Option X
old_at None i = None
old_at (Some olds) i = slice_get olds i

-- whether index values are the same
abbrev pub same_indices : IndexValues → IndexValues → Bool
same_indices a b = ((a.first == b.first) && (a.second == b.second)) && (a.third == b.third)

-- a triangle, or the least rule that it breaks as an update of another
abbrev pub triangle_after : Option TriangleValue → TriangleValue → Result TriangleValue DataRule
triangle_after None t = Ok t
triangle_after (Some old) t =
    if beq (is_some old.tri) (is_some t.tri)
    then (if same_indices old.indices t.indices then Ok t else Err X10)
    else Err X9

-- a box, or the rule that it breaks as an update of another
abbrev pub box_after : Option (Option BoxValue) → Option BoxValue → Result (Option BoxValue) DataRule
box_after None box = Ok box
box_after (Some old) box = if beq (is_some old) (is_some box) then Ok box else Err X9
