-- The formats of a vertex, and how many bytes each takes.
use Rattle.std.specs.Prelude.{ℕ}
use Rattle.ray_bytes.specs.declared.format.Format.{Format}
use Rattle.ray_bytes.specs.declared.format.Format.TheVariants.{S32x3, S32x2, S16x3}

-- how many bytes a vertex of a format has
abbrev pub vertex_size : Format → ℕ
vertex_size S32x3 = 12
vertex_size S32x2 = 8
vertex_size S16x3 = 6

-- how many bytes a component of a format has
abbrev pub component_size : Format → ℕ
component_size S32x3 = 4
component_size S32x2 = 4
component_size S16x3 = 2
