-- What the views of a buffer's bytes are made of.
use Rattle.std.specs.Prelude.{ℕ, Bool, List}
use Rattle.ray_bytes.specs.declared.format.Format.{Format}

-- vertices of a format from a place on, a stride apart
pub record Vertices : Type 0 where
  pub bytes : List ℕ
  pub start : ℕ
  pub stride : ℕ
  pub format : Format

-- indices from a place on: of 32 bits where wide, else of 16
pub record Indices : Type 0 where
  pub bytes : List ℕ
  pub start : ℕ
  pub wide : Bool

-- boxes from a place on, a stride apart
pub record Boxes : Type 0 where
  pub bytes : List ℕ
  pub start : ℕ
  pub stride : ℕ

-- records of one size from a place on, one after the other
pub record Row : Type 0 where
  pub bytes : List ℕ
  pub start : ℕ
