-- A path as the text of a JSON pointer (RFC 6901). (Own: a `/` or a `~` within a name stands as it is.)
use Rattle.std.specs.Prelude.{ℕ, List, [], ◌∷◌, ◌++◌, codes, decimal, string_bytes}
use Rattle.ray_shape.specs.declared.wrong.Step.{Step}
use Rattle.ray_shape.specs.declared.wrong.Step.TheVariants as steps

-- one step: a slash, and the name or the number
abbrev pub token_of : Step → List ℕ
token_of (steps.Member name) = codes "/" ++ string_bytes name
token_of (steps.Item number) = codes "/" ++ decimal number

-- one step after the other
abbrev pub pointer_of : List Step → List ℕ
pointer_of [] = []
pointer_of (s ∷ path) = token_of s ++ pointer_of path
