-- What a build of a top structure gives, by the memory as it is. (Own.)
use Rattle.std.specs.Prelude.{ℕ, List, Option}
use Rattle.std.specs.Option.{option_and_then}
use Rattle.ray_geometries.specs.Contents as bottoms
use Rattle.ray_top.specs.declared.used.Used.{Used}
use Rattle.ray_rules.specs.declared.byte_range.ByteRange.{ByteRange}
use Rattle.ray_action.specs.Memory.{Memory, ContentsAt, as_bottom}
use Rattle.ray_action.specs.Building.{bytes_of}
use Rattle.ray_action.specs.Seeing.{see_range}

-- a structure that instances may refer to, with its bounds as they are
abbrev pub used_now : Memory → ℕ → Used
used_now memory id = record {
  id = id;
  bounds = option_and_then (λ (b : bottoms.ContentsValue). bottoms.bounds_of b.geometries) (option_and_then as_bottom (memory (ContentsAt id)));
}

-- the bytes of a range that is read, and none of one that isn't
abbrev pub bytes_now : Memory → Option ByteRange → List ℕ
bytes_now memory r = bytes_of (see_range memory r)

abbrev pub read_bytes : Option (Option (List ℕ)) → List ℕ
read_bytes r = bytes_of r
