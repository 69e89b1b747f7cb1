-- A hit as it is stored: 80 bytes, little-endian. (Own: the layout; the fields are those that a
-- Vulkan ray query reports of its committed intersection.)
use Rattle.std.specs.Prelude.{ℕ, List, [], ◌∷◌, ◌++◌}
use Rattle.std.specs.List.{flat_map}
use Rattle.byteorder.specs.Endian.{little_bytes}
use Rattle.ray_bytes.specs.declared.hit_record.HitRecord.{HitRecord}
use Rattle.ray_bytes.specs.Fields.{word_at, long_at}

-- the eight words of a hit, in order
abbrev pub hit_words : HitRecord → List ℕ
hit_words h = h.kind ∷ h.instance ∷ h.custom ∷ h.sbt ∷ h.geometry ∷ h.primitive ∷ h.face ∷ h.spare ∷ []

-- its numerators and denominators, in order
abbrev pub hit_numbers : HitRecord → List ℕ
hit_numbers h = h.t.0 ∷ h.t.1 ∷ h.u.0 ∷ h.u.1 ∷ h.v.0 ∷ h.v.1 ∷ []

-- the hit that stands for a miss: all zero
abbrev pub miss : HitRecord
miss = record {
  kind = 0;
  instance = 0;
  custom = 0;
  sbt = 0;
  geometry = 0;
  primitive = 0;
  face = 0;
  spare = 0;
  t = (0, 0);
  u = (0, 0);
  v = (0, 0);
}

-- the 80 bytes of a hit: eight words, then six 64-bit numbers
abbrev pub hit_bytes : HitRecord → List ℕ
hit_bytes h = flat_map (little_bytes 4) (hit_words h) ++ flat_map (little_bytes 8) (hit_numbers h)

-- the hit that stands in 80 bytes
abbrev pub hit_of_bytes : List ℕ → HitRecord
hit_of_bytes bytes = record {
  kind = word_at bytes 0;
  instance = word_at bytes 4;
  custom = word_at bytes 8;
  sbt = word_at bytes 12;
  geometry = word_at bytes 16;
  primitive = word_at bytes 20;
  face = word_at bytes 24;
  spare = word_at bytes 28;
  t = (long_at bytes 32, long_at bytes 40);
  u = (long_at bytes 48, long_at bytes 56);
  v = (long_at bytes 64, long_at bytes 72);
}
