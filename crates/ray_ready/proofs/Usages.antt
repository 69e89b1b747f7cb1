-- Buffers that keep their bytes, by the usages that rule V3 asks of them.
use Rattle.std.proofs.Common.{◌≡◌, ℕ, Bool, true, false, Option, Some, None, refl, ◌∙◌, ap, inl, inr}
use Rattle.std.proofs.lemmas.Bool.{cases_eq, ne_eqb}
use Rattle.std.specs.Prelude.{◌||◌, ◌==◌, not, IfSome, if◌then◌else◌, [], ◌∷◌}
use Rattle.std.specs.Option.{option_map, option_map_or}
use Rattle.ray_cmd.specs.declared.geometry.Geometry.{Geometry}
use Rattle.ray_cmd.specs.declared.geometry.Geometry.TheVariants as geometries
use Rattle.ray_cmd.specs.declared.index.Index.{Index}
use Rattle.ray_cmd.specs.declared.spot.Spot.{Spot}
use Rattle.ray_bytes.specs.declared.format.Format.{Format}
use Rattle.ray_flags.specs.Flags.{UsageFlag, Input, has_bits, usage_bits, usage_has}
use Rattle.ray_flags.specs.declared.usage.Usage.{Usage}
use Rattle.ray_rules.specs.declared.byte_range.ByteRange.{ByteRange}
use Rattle.ray_rules.specs.declared.live_buffer.LiveBuffer.{LiveBuffer}
use Rattle.ray_rules.specs.Buffers.{is_alone, is_private, is_private_at, lacks_index_usage, lacks_input_usage, lacks_transform_usage, lacks_usage}
use Rattle.ray_rules.specs.Ids.{Ids, look}
use Rattle.ray_rules.specs.Ranges.{boxes_range, index_range, inputs_read, inputs_with, instances_range, transform_range, vertices_read}
use Rattle.ray_rules.specs.Status.{Status}
use Rattle.ray_rules.proofs.Kept.{neither_first, neither_second}
use Rattle.ray_ready.proofs.Ties.{keeps_bytes, keeps_bytes_at}
use Rattle.ray_ready.proofs.Allowed.{AreKeptIn}

-- ---- usages

-- what is so of the bits of scratch memory and of those of structures is so of a usage that is one of them alone
alone_is : (test : ℕ → Bool) (u : Usage) (b : Bool) → test 16 ≡ b → test 32 ≡ b → is_alone u ≡ true → test u.0 ≡ b
alone_is test u b scratch structure alone = elim (cases_eq u.0 16) [
  | inl e ↦ ap test e ∙ scratch
  | inr differs ↦ elim (cases_eq u.0 32) [
    | inl e ↦ ap test e ∙ structure
    | inr other ↦
        let first : (u.0 == 16) ≡ false = ne_eqb u.0 16 differs in
        let second : (u.0 == 32) ≡ false = ne_eqb u.0 32 other in
        let none : is_alone u ≡ false = λ i. first i || second i in
        absurd cc
  ]
]

by_lack : (alone is : Bool) → (alone ≡ true → is ≡ false) → not is ≡ false → not alone ≡ true
by_lack false is h e = refl
by_lack true true h e = let l = h refl in absurd cc
by_lack true false h e = absurd cc

by_secret : (alone secret : Bool) → (alone ≡ true → secret ≡ true) → secret ≡ false → not alone ≡ true
by_secret false secret h e = refl
by_secret true secret h e = let l = h refl in absurd cc

-- a buffer that has a usage which neither of those two has keeps its bytes
usage_keeps : (flag : UsageFlag) (found : Option LiveBuffer) → has_bits 16 (usage_bits flag) ≡ false → has_bits 32 (usage_bits flag) ≡ false
    → option_map_or (λ (b : LiveBuffer). not (usage_has b.usage flag)) found false ≡ false → option_map_or keeps_bytes found true ≡ true
usage_keeps flag None scratch structure e = refl
usage_keeps flag (Some b) scratch structure e =
    by_lack (is_alone b.usage) (usage_has b.usage flag) (alone_is (λ bits. has_bits bits (usage_bits flag)) b.usage false scratch structure) e

pub kept_by : (z : Status) (flag : UsageFlag) (id : ℕ) → has_bits 16 (usage_bits flag) ≡ false → has_bits 32 (usage_bits flag) ≡ false
    → lacks_usage z flag id ≡ false → keeps_bytes_at z.buffers id ≡ true
kept_by z flag id scratch structure e = usage_keeps flag (look z.buffers id) scratch structure e

-- and so does one that isn't private
open_keeps : (found : Option LiveBuffer) → option_map_or (λ (b : LiveBuffer). is_private b.usage) found false ≡ false → option_map_or keeps_bytes found true ≡ true
open_keeps None e = refl
open_keeps (Some b) e =
    by_secret (is_alone b.usage) (is_private b.usage) (alone_is (λ bits. has_bits bits 16 || has_bits bits 32) b.usage true refl refl) e

pub kept_open : (z : Status) (id : ℕ) → is_private_at z id ≡ false → keeps_bytes_at z.buffers id ≡ true
kept_open z id e = open_keeps (look z.buffers id) e

-- ---- what geometries read

input_kept : (z : Status) (id : ℕ) → lacks_usage z Input id ≡ false → keeps_bytes_at z.buffers id ≡ true
input_kept z id e = kept_by z Input id refl refl e

index_kept : (z : Status) (index : Option Index) (offset count : ℕ) → lacks_index_usage z index ≡ false
    → IfSome (option_map (λ x. index_range x offset count) index) (λ (r : ByteRange). keeps_bytes_at z.buffers r.buffer ≡ true)
index_kept z None offset count e = tt
index_kept z (Some x) offset count e = input_kept z x.buffer e

transform_kept : (z : Status) (transform : Option Spot) (offset : ℕ) → lacks_transform_usage z transform ≡ false
    → IfSome (option_map (transform_range offset) transform) (λ (r : ByteRange). keeps_bytes_at z.buffers r.buffer ≡ true)
transform_kept z None offset e = tt
transform_kept z (Some spot) offset e = input_kept z spot.buffer e

three_kept : (buffers : Ids LiveBuffer) (none : Bool) (first : ByteRange) (second third : Option ByteRange) → keeps_bytes_at buffers first.buffer ≡ true
    → IfSome second (λ (r : ByteRange). keeps_bytes_at buffers r.buffer ≡ true) → IfSome third (λ (r : ByteRange). keeps_bytes_at buffers r.buffer ≡ true)
    → AreKeptIn buffers (if none then None ∷ None ∷ None ∷ [] else Some first ∷ second ∷ third ∷ [])
three_kept buffers true first second third a b c = (tt, (tt, (tt, tt)))
three_kept buffers false first second third a b c = (a, (b, (c, tt)))

one_kept : (buffers : Ids LiveBuffer) (none : Bool) (r : ByteRange) → keeps_bytes_at buffers r.buffer ≡ true
    → AreKeptIn buffers ((if none then None else Some r) ∷ None ∷ None ∷ [])
one_kept buffers true r a = (tt, (tt, (tt, tt)))
one_kept buffers false r a = (a, (tt, (tt, tt)))

vertices_kept : (z : Status) (vertex : Spot) (index : Option Index) (stride max_vertex count primitive_offset first_vertex : ℕ) (format : Format)
    → lacks_usage z Input vertex.buffer ≡ false
    → keeps_bytes_at z.buffers (vertices_read z.buffers vertex stride format max_vertex index count primitive_offset first_vertex).buffer ≡ true
vertices_kept z vertex None stride max_vertex count primitive_offset first_vertex format e = input_kept z vertex.buffer e
vertices_kept z vertex (Some index) stride max_vertex count primitive_offset first_vertex format e = input_kept z vertex.buffer e

pub read_kept : (z : Status) (g : Geometry) → lacks_input_usage z g ≡ false → AreKeptIn z.buffers (inputs_read z.buffers g)
unfolding inputs_read inputs_with
read_kept z (geometries.Triangles opaque format vertex stride max_vertex index transform count primitive_offset first_vertex transform_offset) e =
    let first = neither_first (lacks_usage z Input vertex.buffer) (lacks_index_usage z index || lacks_transform_usage z transform) e in
    let others = neither_second (lacks_usage z Input vertex.buffer) (lacks_index_usage z index || lacks_transform_usage z transform) e in
    three_kept z.buffers (count == 0) (vertices_read z.buffers vertex stride format max_vertex index count primitive_offset first_vertex)
    (option_map (λ x. index_range x primitive_offset count) index) (option_map (transform_range transform_offset) transform)
    (vertices_kept z vertex index stride max_vertex count primitive_offset first_vertex format first)
    (index_kept z index primitive_offset count (neither_first (lacks_index_usage z index) (lacks_transform_usage z transform) others))
    (transform_kept z transform transform_offset (neither_second (lacks_index_usage z index) (lacks_transform_usage z transform) others))
read_kept z (geometries.Boxes opaque content stride count primitive_offset) e =
    one_kept z.buffers (count == 0) (boxes_range content stride count primitive_offset) (input_kept z content.buffer e)
read_kept z (geometries.Instances content count primitive_offset) e =
    one_kept z.buffers (count == 0) (instances_range content count primitive_offset) (input_kept z content.buffer e)
