-- What is read of two memories that agree where it is read is the same.
use Rattle.std.proofs.Common.{ℕ, zero, suc, ◌≡◌, ◌<◌, ◌≤◌, ◌+◌, ◌++◌, List, [], ◌∷◌, Option, Some, None, refl, ap, arith}
use Rattle.std.specs.Prelude.{Bool, true, false, ◌||◌, ◌&&◌, ◌==◌, map, if◌then◌else◌, nat_le, nat_lt}
use Rattle.std.proofs.lemmas.Bool.Decides.{nat_tests}
use Rattle.std.specs.List.{flat_map}
use Rattle.std.specs.Option.{option_to_list}
use Rattle.ray_cmd.specs.declared.geometry.Geometry.{Geometry}
use Rattle.ray_rules.specs.declared.byte_range.ByteRange.{ByteRange}
use Rattle.ray_rules.specs.declared.live_buffer.LiveBuffer.{LiveBuffer}
use Rattle.ray_rules.specs.Ids.{Ids}
use Rattle.ray_rules.specs.Ranges.{inputs_read}
use Rattle.ray_action.specs.Memory.{Location, ByteAt, BufferAt, StructureAt, ContentsAt, Memory, bytes_from, bytes_at, number_before}
use Rattle.ray_action.specs.Areas.{Area, Bytes, SizeOf, FormOf, ContentsOf, ContentsOfEach, covers, cover, has, AgreeOn}
use Rattle.ray_action.specs.Action.{content_buffer, geometry_areas, structure_areas}
use Rattle.ray_action.specs.Seeing.{see_range, see_geometry, see_structure, see_structures}

-- ---- areas, one by one

or_left : (a b : Bool) → a ≡ true → (a || b) ≡ true
or_left true b e = refl
or_left false b e = absurd cc

or_right : (a b : Bool) → b ≡ true → (a || b) ≡ true
or_right true b e = refl
or_right false b e = e

only_one : (b : Bool) → (b || false) ≡ true → b ≡ true
only_one true e = refl
only_one false e = absurd cc

pub agree_first : (area : Area) (areas : List Area) (m z : Memory) → AgreeOn (area ∷ areas) m z → AgreeOn (area ∷ []) m z
agree_first area areas m z same l e = same l (or_left (covers area l) (cover areas l) (only_one (covers area l) e))

pub agree_rest : (area : Area) (areas : List Area) (m z : Memory) → AgreeOn (area ∷ areas) m z → AgreeOn areas m z
agree_rest area areas m z same l e = same l (or_right (covers area l) (cover areas l) e)

or_step : (a b c : Bool) → (b ≡ true → c ≡ true) → (a || b) ≡ true → (a || c) ≡ true
or_step true b c h e = refl
or_step false b c h e = h e

cover_front : (some others : List Area) (l : Location) → cover some l ≡ true → cover (some ++ others) l ≡ true
cover_front [] others l e = absurd cc
cover_front (area ∷ some) others l e = or_step (covers area l) (cover some l) (cover (some ++ others) l) (cover_front some others l) e

cover_back : (some others : List Area) (l : Location) → cover others l ≡ true → cover (some ++ others) l ≡ true
cover_back [] others l e = e
cover_back (area ∷ some) others l e = or_right (covers area l) (cover (some ++ others) l) (cover_back some others l e)

pub agree_front : (some others : List Area) (m z : Memory) → AgreeOn (some ++ others) m z → AgreeOn some m z
agree_front some others m z same l e = same l (cover_front some others l e)

pub agree_back : (some others : List Area) (m z : Memory) → AgreeOn (some ++ others) m z → AgreeOn others m z
agree_back some others m z same l e = same l (cover_back some others l e)

-- ---- what each area has

covers_self : (n : ℕ) → (n == n) ≡ true
covers_self n = grind (arith, nat_tests)

pub size_same : (buffer : ℕ) (areas : List Area) (m z : Memory) → AgreeOn (SizeOf buffer ∷ areas) m z → m (BufferAt buffer) ≡ z (BufferAt buffer)
size_same buffer areas m z same = same (BufferAt buffer) (or_left (buffer == buffer) (cover areas (BufferAt buffer)) (covers_self buffer))

pub form_same : (id : ℕ) (areas : List Area) (m z : Memory) → AgreeOn (FormOf id ∷ areas) m z → m (StructureAt id) ≡ z (StructureAt id)
form_same id areas m z same = same (StructureAt id) (or_left (id == id) (cover areas (StructureAt id)) (covers_self id))

pub contents_same : (id : ℕ) (areas : List Area) (m z : Memory) → AgreeOn (ContentsOf id ∷ areas) m z → m (ContentsAt id) ≡ z (ContentsAt id)
contents_same id areas m z same = same (ContentsAt id) (or_left (id == id) (cover areas (ContentsAt id)) (covers_self id))

if_same : {X : Type 0} (b : Bool) (x y d : X) → (b ≡ true → x ≡ y) → (if b then x else d) ≡ (if b then y else d)
if_same true x y d h = h refl
if_same false x y d h = refl

pub structures_same : (ids : List ℕ) (areas : List Area) (m z : Memory) → AgreeOn (ContentsOfEach ids ∷ areas) m z → see_structures m ids ≡ see_structures z ids
structures_same ids areas m z same =
    λ i id. if_same (has ids id) (m (ContentsAt id)) (z (ContentsAt id)) None
    (λ e. same (ContentsAt id) (or_left (has ids id) (cover areas (ContentsAt id)) e)) i

-- ---- bytes

from_same : (buffer from n : ℕ) (m z : Memory) → ((at : ℕ) → from ≤ at → at < from + n → m (ByteAt buffer at) ≡ z (ByteAt buffer at))
    → bytes_from m buffer from n ≡ bytes_from z buffer from n
unfolding bytes_from
from_same buffer from zero m z same = refl
from_same buffer from (suc n) m z same =
    let first : m (ByteAt buffer from) ≡ z (ByteAt buffer from) = same from (omega arith) (omega arith) in
    let rest : bytes_from m buffer (from + 1) n ≡ bytes_from z buffer (from + 1) n =
    from_same buffer (from + 1) n m z (λ at low high. same at (omega arith) (omega arith)) in
    λ i. number_before (first i) (rest i)

in_range : (r : ByteRange) (at : ℕ) → r.from ≤ at → at < r.from + r.size → ((r.buffer == r.buffer) && (nat_le r.from at && nat_lt at (r.from + r.size))) ≡ true
in_range r at low high = grind (arith, nat_tests)

pub bytes_same : (r : ByteRange) (areas : List Area) (m z : Memory) → AgreeOn (Bytes r ∷ areas) m z → bytes_at m r ≡ bytes_at z r
bytes_same r areas m z same =
    from_same r.buffer r.from r.size m z
    (λ at low high. same (ByteAt r.buffer at) (or_left (covers (Bytes r) (ByteAt r.buffer at)) (cover areas (ByteAt r.buffer at)) (in_range r at low high)))

-- ---- geometries

ranges_same : (ranges : List (Option ByteRange)) (m z : Memory) → AgreeOn (map Bytes (flat_map option_to_list ranges)) m z
    → map (see_range m) ranges ≡ map (see_range z) ranges
ranges_same [] m z same = refl
ranges_same (None ∷ ranges) m z same = ap (λ rest. None ∷ rest) (ranges_same ranges m z same)
ranges_same (Some r ∷ ranges) m z same =
    let first = bytes_same r (map Bytes (flat_map option_to_list ranges)) m z same in
    let rest = ranges_same ranges m z (agree_rest (Bytes r) (map Bytes (flat_map option_to_list ranges)) m z same) in
    λ i. Some (first i) ∷ rest i

pub geometry_same : (buffers : Ids LiveBuffer) (geometry : Geometry) (m z : Memory) → AgreeOn (geometry_areas buffers geometry) m z
    → see_geometry m buffers geometry ≡ see_geometry z buffers geometry
geometry_same buffers geometry m z same =
    let inputs = map Bytes (flat_map option_to_list (inputs_read buffers geometry)) in
    let size = size_same (content_buffer geometry) inputs m z same in
    let rest = ranges_same (inputs_read buffers geometry) m z (agree_rest (SizeOf (content_buffer geometry)) inputs m z same) in
    λ i. record { size = size i; inputs = rest i }

pub geometries_same : (buffers : Ids LiveBuffer) (geometries : List Geometry) (m z : Memory) → AgreeOn (flat_map (geometry_areas buffers) geometries) m z
    → map (see_geometry m buffers) geometries ≡ map (see_geometry z buffers) geometries
geometries_same buffers [] m z same = refl
geometries_same buffers (g ∷ gs) m z same =
    let first = geometry_same buffers g m z (agree_front (geometry_areas buffers g) (flat_map (geometry_areas buffers) gs) m z same) in
    let rest = geometries_same buffers gs m z (agree_back (geometry_areas buffers g) (flat_map (geometry_areas buffers) gs) m z same) in
    λ i. first i ∷ rest i

-- ---- structures of which a number is asked

pub asked_same : (ids : List ℕ) (m z : Memory) → AgreeOn (flat_map structure_areas ids) m z → map (see_structure m) ids ≡ map (see_structure z) ids
asked_same [] m z same = refl
asked_same (id ∷ ids) m z same =
    let others = flat_map structure_areas ids in
    let form = form_same id (ContentsOf id ∷ others) m z same in
    let after_form = agree_rest (FormOf id) (ContentsOf id ∷ others) m z same in
    let contents = contents_same id others m z after_form in
    let rest = asked_same ids m z (agree_rest (ContentsOf id) others m z after_form) in
    λ i. record { form = form i; contents = contents i } ∷ rest i
