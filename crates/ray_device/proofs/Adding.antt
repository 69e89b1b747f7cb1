-- Geometries that are added one after the other: there is room for each, and what is read of it is there.
use Rattle.std.proofs.Common.{ℕ, zero, suc, ◌≡◌, ◌<◌, ◌≤◌, ◌+◌, ◌^◌, ◌++◌, List, [], ◌∷◌, length, take, drop, get_or, Option, Some, None, Result, Ok, Err, Bool, true, false, refl, ap, sym, subst, ◌∙◌, arith, length-append}
use Rattle.std.specs.Prelude.{All, IsSome, IfSome, map, option_map, ◌&&◌, ◌==◌, nat_le, slice_index_or, if◌then◌else◌}
use Rattle.std.specs.List.{list_all}
use Rattle.std.proofs.Math.Seq.{drop-cons, take-length}
use Rattle.std.proofs.lemmas.Bool.{cond-true}
use Rattle.std.proofs.lemmas.Bool.Decides.{nat_tests}
use Rattle.std.proofs.lemmas.List.Elements.{All-append, All-cons, All-nil}
use Rattle.std.proofs.lemmas.List.Sums.{sum_by-cons, sum_by_push}
use Rattle.ray_flags.specs.declared.kind.Kind.{Kind}
use Rattle.ray_flags.specs.declared.kind.Kind.TheVariants.{Triangle, Aabb}
use Rattle.ray_bytes.specs.declared.data_fault.DataFault.{DataFault}
use Rattle.ray_bytes.specs.Slices.{record_at}
use Rattle.ray_bytes.specs.Views as views
use Rattle.ray_geom.specs.Boxes.{BoxValue}
use Rattle.ray_geom.specs.Transform.{MatrixValue}
use Rattle.ray_contents.proofs.Gathered.{gathered_all}
use Rattle.ray_primitives.specs.declared.box_info.BoxInfo.{BoxInfo}
use Rattle.ray_primitives.specs.declared.triangle_info.TriangleInfo.{TriangleInfo}
use Rattle.ray_primitives.specs.Primitives.{TriangleValue}
use Rattle.ray_primitives.specs.TriangleReading.{triangles_with, triangles_read, triangle_element, transform_read}
use Rattle.ray_primitives.specs.BoxReading.{boxes_read, box_element}
use Rattle.ray_geometries.specs.declared.geometry.Geometry as bottoms
use Rattle.ray_bottom.specs.Builders.{BuilderValue, builder_with, triangles_added, boxes_added, with_triangles, with_boxes, triangle_geometry, box_geometry, old_triangles, old_boxes}
use Rattle.ray_geometries.specs.Contents.{HasRoom, kind_of, count_of, total_of}
use Rattle.ray_cmd.specs.declared.geometry.Geometry.{Geometry}
use Rattle.ray_cmd.specs.declared.geometry.Geometry.TheVariants as geometries
use Rattle.ray_cmd.specs.declared.spot.Spot.{Spot}
use Rattle.ray_rules.specs.Ranges.{inputs_with}
use Rattle.ray_rules.specs.declared.byte_range.ByteRange.{ByteRange}
use Rattle.ray_rules.specs.Ranges as rules
use Rattle.ray_rules.specs.Shapes.{is_triangles, is_boxes}
use Rattle.ray_action.specs.Memory.{Memory, ByteAt, bytes_at, bytes_from, number_before}
use Rattle.ray_action.specs.Building.{add_inputs, add_read, add_all, then_add, bytes_of, transform_in}
use Rattle.ray_action.specs.Seeing.{SeenBytes, see_range}
use Rattle.ray_device.specs.Bottoms.{AreOneKind, OfTriangles, OfBoxes, CanAdd, HasRoomFor, IsThereNow, IsTransformThere, add_now, add_all_now, seen_now, size_now}
use Rattle.ray_device.specs.Ranges.{ranges_with, vertices_with}
use Rattle.ray_device.specs.Tops.{bytes_now}

-- ---- transforms

-- so many bytes are read of a range
before-length : (found : Option ℕ) (rest : Option (List ℕ)) (n : ℕ) (bytes : List ℕ) → ((r : List ℕ) → rest ≡ Some r → length r ≡ n)
    → number_before found rest ≡ Some bytes → length bytes ≡ suc n
before-length None rest n bytes each e = absurd cc
before-length (Some x) None n bytes each e = absurd cc
before-length (Some x) (Some r) n bytes each e =
    let same : x ∷ r ≡ bytes = cc in
    ap length (sym same) ∙ ap suc (each r refl)

bytes-length : (m : Memory) (buffer from n : ℕ) (bytes : List ℕ) → bytes_from m buffer from n ≡ Some bytes → length bytes ≡ n
unfolding bytes_from
bytes-length m buffer from zero bytes e = let same : [] ≡ bytes = cc in ap length (sym same)
bytes-length m buffer from (suc n) bytes e =
    before-length (m (ByteAt buffer from)) (bytes_from m buffer (from + 1) n) n bytes (λ r h. bytes-length m buffer (from + 1) n r h) e

-- the three ranges of a geometry, of which the last, where there is one, has 48 bytes
pub record AreThree (ranges : List (Option ByteRange)) : Type 0 where
  pub first : Option ByteRange
  pub second : Option ByteRange
  pub third : Option ByteRange
  pub are : ranges ≡ first ∷ (second ∷ (third ∷ []))
  pub sized : IfSome third (λ r. r.size ≡ 48)

sized-transform : (offset : ℕ) (spot : Option Spot) → IfSome (option_map (rules.transform_range offset) spot) (λ r. r.size ≡ 48)
sized-transform offset None = tt
sized-transform offset (Some spot) = refl

three-if : (b : Bool) (x y z : Option ByteRange) → IfSome z (λ r. r.size ≡ 48) → AreThree (if b then None ∷ (None ∷ (None ∷ [])) else (x ∷ (y ∷ (z ∷ []))))
three-if true x y z s = record { first = None; second = None; third = None; are = refl; sized = tt }
three-if false x y z s = record { first = x; second = y; third = z; are = refl; sized = s }

three : (size : ℕ) (g : Geometry) → AreThree (ranges_with size g)
unfolding ranges_with inputs_with
three size (geometries.Triangles opaque format vertex stride max_vertex index transform count primitive_offset first_vertex transform_offset) =
    three-if (count == 0)
    (Some (vertices_with size vertex stride format max_vertex index count primitive_offset first_vertex))
    (option_map (λ x. rules.index_range x primitive_offset count) index)
    (option_map (rules.transform_range transform_offset) transform)
    (sized-transform transform_offset transform)
three size (geometries.Boxes opaque content stride count primitive_offset) =
    record { first = _; second = None; third = None; are = refl; sized = tt }
three size (geometries.Instances content count primitive_offset) =
    record { first = _; second = None; third = None; are = refl; sized = tt }

some-bytes : (m : Memory) (r : ByteRange) (read : Option (List ℕ)) → bytes_at m r ≡ read → IsSome read → r.size ≡ 48 → IsTransformThere m r
some-bytes m r None e s sized = absurd cc
some-bytes m r (Some bytes) e s sized = record { bytes = bytes; is_it = e; whole = bytes-length m r.buffer r.from r.size bytes e ∙ sized }

transform-if : (m : Memory) (t : Option ByteRange) → IfSome t (λ r. r.size ≡ 48) → IfSome (see_range m t) IsSome → IfSome t (IsTransformThere m)
transform-if m None sized there = tt
transform-if m (Some r) sized there = some-bytes m r (bytes_at m r) refl there sized

third-of : {X : Type 0} (P : X → Type 0) (a b c : X) → All P (a ∷ (b ∷ (c ∷ []))) → P c
third-of P a b c all = all 2 c (omega arith)

-- the transform of a geometry, of whose ranges all that there are are there, is there
pub transform_there : (m : Memory) (g : Geometry) (size : ℕ) (ranges : List (Option ByteRange)) → IsThereNow m g → size ≡ size_now m g → ranges ≡ ranges_with size g
    → IfSome (slice_index_or ranges 2 None) (IsTransformThere m)
transform_there m g size ranges there sized are =
    let is = three (size_now m g) g in
    subst (λ rs. IfSome (slice_index_or rs 2 None) (IsTransformThere m)) (sym (are ∙ (ap (λ n. ranges_with n g) sized ∙ is.are)))
    (transform-if m is.third is.sized
    (third-of (λ (input : Option SeenBytes). IfSome input IsSome) (see_range m is.first) (see_range m is.second) (see_range m is.third)
    (subst (λ rs. All (λ (input : Option SeenBytes). IfSome input IsSome) (map (see_range m) rs)) is.are there.inputs)))

-- a record of 48 bytes is all of them
pub whole_transform : (bytes : List ℕ) → length bytes ≡ 48 → record_at bytes 0 0 48 0 ≡ Some bytes
whole_transform bytes e =
    cond-true (nat_le (0 + 0 + 48) (length bytes)) _ _ (let same = e in grind (arith, nat_tests))
    ∙ ap (λ n. Some (take n bytes)) (sym e) ∙ ap Some (take-length bytes)

-- so the transform that stands in a range is its bytes
pub transform_is : (m : Memory) (r : ByteRange) (bytes : List ℕ) → IsTransformThere m r → bytes ≡ bytes_now m (Some r)
    → record_at bytes 0 0 48 0 ≡ transform_in (see_range m (Some r))
transform_is m r bytes there same =
    let now : bytes_now m (Some r) ≡ there.bytes = ap (λ o. bytes_of (Some o)) there.is_it in
    ap (λ b. record_at b 0 0 48 0) (same ∙ now) ∙ (whole_transform there.bytes there.whole ∙ sym (ap Some now))

-- ---- room

few-left : (added : List bottoms.Geometry) (n : ℕ) → length added + suc n ≤ 256 → length added < 256
few-left added n e = omega arith

room-primitives : (added : List bottoms.Geometry) (g : Geometry) (gs : List Geometry) → total_of added + rules.primitives (g ∷ gs) ≤ 2 ^ 20
    → total_of added + (rules.count_of g + rules.primitives gs) ≤ 2 ^ 20
room-primitives added g gs e = subst (λ n. total_of added + n ≤ 2 ^ 20) (sum_by-cons rules.count_of g gs) e

room-of : (kind : Kind) (g : Geometry) (gs : List Geometry) (added : List bottoms.Geometry) → length added + length (g ∷ gs) ≤ 256
    → total_of added + rules.primitives (g ∷ gs) ≤ 2 ^ 20 → All (λ h. kind_of h ≡ kind) added → HasRoom kind (rules.count_of g) added
room-of kind g gs added few primitives all = record {
  geometries_below = few-left added (length gs) few;
  primitives = let fits = room-primitives added g gs primitives in omega arith;
  one_kind = all;
}

all-triangles : (g : Geometry) (gs : List Geometry) (added : List bottoms.Geometry) → is_boxes g ≡ false → AreOneKind (g ∷ gs) added → All (λ h. kind_of h ≡ Triangle) added
all-triangles g gs added no_box (OfTriangles e all) = all
all-triangles g gs added no_box (OfBoxes e all) = absurd (let x : (is_boxes g && list_all is_boxes gs) ≡ true = e in let y : (false && list_all is_boxes gs) ≡ true = ap (λ b. b && list_all is_boxes gs) (sym no_box) ∙ x in cc)

all-boxes : (g : Geometry) (gs : List Geometry) (added : List bottoms.Geometry) → is_triangles g ≡ false → AreOneKind (g ∷ gs) added → All (λ h. kind_of h ≡ Aabb) added
all-boxes g gs added no_triangles (OfBoxes e all) = all
all-boxes g gs added no_triangles (OfTriangles e all) = absurd (let x : (is_triangles g && list_all is_triangles gs) ≡ true = e in let y : (false && list_all is_triangles gs) ≡ true = ap (λ b. b && list_all is_triangles gs) (sym no_triangles) ∙ x in cc)

-- there is room for the first geometry that is left
pub room_for : (m : Memory) (g : Geometry) (gs : List Geometry) (added : List bottoms.Geometry) → CanAdd m (g ∷ gs) added → HasRoomFor g added
room_for m (geometries.Triangles opaque format vertex stride max_vertex index transform count primitive_offset first_vertex transform_offset) gs added can =
    room-of Triangle (geometries.Triangles opaque format vertex stride max_vertex index transform count primitive_offset first_vertex transform_offset)
    gs added can.few can.few_primitives (all-triangles _ gs added refl can.one_kind)
room_for m (geometries.Boxes opaque content stride count primitive_offset) gs added can =
    room-of Aabb (geometries.Boxes opaque content stride count primitive_offset) gs added can.few can.few_primitives (all-boxes _ gs added refl can.one_kind)
room_for m (geometries.Instances content count primitive_offset) gs added can = tt

-- what is read of it is there
pub first_there : (m : Memory) (g : Geometry) (gs : List Geometry) (added : List bottoms.Geometry) → CanAdd m (g ∷ gs) added → IsThereNow m g
first_there m g gs added can = can.there 0 g (omega arith)

-- ---- one geometry more

-- a geometry of a kind and a count was added
record IsAdded (kind : Kind) (count : ℕ) (before after : List bottoms.Geometry) : Type 0 where
  added : bottoms.Geometry
  are : after ≡ before ++ added ∷ []
  kind_is : kind_of added ≡ kind
  count_is : count_of added ≡ count

same-builder : (r : Result BuilderValue DataFault) (b c : BuilderValue) → r ≡ Ok b → r ≡ Ok c → b ≡ c
same-builder r b c e f = cc

triangles-length : (info : TriangleInfo) (vertices : views.Vertices) (indices : Option views.Indices) (olds : Option (List TriangleValue)) (geometry : ℕ)
    (matrix : Result (Option MatrixValue) DataFault) (ts : List TriangleValue) → triangles_with info vertices indices olds geometry matrix ≡ Ok ts → length ts ≡ info.count
triangles-length info vertices indices olds geometry (Ok matrix) ts e =
    (gathered_all (triangle_element (record { info = info; vertices = vertices; indices = indices; matrix = matrix }) olds geometry) info.count ts e).as_many
triangles-length info vertices indices olds geometry (Err fault) ts e = absurd cc

triangles-more : (b new : BuilderValue) (info : TriangleInfo) (read : Result (List TriangleValue) DataFault) → ((ts : List TriangleValue) → read ≡ Ok ts → length ts ≡ info.count)
    → triangles_added b info read ≡ Ok new → IsAdded Triangle info.count b.contents.geometries new.contents.geometries
triangles-more b new info (Ok ts) each e = record {
  added = triangle_geometry info.opaque info.format info.index_size ts;
  are = ap (λ (c : BuilderValue). c.contents.geometries) (same-builder (triangles_added b info (Ok ts)) new (builder_with b (triangle_geometry info.opaque info.format info.index_size ts)) e refl);
  kind_is = refl;
  count_is = each ts refl;
}
triangles-more b new info (Err fault) each e = absurd cc

boxes-more : (b new : BuilderValue) (info : BoxInfo) (read : Result (List (Option BoxValue)) DataFault) → ((bs : List (Option BoxValue)) → read ≡ Ok bs → length bs ≡ info.count)
    → boxes_added b info read ≡ Ok new → IsAdded Aabb info.count b.contents.geometries new.contents.geometries
boxes-more b new info (Ok bs) each e = record {
  added = box_geometry info.opaque bs;
  are = ap (λ (c : BuilderValue). c.contents.geometries) (same-builder (boxes_added b info (Ok bs)) new (builder_with b (box_geometry info.opaque bs)) e refl);
  kind_is = refl;
  count_is = each bs refl;
}
boxes-more b new info (Err fault) each e = absurd cc

with-triangles : (b new : BuilderValue) (info : TriangleInfo) (vertices : views.Vertices) (indices : Option views.Indices) (transform : Option (List ℕ))
    → with_triangles b info vertices indices transform ≡ Ok new → IsAdded Triangle info.count b.contents.geometries new.contents.geometries
unfolding with_triangles triangles_read
with-triangles b new info vertices indices transform e =
    triangles-more b new info (triangles_read info vertices indices transform (old_triangles b) (length b.contents.geometries))
    (λ ts h. triangles-length info vertices indices (old_triangles b) (length b.contents.geometries) (transform_read (length b.contents.geometries) info.count transform) ts h) e

with-boxes : (b new : BuilderValue) (info : BoxInfo) (boxes : views.Boxes) → with_boxes b info boxes ≡ Ok new → IsAdded Aabb info.count b.contents.geometries new.contents.geometries
unfolding with_boxes boxes_read
with-boxes b new info boxes e =
    boxes-more b new info (boxes_read info boxes (old_boxes b) (length b.contents.geometries))
    (λ bs h. (gathered_all (box_element boxes (old_boxes b) (length b.contents.geometries)) info.count bs h).as_many) e

-- ---- what is left

left-primitives : (gs : List Geometry) (g : Geometry) (before after : List bottoms.Geometry) (h : bottoms.Geometry) → after ≡ before ++ h ∷ [] → count_of h ≡ rules.count_of g
    → total_of before + rules.primitives (g ∷ gs) ≤ 2 ^ 20 → total_of after + rules.primitives gs ≤ 2 ^ 20
left-primitives gs g before after h are same e =
    let all = room-primitives before g gs e in
    let more : total_of after ≡ total_of before + count_of h = ap total_of are ∙ sum_by_push count_of before h in
    omega arith

left-few : (gs : List Geometry) (g : Geometry) (before after : List bottoms.Geometry) (h : bottoms.Geometry) → after ≡ before ++ h ∷ []
    → length before + length (g ∷ gs) ≤ 256 → length after + length gs ≤ 256
left-few gs g before after h are e =
    let more : length after ≡ length before + 1 = ap length are ∙ length-append before (h ∷ []) in
    omega arith

all-more : (kind : Kind) (before after : List bottoms.Geometry) (h : bottoms.Geometry) → after ≡ before ++ h ∷ [] → kind_of h ≡ kind
    → All (λ x. kind_of x ≡ kind) before → All (λ x. kind_of x ≡ kind) after
all-more kind before after h are is all =
    subst (λ xs. All (λ x. kind_of x ≡ kind) xs) (sym are)
    (All-append (λ x. kind_of x ≡ kind) before (h ∷ []) all (All-cons (λ x. kind_of x ≡ kind) h [] is (All-nil (λ x. kind_of x ≡ kind))))

rest-there : (m : Memory) (g : Geometry) (gs : List Geometry) → All (IsThereNow m) (g ∷ gs) → All (IsThereNow m) gs
rest-there m g gs all k d below = all (suc k) d (omega arith)

all-but-first : (p : Geometry → Bool) (g : Geometry) (gs : List Geometry) → list_all p (g ∷ gs) ≡ true → list_all p gs ≡ true
all-but-first p g gs e = second (p g) (list_all p gs) e
  where
    second : (a b : Bool) → (a && b) ≡ true → b ≡ true
    second true b e = e
    second false b e = absurd cc

-- not all pass where the first doesn't
not-first : (p : Geometry → Bool) (g : Geometry) (gs : List Geometry) → p g ≡ false → list_all p (g ∷ gs) ≡ true → ⊥
not-first p g gs n e =
    let x : (p g && list_all p gs) ≡ true = e in
    let y : (false && list_all p gs) ≡ true = ap (λ b. b && list_all p gs) (sym n) ∙ x in
    absurd cc

kinds-left : (kind : Kind) (g : Geometry) (gs : List Geometry) (count : ℕ) (before after : List bottoms.Geometry) → IsAdded kind count before after
    → (kind ≡ Triangle → is_boxes g ≡ false) → (kind ≡ Aabb → is_triangles g ≡ false) → AreOneKind (g ∷ gs) before → AreOneKind gs after
kinds-left Triangle g gs count before after is t b (OfTriangles e k) =
    OfTriangles (all-but-first is_triangles g gs e) (all-more Triangle before after is.added is.are is.kind_is k)
kinds-left Triangle g gs count before after is t b (OfBoxes e k) = absurd (not-first is_boxes g gs (t refl) e)
kinds-left Aabb g gs count before after is t b (OfBoxes e k) =
    OfBoxes (all-but-first is_boxes g gs e) (all-more Aabb before after is.added is.are is.kind_is k)
kinds-left Aabb g gs count before after is t b (OfTriangles e k) = absurd (not-first is_triangles g gs (b refl) e)

can-after : (m : Memory) (kind : Kind) (g : Geometry) (gs : List Geometry) (before after : List bottoms.Geometry) → IsAdded kind (rules.count_of g) before after
    → (kind ≡ Triangle → is_boxes g ≡ false) → (kind ≡ Aabb → is_triangles g ≡ false) → CanAdd m (g ∷ gs) before → CanAdd m gs after
can-after m kind g gs before after is t b can = record {
  few = left-few gs g before after is.added is.are can.few;
  few_primitives = left-primitives gs g before after is.added is.are is.count_is can.few_primitives;
  one_kind = kinds-left kind g gs (rules.count_of g) before after is t b can.one_kind;
  there = rest-there m g gs can.there;
}

-- what is added of a geometry is what is read of its three ranges
pub add_is : (m : Memory) (b : BuilderValue) (g : Geometry) (size : ℕ) (ranges : List (Option ByteRange)) → size ≡ size_now m g → ranges ≡ ranges_with size g
    → add_read b g (see_range m (slice_index_or ranges 0 None)) (see_range m (slice_index_or ranges 1 None)) (see_range m (slice_index_or ranges 2 None)) ≡ add_now m b g
add_is m b g size ranges sized are =
    let is = three (size_now m g) g in
    let same : ranges ≡ is.first ∷ (is.second ∷ (is.third ∷ [])) = are ∙ (ap (λ n. ranges_with n g) sized ∙ is.are) in
    ap (λ rs. add_read b g (see_range m (slice_index_or rs 0 None)) (see_range m (slice_index_or rs 1 None)) (see_range m (slice_index_or rs 2 None))) same
    ∙ sym (ap (λ rs. add_inputs b g (map (see_range m) rs)) is.are)

-- what is added of three ranges
added-three : (b : BuilderValue) (g : Geometry) (m : Memory) (ranges : List (Option ByteRange)) (is : AreThree ranges)
    → add_inputs b g (map (see_range m) ranges) ≡ add_read b g (see_range m is.first) (see_range m is.second) (see_range m is.third)
added-three b g m ranges is = ap (λ rs. add_inputs b g (map (see_range m) rs)) is.are

no-instances : (content : Spot) (count primitive_offset : ℕ) (gs : List Geometry) (added : List bottoms.Geometry)
    → AreOneKind (geometries.Instances content count primitive_offset ∷ gs) added → ⊥
no-instances content count primitive_offset gs added (OfTriangles e all) = let x : false ≡ true = e in absurd cc
no-instances content count primitive_offset gs added (OfBoxes e all) = let x : false ≡ true = e in absurd cc

-- once the first is added the others can be
pub can_add_rest : (m : Memory) (g : Geometry) (gs : List Geometry) (b new : BuilderValue) → CanAdd m (g ∷ gs) b.contents.geometries
    → add_now m b g ≡ Ok new → CanAdd m gs new.contents.geometries
can_add_rest m (geometries.Triangles opaque format vertex stride max_vertex index transform count primitive_offset first_vertex transform_offset) gs b new can e =
    let g : Geometry = geometries.Triangles opaque format vertex stride max_vertex index transform count primitive_offset first_vertex transform_offset in
    let is = three (size_now m g) g in
    can-after m Triangle g gs b.contents.geometries new.contents.geometries
    (with-triangles b new _ _ _ _ (sym (added-three b g m (ranges_with (size_now m g) g) is) ∙ e)) (λ k. refl) (λ k. absurd cc) can
can_add_rest m (geometries.Boxes opaque content stride count primitive_offset) gs b new can e =
    let g : Geometry = geometries.Boxes opaque content stride count primitive_offset in
    let is = three (size_now m g) g in
    can-after m Aabb g gs b.contents.geometries new.contents.geometries
    (with-boxes b new (record { opaque = opaque; count = count }) _ (sym (added-three b g m (ranges_with (size_now m g) g) is) ∙ e)) (λ k. absurd cc) (λ k. refl) can
can_add_rest m (geometries.Instances content count primitive_offset) gs b new can e =
    absurd (no-instances content count primitive_offset gs b.contents.geometries can.one_kind)

-- ---- all of them

-- what comes of all is what comes of the others, once the first is added
pub add_first : (m : Memory) (g : Geometry) (gs : List Geometry) (b new : BuilderValue) → add_now m b g ≡ Ok new
    → add_all_now m (g ∷ gs) b ≡ add_all_now m gs new
add_first m g gs b new e = ap (λ r. then_add r (add_all gs (map (seen_now m) gs))) e

-- and the fault of the first is that of all
pub add_fault : (m : Memory) (g : Geometry) (gs : List Geometry) (b : BuilderValue) (fault : DataFault) → add_now m b g ≡ Err fault
    → add_all_now m (g ∷ gs) b ≡ Err fault
add_fault m g gs b fault e = ap (λ r. then_add r (add_all gs (map (seen_now m) gs))) e

-- ---- under way

-- the geometries that are left can be added, and come to the whole
pub record IsUnderWay (m : Memory) (all : Result BuilderValue DataFault) (left : List Geometry) (b : BuilderValue) : Type 0 where
  pub can : CanAdd m left b.contents.geometries
  pub whole : all ≡ add_all_now m left b

-- once the first of them is added the others are left
pub goes_on : (m : Memory) (whole : Result BuilderValue DataFault) (g : Geometry) (gs : List Geometry) (b new : BuilderValue)
    → IsUnderWay m whole (g ∷ gs) b → add_now m b g ≡ Ok new → IsUnderWay m whole gs new
goes_on m whole g gs b new is e = record { can = can_add_rest m g gs b new is.can e; whole = is.whole ∙ add_first m g gs b new e }

-- its fault is that of the whole
pub stops : (m : Memory) (whole : Result BuilderValue DataFault) (g : Geometry) (gs : List Geometry) (b : BuilderValue) (fault : DataFault)
    → IsUnderWay m whole (g ∷ gs) b → add_now m b g ≡ Err fault → whole ≡ Err fault
stops m whole g gs b fault is e = is.whole ∙ add_fault m g gs b fault e

drop-here : (gs : List Geometry) (k : ℕ) (d : Geometry) → k < length gs → drop k gs ≡ slice_index_or gs k d ∷ drop (k + 1) gs
drop-here gs k d below = let next : suc k ≡ k + 1 = omega arith in drop-cons gs k d below ∙ ap (λ j. get_or gs k d ∷ drop j gs) next

-- the same by its number
pub goes_on_at : (m : Memory) (whole : Result BuilderValue DataFault) (gs : List Geometry) (k : ℕ) (d : Geometry) (b new : BuilderValue) → k < length gs
    → IsUnderWay m whole (drop k gs) b → add_now m b (slice_index_or gs k d) ≡ Ok new → IsUnderWay m whole (drop (k + 1) gs) new
goes_on_at m whole gs k d b new below is e =
    goes_on m whole (slice_index_or gs k d) (drop (k + 1) gs) b new (subst (λ xs. IsUnderWay m whole xs b) (drop-here gs k d below) is) e
