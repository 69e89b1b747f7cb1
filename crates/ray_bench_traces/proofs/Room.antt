-- After its first geometry a builder has room for another of the same kind.
use Rattle.std.proofs.Common.{ℕ, ◌≡◌, ◌≤◌, ◌++◌, List, [], ◌∷◌, length, Option, Result, Ok, Err, refl, ap, sym, subst, ◌∙◌, arith}
use Rattle.std.specs.Prelude.{OnOk}
use Rattle.std.proofs.lemmas.List.Elements.{All-cons, All-nil}
use Rattle.ray_flags.specs.declared.kind.Kind.{Kind}
use Rattle.ray_flags.specs.declared.kind.Kind.TheVariants.{Triangle, Aabb}
use Rattle.ray_bytes.specs.declared.data_fault.DataFault.{DataFault}
use Rattle.ray_bytes.specs.Views as views
use Rattle.ray_geom.specs.Boxes.{BoxValue}
use Rattle.ray_geom.specs.Transform.{MatrixValue}
use Rattle.ray_contents.proofs.Gathered.{gathered_all}
use Rattle.ray_primitives.specs.declared.box_info.BoxInfo.{BoxInfo}
use Rattle.ray_primitives.specs.declared.triangle_info.TriangleInfo.{TriangleInfo}
use Rattle.ray_primitives.specs.declared.build_fault.BuildFault.{BuildFault}
use Rattle.ray_primitives.specs.Primitives.{TriangleValue}
use Rattle.ray_primitives.specs.TriangleReading.{triangles_with, triangles_read, triangle_element, transform_read}
use Rattle.ray_primitives.specs.BoxReading.{boxes_read, box_element}
use Rattle.ray_geometries.specs.declared.geometry.Geometry.{Geometry}
use Rattle.ray_bottom.specs.Builders.{BuilderValue, IsAdded, builder_with, triangles_added, boxes_added, with_triangles, with_boxes, triangle_geometry, box_geometry, old_triangles, old_boxes}
use Rattle.ray_geometries.specs.Contents.{HasRoom, kind_of, count_of}
use Rattle.ray_geometries.proofs.Growing.{total_of-more}

room-of-one : (kind : Kind) (g : Geometry) → kind_of g ≡ kind → count_of g ≤ 40 → HasRoom kind 40 (g ∷ [])
room-of-one kind g is few = record {
  geometries_below = omega arith;
  primitives = let total = total_of-more [] g in omega arith;
  one_kind = All-cons (λ h. kind_of h ≡ kind) g [] is (All-nil (λ h. kind_of h ≡ kind));
}

same-builder : (r : Result BuilderValue DataFault) (b c : BuilderValue) → r ≡ Ok b → r ≡ Ok c → b ≡ c
same-builder r b c e f = cc

-- a first geometry leaves room
room-after : (b new : BuilderValue) (kind : Kind) (g : Geometry) (r : Result BuilderValue DataFault) → b.contents.geometries ≡ [] → kind_of g ≡ kind
    → count_of g ≤ 40 → r ≡ Ok new → r ≡ Ok (builder_with b g) → HasRoom kind 40 new.contents.geometries
room-after b new kind g r none is few e f =
    let are : new.contents.geometries ≡ g ∷ [] =
    ap (λ (c : BuilderValue). c.contents.geometries) (same-builder r new (builder_with b g) e f) ∙ ap (λ gs. gs ++ g ∷ []) none in
    subst (λ gs. HasRoom kind 40 gs) (sym are) (room-of-one kind g is few)

triangles-after : (b new : BuilderValue) (info : TriangleInfo) (read : Result (List TriangleValue) DataFault)
    → ((ts : List TriangleValue) → read ≡ Ok ts → length ts ≡ info.count) → b.contents.geometries ≡ [] → info.count ≤ 40
    → triangles_added b info read ≡ Ok new → HasRoom Triangle 40 new.contents.geometries
triangles-after b new info (Ok ts) each none few e =
    room-after b new Triangle (triangle_geometry info.opaque info.format info.index_size ts) (triangles_added b info (Ok ts)) none refl
    (subst (λ n. n ≤ 40) (sym (each ts refl)) few) e refl
triangles-after b new info (Err fault) each none few e = absurd cc

boxes-after : (b new : BuilderValue) (info : BoxInfo) (read : Result (List (Option BoxValue)) DataFault)
    → ((bs : List (Option BoxValue)) → read ≡ Ok bs → length bs ≡ info.count) → b.contents.geometries ≡ [] → info.count ≤ 40
    → boxes_added b info read ≡ Ok new → HasRoom Aabb 40 new.contents.geometries
boxes-after b new info (Ok bs) each none few e =
    room-after b new Aabb (box_geometry info.opaque bs) (boxes_added b info (Ok bs)) none refl
    (subst (λ n. n ≤ 40) (sym (each bs refl)) few) e refl
boxes-after b new info (Err fault) each none few e = absurd cc

triangles-length : (info : TriangleInfo) (vertices : views.Vertices) (indices : Option views.Indices) (olds : Option (List TriangleValue)) (geometry : ℕ)
    (matrix : Result (Option MatrixValue) DataFault) (ts : List TriangleValue) → triangles_with info vertices indices olds geometry matrix ≡ Ok ts → length ts ≡ info.count
triangles-length info vertices indices olds geometry (Ok matrix) ts e =
    (gathered_all (triangle_element (record { info = info; vertices = vertices; indices = indices; matrix = matrix }) olds geometry) info.count ts e).as_many
triangles-length info vertices indices olds geometry (Err fault) ts e = absurd cc

room-triangles : (b new : BuilderValue) (info : TriangleInfo) (vertices : views.Vertices) (indices : Option views.Indices) (transform : Option (List ℕ))
    → b.contents.geometries ≡ [] → info.count ≤ 40 → with_triangles b info vertices indices transform ≡ Ok new → HasRoom Triangle 40 new.contents.geometries
unfolding with_triangles triangles_read
room-triangles b new info vertices indices transform none few e =
    triangles-after b new info (triangles_read info vertices indices transform (old_triangles b) (length b.contents.geometries))
    (λ ts h. triangles-length info vertices indices (old_triangles b) (length b.contents.geometries) (transform_read (length b.contents.geometries) info.count transform) ts h)
    none few e

room-boxes : (b new : BuilderValue) (info : BoxInfo) (boxes : views.Boxes)
    → b.contents.geometries ≡ [] → info.count ≤ 40 → with_boxes b info boxes ≡ Ok new → HasRoom Aabb 40 new.contents.geometries
unfolding with_boxes boxes_read
room-boxes b new info boxes none few e =
    boxes-after b new info (boxes_read info boxes (old_boxes b) (length b.contents.geometries))
    (λ bs h. (gathered_all (box_element boxes (old_boxes b) (length b.contents.geometries)) info.count bs h).as_many)
    none few e

-- what a call that adds leaves, where it is done
when-done : (P : Type 0) (before after : BuilderValue) (added : Result BuilderValue DataFault) (r : Result (Unit {0}) BuildFault)
    → IsAdded before added after r → (added ≡ Ok after → P) → OnOk r P
when-done P before after added (Ok done) is f = f is
when-done P before after added (Err e) is f = tt

pub after_triangles : (b new : BuilderValue) (info : TriangleInfo) (vertices : views.Vertices) (indices : Option views.Indices) (transform : Option (List ℕ))
    (r : Result (Unit {0}) BuildFault) → IsAdded b (with_triangles b info vertices indices transform) new r → info.count ≤ 40
    → OnOk r (b.contents.geometries ≡ [] → HasRoom Triangle 40 new.contents.geometries)
after_triangles b new info vertices indices transform r is few =
    when-done _ b new (with_triangles b info vertices indices transform) r is (λ e none. room-triangles b new info vertices indices transform none few e)

pub after_boxes : (b new : BuilderValue) (info : BoxInfo) (boxes : views.Boxes) (r : Result (Unit {0}) BuildFault)
    → IsAdded b (with_boxes b info boxes) new r → info.count ≤ 40
    → OnOk r (b.contents.geometries ≡ [] → HasRoom Aabb 40 new.contents.geometries)
after_boxes b new info boxes r is few =
    when-done _ b new (with_boxes b info boxes) r is (λ e none. room-boxes b new info boxes none few e)
