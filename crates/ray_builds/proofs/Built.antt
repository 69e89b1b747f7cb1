-- Of which kinds the geometries of a top and of a bottom are.
use Rattle.std.proofs.Common.{◌≡◌, List, [], ◌∷◌, Bool, true, false, ◌||◌, ◌&&◌, not, refl, sym, ap, ◌∙◌, length, arith}
use Rattle.std.specs.List.{list_all, list_any}
use Rattle.ray_cmd.specs.declared.geometry.Geometry.{Geometry}
use Rattle.ray_cmd.specs.declared.geometry.Geometry.TheVariants as geometries
use Rattle.ray_builds.specs.Geometries.{is_other_first}
use Rattle.ray_rules.specs.Shapes.{are_of_bottom, are_of_top, is_boxes, is_instances, is_triangles}

or_true : (b : Bool) → (b || true) ≡ true
or_true true = refl
or_true false = refl

or_false : (b : Bool) → (b || false) ≡ b
or_false true = refl
or_false false = refl

and_true : (b : Bool) → (b && true) ≡ b
and_true true = refl
and_true false = refl

-- one geometry is what a top is built of, or is of another kind
pub one_of_top : (gs : List Geometry) → length gs ≡ 1 → is_other_first gs ≡ not (are_of_top gs)
one_of_top [] e = absurd (omega (arith, e))
one_of_top (g ∷ []) e = ap not (sym (and_true (is_instances g)))
one_of_top (g ∷ (h ∷ gs)) e = absurd (omega (arith, e))

-- not all are of triangles where one is of instances or of boxes
not_triangles : (gs : List Geometry) → (list_any is_instances gs || list_any is_boxes gs) ≡ not (list_all is_triangles gs)
not_triangles [] = refl
not_triangles (geometries.Triangles opaque format vertex stride max_vertex index transform count primitive_offset first_vertex transform_offset ∷ gs) = not_triangles gs
not_triangles (geometries.Boxes opaque content stride count primitive_offset ∷ gs) = or_true (list_any is_instances gs)
not_triangles (geometries.Instances content count primitive_offset ∷ gs) = refl

-- the same of boxes
not_boxes : (gs : List Geometry) → (list_any is_instances gs || list_any is_triangles gs) ≡ not (list_all is_boxes gs)
not_boxes [] = refl
not_boxes (geometries.Triangles opaque format vertex stride max_vertex index transform count primitive_offset first_vertex transform_offset ∷ gs) = or_true (list_any is_instances gs)
not_boxes (geometries.Boxes opaque content stride count primitive_offset ∷ gs) = not_boxes gs
not_boxes (geometries.Instances content count primitive_offset ∷ gs) = refl

-- not what a bottom is built of: one of instances, or both kinds
not_bottom :
    (gs : List Geometry)
    → (list_any is_instances gs || (list_any is_triangles gs && list_any is_boxes gs)) ≡ not (are_of_bottom gs)
not_bottom [] = refl
not_bottom (geometries.Triangles opaque format vertex stride max_vertex index transform count primitive_offset first_vertex transform_offset ∷ gs) =
    not_triangles gs ∙ ap not (sym (or_false (list_all is_triangles gs)))
not_bottom (geometries.Boxes opaque content stride count primitive_offset ∷ gs) =
    ap (λ b. list_any is_instances gs || b) (and_true (list_any is_triangles gs)) ∙ not_boxes gs
not_bottom (geometries.Instances content count primitive_offset ∷ gs) = refl

pub bottom_of_instances : (gs : List Geometry) → true ≡ list_any is_instances gs → true ≡ not (are_of_bottom gs)
bottom_of_instances gs e =
    ap (λ b. b || (list_any is_triangles gs && list_any is_boxes gs)) e ∙ not_bottom gs

pub bottom_of_both :
    (gs : List Geometry) (told : Bool) → false ≡ list_any is_instances gs
    → told ≡ (list_any is_triangles gs && list_any is_boxes gs) → told ≡ not (are_of_bottom gs)
bottom_of_both gs told e same =
    same ∙ (ap (λ b. b || (list_any is_triangles gs && list_any is_boxes gs)) e ∙ not_bottom gs)
