-- What is counted of contents with one geometry more.
use Rattle.std.proofs.Common.{ℕ, ◌≡◌, ◌≤◌, ◌+◌, ◌++◌, List, [], ◌∷◌, length, Option, None, fold, refl, sym, ap, ◌∙◌, arith, length-append, append-nil}
use Rattle.std.specs.Prelude.{All}
use Rattle.std.proofs.lemmas.List.Sums.{fold-append, sum_by-append}
use Rattle.std.proofs.lemmas.List.Elements.{All-append, All-cons, All-nil}
use Rattle.std.proofs.lemmas.Grind.{flat_map-append}
use Rattle.ray_geom.specs.Boxes.{BoxValue}
use Rattle.ray_geom.specs.LeastBoxes.{joined_of}
use Rattle.ray_flags.specs.declared.kind.Kind.{Kind}
use Rattle.ray_geometries.specs.declared.geometry.Geometry.{Geometry}
use Rattle.ray_geometries.specs.Contents.{ContentsValue, IsContents, IsGeometry, HasRoom, with_geometry, kind_of, count_of, boxes_of, total_of, active_boxes, active_of, bounds_of}
use Rattle.ray_geometries.specs.Tallies.{IsTallied}
use Rattle.ray_geometries.proofs.Counting.{active-le-total}

active_boxes-more : (gs : List Geometry) (g : Geometry) → active_boxes (gs ++ g ∷ []) ≡ active_boxes gs ++ boxes_of g
active_boxes-more gs g =
    flat_map-append boxes_of gs (g ∷ []) ∙ ap (λ boxes. active_boxes gs ++ boxes) (append-nil (boxes_of g))

pub total_of-more : (gs : List Geometry) (g : Geometry) → total_of (gs ++ g ∷ []) ≡ total_of gs + count_of g
total_of-more gs g = sum_by-append count_of gs (g ∷ []) ∙ omega arith

pub active_of-more : (gs : List Geometry) (g : Geometry) → active_of (gs ++ g ∷ []) ≡ active_of gs + length (boxes_of g)
active_of-more gs g = ap length (active_boxes-more gs g) ∙ length-append (active_boxes gs) (boxes_of g)

bounds_of-more : (gs : List Geometry) (g : Geometry) → bounds_of (gs ++ g ∷ []) ≡ fold joined_of (bounds_of gs) (boxes_of g)
bounds_of-more gs g =
    ap (λ boxes. fold joined_of None boxes) (active_boxes-more gs g) ∙ fold-append joined_of None (active_boxes gs) (boxes_of g)

-- what holds of all geometries holds also with one more of which it holds
All-more : (P : Geometry → Type 0) (gs : List Geometry) (g : Geometry) → All P gs → P g → All P (gs ++ g ∷ [])
All-more P gs g all this = All-append P gs (g ∷ []) all (All-cons P g [] this (All-nil P))

-- geometries of this kind are of one kind
one_kind : (kind : Kind) (gs : List Geometry) → All (λ g. kind_of g ≡ kind) gs → All (λ g. All (λ h. kind_of g ≡ kind_of h) gs) gs
one_kind kind gs all k d below j e within = all k d below ∙ sym (all j e within)

pub IsContents-more : (c : ContentsValue) (g : Geometry) → IsContents c → HasRoom (kind_of g) (count_of g) c.geometries → IsGeometry g → IsContents (with_geometry c g)
IsContents-more c g is room this = record {
  geometries = let below = room.geometries_below in let many = length-append c.geometries (g ∷ []) in omega arith;
  primitives = let fits = room.primitives in let more = total_of-more c.geometries g in omega arith;
  one_kind = one_kind (kind_of g) (c.geometries ++ g ∷ []) (All-more (λ h. kind_of h ≡ kind_of g) c.geometries g room.one_kind refl);
  each = All-more IsGeometry c.geometries g is.each this;
  flags = is.flags;
}

-- fewer than 2^32 are active
pub active-fits : (c : ContentsValue) (g : Geometry) (bounds : Option BoxValue) (total active : ℕ) → IsTallied c bounds total active →
    HasRoom (kind_of g) (count_of g) c.geometries → active + length (boxes_of g) ≤ total + count_of g
active-fits c g bounds total active is room =
    let more = active_of-more c.geometries g in
    let all = total_of-more c.geometries g in
    let le = active-le-total (c.geometries ++ g ∷ []) in
    let a = is.active_is in
    let t = is.total_is in
    omega arith

pub IsTallied-more : (c : ContentsValue) (g : Geometry) (bounds : Option BoxValue) (total active : ℕ) → IsTallied c bounds total active →
    HasRoom (kind_of g) (count_of g) c.geometries → IsGeometry g →
    IsTallied (with_geometry c g) (fold joined_of bounds (boxes_of g)) (total + count_of g) (active + length (boxes_of g))
IsTallied-more c g bounds total active is room this = record {
  limits = IsContents-more c g is.limits room this;
  bounds_are = ap (λ b. fold joined_of b (boxes_of g)) is.bounds_are ∙ sym (bounds_of-more c.geometries g);
  total_is = ap (λ n. n + count_of g) is.total_is ∙ sym (total_of-more c.geometries g);
  active_is = ap (λ n. n + length (boxes_of g)) is.active_is ∙ sym (active_of-more c.geometries g);
}
