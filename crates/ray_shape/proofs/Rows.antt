-- Each form of the table is what the grammar reads.
use Rattle.std.proofs.Common.{ℕ, ◌≡◌, ◌∙◌, List, [], ◌∷◌, Option, Some, None, Bool, true, false, refl, ap, sym}
use Rattle.std.specs.Prelude.{◌&&◌, codes, is_none, is_some, if◌then◌else◌, option_and_then}
use Rattle.serde_json.specs.Data.{Data, null, boolean, number, string, array, Items, no_items, item, Members}
use Rattle.serde_json.specs.Find.{get}
use Rattle.ray_json.specs.Fields.{◌>>=◌, at, list_of, listed_at, only, optional_at, u32_of, u64_of, bool_of, hex_of}
use Rattle.ray_script.specs.Rules.{rule_of}
use Rattle.ray_cmd.specs.Building.{build_of}
use Rattle.ray_cmd.specs.Copies.{copy_structure_of, serialize_of, deserialize_of, property_of}
use Rattle.ray_cmd.specs.Geometries.{triangles_of, boxes_of, instances_of, geometry_of}
use Rattle.ray_cmd.specs.Host.{buffer_of, structure_of, destroy_of, sizes_of, begin_of, end_of, submit_of, wait_of, read_of}
use Rattle.ray_cmd.specs.Infos.{info_of}
use Rattle.ray_cmd.specs.Places.{index_of, region_of, spot_of, stretch_of}
use Rattle.ray_cmd.specs.Tracing.{trace_of}
use Rattle.ray_cmd.specs.Transfer.{update_of, fill_of, copy_of, barrier_of}
use Rattle.ray_cmd.specs.Words.{access_of, asked_of, build_flags_of, build_mode_of, copy_mode_of, format_of, ray_flags_of, read_form_of, stages_of, structure_kind_of, thing_of, usage_of}
use Rattle.ray_shape.specs.declared.leaf.Leaf.TheVariants as leaves
use Rattle.ray_shape.specs.declared.shape.Form.{Form}
use Rattle.ray_shape.specs.declared.shape.Form.TheVariants as forms
use Rattle.ray_shape.specs.declared.shape.Item.TheVariants as items
use Rattle.ray_shape.specs.declared.shape.Kind.TheVariants as kinds
use Rattle.ray_shape.specs.Reads.{index_type_of}
use Rattle.ray_shape.specs.Table.{digits, has_members, leaf, list, members_of, number32, number64, object, truth}
use Rattle.ray_shape.proofs.Steps.{bind_is, form_then, listed_then, may_then, must_then}

pub spot_law : (d : Data) → is_some (spot_of d) ≡ has_members (members_of forms.Spot) d
unfolding spot_of
spot_law d = bind_is (only (codes "buffer" ∷ codes "offset" ∷ []) d) _ _ (λ u. must_then u32_of number32 (codes "buffer") d _ _ (λ e. refl) (λ x0. must_then u64_of number64 (codes "offset") d _ _ (λ e. refl) (λ x1. refl)))

pub stretch_law : (d : Data) → is_some (stretch_of d) ≡ has_members (members_of forms.Stretch) d
unfolding stretch_of
stretch_law d = bind_is (only (codes "buffer" ∷ codes "offset" ∷ codes "size" ∷ []) d) _ _ (λ u. must_then u32_of number32 (codes "buffer") d _ _ (λ e. refl) (λ x0. must_then u64_of number64 (codes "offset") d _ _ (λ e. refl) (λ x1. must_then u64_of number64 (codes "size") d _ _ (λ e. refl) (λ x2. refl))))

pub region_law : (d : Data) → is_some (region_of d) ≡ has_members (members_of forms.Region) d
unfolding region_of
region_law d = bind_is (only (codes "src_offset" ∷ codes "dst_offset" ∷ codes "size" ∷ []) d) _ _ (λ u. must_then u64_of number64 (codes "src_offset") d _ _ (λ e. refl) (λ x0. must_then u64_of number64 (codes "dst_offset") d _ _ (λ e. refl) (λ x1. must_then u64_of number64 (codes "size") d _ _ (λ e. refl) (λ x2. refl))))

pub index_law : (d : Data) → is_some (index_of d) ≡ has_members (members_of forms.Index) d
unfolding index_of
index_law d = bind_is (only (codes "type" ∷ codes "buffer" ∷ codes "offset" ∷ []) d) _ _ (λ u. must_then index_type_of (leaf leaves.IndexType) (codes "type") d _ _ (λ e. refl) (λ x0. must_then u32_of number32 (codes "buffer") d _ _ (λ e. refl) (λ x1. must_then u64_of number64 (codes "offset") d _ _ (λ e. refl) (λ x2. refl))))

pub triangles_law : (d : Data) → is_some (triangles_of d) ≡ has_members (members_of forms.Triangles) d
unfolding triangles_of
triangles_law d = bind_is (only (codes "kind" ∷ codes "opaque" ∷ codes "format" ∷ codes "vertex" ∷ codes "stride" ∷ codes "max_vertex" ∷ codes "index" ∷ codes "transform" ∷ codes "count" ∷ codes "primitive_offset" ∷ codes "first_vertex" ∷ codes "transform_offset" ∷ []) d) _ _ (λ u. must_then bool_of truth (codes "opaque") d _ _ (λ e. refl) (λ x0. must_then format_of (leaf leaves.Format) (codes "format") d _ _ (λ e. refl) (λ x1. must_then spot_of (object kinds.Spot) (codes "vertex") d _ _ (λ e. refl) (λ x2. must_then u32_of number32 (codes "stride") d _ _ (λ e. refl) (λ x3. must_then u32_of number32 (codes "max_vertex") d _ _ (λ e. refl) (λ x4. may_then index_of (object kinds.Index) (codes "index") d _ _ (λ e. refl) (λ x5. may_then spot_of (object kinds.Spot) (codes "transform") d _ _ (λ e. refl) (λ x6. must_then u32_of number32 (codes "count") d _ _ (λ e. refl) (λ x7. must_then u32_of number32 (codes "primitive_offset") d _ _ (λ e. refl) (λ x8. must_then u32_of number32 (codes "first_vertex") d _ _ (λ e. refl) (λ x9. must_then u32_of number32 (codes "transform_offset") d _ _ (λ e. refl) (λ x10. refl))))))))))))

pub boxes_law : (d : Data) → is_some (boxes_of d) ≡ has_members (members_of forms.Boxes) d
unfolding boxes_of
boxes_law d = bind_is (only (codes "kind" ∷ codes "opaque" ∷ codes "data" ∷ codes "stride" ∷ codes "count" ∷ codes "primitive_offset" ∷ []) d) _ _ (λ u. must_then bool_of truth (codes "opaque") d _ _ (λ e. refl) (λ x0. must_then spot_of (object kinds.Spot) (codes "data") d _ _ (λ e. refl) (λ x1. must_then u32_of number32 (codes "stride") d _ _ (λ e. refl) (λ x2. must_then u32_of number32 (codes "count") d _ _ (λ e. refl) (λ x3. must_then u32_of number32 (codes "primitive_offset") d _ _ (λ e. refl) (λ x4. refl))))))

pub instances_law : (d : Data) → is_some (instances_of d) ≡ has_members (members_of forms.Instances) d
unfolding instances_of
instances_law d = bind_is (only (codes "kind" ∷ codes "data" ∷ codes "count" ∷ codes "primitive_offset" ∷ []) d) _ _ (λ u. must_then spot_of (object kinds.Spot) (codes "data") d _ _ (λ e. refl) (λ x0. must_then u32_of number32 (codes "count") d _ _ (λ e. refl) (λ x1. must_then u32_of number32 (codes "primitive_offset") d _ _ (λ e. refl) (λ x2. refl))))

pub buffer_law : (d : Data) → is_some (buffer_of d) ≡ has_members (members_of forms.Buffer) d
unfolding buffer_of
buffer_law d = bind_is (only (codes "op" ∷ codes "id" ∷ codes "size" ∷ codes "usage" ∷ codes "data" ∷ []) d) _ _ (λ u. must_then u32_of number32 (codes "id") d _ _ (λ e. refl) (λ x0. must_then u64_of number64 (codes "size") d _ _ (λ e. refl) (λ x1. must_then usage_of (leaf leaves.Usage) (codes "usage") d _ _ (λ e. refl) (λ x2. may_then hex_of digits (codes "data") d _ _ (λ e. refl) (λ x3. refl)))))

pub structure_law : (d : Data) → is_some (structure_of d) ≡ has_members (members_of forms.Structure) d
unfolding structure_of
structure_law d = bind_is (only (codes "op" ∷ codes "id" ∷ codes "kind" ∷ codes "buffer" ∷ codes "offset" ∷ codes "size" ∷ []) d) _ _ (λ u. must_then u32_of number32 (codes "id") d _ _ (λ e. refl) (λ x0. must_then structure_kind_of (leaf leaves.StructureKind) (codes "kind") d _ _ (λ e. refl) (λ x1. must_then u32_of number32 (codes "buffer") d _ _ (λ e. refl) (λ x2. must_then u64_of number64 (codes "offset") d _ _ (λ e. refl) (λ x3. must_then u64_of number64 (codes "size") d _ _ (λ e. refl) (λ x4. refl))))))

pub destroy_law : (d : Data) → is_some (destroy_of d) ≡ has_members (members_of forms.Destroy) d
unfolding destroy_of
destroy_law d = bind_is (only (codes "op" ∷ codes "what" ∷ codes "id" ∷ []) d) _ _ (λ u. must_then thing_of (leaf leaves.Thing) (codes "what") d _ _ (λ e. refl) (λ x0. must_then u32_of number32 (codes "id") d _ _ (λ e. refl) (λ x1. refl)))

pub sizes_law : (d : Data) → is_some (sizes_of d) ≡ has_members (members_of forms.Sizes) d
unfolding sizes_of
sizes_law d = bind_is (only (codes "op" ∷ codes "kind" ∷ codes "counts" ∷ []) d) _ _ (λ u. must_then structure_kind_of (leaf leaves.StructureKind) (codes "kind") d _ _ (λ e. refl) (λ x0. must_then (list_of u32_of) (list items.Number) (codes "counts") d _ _ (λ e. refl) (λ x1. refl)))

pub begin_law : (d : Data) → is_some (begin_of d) ≡ has_members (members_of forms.Begin) d
unfolding begin_of
begin_law d = bind_is (only (codes "op" ∷ []) d) _ _ (λ u. refl)

pub end_law : (d : Data) → is_some (end_of d) ≡ has_members (members_of forms.End) d
unfolding end_of
end_law d = bind_is (only (codes "op" ∷ []) d) _ _ (λ u. refl)

pub submit_law : (d : Data) → is_some (submit_of d) ≡ has_members (members_of forms.Submit) d
unfolding submit_of
submit_law d = bind_is (only (codes "op" ∷ []) d) _ _ (λ u. refl)

pub wait_law : (d : Data) → is_some (wait_of d) ≡ has_members (members_of forms.Wait) d
unfolding wait_of
wait_law d = bind_is (only (codes "op" ∷ []) d) _ _ (λ u. refl)

pub read_law : (d : Data) → is_some (read_of d) ≡ has_members (members_of forms.Read) d
unfolding read_of
read_law d = bind_is (only (codes "op" ∷ codes "buffer" ∷ codes "offset" ∷ codes "size" ∷ codes "form" ∷ []) d) _ _ (λ u. must_then u32_of number32 (codes "buffer") d _ _ (λ e. refl) (λ x0. must_then u64_of number64 (codes "offset") d _ _ (λ e. refl) (λ x1. must_then u64_of number64 (codes "size") d _ _ (λ e. refl) (λ x2. must_then read_form_of (leaf leaves.ReadForm) (codes "form") d _ _ (λ e. refl) (λ x3. refl)))))

pub update_law : (d : Data) → is_some (update_of d) ≡ has_members (members_of forms.Update) d
unfolding update_of
update_law d = bind_is (only (codes "op" ∷ codes "buffer" ∷ codes "offset" ∷ codes "data" ∷ []) d) _ _ (λ u. must_then u32_of number32 (codes "buffer") d _ _ (λ e. refl) (λ x0. must_then u64_of number64 (codes "offset") d _ _ (λ e. refl) (λ x1. must_then hex_of digits (codes "data") d _ _ (λ e. refl) (λ x2. refl))))

pub fill_law : (d : Data) → is_some (fill_of d) ≡ has_members (members_of forms.Fill) d
unfolding fill_of
fill_law d = bind_is (only (codes "op" ∷ codes "buffer" ∷ codes "offset" ∷ codes "size" ∷ codes "value" ∷ []) d) _ _ (λ u. must_then u32_of number32 (codes "buffer") d _ _ (λ e. refl) (λ x0. must_then u64_of number64 (codes "offset") d _ _ (λ e. refl) (λ x1. must_then u64_of number64 (codes "size") d _ _ (λ e. refl) (λ x2. must_then u32_of number32 (codes "value") d _ _ (λ e. refl) (λ x3. refl)))))

pub copy_law : (d : Data) → is_some (copy_of d) ≡ has_members (members_of forms.Copy) d
unfolding copy_of
copy_law d = bind_is (only (codes "op" ∷ codes "src" ∷ codes "dst" ∷ codes "regions" ∷ []) d) _ _ (λ u. must_then u32_of number32 (codes "src") d _ _ (λ e. refl) (λ x0. must_then u32_of number32 (codes "dst") d _ _ (λ e. refl) (λ x1. must_then (list_of region_of) (list items.Region) (codes "regions") d _ _ (λ e. refl) (λ x2. refl))))

pub barrier_law : (d : Data) → is_some (barrier_of d) ≡ has_members (members_of forms.Barrier) d
unfolding barrier_of
barrier_law d = bind_is (only (codes "op" ∷ codes "src_stages" ∷ codes "src_access" ∷ codes "dst_stages" ∷ codes "dst_access" ∷ codes "buffers" ∷ []) d) _ _ (λ u. must_then stages_of (leaf leaves.Stages) (codes "src_stages") d _ _ (λ e. refl) (λ x0. must_then access_of (leaf leaves.Access) (codes "src_access") d _ _ (λ e. refl) (λ x1. must_then stages_of (leaf leaves.Stages) (codes "dst_stages") d _ _ (λ e. refl) (λ x2. must_then access_of (leaf leaves.Access) (codes "dst_access") d _ _ (λ e. refl) (λ x3. may_then (list_of u32_of) (list items.Number) (codes "buffers") d _ _ (λ e. refl) (λ x4. refl))))))

pub build_law : (d : Data) → is_some (build_of d) ≡ has_members (members_of forms.Build) d
unfolding build_of
build_law d = bind_is (only (codes "op" ∷ codes "infos" ∷ []) d) _ _ (λ u. must_then (list_of info_of) (list items.Info) (codes "infos") d _ _ (λ e. refl) (λ x0. refl))

pub copy_structure_law : (d : Data) → is_some (copy_structure_of d) ≡ has_members (members_of forms.CopyStructure) d
unfolding copy_structure_of
copy_structure_law d = bind_is (only (codes "op" ∷ codes "mode" ∷ codes "src" ∷ codes "dst" ∷ []) d) _ _ (λ u. must_then copy_mode_of (leaf leaves.CopyMode) (codes "mode") d _ _ (λ e. refl) (λ x0. must_then u32_of number32 (codes "src") d _ _ (λ e. refl) (λ x1. must_then u32_of number32 (codes "dst") d _ _ (λ e. refl) (λ x2. refl))))

pub serialize_law : (d : Data) → is_some (serialize_of d) ≡ has_members (members_of forms.Serialize) d
unfolding serialize_of
serialize_law d = bind_is (only (codes "op" ∷ codes "src" ∷ codes "dst" ∷ codes "form" ∷ []) d) _ _ (λ u. must_then u32_of number32 (codes "src") d _ _ (λ e. refl) (λ x0. must_then stretch_of (object kinds.Stretch) (codes "dst") d _ _ (λ e. refl) (λ x1. form_then (get (codes "form") d) _ _ (λ x2 u2. refl))))

pub deserialize_law : (d : Data) → is_some (deserialize_of d) ≡ has_members (members_of forms.Deserialize) d
unfolding deserialize_of
deserialize_law d = bind_is (only (codes "op" ∷ codes "src" ∷ codes "dst" ∷ codes "uses" ∷ []) d) _ _ (λ u. must_then stretch_of (object kinds.Stretch) (codes "src") d _ _ (λ e. refl) (λ x0. must_then u32_of number32 (codes "dst") d _ _ (λ e. refl) (λ x1. listed_then (codes "uses") d _ _ (λ x2. refl))))

pub property_law : (d : Data) → is_some (property_of d) ≡ has_members (members_of forms.Property) d
unfolding property_of
property_law d = bind_is (only (codes "op" ∷ codes "what" ∷ codes "structures" ∷ codes "dst" ∷ []) d) _ _ (λ u. must_then asked_of (leaf leaves.Asked) (codes "what") d _ _ (λ e. refl) (λ x0. must_then (list_of u32_of) (list items.Number) (codes "structures") d _ _ (λ e. refl) (λ x1. must_then spot_of (object kinds.Spot) (codes "dst") d _ _ (λ e. refl) (λ x2. refl))))

pub trace_law : (d : Data) → is_some (trace_of d) ≡ has_members (members_of forms.Trace) d
unfolding trace_of
trace_law d = bind_is (only (codes "op" ∷ codes "top" ∷ codes "rays" ∷ codes "count" ∷ codes "hits" ∷ codes "flags" ∷ codes "mask" ∷ codes "script" ∷ []) d) _ _ (λ u. must_then u32_of number32 (codes "top") d _ _ (λ e. refl) (λ x0. must_then spot_of (object kinds.Spot) (codes "rays") d _ _ (λ e. refl) (λ x1. must_then u32_of number32 (codes "count") d _ _ (λ e. refl) (λ x2. must_then spot_of (object kinds.Spot) (codes "hits") d _ _ (λ e. refl) (λ x3. must_then ray_flags_of (leaf leaves.RayFlags) (codes "flags") d _ _ (λ e. refl) (λ x4. must_then u32_of number32 (codes "mask") d _ _ (λ e. refl) (λ x5. must_then (list_of rule_of) (list items.Rule) (codes "script") d _ _ (λ e. refl) (λ x6. refl))))))))
