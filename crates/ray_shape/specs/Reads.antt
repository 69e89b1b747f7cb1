-- Which JSON values have a shape: those that ray_cmd's grammar reads. (Own.)
use Rattle.std.specs.Prelude.{ℕ, List, [], ◌∷◌, Bool, true, false, ◌&&◌, Option, Some, None, codes, is_some}
use Rattle.serde_json.specs.Data.{Data, null, boolean, number, string, array, object, Items, no_items, item}
use Rattle.ray_json.specs.Fields.{bool_of, hex_of, list_of, u32_of, u64_of, word_of}
use Rattle.ray_script.specs.Rules.{rule_of}
use Rattle.ray_cmd.specs.Copies.{is_form}
use Rattle.ray_cmd.specs.Geometries.{geometry_of}
use Rattle.ray_cmd.specs.Grammar.{command_of}
use Rattle.ray_cmd.specs.Infos.{info_of}
use Rattle.ray_cmd.specs.Places.{index_of, region_of, spot_of, stretch_of}
use Rattle.ray_cmd.specs.Words.{access_of, asked_of, build_flags_of, copy_mode_of, format_of, ray_flags_of, read_form_of, stages_of, structure_kind_of, thing_of, usage_of}
use Rattle.ray_shape.specs.declared.leaf.Leaf.{Leaf}
use Rattle.ray_shape.specs.declared.leaf.Leaf.TheVariants as leaves
use Rattle.ray_shape.specs.declared.shape.Item.{Item}
use Rattle.ray_shape.specs.declared.shape.Item.TheVariants as items
use Rattle.ray_shape.specs.declared.shape.Kind.{Kind}
use Rattle.ray_shape.specs.declared.shape.Kind.TheVariants as kinds
use Rattle.ray_shape.specs.declared.shape.Shape.{Shape}
use Rattle.ray_shape.specs.declared.shape.Shape.TheVariants as shapes
use Rattle.ray_shape.specs.Forms.{choice_forms, geometry_forms, mode_forms, op_forms}

-- the number of a serialized form
abbrev pub is_form_number : Option ℕ → Bool
is_form_number None = false
is_form_number (Some n) = is_form (Some n)

-- the bytes of an index, by the word of its type
abbrev pub index_type_of : Data → Option ℕ
index_type_of = word_of ((codes "u16", 2) ∷ (codes "u32", 4) ∷ [])

-- whether a value without parts is read
abbrev pub reads_leaf : Leaf → Data → Bool
reads_leaf leaves.Number64 d = is_some (u64_of d)
reads_leaf leaves.Number32 d = is_some (u32_of d)
reads_leaf leaves.SerializedForm d = is_form_number (u32_of d)
reads_leaf leaves.Truth d = is_some (bool_of d)
reads_leaf leaves.Digits d = is_some (hex_of d)
reads_leaf leaves.Op d = is_some (word_of op_forms d)
reads_leaf leaves.GeometryKind d = is_some (word_of geometry_forms d)
reads_leaf leaves.BuildMode d = is_some (word_of mode_forms d)
reads_leaf leaves.Choice d = is_some (word_of choice_forms d)
reads_leaf leaves.StructureKind d = is_some (structure_kind_of d)
reads_leaf leaves.Thing d = is_some (thing_of d)
reads_leaf leaves.ReadForm d = is_some (read_form_of d)
reads_leaf leaves.CopyMode d = is_some (copy_mode_of d)
reads_leaf leaves.Asked d = is_some (asked_of d)
reads_leaf leaves.Format d = is_some (format_of d)
reads_leaf leaves.IndexType d = is_some (index_type_of d)
reads_leaf leaves.Usage d = is_some (usage_of d)
reads_leaf leaves.BuildFlags d = is_some (build_flags_of d)
reads_leaf leaves.RayFlags d = is_some (ray_flags_of d)
reads_leaf leaves.Stages d = is_some (stages_of d)
reads_leaf leaves.Access d = is_some (access_of d)

-- whether a list is read
abbrev pub reads_list : Item → Data → Bool
reads_list items.Number d = is_some (list_of u32_of d)
reads_list items.Region d = is_some (list_of region_of d)
reads_list items.Info d = is_some (list_of info_of d)
reads_list items.Geometry d = is_some (list_of geometry_of d)
reads_list items.Rule d = is_some (list_of rule_of d)

-- whether an object is read
abbrev pub reads_object : Kind → Data → Bool
reads_object kinds.Spot d = is_some (spot_of d)
reads_object kinds.Stretch d = is_some (stretch_of d)
reads_object kinds.Region d = is_some (region_of d)
reads_object kinds.Index d = is_some (index_of d)
reads_object kinds.Info d = is_some (info_of d)
reads_object kinds.Geometry d = is_some (geometry_of d)
reads_object kinds.Rule d = is_some (rule_of d)
reads_object kinds.Command d = is_some (command_of d)

-- whether the grammar reads a value as of this shape
abbrev pub reads : Shape → Data → Bool
reads (shapes.Leaf leaf) d = reads_leaf leaf d
reads (shapes.List of) d = reads_list of d
reads (shapes.Object kind) d = reads_object kind d

-- the shape of an item of a list
abbrev pub item_shape : Item → Shape
item_shape items.Number = shapes.Leaf leaves.Number32
item_shape items.Region = shapes.Object kinds.Region
item_shape items.Info = shapes.Object kinds.Info
item_shape items.Geometry = shapes.Object kinds.Geometry
item_shape items.Rule = shapes.Object kinds.Rule

-- whether each item passes a test
abbrev pub all_items : (Data → Bool) → Items → Bool
all_items test no_items = true
all_items test (item d ds) = test d && all_items test ds

-- whether a value is a list each item of which does
abbrev pub is_list_of : (Data → Bool) → Data → Bool
is_list_of test null = false
is_list_of test (boolean b) = false
is_list_of test (number n) = false
is_list_of test (string s) = false
is_list_of test (array ds) = all_items test ds
is_list_of test (object ms) = false
