-- Each kind of object is read by its form.
use Rattle.std.proofs.Common.{ℕ, ◌≡◌, ◌∙◌, List, [], ◌∷◌, Option, Some, None, Bool, true, false, refl, ap, sym}
use Rattle.std.specs.Prelude.{◌&&◌, codes, is_none, is_some, if◌then◌else◌, option_and_then}
use Rattle.serde_json.specs.Data.{Data, null, boolean, number, string, array, Items, no_items, item, Members}
use Rattle.serde_json.specs.Find.{get}
use Rattle.std.specs.Str.{bytes_eq}
use Rattle.serde_json.specs.Data as values
use Rattle.ray_json.specs.Fields.{◌>>=◌, at, list_of, listed_at, only, optional_at, u32_of, u64_of, word_of}
use Rattle.ray_script.specs.declared.raw_choice.RawChoice.{RawChoice}
use Rattle.ray_script.specs.declared.raw_choice.RawChoice.TheVariants as choices
use Rattle.ray_script.specs.declared.raw_rule.RawRule.{RawRule}
use Rattle.ray_script.specs.Rules.{rule_of}
use Rattle.ray_cmd.specs.Grammar.{command_by, command_of, op_of}
use Rattle.ray_cmd.specs.Geometries.{geometry_by, geometry_of}
use Rattle.ray_cmd.specs.Words.{geometry_kind_of}
use Rattle.ray_shape.specs.declared.leaf.Leaf.TheVariants as leaves
use Rattle.ray_shape.specs.declared.shape.Form.{Form}
use Rattle.ray_shape.specs.declared.shape.Form.TheVariants as forms
use Rattle.ray_shape.specs.declared.shape.Kind.{Kind}
use Rattle.ray_shape.specs.declared.shape.Kind.TheVariants as kinds
use Rattle.ray_shape.specs.Forms.{geometry_forms, op_forms}
use Rattle.ray_shape.specs.Table.{has_form, has_members, members_of, number64}
use Rattle.ray_shape.proofs.Steps.{bind_is, choose, may_then, two_then}
use Rattle.ray_shape.proofs.Rows.{spot_law, stretch_law, region_law, index_law, triangles_law, boxes_law, instances_law, buffer_law, structure_law, destroy_law, sizes_law, begin_law, end_law, submit_law, wait_law, read_law, update_law, fill_law, copy_law, build_law, copy_structure_law, serialize_law, deserialize_law, property_law, barrier_law, trace_law}

-- a command, by the word that was found, if one was
op_law : (w : List ℕ) (d : Data) → is_some (op_of (string w) >>= λ op. command_by op d) ≡ has_form (word_of op_forms (string w)) d
op_law w d =
    choose (bytes_eq (codes "buffer") w) _ _ _ forms.Buffer _ d (buffer_law d) (
    choose (bytes_eq (codes "structure") w) _ _ _ forms.Structure _ d (structure_law d) (
    choose (bytes_eq (codes "destroy") w) _ _ _ forms.Destroy _ d (destroy_law d) (
    choose (bytes_eq (codes "sizes") w) _ _ _ forms.Sizes _ d (sizes_law d) (
    choose (bytes_eq (codes "begin") w) _ _ _ forms.Begin _ d (begin_law d) (
    choose (bytes_eq (codes "end") w) _ _ _ forms.End _ d (end_law d) (
    choose (bytes_eq (codes "submit") w) _ _ _ forms.Submit _ d (submit_law d) (
    choose (bytes_eq (codes "wait") w) _ _ _ forms.Wait _ d (wait_law d) (
    choose (bytes_eq (codes "read") w) _ _ _ forms.Read _ d (read_law d) (
    choose (bytes_eq (codes "update") w) _ _ _ forms.Update _ d (update_law d) (
    choose (bytes_eq (codes "fill") w) _ _ _ forms.Fill _ d (fill_law d) (
    choose (bytes_eq (codes "copy") w) _ _ _ forms.Copy _ d (copy_law d) (
    choose (bytes_eq (codes "build") w) _ _ _ forms.Build _ d (build_law d) (
    choose (bytes_eq (codes "copy_structure") w) _ _ _ forms.CopyStructure _ d (copy_structure_law d) (
    choose (bytes_eq (codes "serialize") w) _ _ _ forms.Serialize _ d (serialize_law d) (
    choose (bytes_eq (codes "deserialize") w) _ _ _ forms.Deserialize _ d (deserialize_law d) (
    choose (bytes_eq (codes "property") w) _ _ _ forms.Property _ d (property_law d) (
    choose (bytes_eq (codes "barrier") w) _ _ _ forms.Barrier _ d (barrier_law d) (
    choose (bytes_eq (codes "trace") w) _ _ _ forms.Trace _ d (trace_law d) (
    refl)))))))))))))))))))

command_found : (found : Option Data) (d : Data) → is_some ((found >>= op_of) >>= λ op. command_by op d) ≡ has_form (found >>= word_of op_forms) d
command_found None d = refl
command_found (Some null) d = refl
command_found (Some (boolean b)) d = refl
command_found (Some (number n)) d = refl
command_found (Some (string w)) d = op_law w d
command_found (Some (array es)) d = refl
command_found (Some (values.object ms)) d = refl

pub command_law : (d : Data) → is_some (command_of d) ≡ has_form (at (word_of op_forms) (codes "op") d) d
command_law d = command_found (get (codes "op") d) d

-- a geometry
kind_law : (w : List ℕ) (d : Data) → is_some (geometry_kind_of (string w) >>= λ kind. geometry_by kind d) ≡ has_form (word_of geometry_forms (string w)) d
kind_law w d =
    choose (bytes_eq (codes "triangles") w) _ _ _ forms.Triangles _ d (triangles_law d) (
    choose (bytes_eq (codes "boxes") w) _ _ _ forms.Boxes _ d (boxes_law d) (
    choose (bytes_eq (codes "instances") w) _ _ _ forms.Instances _ d (instances_law d) (
    refl)))

geometry_found : (found : Option Data) (d : Data) → is_some ((found >>= geometry_kind_of) >>= λ kind. geometry_by kind d) ≡ has_form (found >>= word_of geometry_forms) d
geometry_found None d = refl
geometry_found (Some null) d = refl
geometry_found (Some (boolean b)) d = refl
geometry_found (Some (number n)) d = refl
geometry_found (Some (string w)) d = kind_law w d
geometry_found (Some (array es)) d = refl
geometry_found (Some (values.object ms)) d = refl

pub geometry_law : (d : Data) → is_some (geometry_of d) ≡ has_form (at (word_of geometry_forms) (codes "kind") d) d
geometry_law d = geometry_found (get (codes "kind") d) d
