-- What a walk over a value finds, step by step.
use Rattle.std.proofs.Common.{ℕ, ◌≡◌, ◌∙◌, [], Option, Some, None, Result, Ok, Err, Bool, true, false, refl, ap, sym, subst}
use Rattle.std.specs.Prelude.{is_some}
use Rattle.serde_json.specs.Data.{Data, null, boolean, number, string, array, object, Items, Members}
use Rattle.serde_json.specs.Find.{as_array, as_object}
use Rattle.ray_cmd.specs.Geometries.{geometry_of}
use Rattle.ray_cmd.specs.Infos.{info_of}
use Rattle.ray_cmd.specs.Places.{region_of}
use Rattle.ray_json.specs.Fields.{u32_of}
use Rattle.ray_script.specs.Rules.{rule_of}
use Rattle.ray_shape.specs.declared.shape.Form.{Form}
use Rattle.ray_shape.specs.declared.shape.Item.{Item}
use Rattle.ray_shape.specs.declared.shape.Item.TheVariants as items
use Rattle.ray_shape.specs.declared.shape.Kind.{Kind}
use Rattle.ray_shape.specs.declared.shape.Kind.TheVariants as kinds
use Rattle.ray_shape.specs.declared.wrong.Fault.{Fault}
use Rattle.ray_shape.specs.declared.wrong.Wanted.{Wanted}
use Rattle.ray_shape.specs.declared.wrong.Wrong.{Wrong}
use Rattle.ray_shape.specs.Reads.{all_items, item_shape, reads, reads_list, reads_object}
use Rattle.ray_shape.specs.Table.{form_of, has_form, has_members, members_of}
use Rattle.ray_shape.specs.Wrong.{Finds, IsWrong, is_wanted}
use Rattle.ray_shape.proofs.Chosen.{command_law, geometry_law}
use Rattle.ray_shape.proofs.Moded.{info_law}
use Rattle.ray_shape.proofs.Rows.{spot_law, stretch_law, region_law, index_law}
use Rattle.ray_shape.proofs.Ruled.{rule_law}
use Rattle.ray_shape.proofs.Steps.{items_law}

-- the law of the table: an object is read exactly where it has the members of its form
pub object_law : (kind : Kind) (d : Data) → reads_object kind d ≡ has_form (form_of kind d) d
object_law kinds.Spot d = spot_law d
object_law kinds.Stretch d = stretch_law d
object_law kinds.Region d = region_law d
object_law kinds.Index d = index_law d
object_law kinds.Info d = info_law d
object_law kinds.Geometry d = geometry_law d
object_law kinds.Rule d = rule_law d
object_law kinds.Command d = command_law d

no_object : (kind : Kind) (d : Data) → is_some (as_object d) ≡ false → has_form (form_of kind d) d ≡ false
no_object kinds.Spot null e = refl
no_object kinds.Spot (boolean b) e = refl
no_object kinds.Spot (number n) e = refl
no_object kinds.Spot (string s) e = refl
no_object kinds.Spot (array ds) e = refl
no_object kinds.Spot (object ms) e = absurd cc
no_object kinds.Stretch null e = refl
no_object kinds.Stretch (boolean b) e = refl
no_object kinds.Stretch (number n) e = refl
no_object kinds.Stretch (string s) e = refl
no_object kinds.Stretch (array ds) e = refl
no_object kinds.Stretch (object ms) e = absurd cc
no_object kinds.Region null e = refl
no_object kinds.Region (boolean b) e = refl
no_object kinds.Region (number n) e = refl
no_object kinds.Region (string s) e = refl
no_object kinds.Region (array ds) e = refl
no_object kinds.Region (object ms) e = absurd cc
no_object kinds.Index null e = refl
no_object kinds.Index (boolean b) e = refl
no_object kinds.Index (number n) e = refl
no_object kinds.Index (string s) e = refl
no_object kinds.Index (array ds) e = refl
no_object kinds.Index (object ms) e = absurd cc
no_object kinds.Info null e = refl
no_object kinds.Info (boolean b) e = refl
no_object kinds.Info (number n) e = refl
no_object kinds.Info (string s) e = refl
no_object kinds.Info (array ds) e = refl
no_object kinds.Info (object ms) e = absurd cc
no_object kinds.Geometry null e = refl
no_object kinds.Geometry (boolean b) e = refl
no_object kinds.Geometry (number n) e = refl
no_object kinds.Geometry (string s) e = refl
no_object kinds.Geometry (array ds) e = refl
no_object kinds.Geometry (object ms) e = absurd cc
no_object kinds.Rule null e = refl
no_object kinds.Rule (boolean b) e = refl
no_object kinds.Rule (number n) e = refl
no_object kinds.Rule (string s) e = refl
no_object kinds.Rule (array ds) e = refl
no_object kinds.Rule (object ms) e = absurd cc
no_object kinds.Command null e = refl
no_object kinds.Command (boolean b) e = refl
no_object kinds.Command (number n) e = refl
no_object kinds.Command (string s) e = refl
no_object kinds.Command (array ds) e = refl
no_object kinds.Command (object ms) e = absurd cc

-- what is no object isn't read as one
pub not_object : (kind : Kind) (d : Data) → is_some (as_object d) ≡ false → reads_object kind d ≡ false
not_object kind d e = object_law kind d ∙ no_object kind d e

-- a value itself isn't what is wanted
pub here_wrong : (w : Wrong) (wanted : Wanted) (d : Data) → w.path.items ≡ [] → w.wanted ≡ wanted → is_wanted wanted (Some d) ≡ false → IsWrong w d
here_wrong w wanted d e f g = rw (e, f) g

-- an object of this form
pub form_finds : (kind : Kind) (d : Data) (form : Form) (r : Result (Unit {0}) Fault) → form_of kind d ≡ Some form →
    Finds r (has_members (members_of form) d) d → Finds r (reads_object kind d) d
form_finds kind d form r e found = subst (λ b. Finds r b d) (sym (object_law kind d ∙ ap (λ f. has_form f d) e)) found

-- an object without a form
pub formless_finds : (kind : Kind) (d : Data) (r : Result (Unit {0}) Fault) → form_of kind d ≡ None → Finds r false d → Finds r (reads_object kind d) d
formless_finds kind d r e found = subst (λ b. Finds r b d) (sym (object_law kind d ∙ ap (λ f. has_form f d) e)) found

items_are : (item : Item) (ds : Items) → reads_list item (array ds) ≡ all_items (reads (item_shape item)) ds
items_are items.Number ds = items_law u32_of (reads (item_shape items.Number)) (λ e. refl) ds
items_are items.Region ds = items_law region_of (reads (item_shape items.Region)) (λ e. refl) ds
items_are items.Info ds = items_law info_of (reads (item_shape items.Info)) (λ e. refl) ds
items_are items.Geometry ds = items_law geometry_of (reads (item_shape items.Geometry)) (λ e. refl) ds
items_are items.Rule ds = items_law rule_of (reads (item_shape items.Rule)) (λ e. refl) ds

-- a list, by its items
pub list_finds : (item : Item) (d : Data) (ds : Items) (r : Result (Unit {0}) Fault) → as_array d ≡ Some ds →
    Finds r (all_items (reads (item_shape item)) ds) (array ds) → Finds r (reads_list item d) d
list_finds item null ds r e found = absurd cc
list_finds item (boolean b) ds r e found = absurd cc
list_finds item (number n) ds r e found = absurd cc
list_finds item (string s) ds r e found = absurd cc
list_finds item (array es) ds r e found =
    let same : ds ≡ es = cc in
    subst (λ b. Finds r b (array es)) (sym (items_are item es)) (subst (λ xs. Finds r (all_items (reads (item_shape item)) xs) (array xs)) same found)
list_finds item (object ms) ds r e found = absurd cc
