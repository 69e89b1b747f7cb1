-- The grammar of a recording's objects as a table: the members of each form, with what each of them holds, and by which
-- word an object has which form. Its agreement with ray_cmd's grammar is a law. (Own.)
use Rattle.std.specs.Prelude.{ℕ, List, [], ◌∷◌, Bool, true, false, ◌&&◌, Option, Some, None, codes, is_some, map}
use Rattle.serde_json.specs.Data.{Data}
use Rattle.serde_json.specs.Find.{get}
use Rattle.ray_json.specs.Fields.{at, only, word_of}
use Rattle.ray_shape.specs.declared.leaf.Leaf.{Leaf}
use Rattle.ray_shape.specs.declared.leaf.Leaf.TheVariants as leaves
use Rattle.ray_shape.specs.declared.shape.Field.{Field}
use Rattle.ray_shape.specs.declared.shape.Form.{Form}
use Rattle.ray_shape.specs.declared.shape.Form.TheVariants as forms
use Rattle.ray_shape.specs.declared.shape.Item.{Item}
use Rattle.ray_shape.specs.declared.shape.Item.TheVariants as items
use Rattle.ray_shape.specs.declared.shape.Kind.{Kind}
use Rattle.ray_shape.specs.declared.shape.Kind.TheVariants as kinds
use Rattle.ray_shape.specs.declared.shape.Need.{Need}
use Rattle.ray_shape.specs.declared.shape.Need.TheVariants as needs
use Rattle.ray_shape.specs.declared.shape.Shape.{Shape}
use Rattle.ray_shape.specs.declared.shape.Shape.TheVariants as shapes
use Rattle.ray_shape.specs.Forms.{choice_forms, geometry_forms, mode_forms, op_forms}
use Rattle.ray_shape.specs.Reads.{reads}

-- a member of a form: its name, whether it has to be there, and what it holds
pub record Member : Type 0 where
  pub name : List ℕ
  pub need : Need
  pub shape : Shape

-- a row of the table as code has it
abbrev pub member_of : Field → Member
member_of field = record { name = field.name.now; need = field.need; shape = field.shape }

abbrev pub must : List ℕ → Shape → Member
must name shape = record { name = name; need = needs.Must; shape = shape }

abbrev pub may : List ℕ → Shape → Member
may name shape = record { name = name; need = needs.May; shape = shape }

abbrev pub never : List ℕ → Shape → Member
never name shape = record { name = name; need = needs.Never; shape = shape }

abbrev pub tag : List ℕ → Shape → Member
tag name shape = record { name = name; need = needs.Tag; shape = shape }

-- shapes by short names
abbrev pub leaf : Leaf → Shape
leaf l = shapes.Leaf l

abbrev pub list : Item → Shape
list i = shapes.List i

abbrev pub object : Kind → Shape
object k = shapes.Object k

abbrev pub number32 : Shape
number32 = shapes.Leaf leaves.Number32

abbrev pub number64 : Shape
number64 = shapes.Leaf leaves.Number64

abbrev pub truth : Shape
truth = shapes.Leaf leaves.Truth

abbrev pub digits : Shape
digits = shapes.Leaf leaves.Digits

-- the members of each form
abbrev pub members_of : Form → List Member
members_of forms.Spot = must (codes "buffer") number32 ∷ must (codes "offset") number64 ∷ []
members_of forms.Stretch =
    must (codes "buffer") number32
    ∷ must (codes "offset") number64
    ∷ must (codes "size") number64
    ∷ []
members_of forms.Region =
    must (codes "src_offset") number64
    ∷ must (codes "dst_offset") number64
    ∷ must (codes "size") number64
    ∷ []
members_of forms.Index =
    must (codes "type") (leaf leaves.IndexType)
    ∷ must (codes "buffer") number32
    ∷ must (codes "offset") number64
    ∷ []
members_of forms.BuildInfo =
    tag (codes "mode") (leaf leaves.BuildMode)
    ∷ must (codes "dst") number32
    ∷ never (codes "src") number32
    ∷ must (codes "flags") (leaf leaves.BuildFlags)
    ∷ must (codes "scratch") (object kinds.Spot)
    ∷ must (codes "geometries") (list items.Geometry)
    ∷ may (codes "uses") (list items.Number)
    ∷ []
members_of forms.UpdateInfo =
    tag (codes "mode") (leaf leaves.BuildMode)
    ∷ must (codes "dst") number32
    ∷ must (codes "src") number32
    ∷ must (codes "flags") (leaf leaves.BuildFlags)
    ∷ must (codes "scratch") (object kinds.Spot)
    ∷ must (codes "geometries") (list items.Geometry)
    ∷ may (codes "uses") (list items.Number)
    ∷ []
members_of forms.Triangles =
    tag (codes "kind") (leaf leaves.GeometryKind)
    ∷ must (codes "opaque") truth
    ∷ must (codes "format") (leaf leaves.Format)
    ∷ must (codes "vertex") (object kinds.Spot)
    ∷ must (codes "stride") number32
    ∷ must (codes "max_vertex") number32
    ∷ may (codes "index") (object kinds.Index)
    ∷ may (codes "transform") (object kinds.Spot)
    ∷ must (codes "count") number32
    ∷ must (codes "primitive_offset") number32
    ∷ must (codes "first_vertex") number32
    ∷ must (codes "transform_offset") number32
    ∷ []
members_of forms.Boxes =
    tag (codes "kind") (leaf leaves.GeometryKind)
    ∷ must (codes "opaque") truth
    ∷ must (codes "data") (object kinds.Spot)
    ∷ must (codes "stride") number32
    ∷ must (codes "count") number32
    ∷ must (codes "primitive_offset") number32
    ∷ []
members_of forms.Instances =
    tag (codes "kind") (leaf leaves.GeometryKind)
    ∷ must (codes "data") (object kinds.Spot)
    ∷ must (codes "count") number32
    ∷ must (codes "primitive_offset") number32
    ∷ []
members_of forms.Rule =
    may (codes "ray") number64
    ∷ may (codes "instance") number64
    ∷ may (codes "geometry") number64
    ∷ may (codes "primitive") number64
    ∷ may (codes "nth") number64
    ∷ tag (codes "do") (leaf leaves.Choice)
    ∷ []
members_of forms.RuleAt =
    may (codes "ray") number64
    ∷ may (codes "instance") number64
    ∷ may (codes "geometry") number64
    ∷ may (codes "primitive") number64
    ∷ may (codes "nth") number64
    ∷ tag (codes "do") (leaf leaves.Choice)
    ∷ must (codes "num") number64
    ∷ must (codes "den") number64
    ∷ []
members_of forms.Buffer =
    tag (codes "op") (leaf leaves.Op)
    ∷ must (codes "id") number32
    ∷ must (codes "size") number64
    ∷ must (codes "usage") (leaf leaves.Usage)
    ∷ may (codes "data") digits
    ∷ []
members_of forms.Structure =
    tag (codes "op") (leaf leaves.Op)
    ∷ must (codes "id") number32
    ∷ must (codes "kind") (leaf leaves.StructureKind)
    ∷ must (codes "buffer") number32
    ∷ must (codes "offset") number64
    ∷ must (codes "size") number64
    ∷ []
members_of forms.Destroy =
    tag (codes "op") (leaf leaves.Op)
    ∷ must (codes "what") (leaf leaves.Thing)
    ∷ must (codes "id") number32
    ∷ []
members_of forms.Sizes =
    tag (codes "op") (leaf leaves.Op)
    ∷ must (codes "kind") (leaf leaves.StructureKind)
    ∷ must (codes "counts") (list items.Number)
    ∷ []
members_of forms.Begin = tag (codes "op") (leaf leaves.Op) ∷ []
members_of forms.End = tag (codes "op") (leaf leaves.Op) ∷ []
members_of forms.Submit = tag (codes "op") (leaf leaves.Op) ∷ []
members_of forms.Wait = tag (codes "op") (leaf leaves.Op) ∷ []
members_of forms.Read =
    tag (codes "op") (leaf leaves.Op)
    ∷ must (codes "buffer") number32
    ∷ must (codes "offset") number64
    ∷ must (codes "size") number64
    ∷ must (codes "form") (leaf leaves.ReadForm)
    ∷ []
members_of forms.Update =
    tag (codes "op") (leaf leaves.Op)
    ∷ must (codes "buffer") number32
    ∷ must (codes "offset") number64
    ∷ must (codes "data") digits
    ∷ []
members_of forms.Fill =
    tag (codes "op") (leaf leaves.Op)
    ∷ must (codes "buffer") number32
    ∷ must (codes "offset") number64
    ∷ must (codes "size") number64
    ∷ must (codes "value") number32
    ∷ []
members_of forms.Copy =
    tag (codes "op") (leaf leaves.Op)
    ∷ must (codes "src") number32
    ∷ must (codes "dst") number32
    ∷ must (codes "regions") (list items.Region)
    ∷ []
members_of forms.Barrier =
    tag (codes "op") (leaf leaves.Op)
    ∷ must (codes "src_stages") (leaf leaves.Stages)
    ∷ must (codes "src_access") (leaf leaves.Access)
    ∷ must (codes "dst_stages") (leaf leaves.Stages)
    ∷ must (codes "dst_access") (leaf leaves.Access)
    ∷ may (codes "buffers") (list items.Number)
    ∷ []
members_of forms.Build = tag (codes "op") (leaf leaves.Op) ∷ must (codes "infos") (list items.Info) ∷ []
members_of forms.CopyStructure =
    tag (codes "op") (leaf leaves.Op)
    ∷ must (codes "mode") (leaf leaves.CopyMode)
    ∷ must (codes "src") number32
    ∷ must (codes "dst") number32
    ∷ []
members_of forms.Serialize =
    tag (codes "op") (leaf leaves.Op)
    ∷ must (codes "src") number32
    ∷ must (codes "dst") (object kinds.Stretch)
    ∷ may (codes "form") (leaf leaves.SerializedForm)
    ∷ []
members_of forms.Deserialize =
    tag (codes "op") (leaf leaves.Op)
    ∷ must (codes "src") (object kinds.Stretch)
    ∷ must (codes "dst") number32
    ∷ may (codes "uses") (list items.Number)
    ∷ []
members_of forms.Property =
    tag (codes "op") (leaf leaves.Op)
    ∷ must (codes "what") (leaf leaves.Asked)
    ∷ must (codes "structures") (list items.Number)
    ∷ must (codes "dst") (object kinds.Spot)
    ∷ []
members_of forms.Trace =
    tag (codes "op") (leaf leaves.Op)
    ∷ must (codes "top") number32
    ∷ must (codes "rays") (object kinds.Spot)
    ∷ must (codes "count") number32
    ∷ must (codes "hits") (object kinds.Spot)
    ∷ must (codes "flags") (leaf leaves.RayFlags)
    ∷ must (codes "mask") number32
    ∷ must (codes "script") (list items.Rule)
    ∷ []

-- whether a member that was found, or wasn't, is as its row says. That of a tag is for the choice of the form to say
abbrev pub fits_found : Need → Shape → Option Data → Bool
fits_found needs.Must shape None = false
fits_found needs.Must shape (Some d) = reads shape d
fits_found needs.May shape None = true
fits_found needs.May shape (Some d) = reads shape d
fits_found needs.Never shape None = true
fits_found needs.Never shape (Some d) = false
fits_found needs.Tag shape found = true

abbrev pub fits : Member → Data → Bool
fits m d = fits_found m.need m.shape (get m.name d)

-- whether each of these members is as its row says
abbrev pub all_fit : List Member → Data → Bool
all_fit [] d = true
all_fit (m ∷ ms) d = fits m d && all_fit ms d

-- whether a value is an object with no member but these
abbrev pub names_fit : List Member → Data → Bool
names_fit ms d = is_some (only (map (λ m. m.name) ms) d)

-- whether a value is an object with these members
abbrev pub has_members : List Member → Data → Bool
has_members ms d = names_fit ms d && all_fit ms d

-- ---- the form of an object

-- the form of an object of a kind, if it has one
abbrev pub form_of : Kind → Data → Option Form
form_of kinds.Spot d = Some forms.Spot
form_of kinds.Stretch d = Some forms.Stretch
form_of kinds.Region d = Some forms.Region
form_of kinds.Index d = Some forms.Index
form_of kinds.Info d = at (word_of mode_forms) (codes "mode") d
form_of kinds.Geometry d = at (word_of geometry_forms) (codes "kind") d
form_of kinds.Rule d = at (word_of choice_forms) (codes "do") d
form_of kinds.Command d = at (word_of op_forms) (codes "op") d

-- whether an object that has a form has its members
abbrev pub has_form : Option Form → Data → Bool
has_form None d = false
has_form (Some form) d = has_members (members_of form) d
