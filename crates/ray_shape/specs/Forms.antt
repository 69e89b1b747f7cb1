-- By which word an object has which form. (Own: the words are those of ray_cmd's grammar and of ray_script's.)
use Rattle.std.specs.Prelude.{ℕ, List, [], ◌∷◌, codes}
use Rattle.ray_shape.specs.declared.shape.Form.{Form}
use Rattle.ray_shape.specs.declared.shape.Form.TheVariants as forms

-- words, each with the form that it chooses
abbrev pub Words : Type 0
Words = List (List ℕ × Form)

-- the form of a command, by its word
abbrev pub op_forms : Words
op_forms =
    (codes "buffer", forms.Buffer)
    ∷ (codes "structure", forms.Structure)
    ∷ (codes "destroy", forms.Destroy)
    ∷ (codes "sizes", forms.Sizes)
    ∷ (codes "begin", forms.Begin)
    ∷ (codes "end", forms.End)
    ∷ (codes "submit", forms.Submit)
    ∷ (codes "wait", forms.Wait)
    ∷ (codes "read", forms.Read)
    ∷ (codes "update", forms.Update)
    ∷ (codes "fill", forms.Fill)
    ∷ (codes "copy", forms.Copy)
    ∷ (codes "build", forms.Build)
    ∷ (codes "copy_structure", forms.CopyStructure)
    ∷ (codes "serialize", forms.Serialize)
    ∷ (codes "deserialize", forms.Deserialize)
    ∷ (codes "property", forms.Property)
    ∷ (codes "barrier", forms.Barrier)
    ∷ (codes "trace", forms.Trace)
    ∷ []

-- the form of a geometry, by its kind
abbrev pub geometry_forms : Words
geometry_forms = (codes "triangles", forms.Triangles) ∷ (codes "boxes", forms.Boxes) ∷ (codes "instances", forms.Instances) ∷ []

-- the form of what a structure is built from, by its mode
abbrev pub mode_forms : Words
mode_forms = (codes "build", forms.BuildInfo) ∷ (codes "update", forms.UpdateInfo) ∷ []

-- the form of a script's rule, by the word of what it decides
abbrev pub choice_forms : Words
choice_forms =
    (codes "ignore", forms.Rule)
    ∷ (codes "confirm", forms.Rule)
    ∷ (codes "entry", forms.Rule)
    ∷ (codes "exit", forms.Rule)
    ∷ (codes "at", forms.RuleAt)
    ∷ (codes "terminate", forms.Rule)
    ∷ (codes "confirm_terminate", forms.Rule)
    ∷ []
