-- What an info of a build gives, by the memory as it is: the kind of the structure that is built is that of
-- its destination there. (Own.)
use Rattle.std.specs.Prelude.{ℕ, ◌≡◌, ◌≤◌, ◌^◌, List, [], ◌∷◌, map, false, Option, Some, None}
use Rattle.ray_bytes.specs.Views as views
use Rattle.ray_geometries.specs.Contents as bottoms
use Rattle.ray_top.specs.Contents as tops
use Rattle.ray_cmd.specs.declared.build_mode.BuildMode.{BuildMode}
use Rattle.ray_cmd.specs.declared.build_mode.BuildMode.TheVariants as modes
use Rattle.ray_cmd.specs.declared.geometry.Geometry.{Geometry}
use Rattle.ray_cmd.specs.declared.info.Info.{Info}
use Rattle.ray_cmd.specs.declared.structure_kind.StructureKind.{StructureKind}
use Rattle.ray_cmd.specs.declared.structure_kind.StructureKind.TheVariants as kinds
use Rattle.ray_rules.specs.Ranges.{count_of}
use Rattle.ray_action.specs.declared.form.Form.{Form}
use Rattle.ray_action.specs.Memory.{Memory, StructureAt, ContentsAt}
use Rattle.ray_action.specs.Building.{first_input, instances_in, new_builder, update_builder}
use Rattle.ray_action.specs.Outcomes.{Outcome, Undefined, bottom_outcome, top_outcome, of_bottom, of_top}
use Rattle.ray_action.specs.Readiness.{IsBottomSource, IsTopSource}
use Rattle.ray_device.specs.Bottoms.{add_all_now, inputs_now, CanAdd}
use Rattle.ray_device.specs.Tops.{used_now}

-- ---- what it gives

-- a bottom structure, built anew or updated by info number k
abbrev pub bottom_now : Memory → ℕ → Info → BuildMode → Option ℕ → Outcome
bottom_now memory k info modes.Build src = bottom_outcome k (add_all_now memory info.geometries (new_builder info.flags))
bottom_now memory k info modes.Update (Some src) =
    of_bottom (memory (ContentsAt src)) (λ old. bottom_outcome k (add_all_now memory info.geometries (update_builder old)))
bottom_now memory k info modes.Update None = Undefined

-- the bytes of the instances of a geometry
abbrev pub instances_now : Memory → Geometry → views.Row
instances_now memory g = instances_in (first_input (inputs_now memory g))

-- a top structure, built anew or updated
abbrev pub top_now : Memory → ℕ → Info → Geometry → BuildMode → Option ℕ → Outcome
top_now memory k info g modes.Build src =
    top_outcome k (tops.top_built info.flags (map (used_now memory) info.uses) (instances_now memory g) (count_of g))
top_now memory k info g modes.Update (Some src) =
    of_top (memory (ContentsAt src))
    (λ old. top_outcome k (tops.top_updated old (map (used_now memory) info.uses) (instances_now memory g) (count_of g)))
top_now memory k info g modes.Update None = Undefined

-- the same from its one geometry
abbrev pub one_top_now : Memory → ℕ → Info → List Geometry → Outcome
one_top_now memory k info (g ∷ []) = top_now memory k info g info.mode info.src
one_top_now memory k info _ = Undefined

-- a structure of a kind
abbrev pub kind_now : Memory → ℕ → Info → StructureKind → Outcome
kind_now memory k info kinds.Bottom = bottom_now memory k info info.mode info.src
kind_now memory k info kinds.Top = one_top_now memory k info info.geometries

-- what is built by the kind of what stands under its destination
abbrev pub form_now : Memory → ℕ → Info → Option Form → Outcome
form_now memory k info None = Undefined
form_now memory k info (Some form) = kind_now memory k info form.kind

abbrev pub info_now : Memory → ℕ → Info → Outcome
info_now memory k info = form_now memory k info (memory (StructureAt info.dst))

-- ---- what it needs

-- a bottom structure: its geometries can be added, and what is updated is one
abbrev pub CanBuildBottom : Memory → Info → BuildMode → Option ℕ → Type 0
CanBuildBottom memory info modes.Build src = CanAdd memory info.geometries [] × (bottoms.has_both_fast info.flags ≡ false)
CanBuildBottom memory info modes.Update (Some src) = CanAdd memory info.geometries [] × IsBottomSource (memory (ContentsAt src))
CanBuildBottom memory info modes.Update None = ⊥

-- a top structure: not too many instances, and what is updated is one of as many
abbrev pub CanBuildTop : Memory → Info → Geometry → BuildMode → Option ℕ → Type 0
CanBuildTop memory info g modes.Build src = (count_of g ≤ 2 ^ 16) × (tops.has_both_fast info.flags ≡ false)
CanBuildTop memory info g modes.Update (Some src) = IsTopSource g (memory (ContentsAt src))
CanBuildTop memory info g modes.Update None = ⊥

abbrev pub CanBuildOneTop : Memory → Info → List Geometry → Type 0
CanBuildOneTop memory info (g ∷ []) = CanBuildTop memory info g info.mode info.src
CanBuildOneTop memory info _ = ⊥

-- a structure of a kind, and what stands under the destination
abbrev pub CanBuildKind : Memory → Info → StructureKind → Type 0
CanBuildKind memory info kinds.Bottom = CanBuildBottom memory info info.mode info.src
CanBuildKind memory info kinds.Top = CanBuildOneTop memory info info.geometries

abbrev pub CanBuildForm : Memory → Info → Option Form → Type 0
CanBuildForm memory info None = ⊥
CanBuildForm memory info (Some form) = CanBuildKind memory info form.kind

abbrev pub CanBuild : Memory → Info → Type 0
CanBuild memory info = CanBuildForm memory info (memory (StructureAt info.dst))
