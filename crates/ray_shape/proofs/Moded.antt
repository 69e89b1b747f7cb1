-- What a structure is built from is read by its form.
use Rattle.std.proofs.Common.{ℕ, ◌≡◌, ◌∙◌, List, [], ◌∷◌, Option, Some, None, Bool, true, false, refl, ap, sym}
use Rattle.std.specs.Prelude.{◌&&◌, codes, is_none, is_some, if◌then◌else◌, option_and_then}
use Rattle.serde_json.specs.Data.{Data, null, boolean, number, string, array, object, Items, no_items, item, Members}
use Rattle.serde_json.specs.Find.{get}
use Rattle.std.specs.Str.{bytes_eq}
use Rattle.ray_json.specs.Fields.{◌>>=◌, at, guard, list_of, listed_at, only, optional_at, u32_of, word_of}
use Rattle.ray_cmd.specs.declared.build_mode.BuildMode.{BuildMode}
use Rattle.ray_cmd.specs.declared.build_mode.BuildMode.TheVariants as modes
use Rattle.ray_cmd.specs.declared.info.Info.{Info}
use Rattle.ray_cmd.specs.Geometries.{geometry_of}
use Rattle.ray_cmd.specs.Infos.{info_of, source_fits}
use Rattle.ray_cmd.specs.Places.{spot_of}
use Rattle.ray_cmd.specs.Words.{build_flags_of, build_mode_of}
use Rattle.ray_shape.specs.declared.leaf.Leaf.TheVariants as leaves
use Rattle.ray_shape.specs.declared.shape.Form.{Form}
use Rattle.ray_shape.specs.declared.shape.Form.TheVariants as forms
use Rattle.ray_shape.specs.declared.shape.Item.TheVariants as items
use Rattle.ray_shape.specs.declared.shape.Kind.TheVariants as kinds
use Rattle.ray_shape.specs.Forms.{mode_forms}
use Rattle.ray_shape.specs.Table.{has_form, has_members, leaf, list, members_of, number32}
use Rattle.ray_shape.specs.Table as table
use Rattle.ray_shape.proofs.Steps.{bind_is, listed_then, must_then, never_then, source_then}

-- what is read behind the mode
abbrev rest : BuildMode → Data → Option Info
rest mode d =
    at u32_of (codes "dst") d >>= λ dst.
    optional_at u32_of (codes "src") d >>= λ src.
    guard (source_fits mode src) >>= λ u.
    at build_flags_of (codes "flags") d >>= λ flags.
    at spot_of (codes "scratch") d >>= λ scratch.
    at (list_of geometry_of) (codes "geometries") d >>= λ geometries.
    listed_at u32_of (codes "uses") d >>= λ uses.
    Some (record { mode = mode; dst = dst; src = src; flags = flags; scratch = scratch; geometries = geometries; uses = uses })

built : (d : Data) → is_some (only (codes "mode" ∷ codes "dst" ∷ codes "src" ∷ codes "flags" ∷ codes "scratch" ∷ codes "geometries" ∷ codes "uses" ∷ []) d >>= λ u. rest modes.Build d) ≡ has_members (members_of forms.BuildInfo) d
built d = bind_is (only (codes "mode" ∷ codes "dst" ∷ codes "src" ∷ codes "flags" ∷ codes "scratch" ∷ codes "geometries" ∷ codes "uses" ∷ []) d) _ _ (λ u. must_then u32_of number32 (codes "dst") d _ _ (λ e. refl) (λ dst. never_then u32_of number32 (get (codes "src") d) _ _ (λ src v. must_then build_flags_of (leaf leaves.BuildFlags) (codes "flags") d _ _ (λ e. refl) (λ x0. must_then spot_of (table.object kinds.Spot) (codes "scratch") d _ _ (λ e. refl) (λ x1. must_then (list_of geometry_of) (list items.Geometry) (codes "geometries") d _ _ (λ e. refl) (λ x2. listed_then (codes "uses") d _ _ (λ x3. refl)))))))

updated : (d : Data) → is_some (only (codes "mode" ∷ codes "dst" ∷ codes "src" ∷ codes "flags" ∷ codes "scratch" ∷ codes "geometries" ∷ codes "uses" ∷ []) d >>= λ u. rest modes.Update d) ≡ has_members (members_of forms.UpdateInfo) d
updated d = bind_is (only (codes "mode" ∷ codes "dst" ∷ codes "src" ∷ codes "flags" ∷ codes "scratch" ∷ codes "geometries" ∷ codes "uses" ∷ []) d) _ _ (λ u. must_then u32_of number32 (codes "dst") d _ _ (λ e. refl) (λ dst. source_then u32_of number32 (get (codes "src") d) _ _ (λ e. refl) (λ src v. must_then build_flags_of (leaf leaves.BuildFlags) (codes "flags") d _ _ (λ e. refl) (λ x0. must_then spot_of (table.object kinds.Spot) (codes "scratch") d _ _ (λ e. refl) (λ x1. must_then (list_of geometry_of) (list items.Geometry) (codes "geometries") d _ _ (λ e. refl) (λ x2. listed_then (codes "uses") d _ _ (λ x3. refl)))))))

none_after : {A B : Type 0} (x : Option A) (n : Option B) → n ≡ None → is_some (x >>= λ a. n) ≡ false
none_after None n e = refl
none_after (Some a) n e = ap is_some e

chosen : (b c : Bool) (d : Data) →
    is_some (only (codes "mode" ∷ codes "dst" ∷ codes "src" ∷ codes "flags" ∷ codes "scratch" ∷ codes "geometries" ∷ codes "uses" ∷ []) d >>= λ u. (if b then Some modes.Build else (if c then Some modes.Update else None)) >>= λ mode. rest mode d)
    ≡ has_form (if b then Some forms.BuildInfo else (if c then Some forms.UpdateInfo else None)) d
chosen true c d = built d
chosen false true d = updated d
chosen false false d = none_after (only (codes "mode" ∷ codes "dst" ∷ codes "src" ∷ codes "flags" ∷ codes "scratch" ∷ codes "geometries" ∷ codes "uses" ∷ []) d) None refl

found_mode : (found : Option Data) (d : Data) →
    is_some (only (codes "mode" ∷ codes "dst" ∷ codes "src" ∷ codes "flags" ∷ codes "scratch" ∷ codes "geometries" ∷ codes "uses" ∷ []) d >>= λ u. (found >>= build_mode_of) >>= λ mode. rest mode d) ≡ has_form (found >>= word_of mode_forms) d
found_mode None d = none_after (only (codes "mode" ∷ codes "dst" ∷ codes "src" ∷ codes "flags" ∷ codes "scratch" ∷ codes "geometries" ∷ codes "uses" ∷ []) d) None refl
found_mode (Some null) d = none_after (only (codes "mode" ∷ codes "dst" ∷ codes "src" ∷ codes "flags" ∷ codes "scratch" ∷ codes "geometries" ∷ codes "uses" ∷ []) d) None refl
found_mode (Some (boolean b)) d = none_after (only (codes "mode" ∷ codes "dst" ∷ codes "src" ∷ codes "flags" ∷ codes "scratch" ∷ codes "geometries" ∷ codes "uses" ∷ []) d) None refl
found_mode (Some (number n)) d = none_after (only (codes "mode" ∷ codes "dst" ∷ codes "src" ∷ codes "flags" ∷ codes "scratch" ∷ codes "geometries" ∷ codes "uses" ∷ []) d) None refl
found_mode (Some (string w)) d = chosen (bytes_eq (codes "build") w) (bytes_eq (codes "update") w) d
found_mode (Some (array es)) d = none_after (only (codes "mode" ∷ codes "dst" ∷ codes "src" ∷ codes "flags" ∷ codes "scratch" ∷ codes "geometries" ∷ codes "uses" ∷ []) d) None refl
found_mode (Some (object ms)) d = none_after (only (codes "mode" ∷ codes "dst" ∷ codes "src" ∷ codes "flags" ∷ codes "scratch" ∷ codes "geometries" ∷ codes "uses" ∷ []) d) None refl

pub info_law : (d : Data) → is_some (info_of d) ≡ has_form (at (word_of mode_forms) (codes "mode") d) d
unfolding info_of
info_law d = found_mode (get (codes "mode") d) d
