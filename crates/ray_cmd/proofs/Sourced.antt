-- Each info of a recording that was read has a source exactly where it is an update.
use Rattle.std.proofs.Common.{◌≡◌, List, [], ◌∷◌, Option, Some, None, Result, Ok, Err, Bool, true, false, refl, ap, sym, ◌∙◌}
use Rattle.std.specs.Prelude.{◌&&◌, IfOk, codes, option_and_then}
use Rattle.std.specs.List.{list_all}
use Rattle.std.specs.Option.{option_map_or}
use Rattle.serde_json.specs.Data.{Data, Items, no_items, item, array}
use Rattle.serde_json.specs.Find.{as_array, get, get_item}
use Rattle.ray_json.specs.Fields.{◌>>=◌, at, guard, items_of, list_of, listed_at, only, optional_at, u32_of, u64_of, hex_of}
use Rattle.ray_script.specs.Rules.{rules_of}
use Rattle.ray_cmd.specs.Building.{build_of}
use Rattle.ray_cmd.specs.Copies.{is_form, copy_structure_of, serialize_of, deserialize_of, property_of}
use Rattle.ray_cmd.specs.Grammar.{op_of, command_by, command_of}
use Rattle.ray_cmd.specs.Host.{buffer_of, structure_of, destroy_of, sizes_of, begin_of, end_of, submit_of, wait_of, read_of}
use Rattle.ray_cmd.specs.Infos.{info_of, source_fits}
use Rattle.ray_cmd.specs.Recorded.{IsRecordingOf}
use Rattle.ray_cmd.specs.Geometries.{geometry_of}
use Rattle.ray_cmd.specs.Places.{region_of, spot_of, stretch_of}
use Rattle.ray_cmd.specs.Words.{access_of, asked_of, build_flags_of, build_mode_of, copy_mode_of, ray_flags_of, read_form_of, stages_of, structure_kind_of, thing_of, usage_of}
use Rattle.ray_cmd.specs.Tracing.{trace_of}
use Rattle.ray_cmd.specs.Transfer.{update_of, fill_of, copy_of, barrier_of}
use Rattle.ray_cmd.specs.declared.command.Command.{Command}
use Rattle.ray_cmd.specs.declared.fault.RecordingFault.{RecordingFault}
use Rattle.ray_cmd.specs.declared.op.Op.{Op}
use Rattle.ray_cmd.specs.declared.op.Op.TheVariants as ops
use Rattle.ray_cmd.specs.Sources.{has_its_source, have_their_sources, AreSourced}

-- what is read, if anything is, passes a test
abbrev Passes : {A : Type 0} → (A → Bool) → Option A → Type 0
Passes test found = option_map_or test found true ≡ true

-- what is read after something else
after-it : {A B : Type 0} (test : B → Bool) (first : Option A) (step : A → Option B) → ((a : A) → first ≡ Some a → Passes test (step a)) → Passes test (first >>= step)
after-it test None step each = refl
after-it test (Some a) step each = each a refl

after-any : {A B : Type 0} (test : B → Bool) (first : Option A) (step : A → Option B) → ((a : A) → Passes test (step a)) → Passes test (first >>= step)
after-any test first step each = after-it test first step (λ a e. each a)

after-guard : {B : Type 0} (test : B → Bool) (b : Bool) (step : Unit {0} → Option B) → (b ≡ true → Passes test (step tt)) → Passes test (guard b >>= step)
after-guard test true step each = each refl
after-guard test false step each = refl

passed : {A : Type 0} (test : A → Bool) (found : Option A) (a : A) → Passes test found → found ≡ Some a → test a ≡ true
passed test None a p e = absurd cc
passed test (Some x) a p e = let same : x ≡ a = cc in ap test (sym same) ∙ p

both : (a b : Bool) → a ≡ true → b ≡ true → (a && b) ≡ true
both true true p q = refl
both true false p q = q
both false b p q = p

-- ---- infos

info-passes : (d : Data) → Passes has_its_source (info_of d)
unfolding info_of
info-passes d =
    after-any has_its_source (only (codes "mode" ∷ codes "dst" ∷ codes "src" ∷ codes "flags" ∷ codes "scratch" ∷ codes "geometries" ∷ codes "uses" ∷ []) d) _ (λ u.
    after-any has_its_source (at build_mode_of (codes "mode") d) _ (λ mode.
    after-any has_its_source (at u32_of (codes "dst") d) _ (λ dst.
    after-any has_its_source (optional_at u32_of (codes "src") d) _ (λ src.
    after-guard has_its_source (source_fits mode src) _ (λ fits.
    after-any has_its_source (at build_flags_of (codes "flags") d) _ (λ flags.
    after-any has_its_source (at spot_of (codes "scratch") d) _ (λ scratch.
    after-any has_its_source (at (list_of geometry_of) (codes "geometries") d) _ (λ geometries.
    after-any has_its_source (listed_at u32_of (codes "uses") d) _ (λ uses. fits)))))))))

infos-pass : (ds : Items) → Passes (list_all has_its_source) (items_of info_of ds)
infos-pass no_items = refl
infos-pass (item d ds) =
    after-it (list_all has_its_source) (info_of d) _ (λ info e. after-it (list_all has_its_source) (items_of info_of ds) _ (λ infos f.
    both (has_its_source info) (list_all has_its_source infos) (passed has_its_source (info_of d) info (info-passes d) e)
    (passed (list_all has_its_source) (items_of info_of ds) infos (infos-pass ds) f)))

list-passes : (d : Data) → Passes (list_all has_its_source) (list_of info_of d)
list-passes d = after-any (list_all has_its_source) (as_array d) _ (λ ds. infos-pass ds)

-- ---- commands

build-passes : (d : Data) → Passes have_their_sources (build_of d)
unfolding build_of
build-passes d =
    after-any have_their_sources (only (codes "op" ∷ codes "infos" ∷ []) d) _ (λ u.
    after-it have_their_sources (at (list_of info_of) (codes "infos") d) _ (λ infos e.
    passed (list_all has_its_source) (at (list_of info_of) (codes "infos") d) infos
    (after-any (list_all has_its_source) (get (codes "infos") d) _ (λ x. list-passes x)) e))

by-passes : (op : Op) (d : Data) → Passes have_their_sources (command_by op d)
unfolding buffer_of structure_of destroy_of sizes_of begin_of end_of submit_of wait_of read_of update_of fill_of copy_of copy_structure_of serialize_of deserialize_of property_of barrier_of trace_of
by-passes ops.Buffer d =
    after-any have_their_sources (only (codes "op" ∷ codes "id" ∷ codes "size" ∷ codes "usage" ∷ codes "data" ∷ []) d) _ (λ u.
    after-any have_their_sources (at u32_of (codes "id") d) _ (λ id.
    after-any have_their_sources (at u64_of (codes "size") d) _ (λ size.
    after-any have_their_sources (at usage_of (codes "usage") d) _ (λ usage.
    after-any have_their_sources (optional_at hex_of (codes "data") d) _ (λ content. refl)))))
by-passes ops.Structure d =
    after-any have_their_sources (only (codes "op" ∷ codes "id" ∷ codes "kind" ∷ codes "buffer" ∷ codes "offset" ∷ codes "size" ∷ []) d) _ (λ u.
    after-any have_their_sources (at u32_of (codes "id") d) _ (λ id.
    after-any have_their_sources (at structure_kind_of (codes "kind") d) _ (λ kind.
    after-any have_their_sources (at u32_of (codes "buffer") d) _ (λ buffer.
    after-any have_their_sources (at u64_of (codes "offset") d) _ (λ offset.
    after-any have_their_sources (at u64_of (codes "size") d) _ (λ size. refl))))))
by-passes ops.Destroy d =
    after-any have_their_sources (only (codes "op" ∷ codes "what" ∷ codes "id" ∷ []) d) _ (λ u.
    after-any have_their_sources (at thing_of (codes "what") d) _ (λ what.
    after-any have_their_sources (at u32_of (codes "id") d) _ (λ id. refl)))
by-passes ops.Sizes d =
    after-any have_their_sources (only (codes "op" ∷ codes "kind" ∷ codes "counts" ∷ []) d) _ (λ u.
    after-any have_their_sources (at structure_kind_of (codes "kind") d) _ (λ kind.
    after-any have_their_sources (at (list_of u32_of) (codes "counts") d) _ (λ counts. refl)))
by-passes ops.Begin d =
    after-any have_their_sources (only (codes "op" ∷ []) d) _ (λ u. refl)
by-passes ops.End d =
    after-any have_their_sources (only (codes "op" ∷ []) d) _ (λ u. refl)
by-passes ops.Submit d =
    after-any have_their_sources (only (codes "op" ∷ []) d) _ (λ u. refl)
by-passes ops.Wait d =
    after-any have_their_sources (only (codes "op" ∷ []) d) _ (λ u. refl)
by-passes ops.Read d =
    after-any have_their_sources (only (codes "op" ∷ codes "buffer" ∷ codes "offset" ∷ codes "size" ∷ codes "form" ∷ []) d) _ (λ u.
    after-any have_their_sources (at u32_of (codes "buffer") d) _ (λ buffer.
    after-any have_their_sources (at u64_of (codes "offset") d) _ (λ offset.
    after-any have_their_sources (at u64_of (codes "size") d) _ (λ size.
    after-any have_their_sources (at read_form_of (codes "form") d) _ (λ form. refl)))))
by-passes ops.Update d =
    after-any have_their_sources (only (codes "op" ∷ codes "buffer" ∷ codes "offset" ∷ codes "data" ∷ []) d) _ (λ u.
    after-any have_their_sources (at u32_of (codes "buffer") d) _ (λ buffer.
    after-any have_their_sources (at u64_of (codes "offset") d) _ (λ offset.
    after-any have_their_sources (at hex_of (codes "data") d) _ (λ content. refl))))
by-passes ops.Fill d =
    after-any have_their_sources (only (codes "op" ∷ codes "buffer" ∷ codes "offset" ∷ codes "size" ∷ codes "value" ∷ []) d) _ (λ u.
    after-any have_their_sources (at u32_of (codes "buffer") d) _ (λ buffer.
    after-any have_their_sources (at u64_of (codes "offset") d) _ (λ offset.
    after-any have_their_sources (at u64_of (codes "size") d) _ (λ size.
    after-any have_their_sources (at u32_of (codes "value") d) _ (λ value. refl)))))
by-passes ops.Copy d =
    after-any have_their_sources (only (codes "op" ∷ codes "src" ∷ codes "dst" ∷ codes "regions" ∷ []) d) _ (λ u.
    after-any have_their_sources (at u32_of (codes "src") d) _ (λ src.
    after-any have_their_sources (at u32_of (codes "dst") d) _ (λ dst.
    after-any have_their_sources (at (list_of region_of) (codes "regions") d) _ (λ regions. refl))))
by-passes ops.Build d = build-passes d
by-passes ops.CopyStructure d =
    after-any have_their_sources (only (codes "op" ∷ codes "mode" ∷ codes "src" ∷ codes "dst" ∷ []) d) _ (λ u.
    after-any have_their_sources (at copy_mode_of (codes "mode") d) _ (λ mode.
    after-any have_their_sources (at u32_of (codes "src") d) _ (λ src.
    after-any have_their_sources (at u32_of (codes "dst") d) _ (λ dst. refl))))
by-passes ops.Serialize d =
    after-any have_their_sources (only (codes "op" ∷ codes "src" ∷ codes "dst" ∷ codes "form" ∷ []) d) _ (λ u.
    after-any have_their_sources (at u32_of (codes "src") d) _ (λ src.
    after-any have_their_sources (at stretch_of (codes "dst") d) _ (λ dst.
    after-any have_their_sources (optional_at u32_of (codes "form") d) _ (λ form.
    after-any have_their_sources (guard (is_form form)) _ (λ fits. refl)))))
by-passes ops.Deserialize d =
    after-any have_their_sources (only (codes "op" ∷ codes "src" ∷ codes "dst" ∷ codes "uses" ∷ []) d) _ (λ u.
    after-any have_their_sources (at stretch_of (codes "src") d) _ (λ src.
    after-any have_their_sources (at u32_of (codes "dst") d) _ (λ dst.
    after-any have_their_sources (listed_at u32_of (codes "uses") d) _ (λ uses. refl))))
by-passes ops.Property d =
    after-any have_their_sources (only (codes "op" ∷ codes "what" ∷ codes "structures" ∷ codes "dst" ∷ []) d) _ (λ u.
    after-any have_their_sources (at asked_of (codes "what") d) _ (λ what.
    after-any have_their_sources (at (list_of u32_of) (codes "structures") d) _ (λ structures.
    after-any have_their_sources (at spot_of (codes "dst") d) _ (λ dst. refl))))
by-passes ops.Barrier d =
    after-any have_their_sources (only (codes "op" ∷ codes "src_stages" ∷ codes "src_access" ∷ codes "dst_stages" ∷ codes "dst_access" ∷ codes "buffers" ∷ []) d) _ (λ u.
    after-any have_their_sources (at stages_of (codes "src_stages") d) _ (λ src_stages.
    after-any have_their_sources (at access_of (codes "src_access") d) _ (λ src_access.
    after-any have_their_sources (at stages_of (codes "dst_stages") d) _ (λ dst_stages.
    after-any have_their_sources (at access_of (codes "dst_access") d) _ (λ dst_access.
    after-any have_their_sources (optional_at (list_of u32_of) (codes "buffers") d) _ (λ buffers. refl))))))
by-passes ops.Trace d =
    after-any have_their_sources (only (codes "op" ∷ codes "top" ∷ codes "rays" ∷ codes "count" ∷ codes "hits" ∷ codes "flags" ∷ codes "mask" ∷ codes "script" ∷ []) d) _ (λ u.
    after-any have_their_sources (at u32_of (codes "top") d) _ (λ top.
    after-any have_their_sources (at spot_of (codes "rays") d) _ (λ rays.
    after-any have_their_sources (at u32_of (codes "count") d) _ (λ count.
    after-any have_their_sources (at spot_of (codes "hits") d) _ (λ hits.
    after-any have_their_sources (at ray_flags_of (codes "flags") d) _ (λ flags.
    after-any have_their_sources (at u32_of (codes "mask") d) _ (λ mask.
    after-any have_their_sources (at rules_of (codes "script") d) _ (λ script. refl))))))))

command-passes : (d : Data) → Passes have_their_sources (command_of d)
command-passes d = after-any have_their_sources (at op_of (codes "op") d) _ (λ op. by-passes op d)

-- ---- recordings

-- a command that an item spells
spelled-passes : (found : Option Data) (c : Command) → option_and_then command_of found ≡ Some c → have_their_sources c ≡ true
spelled-passes None c e = absurd cc
spelled-passes (Some d) c e = passed have_their_sources (command_of d) c (command-passes d) e

-- so it is of the commands of all items
pub items_sourced : (ds : Items) (cs : List Command) → IsRecordingOf ds cs → AreSourced cs
items_sourced ds cs is = record { each = λ i c there. spelled-passes (get_item i ds) c (is.each i c there) }

-- and of all that are read
pub are_sourced : (found : Option Data) (read : Result (List Command) RecordingFault)
    → IfOk read (λ cs. (ds : Items) × (found ≡ Some (array ds)) × IsRecordingOf ds cs) → IfOk read AreSourced
are_sourced found (Ok cs) is = items_sourced is.0 cs is.2
are_sourced found (Err fault) is = tt
