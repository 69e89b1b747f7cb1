use Rattle.std.proofs.Common.{◌≡◌, ◌<◌, ℕ, List, Some, false, option_map, sym, ap, subst, ◌∙◌, arith}
use Rattle.std.specs.Prelude.{slice_index}
use Rattle.ray_flags.specs.declared.build_flags.BuildFlags.{BuildFlags}
use Rattle.ray_geometries.specs.Contents.{has_both_fast}
use Rattle.ray_bottom.specs.Trees.{without_tree}
use Rattle.ray_form.specs.Rows.{geometries_in}
use Rattle.ray_form.specs.Form.{payload_in, flags_of_payload, geometry_count, row_of}
use Rattle.ray_serial.specs.Meaning.{with_flags, CanRestore, bottom_in}
use Rattle.ray_serial.specs.Written.{bottom_form}
use Rattle.ray_serial.proofs.Words.{AreBytes}
use Rattle.ray_serial.proofs.BottomForms.{CanRestore-form, IfOk-then, restored_in, restored_again}
use Rattle.ray_serial.proofs.view.bottom_of.Goals as goal

fits : (bytes : List ℕ) → ((i : ℕ) → slice_index bytes i < 256) → AreBytes bytes
fits bytes each = record { each = each }

pub restored-requires-clause-speed : goal.restored-requires-clause-speed
restored-requires-clause-speed g c _ _ =
    let can = CanRestore-form c.args.bytes.now (fits c.args.bytes.now (λ i. let f = c.type_inv.bytes i in omega arith)) c.requires.form c.requires.bottom in
    let flags = c.flags_of_payload.ensures ∙ ap flags_of_payload c.payload_in-payload.ensures.value in
    let P : BuildFlags → Type 0 = λ flags. has_both_fast flags ≡ false in
    subst P (sym flags) can.0

pub restored-requires-clause-limits : goal.restored-requires-clause-limits
restored-requires-clause-limits g c _ _ =
    let can = CanRestore-form c.args.bytes.now (fits c.args.bytes.now (λ i. let f = c.type_inv.bytes i in omega arith)) c.requires.form c.requires.bottom in
    let count = c.geometry_count.ensures ∙ ap geometry_count c.payload_in-payload.ensures.value in
    let row = c.row_of.ensures ∙ ap row_of c.payload_in-payload.ensures.value in
    let P : ℕ → Type 0 = λ n. CanRestore n c.row_of.result.now in
    let Q : List ℕ → Type 0 = λ row. CanRestore (geometry_count (payload_in c.args.bytes.now)) row in
    subst P (sym count) (subst Q (sym row) can.1)

pub returns-clause-value : goal.returns-clause-value
returns-clause-value g c =
    let flags = sym (c.flags_of_payload.ensures ∙ ap flags_of_payload c.payload_in-payload.ensures.value) in
    let count = sym (c.geometry_count.ensures ∙ ap geometry_count c.payload_in-payload.ensures.value) in
    let row = sym (c.row_of.ensures ∙ ap row_of c.payload_in-payload.ensures.value) in
    IfOk-then (λ b. option_map (with_flags c.flags_of_payload.result) (geometries_in c.geometry_count.result c.row_of.result.now) ≡ Some (without_tree b))
    (λ b. bottom_in c.args.bytes.now ≡ Some (without_tree b)) c.restored.result
    (λ b e. restored_in c.args.bytes.now (without_tree b) ((λ i. option_map (with_flags (flags i)) (geometries_in (count i) (row i))) ∙ e)) c.restored.ensures

pub returns-clause-again : goal.returns-clause-again
returns-clause-again g c =
    let flags = sym (c.flags_of_payload.ensures ∙ ap flags_of_payload c.payload_in-payload.ensures.value) in
    let count = sym (c.geometry_count.ensures ∙ ap geometry_count c.payload_in-payload.ensures.value) in
    let row = sym (c.row_of.ensures ∙ ap row_of c.payload_in-payload.ensures.value) in
    IfOk-then (λ b. option_map (with_flags c.flags_of_payload.result) (geometries_in c.geometry_count.result c.row_of.result.now) ≡ Some (without_tree b))
    (λ b. bottom_form (without_tree b) ≡ c.args.bytes.now) c.restored.result
    (λ b e. restored_again c.args.bytes.now (without_tree b) (fits c.args.bytes.now (λ i. let f = c.type_inv.bytes i in omega arith)) c.requires.form c.requires.plain c.requires.bottom
    ((λ i. option_map (with_flags (flags i)) (geometries_in (count i) (row i))) ∙ e)) c.restored.ensures
