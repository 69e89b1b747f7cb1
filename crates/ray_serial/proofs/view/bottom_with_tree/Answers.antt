use Rattle.std.proofs.Common.{◌≡◌, ◌<◌, ℕ, List, false, option_map, sym, ap, subst, ◌∙◌, arith}
use Rattle.std.specs.Prelude.{slice_index}
use Rattle.ray_flags.specs.declared.build_flags.BuildFlags.{BuildFlags}
use Rattle.ray_geometries.specs.Contents.{has_both_fast}
use Rattle.ray_tree_part.specs.TreeParts.{is_part}
use Rattle.ray_form.specs.Rows.{geometries_in}
use Rattle.ray_form.specs.Form.{payload_in, flags_of_payload, geometry_count, row_of}
use Rattle.ray_serial.specs.Meaning.{with_flags, CanRestore}
use Rattle.ray_serial.proofs.Words.{AreBytes}
use Rattle.ray_serial.proofs.KeptLines.{KeepsLines-unbroken}
use Rattle.ray_serial.proofs.Endings.{part_there}
use Rattle.ray_serial.proofs.BottomForms.{CanRestore-form}
use Rattle.ray_serial.proofs.Form2Restored.{found_is, with_tree_to_bottom}
use Rattle.ray_serial.proofs.view.bottom_with_tree.Goals as goal

fits : (bytes : List ℕ) → ((i : ℕ) → slice_index bytes i < 256) → AreBytes bytes
fits bytes each = record { each = each }

pub restored_with-requires-clause-speed : goal.restored_with-requires-clause-speed
restored_with-requires-clause-speed c =
    let can = CanRestore-form c.args.bytes.now (fits c.args.bytes.now (λ i. let f = c.type_inv.bytes i in omega arith)) c.requires.form c.requires.bottom in
    let flags = c.flags_of_payload.ensures ∙ ap flags_of_payload c.payload_in-payload.ensures.value in
    let P : BuildFlags → Type 0 = λ flags. has_both_fast flags ≡ false in
    subst P (sym flags) can.0

pub restored_with-requires-clause-limits : goal.restored_with-requires-clause-limits
restored_with-requires-clause-limits c =
    let can = CanRestore-form c.args.bytes.now (fits c.args.bytes.now (λ i. let f = c.type_inv.bytes i in omega arith)) c.requires.form c.requires.bottom in
    let count = c.geometry_count.ensures ∙ ap geometry_count c.payload_in-payload.ensures.value in
    let row = c.row_of.ensures ∙ ap row_of c.payload_in-payload.ensures.value in
    let P : ℕ → Type 0 = λ n. CanRestore n c.row_of.result.now in
    let Q : List ℕ → Type 0 = λ row. CanRestore (geometry_count (payload_in c.args.bytes.now)) row in
    subst P (sym count) (subst Q (sym row) can.1)

pub restored_with-requires-clause-part : goal.restored_with-requires-clause-part
restored_with-requires-clause-part c =
    ap is_part c.tree_part_in.ensures ∙ part_there c.args.bytes.now (KeepsLines-unbroken c.args.bytes.now c.requires.form.unbroken) c.requires.tree

pub returns : goal.returns
returns c =
    let flags = c.flags_of_payload.ensures ∙ ap flags_of_payload c.payload_in-payload.ensures.value in
    let count = c.geometry_count.ensures ∙ ap geometry_count c.payload_in-payload.ensures.value in
    let row = c.row_of.ensures ∙ ap row_of c.payload_in-payload.ensures.value in
    with_tree_to_bottom c.args.bytes.now (option_map (with_flags c.flags_of_payload.result) (geometries_in c.geometry_count.result c.row_of.result.now))
    c.tree_part_in.result.now c.restored_with.result
    ((λ i. option_map (with_flags (flags i)) (geometries_in (count i) (row i))) ∙ found_is c.args.bytes.now)
    c.tree_part_in.ensures c.requires.tree c.restored_with.ensures
