use Rattle.std.proofs.Common.{ℕ, List, Result, ◌≡◌, false, length, ap, sym, subst, ◌∙◌, arith}
use Rattle.ray_bytes.specs.Views.{Row}
use Rattle.ray_bytes.specs.declared.data_fault.DataFault.{DataFault}
use Rattle.ray_flags.specs.declared.build_flags.BuildFlags.{BuildFlags}
use Rattle.ray_top.specs.Trees.{GivesTop}
use Rattle.ray_top.specs.Contents.{TopValue, has_both_fast, top_built}
use Rattle.ray_form.specs.InstanceBytes.{instance_parts}
use Rattle.ray_form.specs.Form.{instances_of_payload, flags_of_payload}
use Rattle.ray_serial.specs.TopMeaning.{put_parts}
use Rattle.ray_serial.proofs.TopForms.{top_says, top_same}
use Rattle.ray_serial.proofs.Links.{top_in-rule}
use Rattle.ray_serial.proofs.linking.top_of.Goals as goal

pub overflow_cast-parts : goal.overflow_cast-parts
overflow_cast-parts g c =
    let says = top_says c.args.bytes.now c.requires.form c.requires.top in
    let few = says.keeps.few in
    let many = says.many in
    let parts = ap length (c.as_chunks.ensures.front ∙ ap instance_parts (c.instances_of_payload.ensures ∙ ap instances_of_payload c.payload_in-payload.ensures.value)) in
    omega arith

pub build-requires-clause-speed : goal.build-requires-clause-speed
build-requires-clause-speed g c _ _ =
    let says = top_says c.args.bytes.now c.requires.form c.requires.top in
    let flags = c.flags_of_payload-flags.ensures ∙ ap flags_of_payload c.payload_in-payload.ensures.value in
    let P : BuildFlags → Type 0 = λ flags. has_both_fast flags ≡ false in
    subst P (sym flags) says.keeps.not_both

pub build-requires-clause-count : goal.build-requires-clause-count
build-requires-clause-count g c _ _ =
    let says = top_says c.args.bytes.now c.requires.form c.requires.top in
    let few = says.keeps.few in
    let many = says.many in
    let parts = ap length (c.as_chunks.ensures.front ∙ ap instance_parts (c.instances_of_payload.ensures ∙ ap instances_of_payload c.payload_in-payload.ensures.value)) in
    omega arith

pub returns-clause-value : goal.returns-clause-value
returns-clause-value g c =
    let parts = c.as_chunks.ensures.front ∙ ap instance_parts (c.instances_of_payload.ensures ∙ ap instances_of_payload c.payload_in-payload.ensures.value) in
    let flags = c.flags_of_payload-flags.ensures ∙ ap flags_of_payload c.payload_in-payload.ensures.value in
    let buffer = c.as_slice.ensures.value ∙ (c.in_ok-buffer.ensures ∙ ap (put_parts c.args.bytes.now) parts) in
    let row : List ℕ → Row = λ bytes. record { bytes = bytes; start = 0 } in
    let view = c.new-view.ensures ∙ ap row buffer in
    let P : Result TopValue DataFault → Type 0 = λ built. GivesTop built c.build.result in
    subst P
    ((λ i. top_built (flags i) c.args.used.now (view i) (length (parts i)))
    ∙ top_same c.args.used.now c.args.bytes.now (record { each = λ i. let f = c.type_inv.bytes i in omega arith }) c.requires.form c.requires.top)
    c.build.ensures.value

pub returns-clause-rules : goal.returns-clause-rules
returns-clause-rules g c = top_in-rule c.args.used.now c.args.bytes.now c.requires.form c.requires.top

pub returns-in_err-buffer-clause-rules : goal.returns-in_err-buffer-clause-rules
returns-in_err-buffer-clause-rules g c = top_in-rule c.args.used.now c.args.bytes.now c.requires.form c.requires.top
