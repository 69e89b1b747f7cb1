use Rattle.std.proofs.Common.{ℕ, ◌+◌, ◌≤◌, ◌<◌, ◌*◌, ◌∙◌, length, map, ap, subst, sym}
use Rattle.ray_cmd.specs.declared.command.Command.{Command}
use Rattle.ray_cmd.specs.declared.command.Command.TheVariants as commands
use Rattle.ray_action.specs.Memory.{ContentsAt, StructureAt, bytes_at}
use Rattle.ray_action.specs.Outcomes.{Outcome, bytes_outcome, deserialize_outcome, serialize_outcome}
use Rattle.ray_action.specs.Pieces.{cull_mask}
use Rattle.ray_memory.specs.State.{memory_of}
use Rattle.ray_device.specs.Fetching.{IsFetched, OnAnswered}
use Rattle.ray_device.specs.Infos.{info_now}
use Rattle.ray_device.specs.Parts.{part_given}
use Rattle.ray_device.specs.Pieces.{piece_count}
use Rattle.ray_device.specs.Tops.{used_now}
use Rattle.ray_device.specs.Tracing.{traced}
use Rattle.ray_device.specs.Bounds.{most_tested, most_traced}
use Rattle.ray_device.proofs.Free.{copy_is, deserialize_is, info_is, most_is, region_is, serialize_is, trace_is}
use Rattle.ray_device.proofs.fetching.fetch_part.Goals as goal

pub returns-in-Copy-clause-value : goal.returns-in-Copy-clause-value
returns-in-Copy-clause-value g c =
    let m = memory_of c.args.state.now in
    let meaning = g.C.Client.meaning c.args.client.now in
    let k = c.args.part in
    let rs = c.as_slice.result.now in
    let src = c.in-Copy.src in
    let dst = c.in-Copy.dst in
    let is = ap (commands.Copy src dst) c.as_slice.ensures.items ∙ sym c.in-Copy.is in
    let below : k < length rs = subst (λ (x : Command). k < piece_count x) (sym is) c.requires.within in
    subst (λ (o : Outcome). IsFetched o c.copied_bytes.result)
    (ap (λ r. bytes_outcome (bytes_at m r)) c.range.ensures ∙ (region_is meaning m src dst rs k _ below ∙ ap (λ x. part_given m meaning x k) is))
    c.copied_bytes.ensures

pub returns-in-Build-clause-value : goal.returns-in-Build-clause-value
returns-in-Build-clause-value g c =
    let m = memory_of c.args.state.now in
    let meaning = g.C.Client.meaning c.args.client.now in
    let k = c.args.part in
    let infos = c.as_slice-in-Build.result.now in
    let is = ap commands.Build c.as_slice-in-Build.ensures.items ∙ sym c.in-Build.is in
    let below : k < length infos = subst (λ (x : Command). k < piece_count x) (sym is) c.requires.within in
    subst (λ (o : Outcome). IsFetched o c.built.result)
    (ap (λ info. info_now m k info) c.index-as_slice-part.is ∙ (info_is meaning m infos k c.index-as_slice-part.result below ∙ ap (λ x. part_given m meaning x k) is))
    c.built.ensures

pub returns-in-CopyStructure-clause-value : goal.returns-in-CopyStructure-clause-value
returns-in-CopyStructure-clause-value g c =
    let m = memory_of c.args.state.now in
    let meaning = g.C.Client.meaning c.args.client.now in
    subst (λ (o : Outcome). IsFetched o c.copied_structure.result)
    (copy_is meaning m c.in-CopyStructure.mode c.in-CopyStructure.src c.in-CopyStructure.dst c.args.part ∙ ap (λ x. part_given m meaning x c.args.part) (sym c.in-CopyStructure.is))
    c.copied_structure.ensures

pub returns-in-Serialize-clause-value : goal.returns-in-Serialize-clause-value
returns-in-Serialize-clause-value g c =
    let m = memory_of c.args.state.now in
    let meaning = g.C.Client.meaning c.args.client.now in
    let s = c.in-Serialize in
    subst (λ (o : Outcome). IsFetched o c.serialized.result)
    (ap (λ r. serialize_outcome s.form r (m (ContentsAt s.src))) c.range-in-Serialize.ensures
    ∙ (serialize_is meaning m s.src s.dst s.form c.args.part ∙ ap (λ x. part_given m meaning x c.args.part) (sym s.is)))
    c.serialized.ensures

pub returns-in-Deserialize-clause-value : goal.returns-in-Deserialize-clause-value
returns-in-Deserialize-clause-value g c =
    let m = memory_of c.args.state.now in
    let meaning = g.C.Client.meaning c.args.client.now in
    let d = c.in-Deserialize in
    let uses = c.as_slice-in-Deserialize.result.now in
    let is = ap (commands.Deserialize d.src d.dst) c.as_slice-in-Deserialize.ensures.items ∙ sym d.is in
    subst (λ (o : Outcome). IsFetched o c.deserialized.result)
    (ap (λ r. deserialize_outcome (map (used_now m) uses) (bytes_at m r) (m (StructureAt d.dst))) c.range-in-Deserialize.ensures
    ∙ (deserialize_is meaning m d.src d.dst uses c.args.part ∙ ap (λ x. part_given m meaning x c.args.part) is))
    c.deserialized.ensures

pub returns-in-Trace-clause-value : goal.returns-in-Trace-clause-value
returns-in-Trace-clause-value g c =
    let m = memory_of c.args.state.now in
    let meaning = g.C.Client.meaning c.args.client.now in
    let k = c.args.part in
    let t = c.in-Trace in
    subst (λ (o : Outcome). IsFetched o c.traced_rays.result)
    ((λ i. traced m t.top (c.rays_of_part.ensures i) (64 * k) (c.rays_in_part.ensures i) t.flags (cull_mask t.mask) meaning)
    ∙ (trace_is meaning m t.top t.rays t.count t.hits t.flags t.mask t.script k ∙ ap (λ x. part_given m meaning x k) (sym t.is)))
    c.traced_rays.ensures.value

pub returns-in-Trace-clause-bound : goal.returns-in-Trace-clause-bound
returns-in-Trace-clause-bound g c =
    let s = c.args.state.now in
    let meaning = g.C.Client.meaning c.args.client.now in
    let k = c.args.part in
    let t = c.in-Trace in
    subst (λ (most : ℕ). OnAnswered c.traced_rays.result (c.traced_rays.new.steps ≤ c.args.steps.now + most))
    ((λ i. most_traced s t.top (c.rays_of_part.ensures i) (64 * k) (c.rays_in_part.ensures i) t.flags (cull_mask t.mask) meaning)
    ∙ (most_is meaning s t.top t.rays t.count t.hits t.flags t.mask t.script k ∙ ap (λ x. most_tested s meaning x k) (sym t.is)))
    c.traced_rays.ensures.bound
