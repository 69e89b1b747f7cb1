use Rattle.std.proofs.Common.{◌≡◌, ◌+◌, ◌∙◌, ap, sym, arith}
use Rattle.std.proofs.lemmas.Option.{get_or_from_slice_get}
use Rattle.ray_cmd.specs.declared.command.Command.TheVariants as commands
use Rattle.ray_certify.specs.Rays.{count_of, ray_count}
use Rattle.ray_certify.proofs.RayCounts.{more_rays}
use Rattle.ray_certify.proofs.counting.ray_count.Goals as goal

pub loop-command-preserved : goal.loop-command-preserved
loop-command-preserved c =
    let rec = c.args.rec.now in
    let i = c.loop-command.command in
    let so_far = c.loop-command.invariant in
    let one = c.from-count.ensures ∙ (c.count_of.ensures ∙ ap count_of (sym (get_or_from_slice_get rec i c.command.result.now commands.Begin c.command.ensures))) in (
      ap (λ k. k + c.from-count.result) so_far.0 ∙ (ap (λ k. ray_count rec i + k) one ∙ sym (more_rays rec i)),
      (let few = so_far.1 in let e = c.from-count.ensures in let fits = c.count_of.type_inv in omega (arith, few, e, fits)),
    )
