use Rattle.std.proofs.Common.{◌≡◌, ◌<◌, ◌∙◌, ap, sym, subst, arith}
use Rattle.ray_cmd.specs.declared.command.Command.{Command}
use Rattle.ray_action.specs.Clients.{HasScript}
use Rattle.ray_exec.specs.Laws.{CanBegin}
use Rattle.ray_memory.specs.State.{memory_of}
use Rattle.ray_script.specs.Scripts.{refused_at}
use Rattle.ray_certify.proofs.Traces.{inputs_stand, none_traced, not_traced, rays_traced}
use Rattle.ray_certify.proofs.scene.scene_with.Goals as goal

pub returns-then-count-eq0 : goal.returns-then-count-eq0
returns-then-count-eq0 c =
    let t = c.in-Trace in
    none_traced (memory_of c.args._state.now) c.args.number c.args.command.now t.top t.rays t.count t.hits t.flags t.mask t.script t.is c.if-count-eq0.true

pub script_of_rules-requires : goal.script_of_rules-requires
script_of_rules-requires c =
    ap refused_at c.as_slice.ensures.items ∙ subst (λ (d : Command). HasScript d) c.in-Trace.is c.requires.script

pub seen_of-requires : goal.seen_of-requires
seen_of-requires c =
    let t = c.in-Trace in
    let some : 0 < t.count = (let not = c.if-count-eq0.false in omega (arith, not)) in
    inputs_stand (memory_of c.args._state.now) c.args.command.now t.top t.rays t.count t.hits t.flags t.mask t.script t.is
    (subst (λ (d : Command). CanBegin (memory_of c.args._state.now) d) t.is c.requires.can some) c.args.inputs c.requires.inputs

pub returns-in_ok-seen-in-Trace : goal.returns-in_ok-seen-in-Trace
returns-in_ok-seen-in-Trace c =
    let t = c.in-Trace in
    let some : 0 < t.count = (let not = c.if-count-eq0.false in omega (arith, not)) in
    let can = subst (λ (d : Command). CanBegin (memory_of c.args._state.now) d) t.is c.requires.can some in
    record {
      rays =
          rays_traced (memory_of c.args._state.now) c.args.number c.args.command.now t.top t.rays t.count t.hits t.flags t.mask t.script c.in_ok-script-in-Trace.script _ t.is
          (c.in_ok-script-in-Trace.ensures ∙ c.as_slice.ensures.items) (c.in_ok-seen-in-Trace.ensures.same ∙ c.requires.inputs);
      whole = c.in_ok-seen-in-Trace.ensures.whole;
      flags_agree = can.flags_agree;
    }

pub returns-in_default : goal.returns-in_default
returns-in_default c = not_traced (memory_of c.args._state.now) c.args.number c.args.command.now (λ top rays count hits flags mask script e. c.in_default.not-Trace top rays count hits flags mask script e)
