use Rattle.std.proofs.Common.{◌≡◌, ◌≢◌, refl, sym, ap, ◌∙◌, arith}
use Rattle.std.proofs.lemmas.Bool.Decides.{nat_tests}
use Rattle.ray_rules.specs.Ids.{look}
use Rattle.ray_memory.specs.Bytes.{part_in}
use Rattle.ray_memory.specs.State.{StateValue, memory_of}
use Rattle.ray_memory.proofs.Ranges.{bytes-none, bytes-in}
use Rattle.ray_memory.proofs.state.State.bytes.Goals as goal

pub returns-then-range-eq0 : goal.returns-then-range-eq0
returns-then-range-eq0 c =
    let is : c.args.range.size ≡ 0 = (let t = c.if-range-eq0.true in grind (arith, nat_tests)) in
    sym (bytes-none (memory_of c.args.self.now) c.args.range.buffer c.args.range.from c.args.range.size is)

pub returns-else-range-eq0 : goal.returns-else-range-eq0
returns-else-range-eq0 c =
    let some : c.args.range.size ≢ 0 = (let f = c.if-range-eq0.false in grind (arith, nat_tests)) in
    let found = look c.args.self.now.buffers c.args.range.buffer in
    let same : look c.self.inside.buffers.entries c.args.range.buffer ≡ found = ap (λ (s : StateValue). look s.buffers c.args.range.buffer) c.self.view_is in
    c.part_in.ensures
    ∙ (ap (λ b. part_in b c.args.range.from c.args.range.size) (c.get.ensures.value ∙ same)
    ∙ sym (bytes-in (memory_of c.args.self.now) c.args.range.buffer found (λ at. refl) c.args.range.from c.args.range.size some))
