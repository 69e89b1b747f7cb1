use Rattle.std.proofs.Common.{◌≡◌, None, subst}
use Rattle.ray_rules.specs.Buffers.{v2}
use Rattle.ray_rules.specs.Names.{v1}
use Rattle.ray_rules.specs.Structures.{v6}
use Rattle.ray_status.proofs.Kept.{buffer_is_new, buffer_fits, structure_is_new, structure_is_apart, structure_is_some}
use Rattle.ray_status.proofs.status.Status.step.Goals as goal

pub make_buffer-requires-clause-free : goal.make_buffer-requires-clause-free
make_buffer-requires-clause-free c =
    let z = c.args.self.now in
    let b = c.in-Buffer in
    buffer_is_new z b.id b.size b.usage b.content (subst (λ k. v1 z k ≡ None) b.is c.requires.named)

pub make_buffer-requires-clause-few : goal.make_buffer-requires-clause-few
make_buffer-requires-clause-few c =
    let z = c.args.self.now in
    let b = c.in-Buffer in
    buffer_fits z b.id b.size b.usage b.content (subst (λ k. v2 z k ≡ None) b.is c.requires.sized)

pub make_structure-requires-clause-free : goal.make_structure-requires-clause-free
make_structure-requires-clause-free c =
    let z = c.args.self.now in
    let s = c.in-Structure in
    structure_is_new z s.id s.kind s.buffer s.offset s.size (subst (λ k. v1 z k ≡ None) s.is c.requires.named)

pub make_structure-requires-clause-apart : goal.make_structure-requires-clause-apart
make_structure-requires-clause-apart c =
    let z = c.args.self.now in
    let s = c.in-Structure in
    structure_is_apart z s.id s.kind s.buffer s.offset s.size (subst (λ k. v6 z k ≡ None) s.is c.requires.placed)

pub make_structure-requires-clause-some : goal.make_structure-requires-clause-some
make_structure-requires-clause-some c =
    let z = c.args.self.now in
    let s = c.in-Structure in
    structure_is_some z s.id s.kind s.buffer s.offset s.size (subst (λ k. v2 z k ≡ None) s.is c.requires.sized)
