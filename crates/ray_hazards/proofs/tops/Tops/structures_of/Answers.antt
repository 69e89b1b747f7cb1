use Rattle.std.proofs.Common.{◌∙◌, subst, sym}
use Rattle.ray_access.specs.Lists.{structures_traced}
use Rattle.ray_hazards.specs.Reaching.{AreReached}
use Rattle.ray_hazards.proofs.Tracing.{reached-few, tops-more}
use Rattle.ray_hazards.proofs.tops.Tops.structures_of.Goals as goal

pub returns-in-Some-clause-reads : goal.returns-in-Some-clause-reads
returns-in-Some-clause-reads c = λ are.
    let starts = c.args.cells.now in
    let ts = structures_traced c.args.rec.now c.args.status.now c.args.top in
    subst (AreReached c.args.status.now starts ts) (sym (c.in_ok-copy.ensures ∙ c.as_slice.ensures.value))
    (are c.args.top c.in-Some.known.now (sym c.in-Some.ensures.value))

pub returns-clause-kept : goal.returns-clause-kept
returns-clause-kept c = λ are.
    let z = c.args.status.now in
    let starts = c.args.cells.now in
    let ts = structures_traced c.args.rec.now z c.args.top in
    tops-more c.args.rec.now starts z c.args.self.now c.args.top c.in_ok-few.few (record { reads = c.insert.new.self })
    c.in_ok-insert.ensures.updates.0
    (reached-few z starts ts c.in_ok-list.list.items c.in_ok-few.few.items c.in_ok-list.ensures c.in_ok-few.ensures) are
