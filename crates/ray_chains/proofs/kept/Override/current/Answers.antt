use Rattle.std.proofs.Common.{nat_le, sym}
use Rattle.std.proofs.lemmas.Bool.{cond-true, le-leb}
use Rattle.ray_chains.specs.Overriding.{refreshed}
use Rattle.ray_chains.proofs.kept.Override.current.Goals as goal

pub returns-then-chains-self : goal.returns-then-chains-self
returns-then-chains-self c =
    let over = c.args.self.now in
    let chains = c.args.chains.now in
    sym (cond-true (nat_le chains.last over.barrier) over.table (refreshed c.args.all.now over chains)
    (le-leb chains.last over.barrier c.if-chains-self.true))
