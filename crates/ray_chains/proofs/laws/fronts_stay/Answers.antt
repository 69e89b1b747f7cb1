use Rattle.ray_chains.proofs.Keeping.{chains-stay, kept-stays, nothing-is-kept, tables-stay}
use Rattle.ray_chains.proofs.laws.fronts_stay.Goals as goal

pub returns : goal.returns
returns c = record {
  tables = tables-stay;
  chains = chains-stay;
  kept = kept-stays;
  first = nothing-is-kept;
}
