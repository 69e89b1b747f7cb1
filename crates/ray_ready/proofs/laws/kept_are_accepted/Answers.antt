use Rattle.ray_ready.proofs.laws.kept_are_accepted.Goals as goal

pub returns : goal.returns
returns c n keep = record {
  each = λ i command less is. record { rules = keep.each i command less is; sources = c.sources_law.ensures.each i command is };
}
