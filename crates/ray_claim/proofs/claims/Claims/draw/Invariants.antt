use Rattle.ray_claim.proofs.claims.Claims.draw.Given as goal

-- the step of a draw is told how many numbers there are
abbrev pub ghosts-step : goal.ghosts-step
ghosts-step a = record { limit = a.self.now.n }
