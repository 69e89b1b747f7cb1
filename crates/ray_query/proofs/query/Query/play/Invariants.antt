use Rattle.std.proofs.Common.{◌≡◌, drop}
use Rattle.ray_query.specs.Play.{play}
use Rattle.ray_query.proofs.query.Query.play.Given as goal

-- the query has played the candidates before the next one, and no offer is unanswered
abbrev pub invariant-loop-f : goal.invariant-loop-f
invariant-loop-f g l =
    (l.self ≡ record l.initial.self { state = l.self.state })
    × (play (g.C.Client.meaning l.client) l.self.ray l.self.flags l.self.state (drop l.f-index l.found)
    ≡ play (g.C.Client.meaning l.client) l.self.ray l.self.flags l.initial.self.state l.found)
