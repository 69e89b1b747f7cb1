use Rattle.std.proofs.Common.{◌≡◌, ◌≤◌, ◌∙◌, ap, length, subst, sym}
use Rattle.std.specs.Prelude.{IfOk, List, take}
use Rattle.ray_cmd.specs.declared.refusal.Refusal.{Refusal}
use Rattle.ray_rules.specs.Order.{barriers}
use Rattle.ray_rules.specs.Verdict.{GoOn}
use Rattle.ray_sync.specs.Hazards.{hazards_below}
use Rattle.ray_sync.proofs.Listing.{few-taken}
use Rattle.ray_refusals.proofs.Going.{few-hazards, go-on, going-within}
use Rattle.ray_refusals.proofs.every.hazards_of.Goals as goal

pub order_of-requires : goal.order_of-requires
order_of-requires c =
    subst (λ n. n ≤ length c.args.rec.now) (sym c.requires) (going-within c.args.rec.now (length c.args.rec.now))

pub all_hazards-requires-clause-until : goal.all_hazards-requires-clause-until
all_hazards-requires-clause-until c =
    subst (λ n. n ≤ length c.args.rec.now) (sym (c.in_ok-order.ensures.until ∙ c.requires)) (going-within c.args.rec.now (length c.args.rec.now))

pub all_hazards-requires-clause-go_on : goal.all_hazards-requires-clause-go_on
all_hazards-requires-clause-go_on c =
    subst (GoOn c.args.rec.now) (sym (c.in_ok-order.ensures.until ∙ c.requires)) (go-on c.args.rec.now (length c.args.rec.now))

pub returns : goal.returns
returns c =
    subst (λ (all : List Refusal). IfOk c.all_hazards.result (λ hazards. hazards.items ≡ all)) whole c.all_hazards.ensures
  where
    whole : take c.args.going (hazards_below (barriers c.args.rec.now) c.args.rec.now (length c.in_ok-order.order)) ≡ hazards_below (barriers c.args.rec.now) c.args.rec.now c.args.going
    whole =
        ap (λ n. take c.args.going (hazards_below (barriers c.args.rec.now) c.args.rec.now n)) c.in_ok-order.ensures.until
        ∙ sym (few-taken (hazards_below (barriers c.args.rec.now) c.args.rec.now c.args.going) c.args.going
        (few-hazards (barriers c.args.rec.now) c.args.rec.now c.args.going))
