use Rattle.std.proofs.Common.{◌∙◌, Some, ap, arith, length, sym}
use Rattle.ray_cert.specs.Checking.{placement_value}
use Rattle.ray_cert.specs.Parts.{part_of}
use Rattle.ray_cert.proofs.StringsRead.{next-cost, next-fails, next-fits, next-none, none-left}
use Rattle.ray_cert.proofs.gathering.check_next.Goals as goal

pub returns-in-None-clause-value : goal.returns-in-None-clause-value
returns-in-None-clause-value g c =
    let a = c.args in
    let p = part_of a.told.now.ray.now a.told.now.flags a.placed.now.number (placement_value a.placed.now.instance.now a.placed.now.bottom.now) a.placed.now.tree.now in
    next-none a.told.now.limit.now a.found.now.items p a.told.now.strings.now a.taken (sym c.in-None.ensures.value)

pub returns-then-fits-clause-value : goal.returns-then-fits-clause-value
returns-then-fits-clause-value g c =
    let a = c.args in
    let p = part_of a.told.now.ray.now a.told.now.flags a.placed.now.number (placement_value a.placed.now.instance.now a.placed.now.bottom.now) a.placed.now.tree.now in
    next-fits a.told.now.limit.now a.found.now.items c.check_string.new.found.items p a.told.now.strings.now a.taken c.as_slice-digits.result.now c.in_ok-fits-in-Some.fits
    (sym c.in-Some.ensures.value ∙ ap Some (sym c.as_slice-digits.ensures)) c.in_ok-fits-in-Some.ensures.value c.if-fits.true

pub returns-then-fits-clause-cost : goal.returns-then-fits-clause-cost
returns-then-fits-clause-cost g c =
    let many = next-cost c.args.told.now.strings.now c.args.taken c.in-Some.string.now (sym c.in-Some.ensures.value) in
    let long = ap length c.as_slice-digits.ensures in
    let cost = c.in_ok-fits-in-Some.ensures.cost in
    omega (arith, many, long, cost)

pub returns-else-fits-clause-value : goal.returns-else-fits-clause-value
returns-else-fits-clause-value g c =
    let a = c.args in
    let p = part_of a.told.now.ray.now a.told.now.flags a.placed.now.number (placement_value a.placed.now.instance.now a.placed.now.bottom.now) a.placed.now.tree.now in
    next-fails a.told.now.limit.now a.found.now.items c.check_string.new.found.items p a.told.now.strings.now a.taken c.as_slice-digits.result.now c.in_ok-fits-in-Some.fits
    (sym c.in-Some.ensures.value ∙ ap Some (sym c.as_slice-digits.ensures)) c.in_ok-fits-in-Some.ensures.value c.if-fits.false

pub returns-else-fits-clause-cost : goal.returns-else-fits-clause-cost
returns-else-fits-clause-cost g c =
    let many = next-cost c.args.told.now.strings.now c.args.taken c.in-Some.string.now (sym c.in-Some.ensures.value) in
    let none = none-left c.args.told.now.strings.now in
    let long = ap length c.as_slice-digits.ensures in
    let cost = c.in_ok-fits-in-Some.ensures.cost in
    omega (arith, many, none, long, cost)
