use Rattle.std.proofs.Common.{rules, ◌≡◌, neg_ℤ, pos, ◌<ℤ◌, to_z-of_z}
use Rattle.ray_window.proofs.Turned.{turned_point-below}
use Rattle.ray_window.proofs.window.upright.Goals as goal

pub returns-then-det-lt0-clause-origin : goal.returns-then-det-lt0-clause-origin
returns-then-det-lt0-clause-origin c =
    let v = c.args.origin in
    let below : c.args.det <ℤ pos 0 = search rules in
    let x : c.opposite.result.x ≡ neg_ℤ v.x = search (rules, to_z-of_z) in
    let y : c.opposite.result.y ≡ neg_ℤ v.y = search (rules, to_z-of_z) in
    let z : c.opposite.result.z ≡ neg_ℤ v.z = search (rules, to_z-of_z) in
    turned_point-below c.args.det v c.opposite.result below x y z

pub returns-then-det-lt0-clause-dir : goal.returns-then-det-lt0-clause-dir
returns-then-det-lt0-clause-dir c =
    let v = c.args.dir in
    let below : c.args.det <ℤ pos 0 = search rules in
    let x : c.opposite-then-det-lt0.result.x ≡ neg_ℤ v.x = search (rules, to_z-of_z) in
    let y : c.opposite-then-det-lt0.result.y ≡ neg_ℤ v.y = search (rules, to_z-of_z) in
    let z : c.opposite-then-det-lt0.result.z ≡ neg_ℤ v.z = search (rules, to_z-of_z) in
    turned_point-below c.args.det v c.opposite-then-det-lt0.result below x y z
