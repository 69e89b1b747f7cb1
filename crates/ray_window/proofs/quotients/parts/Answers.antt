use Rattle.std.proofs.Common.{rules, ◌≡◌, ◌∙◌, ap, neg_ℤ, pos, ◌^◌, ◌+ℤ◌, to_z, of_z, w32, w64, to_z-of_z}
use Rattle.std.specs.Int.{int_min, int_max, int_shr}
use Rattle.ray_window.specs.Windows.{ceiling_of, moved}
use Rattle.ray_window.proofs.Shifts.{shifted_up}
use Rattle.ray_window.proofs.quotients.parts.Goals as goal

pub returns-clause-hi : goal.returns-clause-hi
returns-clause-hi c =
    let p = c.args.p in
    let near : to_z w64 (of_z w64 c.max-near.result) ≡ int_max (neg_ℤ (pos (2 ^ 46))) (int_min (pos (2 ^ 46)) p) = search (rules, to_z-of_z) in
    let more = to_z w64 (of_z w64 (to_z w64 (of_z w64 c.max-near.result) +ℤ pos 65535)) in
    let same : more ≡ to_z w64 (of_z w64 c.max-near.result) +ℤ pos 65535 = search (rules, to_z-of_z) in
    let up : int_shr more 16 ≡ moved (ceiling_of p 65536) = shifted_up p (to_z w64 (of_z w64 c.max-near.result)) more near same in
    ap (λ z. to_z w32 (of_z w32 (to_z w64 (of_z w64 z)))) up ∙ search (rules, to_z-of_z)
