use Rattle.std.proofs.Common.{rules, ◌≡◌, [], ◌∷◌, pos, to_z, of_z, w32, to_z-of_z}
use Rattle.ray_window.specs.Windows.{begins_at, ends_at, window_to}
use Rattle.ray_window.proofs.window.window_along.Goals as goal

pub returns : goal.returns
unfolding window_to
returns c =
    let a = c.args in
    let x = c.side_of-x.result in
    let y = c.side_of-y.result in
    let z = c.side_of-z.result in
    let x_lo : to_z w32 (of_z w32 x.lo) ≡ begins_at (pos a.det) a.origin.x a.dir.x a.tmin a.n a.d = search (rules, to_z-of_z) in
    let y_lo : to_z w32 (of_z w32 y.lo) ≡ begins_at (pos a.det) a.origin.y a.dir.y a.tmin a.n a.d = search (rules, to_z-of_z) in
    let z_lo : to_z w32 (of_z w32 z.lo) ≡ begins_at (pos a.det) a.origin.z a.dir.z a.tmin a.n a.d = search (rules, to_z-of_z) in
    let x_hi : to_z w32 (of_z w32 x.hi) ≡ ends_at (pos a.det) a.origin.x a.dir.x a.tmin a.n a.d = search (rules, to_z-of_z) in
    let y_hi : to_z w32 (of_z w32 y.hi) ≡ ends_at (pos a.det) a.origin.y a.dir.y a.tmin a.n a.d = search (rules, to_z-of_z) in
    let z_hi : to_z w32 (of_z w32 z.hi) ≡ ends_at (pos a.det) a.origin.z a.dir.z a.tmin a.n a.d = search (rules, to_z-of_z) in
    λ i. record { lo = x_lo i ∷ y_lo i ∷ z_lo i ∷ []; hi = x_hi i ∷ y_hi i ∷ z_hi i ∷ [] }
