use Rattle.std.proofs.Common.{◌∙◌, pos, replicate, refl, ap}
use Rattle.std.specs.Int.{int_max, int_min}
use Rattle.ray_slabs.specs.Axes.{far_of, near_of}
use Rattle.ray_slabs.specs.Bounds.{entry_key, planes_of}
use Rattle.ray_slabs.specs.Eights.{box_in}
use Rattle.ray_slabs.specs.Rows.{greater_row, lesser_row}
use Rattle.ray_slabs.proofs.Eighths.{IsAt, as-row, greater, lesser, replicated, told-at}
use Rattle.ray_slabs.proofs.PerLane.{lifted-last}
use Rattle.ray_slabs.proofs.slabs.Slabs.test8.Goals as goal

pub returns : goal.returns
returns c k few is =
    let s = c.args.self.now in
    let box = box_in c.args.lanes.now k in
    let p = planes_of box in
    let lo = is.lo_short in
    let hi = is.hi_short in
    let nx : IsAt c.near8.result k (near_of s.x p.lo_x p.hi_x) = record { long = c.near8.ensures.long; is = c.near8.ensures.each k few lo.x_within hi.x_within } in
    let ny : IsAt c.near8-2.result k (near_of s.y p.lo_y p.hi_y) = record { long = c.near8-2.ensures.long; is = c.near8-2.ensures.each k few lo.y_within hi.y_within } in
    let nz : IsAt c.near8-3.result k (near_of s.z p.lo_z p.hi_z) = record { long = c.near8-3.ensures.long; is = c.near8-3.ensures.each k few lo.z_within hi.z_within } in
    let fx : IsAt c.far8.result k (far_of s.x p.lo_x p.hi_x) = record { long = c.far8.ensures.long; is = c.far8.ensures.each k few lo.x_within hi.x_within } in
    let fy : IsAt c.far8-2.result k (far_of s.y p.lo_y p.hi_y) = record { long = c.far8-2.ensures.long; is = c.far8-2.ensures.each k few lo.y_within hi.y_within } in
    let fz : IsAt c.far8-3.result k (far_of s.z p.lo_z p.hi_z) = record { long = c.far8-3.ensures.long; is = c.far8-3.ensures.each k few lo.z_within hi.z_within } in
    let zero : IsAt (replicate 8 2147483648) k (pos 0) = replicated k few 2147483648 (pos 0) refl in
    let last : IsAt (replicate 8 c.lifted.result) k s.last =
    replicated k few c.lifted.result s.last (ap pos c.lifted.ensures ∙ lifted-last s.last s.fits.not_before s.fits.last_short) in
    let entries = greater k few (greater_row (greater_row (replicate 8 2147483648) c.near8.result) c.near8-2.result) c.near8-3.result
    (int_max (int_max (pos 0) (near_of s.x p.lo_x p.hi_x)) (near_of s.y p.lo_y p.hi_y)) (near_of s.z p.lo_z p.hi_z)
    (greater k few (greater_row (replicate 8 2147483648) c.near8.result) c.near8-2.result (int_max (pos 0) (near_of s.x p.lo_x p.hi_x)) (near_of s.y p.lo_y p.hi_y)
    (greater k few (replicate 8 2147483648) c.near8.result (pos 0) (near_of s.x p.lo_x p.hi_x) zero nx) ny) nz in
    let exits = lesser k few (lesser_row (lesser_row (replicate 8 c.lifted.result) c.far8.result) c.far8-2.result) c.far8-3.result
    (int_min (int_min s.last (far_of s.x p.lo_x p.hi_x)) (far_of s.y p.lo_y p.hi_y)) (far_of s.z p.lo_z p.hi_z)
    (lesser k few (lesser_row (replicate 8 c.lifted.result) c.far8.result) c.far8-2.result (int_min s.last (far_of s.x p.lo_x p.hi_x)) (far_of s.y p.lo_y p.hi_y)
    (lesser k few (replicate 8 c.lifted.result) c.far8.result s.last (far_of s.x p.lo_x p.hi_x) last fx) fy) fz in
    let both = told-at k s p (record { met = c.at_most.result; keys = c.keys_of.result }) c.entries-entry.result c.exits-exit.result
    s.fits.not_before s.fits.last_short
    (as-row k (entry_key s p) c.entries-entry.result (greater_row (greater_row (greater_row (replicate 8 2147483648) c.near8.result) c.near8-2.result) c.near8-3.result)
    c.entries-entry.ensures entries)
    (as-row k (int_min (int_min (int_min s.last (far_of s.x p.lo_x p.hi_x)) (far_of s.y p.lo_y p.hi_y)) (far_of s.z p.lo_z p.hi_z)) c.exits-exit.result
    (lesser_row (lesser_row (lesser_row (replicate 8 c.lifted.result) c.far8.result) c.far8-2.result) c.far8-3.result) c.exits-exit.ensures exits)
    (c.at_most.ensures k few) (c.keys_of.ensures k few) in
    record { kept = both.0; key = both.1 }
