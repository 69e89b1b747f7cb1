-- Lanes by the children of a wide node; no clause of a public call speaks of them. (Own.)
use Rattle.std.specs.Prelude.{◌^◌, ◌-◌, ℕ, pos, negsuc, nat_lt, if◌then◌else◌, List, [], ◌∷◌, length, map}
use Rattle.ray_geom.specs.Boxes.{BoxValue, box_value}
use Rattle.ray_geom.specs.Vector.{vec3}
use Rattle.ray_lanes.specs.declared.lanes.Lanes8.{Lanes8}
use Rattle.ray_tree.specs.Trees.{TreeValue, box_at, no_box}
use Rattle.ray_wide.specs.declared.node.WideRef.{WideRef}
use Rattle.ray_wide.specs.declared.node.WideRef.TheVariants.{Leaf, Inner, Empty}
use Rattle.ray_wide.specs.declared.node.WideNode.{WideNode}
use Rattle.ray_wide.specs.declared.fill.Lane.{Lane}
use Rattle.ray_wide.specs.Wides.{top_at}

-- the lane without a box
abbrev pub padded_lane : Lane
padded_lane = record {
  lo_x = pos (2 ^ 31 - 1);
  lo_y = pos (2 ^ 31 - 1);
  lo_z = pos (2 ^ 31 - 1);
  hi_x = negsuc (2 ^ 31 - 1);
  hi_y = negsuc (2 ^ 31 - 1);
  hi_z = negsuc (2 ^ 31 - 1);
}

-- the lane of a box
abbrev pub lane_of : BoxValue → Lane
lane_of box = record {
  lo_x = box.lo.x;
  lo_y = box.lo.y;
  lo_z = box.lo.z;
  hi_x = box.hi.x;
  hi_y = box.hi.y;
  hi_z = box.hi.z;
}

-- that of the box of a node
unfoldable pub lane_at : TreeValue → ℕ → Lane
lane_at tree n = if nat_lt n (length tree.nodes) then lane_of (box_at tree no_box n) else padded_lane

-- that of a child
abbrev pub lane_for : TreeValue → List ℕ → WideRef → Lane
lane_for tree tops Empty = padded_lane
lane_for tree tops (Leaf leaf) = lane_at tree leaf.node
lane_for tree tops (Inner w) = lane_at tree (top_at tops w)

-- those of several children
abbrev pub lanes_for : TreeValue → List ℕ → List WideRef → List Lane
lanes_for tree tops children = map (lane_for tree tops) children

-- lanes beside each other, axis by axis
abbrev pub lanes_by : List Lane → Lanes8
lanes_by lanes = record {
  lo = map (λ l. l.lo_x) lanes ∷ map (λ l. l.lo_y) lanes ∷ map (λ l. l.lo_z) lanes ∷ [];
  hi = map (λ l. l.hi_x) lanes ∷ map (λ l. l.hi_y) lanes ∷ map (λ l. l.hi_z) lanes ∷ [];
}

-- a wide node with its lanes made anew
abbrev pub filled : TreeValue → List ℕ → WideNode → WideNode
filled tree tops node = record { lanes = lanes_by (lanes_for tree tops node.children); children = node.children }
