-- Where nodes may wait.
use Rattle.std.proofs.Common.{ap, Option, Some, None}
use Rattle.std.specs.Ordering.{is_le}
use Rattle.ray_geom.specs.declared.ratio.Ratio.{Ratio}
use Rattle.ray_nearest.specs.declared.node.WalkNode.{WalkNode}
use Rattle.ray_nearest.specs.declared.node.WalkNode.TheVariants.{TopInner, TopLeaf, Inner, Leaf}
use Rattle.ray_nearest.specs.Adding.{HasValue, IsLow, MayWait}

value-low : (entry : Option Ratio) (e : Ratio) → HasValue entry e → IsLow entry e
value-low None e value = absurd value
value-low (Some a) e value = ap is_le value

-- no node waits beyond its entry
pub waits-low : (n : WalkNode) (entry : Option Ratio) (e : Ratio) → MayWait entry n e → IsLow entry e
waits-low (TopInner n) entry e waits = waits
waits-low (TopLeaf n) entry e waits = waits
waits-low (Inner i n) entry e waits = waits
waits-low (Leaf i n) entry e waits = value-low entry e waits

-- each may wait at its entry
pub value-waits : (n : WalkNode) (entry : Option Ratio) (e : Ratio) → HasValue entry e → MayWait entry n e
value-waits (TopInner n) entry e value = value-low entry e value
value-waits (TopLeaf n) entry e value = value-low entry e value
value-waits (Inner i n) entry e value = value-low entry e value
value-waits (Leaf i n) entry e value = value
