use Rattle.std.proofs.Common.{◌∙◌, sym, subst}
use Rattle.std.specs.Slots.{slots_items}
use Rattle.ray_geom.specs.Boxes.{IsBox}
use Rattle.ray_tree.proofs.LeastOver.{is_box}
use Rattle.ray_climb.proofs.Boxed.{boxed_again}
use Rattle.ray_climb.proofs.boxes.node_box.Goals as goal

pub box_of-requires : goal.box_of-requires
box_of-requires c =
    subst IsBox
    (sym (boxed_again c.args.refit.now c.requires.ready.boxes (slots_items c.args.closed.now.words) c.requires.exact c.args.n c.word-low.result c.word-high.result c.requires.small c.word-low.ensures c.word-high.ensures))
    (is_box c.args.refit.now.tree c.args.refit.now.items c.requires.ready.boxes c.args.n)

pub returns : goal.returns
returns c =
    c.box_of.ensures
    ∙ boxed_again c.args.refit.now c.requires.ready.boxes (slots_items c.args.closed.now.words) c.requires.exact c.args.n c.word-low.result c.word-high.result c.requires.small c.word-low.ensures c.word-high.ensures
