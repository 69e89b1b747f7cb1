use Rattle.ray_tree.proofs.Rooted.{has_root}
use Rattle.ray_wide.proofs.Rooting.{is_rooted}
use Rattle.ray_wide.proofs.laws.root_law.Goals as goal

pub returns : goal.returns
returns c tree_over over =
    let tree = c.args._tree.now in
    let wide = c.args._wide.now in
    let rooted = is_rooted tree.nodes wide.tops wide.root over.collapsed.root in
    let active = has_root tree c.args._items.now tree_over in
    (λ e. active.0 (rooted.0 e), λ some. rooted.1 (active.1 some))
