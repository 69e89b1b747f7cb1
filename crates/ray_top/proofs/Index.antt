-- The index of the structures in use, entry by entry.
use Rattle.std.proofs.Common.{ℕ, ◌≡◌, ◌<◌, ◌+◌, List, [], length, take, get_or, Option, None, sym, ap, ◌∙◌}
use Rattle.std.proofs.lemmas.List.Sums.{fold_more}
use Rattle.ray_geom.specs.Boxes.{BoxValue}
use Rattle.ray_top.specs.declared.used.Used.{Used}
use Rattle.ray_top.specs.InstanceReading.{bounds_in, noted}
use Rattle.ray_top.specs.Keeping.{IsIndex, bounds_at}

pub index_none : (entries : List (ℕ × Option BoxValue)) → entries ≡ [] → IsIndex [] entries
unfolding bounds_in
index_none entries e = record { each = λ id. ap (bounds_at id) e }

pub index_more : (used : List Used) (i : ℕ) (u : Used) (before after : List (ℕ × Option BoxValue)) → i < length used → u ≡ get_or used i u →
    IsIndex (take i used) before → ((id : ℕ) → bounds_at id after ≡ noted id (bounds_at id before) u) → IsIndex (take (i + 1) used) after
unfolding bounds_in
index_more used i u before after below same index step = record {
  each = λ id. step id ∙ ((λ j. noted id (index.each id j) (same j)) ∙ sym (fold_more (noted id) None used i u below));
}
