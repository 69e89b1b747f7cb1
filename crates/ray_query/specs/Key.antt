-- The keys by which the candidates of a ray are ordered. (Own: Vulkan leaves the order in which
-- candidates are found open.)
use Rattle.std.specs.Prelude.{◌≡◌, Option, Some, None, Bool, true, List}
use Rattle.std.specs.List.{AllPairs}
use Rattle.std.specs.Ordering.{is_lt, nat_cmp, ordering_then}
use Rattle.std.specs.declared.cmp.Ordering.{Ordering}
use Rattle.ray_geom.specs.declared.frac.Frac.{Frac}
use Rattle.ray_geom.specs.Frac.{frac_cmp}
use Rattle.ray_query.specs.declared.key.Key.{Key}
use Rattle.ray_query.specs.declared.found.Found.{Found}
use Rattle.ray_query.specs.declared.commit.Commit.{Commit}

-- keys are compared by distance, by value; then by the instance's number, the geometry's and the
-- primitive's (own)
abbrev pub key_cmp : Key → Key → Ordering
key_cmp k l =
    ordering_then (frac_cmp k.t l.t)
    (ordering_then (nat_cmp k.instance l.instance)
    (ordering_then (nat_cmp k.geometry l.geometry) (nat_cmp k.primitive l.primitive)))

-- the key is below another
abbrev pub key_lt : Key → Key → Bool
key_lt k l = is_lt (key_cmp k l)

-- a distance with the three numbers of what was found (own)
abbrev pub key_at : Found → Frac → Key
key_at f t = record { t = t; instance = f.instance; geometry = f.geometry; primitive = f.primitive }

-- the key of what was found: its own distance, which for a box is its entry, with its numbers (own)
abbrev pub found_key : Found → Key
found_key f = key_at f f.t

-- the key of a commit: the distance at which it was committed, with the numbers of what was found.
-- For a generated one that distance is the generated one (own)
abbrev pub commit_key : Commit → Key
commit_key c = key_at c.found c.t

-- a key is below that of the committed hit; where nothing is committed, every key is (own)
abbrev pub is_below : Key → Option Commit → Bool
is_below k None = true
is_below k (Some c) = key_lt k (commit_key c)

-- the keys of a list rise: each is below all later ones, so none stands twice (own)
abbrev pub KeysRise : List Found → Type 0
KeysRise fs = AllPairs (λ f g. key_lt (found_key f) (found_key g) ≡ true) fs
