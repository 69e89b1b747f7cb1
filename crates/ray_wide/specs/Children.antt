-- The children of a wide node as they stand in it, in 8 bytes; no clause of a public call speaks of them. (Own.)
use Rattle.std.specs.Prelude.{◌≡◌, ◌<◌, ◌+◌, ◌*◌, ◌/◌, ◌%◌, ◌==◌, if◌then◌else◌, ℕ}
use Rattle.std.proofs.Common.{refl, sym}
use Rattle.std.proofs.lemmas.Nat.{div-mul-add, mod-mul-add}
use Rattle.ray_wide.specs.declared.node.WideRef.{WideRef}
use Rattle.ray_wide.specs.declared.node.WideRef.TheVariants as refs
use Rattle.ray_wide.specs.declared.child.Kind.{Kind}
use Rattle.ray_wide.specs.declared.child.Kind.TheVariants.{One, Two, Three, Four, Inner, Empty}
use Rattle.ray_wide.specs.Subtrees.{wide_leaf}

-- a place by its lower 16 bits and those above
abbrev pub place_of : ℕ → ℕ → ℕ
place_of low high = high * 65536 + low

-- the child of a number, a place in two parts, and a kind
abbrev pub child_of : ℕ → ℕ → ℕ → Kind → WideRef
child_of number low high One = refs.Leaf (wide_leaf number (place_of low high) 1)
child_of number low high Two = refs.Leaf (wide_leaf number (place_of low high) 2)
child_of number low high Three = refs.Leaf (wide_leaf number (place_of low high) 3)
child_of number low high Four = refs.Leaf (wide_leaf number (place_of low high) 4)
child_of number low high Inner = refs.Inner number
child_of number low high Empty = refs.Empty

-- what isn't needed is 0
abbrev pub IsPacked : ℕ → ℕ → ℕ → Kind → Type 0
IsPacked number low high One = low < 65536
IsPacked number low high Two = low < 65536
IsPacked number low high Three = low < 65536
IsPacked number low high Four = low < 65536
IsPacked number low high Inner = (low ≡ 0) × (high ≡ 0)
IsPacked number low high Empty = (number ≡ 0) × (low ≡ 0) × (high ≡ 0)

-- the kind of a leaf of so many places, 1 to 4
abbrev pub kind_for : ℕ → Kind
kind_for n = if n == 1 then One else if n == 2 then Two else if n == 3 then Three else Four

-- the parts of a child
abbrev pub number_in : WideRef → ℕ
number_in refs.Empty = 0
number_in (refs.Leaf leaf) = leaf.node
number_in (refs.Inner w) = w

abbrev pub low_in : WideRef → ℕ
low_in refs.Empty = 0
low_in (refs.Leaf leaf) = leaf.first % 65536
low_in (refs.Inner w) = 0

abbrev pub high_in : WideRef → ℕ
high_in refs.Empty = 0
high_in (refs.Leaf leaf) = leaf.first / 65536
high_in (refs.Inner w) = 0

abbrev pub kind_in : WideRef → Kind
kind_in refs.Empty = Empty
kind_in (refs.Leaf leaf) = kind_for leaf.count
kind_in (refs.Inner w) = Inner

-- a child gives its parts back
pub record HasParts (number low high : ℕ) (kind : Kind) : Type 0 where
  pub number_is : number_in (child_of number low high kind) ≡ number
  pub low_is : low_in (child_of number low high kind) ≡ low
  pub high_is : high_in (child_of number low high kind) ≡ high
  pub kind_is : kind_in (child_of number low high kind) ≡ kind

leaf-low : (low high : ℕ) → low < 65536 → place_of low high % 65536 ≡ low
leaf-low low high small = mod-mul-add high 65536 low small

leaf-high : (low high : ℕ) → low < 65536 → place_of low high / 65536 ≡ high
leaf-high low high small = div-mul-add high 65536 low small

pub has-parts : (number low high : ℕ) (kind : Kind) → IsPacked number low high kind → HasParts number low high kind
has-parts number low high One is = record { number_is = refl; low_is = leaf-low low high is; high_is = leaf-high low high is; kind_is = refl }
has-parts number low high Two is = record { number_is = refl; low_is = leaf-low low high is; high_is = leaf-high low high is; kind_is = refl }
has-parts number low high Three is = record { number_is = refl; low_is = leaf-low low high is; high_is = leaf-high low high is; kind_is = refl }
has-parts number low high Four is = record { number_is = refl; low_is = leaf-low low high is; high_is = leaf-high low high is; kind_is = refl }
has-parts number low high Inner is = record { number_is = refl; low_is = sym is.0; high_is = sym is.1; kind_is = refl }
has-parts number low high Empty is = record { number_is = sym is.0; low_is = sym is.1; high_is = sym is.2; kind_is = refl }
