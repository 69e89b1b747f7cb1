-- Certificates of hits, and what makes one support its hit. (Own.)
--
-- By hand: one opaque triangle, hit at the distance 5, in a structure that one instance places where it is, and a client that
-- confirms. The stated tree is one leaf, whose box is entered at 5. The certificate that names instance 0, geometry 0, primitive 0 at
-- 5/1 supports its hit with the string 1: the play of the one candidate commits just that. With the string 0 it doesn't: the node isn't
-- entered above 5. With none named and the string 1 it doesn't, since the play commits a hit; nor with 4/1 named, or with no string.
use Rattle.std.specs.Prelude.{ℕ, ◌≡◌, ◌+◌, ◌++◌, Bool, false, Option, Some, None, option_map, List, [], ◌∷◌, All, map, length}
use Rattle.std.specs.List.{flat_map}
use Rattle.ray_geom.specs.declared.ratio.Ratio.{Ratio}
use Rattle.ray_geom.specs.Ratio.{parts_of, ratio_of}
use Rattle.ray_geom.specs.Scene.{RayValue}
use Rattle.ray_flags.specs.declared.ray_flags.RayFlags.{RayFlags}
use Rattle.ray_tree.specs.Trees.{shape_at}
use Rattle.ray_bottom.specs.Slots.{Slots}
use Rattle.ray_top.specs.Contents.{ContentsValue as TopContents}
use Rattle.ray_query.specs.declared.candidate.Candidate.{Candidate}
use Rattle.ray_query.specs.declared.commit.Commit.{Commit}
use Rattle.ray_query.specs.declared.decision.Decision.{Decision}
use Rattle.ray_query.specs.declared.found.Found.{Found}
use Rattle.ray_query.specs.KeyOrder.{in_key_order}
use Rattle.ray_query.specs.Limits.{is_open}
use Rattle.ray_query.specs.Play.{play, start}
use Rattle.ray_cert.specs.declared.named.Named.{Named}
use Rattle.ray_cert.specs.Cuttings.{Cutting, Fits, cut_by, marks, shut_of, tested_of}
use Rattle.ray_cert.specs.Parts.{Part, parts_of_ray}

-- a certificate: the hit that it names, if any, and a string of digits for each active instance whose mask is seen, true being 1
pub record CertValue : Type 0 where
  pub named : Option Named
  pub strings : List (List Bool)

-- how many digits stand in strings
abbrev pub digits_in : List (List Bool) → ℕ
digits_in [] = 0
digits_in (d ∷ ds) = length d + digits_in ds

-- what a certificate names of a committed hit
abbrev pub name_of : Commit → Named
name_of k = record {
  kind = k.found.kind;
  instance = k.found.instance;
  geometry = k.found.geometry;
  primitive = k.found.primitive;
  t = k.t;
}

-- how far a certificate has to tell: up to the named distance, and to the end of the ray where it names none
abbrev pub limit_of : Ratio → Option Named → Ratio
limit_of end None = end
limit_of end (Some n) = ratio_of n.t

-- a node is met at an entry up to a limit
abbrev pub is_met : Ratio → Part → ℕ → Bool
is_met limit p n = is_open (Some limit) (p.entry n)

-- digits spell a cutting of the part's tree, and no node at which it is cut off is met up to the limit
pub record IsCutOf (limit : Ratio) (p : Part) (cut : Cutting) (digits : List Bool) : Type 0 where
  pub fits : Fits (shape_at p.tree 0) cut
  pub spelled : digits ≡ marks cut
  pub far : All (λ n. is_met limit p n ≡ false) (shut_of (shape_at p.tree 0) cut)

-- so it is with each part, its cutting and its string
abbrev pub AreCutsOf : Ratio → List Part → List Cutting → List (List Bool) → Type 0
AreCutsOf limit [] [] [] = Unit {0}
AreCutsOf limit [] [] (d ∷ ds) = ⊥
AreCutsOf limit [] (c ∷ cs) ds = ⊥
AreCutsOf limit (p ∷ ps) [] ds = ⊥
AreCutsOf limit (p ∷ ps) (c ∷ cs) [] = ⊥
AreCutsOf limit (p ∷ ps) (c ∷ cs) (d ∷ ds) = IsCutOf limit p c d × AreCutsOf limit ps cs ds

-- what is found of the items of the leaves that are tested, in one part and in all
abbrev pub tested_in_part : Part → Cutting → List Found
tested_in_part p cut = flat_map p.find (tested_of p.tree.order (shape_at p.tree 0) cut)

abbrev pub tested_in : List Part → List Cutting → List Found
tested_in [] cs = []
tested_in (p ∷ ps) [] = []
tested_in (p ∷ ps) (c ∷ cs) = tested_in_part p c ++ tested_in ps cs

-- a certificate supports its hit over these parts, for a client of this meaning and the ray of a number: its strings spell cuttings
-- of the trees, what is cut off isn't met up to the named distance, and the play of what is found in the leaves that are tested, in key
-- order, commits just what is named
pub record SupportsOver (meaning : Candidate → Decision) (number : ℕ) (flags : RayFlags) (end : Ratio) (parts : List Part) (cert : CertValue) : Type 0 where
  pub cuts : List Cutting
  pub cut : AreCutsOf (limit_of end cert.named) parts cuts cert.strings
  pub commits : option_map name_of (play meaning number flags start (in_key_order (tested_in parts cuts))).committed ≡ cert.named

-- a certificate of a ray supports its hit
abbrev pub Supports : (Candidate → Decision) → TopContents → Slots → RayValue → ℕ → RayFlags → ℕ → CertValue → Type 0
Supports meaning top bottoms ray number flags mask cert =
    SupportsOver meaning number flags (parts_of ray.tmax) (parts_of_ray top bottoms ray flags mask) cert

-- ---- the certificate that is made of an answer

-- the digits of the cutting that is cut off just where nothing is met up to a limit: a digit is 1 exactly where its node is met
abbrev pub digits_of : Ratio → Part → List Bool
digits_of limit p = marks (cut_by (is_met limit p) (shape_at p.tree 0))

-- it names what was committed, and has those digits up to its distance
abbrev pub cert_of : Ratio → List Part → Option Commit → CertValue
cert_of end parts commit = record {
  named = option_map name_of commit;
  strings = map (digits_of (limit_of end (option_map name_of commit))) parts;
}
