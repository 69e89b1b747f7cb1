-- The strings of all instances are the digits of the parts of the ray, whatever the flags; and the certificate that is made supports its hit.
use Rattle.std.proofs.Common.{◌≡◌, ◌∙◌, refl, sym, ap, ℕ, Bool, List, [], ◌∷◌, ◌++◌, Option, Some, None, option_map, length, map}
use Rattle.std.specs.List.{flat_map, range_with_len}
use Rattle.std.proofs.lemmas.List.{map-append}
use Rattle.std.proofs.lemmas.List.Concat.{flat_map-cons}
use Rattle.ray_geom.specs.declared.ratio.Ratio.{Ratio}
use Rattle.ray_geom.specs.Ratio.{parts_of}
use Rattle.ray_geom.specs.Scene.{RayValue}
use Rattle.ray_flags.specs.declared.ray_flags.RayFlags.{RayFlags}
use Rattle.ray_bottom.specs.Slots.{Slots}
use Rattle.ray_top.specs.Contents.{ContentsValue as TopContents}
use Rattle.ray_query.specs.declared.commit.Commit.{Commit}
use Rattle.ray_candidates.specs.Candidates.{joined}
use Rattle.ray_candidates.specs.Placements.{Placement}
use Rattle.ray_candidates.proofs.Aligned.{joined-range}
use Rattle.ray_cert.specs.declared.named.Named.{Named}
use Rattle.ray_cert.specs.Certificates.{CertValue, digits_of, limit_of, name_of}
use Rattle.ray_cert.specs.Checking.{strings_by}
use Rattle.ray_cert.specs.Laws.{IsMadeOf}
use Rattle.ray_cert.specs.Parts.{parts_at, parts_by, parts_of_ray, placement_at}

map-flat_map : {X Y Z : Type 0} (g : Y → Z) (f : X → List Y) (xs : List X) → map g (flat_map f xs) ≡ flat_map (λ x. map g (f x)) xs
map-flat_map g f [] = refl
map-flat_map g f (x ∷ xs) =
    ap (map g) (flat_map-cons f x xs)
    ∙ (map-append g (f x) (flat_map f xs)
    ∙ (ap (λ zs. map g (f x) ++ zs) (map-flat_map g f xs) ∙ sym (flat_map-cons (λ y. map g (f y)) x xs)))

module _ (limit : Ratio) (ray : RayValue) (flags : RayFlags) where
  digits-parts : (n : ℕ) (o : Option Placement) → strings_by limit ray o ≡ map (digits_of limit) (parts_by ray flags n o)
  digits-parts n None = refl
  digits-parts n (Some p) = refl

  pub strings-made : (top : TopContents) (bottoms : Slots) (mask : ℕ)
      → joined (λ n. strings_by limit ray (placement_at top bottoms mask n)) (length top.instances) ≡ map (digits_of limit) (parts_of_ray top bottoms ray flags mask)
  strings-made top bottoms mask =
      let many = length top.instances in
      joined-range (λ n. strings_by limit ray (placement_at top bottoms mask n)) many
      ∙ ((λ i. flat_map (λ n. digits-parts n (placement_at top bottoms mask n) i) (range_with_len 0 many))
      ∙ sym (map-flat_map (digits_of limit) (parts_at top bottoms ray flags mask) (range_with_len 0 many)))

pub is-made : (top : TopContents) (bottoms : Slots) (ray : RayValue) (mask : ℕ) (commit : Option Commit) (cert : CertValue) (named : Option Named) (limit : Ratio)
    (strings : List (List Bool)) → cert ≡ record { named = named; strings = strings } → named ≡ option_map name_of commit
    → limit ≡ limit_of (parts_of ray.tmax) named
    → strings ≡ joined (λ n. strings_by limit ray (placement_at top bottoms mask n)) (length top.instances) → IsMadeOf top bottoms ray mask commit cert
is-made top bottoms ray mask commit cert named limit strings is names limits told = λ flags.
    let limit_is : limit ≡ limit_of (parts_of ray.tmax) (option_map name_of commit) = limits ∙ ap (limit_of (parts_of ray.tmax)) names in
    let all : strings ≡ map (digits_of (limit_of (parts_of ray.tmax) (option_map name_of commit))) (parts_of_ray top bottoms ray flags mask) =
    told ∙ (strings-made limit ray flags top bottoms mask ∙ (λ i. map (digits_of (limit_is i)) (parts_of_ray top bottoms ray flags mask))) in
    is ∙ (λ i. record { named = names i; strings = all i })
