-- A piece of a command touches no more than the command.
use Rattle.std.proofs.Common.{◌≡◌, ◌+◌, ◌*◌, ◌<◌, ◌++◌, ◌∙◌, ◌∷◌, [], ℕ, zero, suc, List, Option, Some, None, refl, ap, sym, subst, arith, map, slice_get, inl, inr, ◌⊎◌}
use Rattle.std.specs.Prelude.{Contains, option_map}
use Rattle.std.specs.List.{flat_map}
use Rattle.std.specs.Option.{option_map_or}
use Rattle.std.proofs.lemmas.Option.{slice_get-map}
use Rattle.std.proofs.lemmas.List.Elements.{Contains-append_left, Contains-append_right, Contains-append_cases}
use Rattle.ray_cmd.specs.declared.command.Command.{Command}
use Rattle.ray_cmd.specs.declared.command.Command.TheVariants as commands
use Rattle.ray_rules.specs.declared.access_type.AccessType.{AccessType}
use Rattle.ray_rules.specs.declared.access_type.AccessType.TheVariants.{ShaderRead, ShaderWrite, StructureRead}
use Rattle.ray_rules.specs.declared.reach.Reach.{Reach}
use Rattle.ray_rules.specs.declared.reach.Reach.TheVariants.{Bytes, Structure, Scratch}
use Rattle.ray_rules.specs.declared.touch.Touch.{Touch}
use Rattle.ray_rules.specs.Access.{Accesses, accesses_of, all_accesses, at_bytes, at_structure, info_accesses, no_access, piece_accesses, rays_of_piece, region_accesses, structure_reads, uses_at}
use Rattle.ray_rules.specs.AccessLaws.{AreWithin, HasRays, IsOfCommand, ReachesWithin, TouchesWithin}
use Rattle.ray_rules.specs.Status.{Status}

-- what is reached is part of itself
reach_same : (r : Reach) → ReachesWithin r r
reach_same (Bytes r) = record { same = refl; begins = omega arith; ends = omega arith }
reach_same (Structure id) = refl
reach_same (Scratch r) = record { same = refl; begins = omega arith; ends = omega arith }

-- a touch is within itself
touch_same : (t : Touch) → TouchesWithin t t
touch_same t = record { same = refl; within = reach_same t.reach }

-- touches among others are within them
among : (some others : List Touch) → ((t : Touch) → Contains some t → Contains others t) → AreWithin some others
among some others h t there = (t, h t there, touch_same t)

-- nothing is within anything
nothing_within : (others : List Touch) → AreWithin [] others
nothing_within others t there = absurd (omega (arith, there.1))

-- what an item of a list gives is among what all give
in_flat_map : {X A : Type 0} (f : X → List A) (xs : List X) (k : ℕ) (x : X) → slice_get xs k ≡ Some x
    → (a : A) → Contains (f x) a → Contains (flat_map f xs) a
in_flat_map f [] k x there a inside = absurd (cc)
in_flat_map f (y ∷ xs) zero x there a inside =
    let same : y ≡ x = cc in
    Contains-append_left (f y) (flat_map f xs) a (subst (λ z. Contains (f z) a) (sym same) inside)
in_flat_map f (y ∷ xs) (suc k) x there a inside =
    Contains-append_right (f y) (flat_map f xs) a (in_flat_map f xs k x there a inside)

-- of the accesses that items of a list have, those of one are among all
part_of_all : {X : Type 0} (f : X → Accesses) (xs : List X) (k : ℕ) (o : Option X) → slice_get xs k ≡ o
    → AreWithin (option_map_or f o no_access).reads (all_accesses (map f xs)).reads
    × AreWithin (option_map_or f o no_access).writes (all_accesses (map f xs)).writes
part_of_all f xs k None there = (nothing_within _, nothing_within _)
part_of_all f xs k (Some x) there =
    let mapped : slice_get (map f xs) k ≡ Some (f x) = slice_get-map f xs k ∙ ap (option_map f) there in (
      among _ _ (in_flat_map (λ (p : Accesses). p.reads) (map f xs) k (f x) mapped),
      among _ _ (in_flat_map (λ (p : Accesses). p.writes) (map f xs) k (f x) mapped),
    )

-- a list of one has only this
only_one : (t u : Touch) → Contains (u ∷ []) t → u ≡ t
only_one t u (zero, below, is) = is
only_one t u (suc k, below, is) = absurd (omega (arith, below))

-- a part of the rays of a trace
rays_part : (access : AccessType) (buffer offset count k : ℕ) → 64 * k < count
    → TouchesWithin (at_bytes access buffer (offset + 40 * (64 * k)) (40 * rays_of_piece count k)) (at_bytes access buffer (offset + 40 * 0) (40 * count))
rays_part access buffer offset count k left = record {
  same = refl;
  within = record { same = refl; begins = omega arith; ends = omega (arith, left) };
}

-- a part of the hits of a trace
hits_part : (access : AccessType) (buffer offset count k : ℕ) → 64 * k < count
    → TouchesWithin (at_bytes access buffer (offset + 80 * (64 * k)) (80 * rays_of_piece count k)) (at_bytes access buffer (offset + 80 * 0) (80 * count))
hits_part access buffer offset count k left = record {
  same = refl;
  within = record { same = refl; begins = omega arith; ends = omega (arith, left) };
}

-- the reads of a piece of a trace
rays_within : (front : List Touch) (some all : Touch) → TouchesWithin some all → AreWithin (front ++ some ∷ []) (front ++ all ∷ [])
rays_within front some all within t there =
    choose (Contains-append_cases front (some ∷ []) t there)
  where
    choose : Contains front t ⊎ Contains (some ∷ []) t → (other : Touch) × Contains (front ++ all ∷ []) other × TouchesWithin t other
    choose (inl before) = (t, Contains-append_left front (all ∷ []) t before, touch_same t)
    choose (inr last) =
        (all, Contains-append_right front (all ∷ []) all (0, omega arith, refl), subst (λ u. TouchesWithin u all) (only_one t some last) within)

-- the law
pub pieces : (rec : List Command) (z : Status) (c : Command) (k : ℕ) → HasRays c k → IsOfCommand rec z c k
unfolding accesses_of piece_accesses
pieces rec z (commands.Copy src dst regions) k left =
    let both = part_of_all (region_accesses src dst) regions k (slice_get regions k) refl in
    record { reads = both.0; writes = both.1 }
pieces rec z (commands.Build infos) k left =
    let both = part_of_all (info_accesses z.buffers) infos k (slice_get infos k) refl in
    record { reads = both.0; writes = both.1 }
pieces rec z (commands.Trace top rays count hits flags mask script) k left = record {
  reads =
      rays_within (at_structure StructureRead top ∷ structure_reads (uses_at rec z top)) _ _
      (rays_part ShaderRead rays.buffer rays.offset count k left);
  writes = rays_within [] _ _ (hits_part ShaderWrite hits.buffer hits.offset count k left);
}
pieces rec z c k left =
    let all = accesses_of rec z c in
    record { reads = among all.reads all.reads (λ t there. there); writes = among all.writes all.writes (λ t there. there) }
