-- There is a line for each ray of commands that come to a text.
use Rattle.std.proofs.Common.{ℕ, zero, suc, ◌≡◌, ◌<◌, ◌≤◌, ◌+◌, ◌*◌, ◌++◌, List, [], ◌∷◌, length, map, false, Option, None, Some, IsSome, refl, ap, sym, subst, ◌∙◌, arith, append-nil}
use Rattle.std.specs.Prelude.{option_and_then, option_map}
use Rattle.std.proofs.lemmas.Option.{slice_get-get_or}
use Rattle.ray_flags.specs.declared.ray_flags.RayFlags.{RayFlags}
use Rattle.ray_script.specs.declared.raw_rule.RawRule.{RawRule}
use Rattle.ray_geom.specs.Scene.{RayValue}
use Rattle.ray_top.specs.Contents.{TopValue}
use Rattle.ray_candidates.specs.Candidates.{Structures, joined}
use Rattle.ray_cmd.specs.declared.command.Command.{Command}
use Rattle.ray_cmd.specs.declared.command.Command.TheVariants as commands
use Rattle.ray_cmd.specs.declared.spot.Spot.{Spot}
use Rattle.ray_rules.specs.Conflicts.{v16}
use Rattle.ray_rules.specs.Hazards.{status_at}
use Rattle.ray_rules.specs.Ranges.{meets, range}
use Rattle.ray_rules.specs.Status.{Status}
use Rattle.ray_rules.proofs.Kept.{not_broken}
use Rattle.ray_action.specs.Clients.{Meaning}
use Rattle.ray_action.specs.Memory.{ContentsAt, Memory, as_top, bytes_at, nothing_live}
use Rattle.ray_action.specs.Pieces.{Numbered, actions_of, command_at, cull_mask, numbered, trace_pieces}
use Rattle.ray_action.specs.Running.{Text, run_from}
use Rattle.ray_action.specs.Traceable.{bottoms_of}
use Rattle.ray_ready.specs.Accepted.{KeepStaticRules}
use Rattle.ray_ready.proofs.Kept.{keeps}
use Rattle.ray_memory.specs.Tracing.{TraceSeen, all_rays, ray_at, row_of, seen_from, seen_of}
use Rattle.ray_permitted.specs.Along.{memory_below}
use Rattle.ray_permitted.specs.Job.{Job}
use Rattle.ray_exec.proofs.OneCommand.{commands_cut}
use Rattle.ray_exec.proofs.Progress.{commands_close, commands_left, memory-below, parts_open}
use Rattle.ray_certify.specs.declared.way.Way.{Way}
use Rattle.ray_certify.specs.Certified.{certificate_lines, lines_with}
use Rattle.ray_certify.specs.Laws.{EachRayHasItsLine}
use Rattle.ray_certify.specs.Rays.{SeenRay, count_of, first_rays, ray_count, rays_at, rays_below, rays_of, seen_ray, traced_ray}
use Rattle.ray_certify.proofs.Cut.{run_cut}
use Rattle.ray_certify.proofs.Lines.{lines_both}
use Rattle.ray_certify.proofs.PiecesThere.{pieces_there, top_there}
use Rattle.ray_certify.proofs.RaysThere.{AreAllThere, all_there}
use Rattle.ray_certify.proofs.Themselves.{length-both}

-- ---- the lines of rays that are there

one_line : (way : Way) (meaning : Meaning) (seen : Option TraceSeen) (k : ℕ) (found : Option SeenRay) → IsSome found → length (lines_with (traced_ray way meaning seen k) found) ≡ 1
one_line way meaning seen k None there = absurd cc
one_line way meaning seen k (Some ray) there = refl

first_lines : (way : Way) (meaning : Meaning) (seen : Option TraceSeen) (n : ℕ) → ((k : ℕ) → k < n → IsSome (seen_ray seen k)) → length (certificate_lines (first_rays way meaning seen n)) ≡ n
unfolding joined
first_lines way meaning seen zero there = refl
first_lines way meaning seen (suc n) there =
    let before = first_lines way meaning seen n (λ k below. there k (omega (arith, below))) in
    let last = one_line way meaning seen n (seen_ray seen n) (there n (omega arith)) in
    let cut = lines_both (first_rays way meaning seen n) (traced_ray way meaning seen n ∷ []) in
    let both = length-both (certificate_lines (first_rays way meaning seen n)) (certificate_lines (traced_ray way meaning seen n ∷ [])) in
    let one : length (certificate_lines (traced_ray way meaning seen n ∷ [])) ≡ 1 =
    ap length (append-nil (lines_with (traced_ray way meaning seen n) (seen_ray seen n))) ∙ last in
    ap length cut ∙ omega (arith, both, before, one)

-- ---- what a trace has seen

ray_some : (found : Option RayValue) (top : TopValue) (bottoms : Structures) → IsSome found
    → IsSome {T = SeenRay} (option_map (λ ray. record { top = top.contents; bottoms = bottoms; ray = ray }) found)
ray_some None top bottoms h = absurd cc
ray_some (Some ray) top bottoms h = refl

seen_there : (m : Memory) (bottoms : Structures) (found : Option TopValue) (rays : Spot) (count : ℕ) (top : TopValue) → found ≡ Some top → (all : AreAllThere m rays count)
    → (k : ℕ) → k < count → IsSome (seen_ray (seen_from bottoms found (bytes_at m (all_rays rays count))) k)
seen_there m bottoms found rays count top is all k below =
    subst (λ (f : Option TopValue). IsSome (seen_ray (seen_from bottoms f (bytes_at m (all_rays rays count))) k)) (sym is)
    (subst (λ (b : Option (List ℕ)). IsSome (seen_ray (seen_from bottoms (Some top) b) k)) (sym all.is_it)
    (ray_some (ray_at (row_of all.bytes) k) top bottoms (all.each k below)))

some_pieces : (count k : ℕ) → k < count → 0 < trace_pieces count
some_pieces count k below = omega (arith, below)

apart_of : (top : ℕ) (rays : Spot) (count : ℕ) (hits : Spot) (flags : RayFlags) (mask : ℕ) (script : List RawRule) → v16 (commands.Trace top rays count hits flags mask script) ≡ None
    → meets (range rays.buffer rays.offset (40 * count)) (range hits.buffer hits.offset (80 * count)) ≡ false
unfolding v16
apart_of top rays count hits flags mask script kept = not_broken (meets (range rays.buffer rays.offset (40 * count)) (range hits.buffer hits.offset (80 * count))) kept

-- ---- one command

module _ (job : Job) (i : ℕ) (z : Status) (m : Memory) where
  trace_lines : (top : ℕ) (rays : Spot) (count : ℕ) (hits : Spot) (flags : RayFlags) (mask : ℕ) (script : List RawRule) → v16 (commands.Trace top rays count hits flags mask script) ≡ None
      → (text : List ℕ) → run_from job.clients m (map (numbered i) (actions_of job.commands z (commands.Trace top rays count hits flags mask script))) ≡ Text text
      → (k : ℕ) → k < count → IsSome (seen_ray (seen_of m (commands.Trace top rays count hits flags mask script)) k)
  unfolding actions_of
  trace_lines top rays count hits flags mask script kept text e k below =
      let apart = apart_of top rays count hits flags mask script kept in
      let found = top_there job.clients job.commands i z top rays hits count flags mask apart (trace_pieces count) m text e (some_pieces count k below) in
      seen_there m (bottoms_of m) (option_and_then as_top (m (ContentsAt top))) rays count found.0 found.1
      (all_there m rays count (pieces_there job.clients job.commands i z top rays hits count flags mask apart m text e)) k below

  command_lines : (c : Command) → v16 c ≡ None → (text : List ℕ) → run_from job.clients m (map (numbered i) (actions_of job.commands z c)) ≡ Text text
      → length (certificate_lines (rays_of i (job.clients i) (seen_of m c) c)) ≡ count_of c
  command_lines (commands.Buffer id size usage content) kept text e = refl
  command_lines (commands.Structure id kind buffer offset size) kept text e = refl
  command_lines (commands.Destroy what id) kept text e = refl
  command_lines (commands.Sizes kind counts) kept text e = refl
  command_lines commands.Begin kept text e = refl
  command_lines commands.End kept text e = refl
  command_lines commands.Submit kept text e = refl
  command_lines commands.Wait kept text e = refl
  command_lines (commands.Read buffer offset size form) kept text e = refl
  command_lines (commands.Update buffer offset content) kept text e = refl
  command_lines (commands.Fill buffer offset size value) kept text e = refl
  command_lines (commands.Copy src dst regions) kept text e = refl
  command_lines (commands.Build infos) kept text e = refl
  command_lines (commands.CopyStructure mode src dst) kept text e = refl
  command_lines (commands.Serialize src dst form) kept text e = refl
  command_lines (commands.Deserialize src dst uses) kept text e = refl
  command_lines (commands.Property what structures dst) kept text e = refl
  command_lines (commands.Barrier src_stages src_access dst_stages dst_access buffers) kept text e = refl
  command_lines (commands.Trace top rays count hits flags mask script) kept text e =
      first_lines (record { command = i; flags = flags; mask = cull_mask mask }) (job.clients i) (seen_of m (commands.Trace top rays count hits flags mask script)) count
      (trace_lines top rays count hits flags mask script kept text e)

-- ---- all commands

-- the commands before one, and it
abbrev acts : List Command → ℕ → List Numbered
acts rec i = map (numbered i) (actions_of rec (status_at rec i) (command_at rec i))

one_more : (rec : List Command) (i : ℕ) → suc i ≤ length rec → commands_left rec (suc i) 0 ≡ commands_left rec i 0 ++ acts rec i
one_more rec i within =
    let next : suc i ≡ i + 1 = omega arith in
    commands_cut rec i (suc i) (omega arith) within
    ∙ ap (λ us. commands_left rec i 0 ++ us)
    (parts_open rec (suc i) i (omega arith) within
    ∙ (ap (λ k. acts rec i ++ commands_left rec (suc i) k) (sym next)
    ∙ (ap (λ us. acts rec i ++ us) (commands_close rec (suc i) within) ∙ append-nil (acts rec i))))

fewer_kept : (rec : List Command) (n : ℕ) → KeepStaticRules rec (suc n) → KeepStaticRules rec n
fewer_kept rec n kept = record { each = λ i c less is. kept.each i c (omega (arith, less)) is }

apart_at : (rec : List Command) (n : ℕ) → suc n ≤ length rec → KeepStaticRules rec (suc n) → v16 (command_at rec n) ≡ None
apart_at rec n within kept =
    (keeps rec (status_at rec n) (command_at rec n) (kept.each n (command_at rec n) (omega arith) (slice_get-get_or rec n commands.Begin (omega (arith, within))))).apart

pub as_many_lines : EachRayHasItsLine
unfolding joined ray_count
as_many_lines job zero text within kept e = refl
as_many_lines job (suc n) text within kept e =
    let rec : List Command = job.commands in
    let cut = run_cut job.clients (commands_left rec n 0) (acts rec n) nothing_live text (ap (run_from job.clients nothing_live) (sym (one_more rec n within)) ∙ e) in
    let before = as_many_lines job n cut.text (omega (arith, within)) (fewer_kept rec n kept) cut.comes in
    let here : run_from job.clients (memory_below job n) (acts rec n) ≡ Text cut.rest =
    ap (λ (m : Memory). run_from job.clients m (acts rec n)) (memory-below job n) ∙ cut.comes_after in
    let last : length (certificate_lines (rays_at job n)) ≡ count_of (command_at rec n) =
    command_lines job n (status_at rec n) (memory_below job n) (command_at rec n) (apart_at rec n within kept) cut.rest here in
    let both = length-both (certificate_lines (rays_below job n)) (certificate_lines (rays_at job n)) in
    ap length (lines_both (rays_below job n) (rays_at job n))
    ∙ (both ∙ (ap (λ k. k + length (certificate_lines (rays_at job n))) before ∙ ap (λ k. ray_count rec n + k) last))
