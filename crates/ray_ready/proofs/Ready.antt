-- What is allowed is ready, where the status and the memory are tied.
use Rattle.std.proofs.Common.{◌≡◌, ◌<◌, ◌≤◌, ◌+◌, ℕ, zero, suc, true, List, [], ◌∷◌, Option, Some, None, IsSome, IfSome, All, map, refl, sym, ◌∙◌, ap, subst, arith}
use Rattle.std.specs.Prelude.{if◌then◌else◌}
use Rattle.std.specs.Option.{option_map, option_map_or, option_and_then}
use Rattle.std.proofs.lemmas.List.Elements.{All-nil, All-cons}
use Rattle.ray_geom.specs.Boxes.{BoxValue}
use Rattle.ray_top.specs.Contents as tops
use Rattle.ray_top.specs.Instances.{InstanceValue}
use Rattle.ray_top.specs.InstanceReading.{bounds_in}
use Rattle.ray_candidates.specs.Standing.{IsStanding}
use Rattle.ray_cmd.specs.declared.asked.Asked.{Asked}
use Rattle.ray_cmd.specs.declared.asked.Asked.TheVariants as asked
use Rattle.ray_cmd.specs.declared.command.Command.{Command}
use Rattle.ray_cmd.specs.declared.copy_mode.CopyMode.{CopyMode}
use Rattle.ray_cmd.specs.declared.copy_mode.CopyMode.TheVariants as copies
use Rattle.ray_cmd.specs.declared.geometry.Geometry.{Geometry}
use Rattle.ray_cmd.specs.declared.structure_kind.StructureKind.{StructureKind}
use Rattle.ray_cmd.specs.declared.structure_kind.StructureKind.TheVariants as kinds
use Rattle.ray_rules.specs.declared.built.Built.{Built}
use Rattle.ray_rules.specs.declared.byte_range.ByteRange.{ByteRange}
use Rattle.ray_rules.specs.declared.live_buffer.LiveBuffer.{LiveBuffer}
use Rattle.ray_rules.specs.declared.live_structure.LiveStructure.{LiveStructure}
use Rattle.ray_rules.specs.Ids.{Ids, look}
use Rattle.ray_rules.specs.Origins.{uses_of}
use Rattle.ray_rules.specs.Ranges.{inputs_read}
use Rattle.ray_rules.specs.Status.{Status}
use Rattle.ray_action.specs.Areas.{has}
use Rattle.ray_action.specs.Memory.{Contents, Memory, Bottom, Top, ByteAt, BufferAt, StructureAt, ContentsAt, as_bottom, as_top, bytes_at, bytes_from, kind_of, number_before}
use Rattle.ray_action.specs.Action.{Action, Building, Tracing, MakeBuffer, MakeStructure, DestroyBuffer, DestroyStructure, ShowSizes, ShowBytes, UpdateBytes, FillBytes, CopyBytes, BuildBottom, UpdateBottom, BuildTop, UpdateTop, CopyStructure, SerializeStructure, DeserializeStructure, TellProperty, TraceRays, Rest, Impossible, content_buffer}
use Rattle.ray_action.specs.Seeing.{SeenBytes, see_geometry, see_range, see_structure, see_structures}
use Rattle.ray_action.specs.Outcomes.{bottoms_in, number_of, numbers_of}
use Rattle.ray_action.specs.Readiness.{AreBottoms, AreThere, IsBottomReady, FitsMode, IsMade, IsReady, IsThere, IsTopReady, IsTopSource}
use Rattle.ray_ready.proofs.Ties.{Fills, IsAsMany, IsBounded, IsTopBy, TiedBuffers, TiedContents, TiedForms, Ties, form_of, keeps_bytes_at, size_of}
use Rattle.ray_rules.specs.Within.{AreInBuffers, IsInBufferIf}
use Rattle.ray_ready.proofs.Allowed.{AreKeptIn, AreReadable, FitsKind, IsAllowed, IsBuiltAny, IsBuiltOf, IsKeptIn, IsLiveOf, IsReadable, IsSource, MayBuildBottom, MayBuildTop, MayCopy, MayDeserialize, MayTell, MayTellAll, MayTrace}

-- buffers that are tied to a memory
abbrev Buffers : Ids LiveBuffer → Memory → Type 0
Buffers buffers m = TiedBuffers buffers (λ id. m (BufferAt id)) (λ id at. m (ByteAt id at))

-- ---- bytes

both_some : (number : Option ℕ) (rest : Option (List ℕ)) → IsSome number → IsSome rest → IsSome (number_before number rest)
both_some None rest h k = absurd cc
both_some (Some x) None h k = absurd cc
both_some (Some x) (Some rest) h k = refl

bytes_some : (m : Memory) (buffer from n : ℕ) → ((at : ℕ) → from ≤ at → at < from + n → IsSome (m (ByteAt buffer at))) → IsSome (bytes_from m buffer from n)
unfolding bytes_from
bytes_some m buffer from zero all = refl
bytes_some m buffer from (suc n) all =
    both_some (m (ByteAt buffer from)) (bytes_from m buffer (from + 1) n) (all from (omega arith) (omega arith))
    (bytes_some m buffer (from + 1) n (λ at low high. all at (omega arith) (omega arith)))

pub range_there : (buffers : Ids LiveBuffer) (m : Memory) (r : ByteRange) → Buffers buffers m → IsKeptIn buffers r → IsSome (bytes_at m r)
range_there buffers m r tied within =
    bytes_some m r.buffer r.from r.size (λ at low high. tied.there r.buffer at within.1 (within.0 at low high))

-- ---- geometries

range_if : (buffers : Ids LiveBuffer) (m : Memory) (r : Option ByteRange) → Buffers buffers m → IsInBufferIf buffers r
    → IfSome r (λ (range : ByteRange). keeps_bytes_at buffers range.buffer ≡ true) → IfSome (see_range m r) IsSome
range_if buffers m None tied within kept = tt
range_if buffers m (Some r) tied within kept = range_there buffers m r tied (within, kept)

ranges_there : (buffers : Ids LiveBuffer) (m : Memory) (rs : List (Option ByteRange)) → Buffers buffers m → AreInBuffers buffers rs → AreKeptIn buffers rs
    → All (λ (input : Option SeenBytes). IfSome input IsSome) (map (see_range m) rs)
ranges_there buffers m [] tied within kept = All-nil (λ (input : Option SeenBytes). IfSome input IsSome)
ranges_there buffers m (r ∷ rs) tied within kept =
    All-cons (λ (input : Option SeenBytes). IfSome input IsSome) (see_range m r) (map (see_range m) rs) (range_if buffers m r tied within.0 kept.0)
    (ranges_there buffers m rs tied within.1 kept.1)

the_size : (found : Option LiveBuffer) → IsSome found → option_map size_of found ≡ Some (option_map_or size_of found 0)
the_size None live = absurd cc
the_size (Some b) live = refl

geometry_there : (buffers : Ids LiveBuffer) (m : Memory) (g : Geometry) → Buffers buffers m → IsReadable buffers g → IsThere buffers g (see_geometry m buffers g)
geometry_there buffers m g tied is = record {
  size = tied.size (content_buffer g) ∙ the_size (look buffers (content_buffer g)) is.live;
  inputs = ranges_there buffers m (inputs_read buffers g) tied is.within is.kept;
}

geometries_there : (buffers : Ids LiveBuffer) (m : Memory) (gs : List Geometry) → Buffers buffers m → AreReadable buffers gs
    → AreThere buffers gs (map (see_geometry m buffers) gs)
geometries_there buffers m [] tied are = tt
geometries_there buffers m (g ∷ gs) tied are = (geometry_there buffers m g tied are.0, geometries_there buffers m gs tied are.1)

-- ---- structures

pub dst_made : (es : Ids LiveStructure) (m : Memory) (kind : StructureKind) (id : ℕ) → TiedForms es (λ q. m (StructureAt q)) → IsLiveOf kind (look es id)
    → IsMade kind (m (StructureAt id))
dst_made es m kind id tied live = record {
  form = form_of live.structure;
  is_it = tied.form id ∙ ap (option_map form_of) live.is_it;
  same_kind = live.same_kind;
}

pub bottom_there : (rec : List Command) (i k : ℕ) (es : Ids LiveStructure) (contents : ℕ → Option Contents) (id : ℕ) → TiedContents rec i k es contents
    → IsBuiltOf kinds.Bottom (look es id) → IsSome (option_and_then as_bottom (contents id))
bottom_there rec i k es contents id tied is = tied.held id kinds.Bottom is.by is.built

seen_used : (m : Memory) (uses : List ℕ) (u : ℕ) → has uses u ≡ true → m (ContentsAt u) ≡ see_structures m uses u
seen_used m uses u named = sym (ap (λ b. if b then m (ContentsAt u) else None) named)

uses_there : (rec : List Command) (i k : ℕ) (es : Ids LiveStructure) (m : Memory) (uses : List ℕ) → TiedContents rec i k es (λ id. m (ContentsAt id))
    → ((u : ℕ) → has uses u ≡ true → IsBuiltOf kinds.Bottom (look es u)) → AreBottoms (see_structures m uses) uses
uses_there rec i k es m uses tied are u named =
    subst (λ found. IsSome (option_and_then as_bottom found)) (seen_used m uses u named)
    (bottom_there rec i k es (λ id. m (ContentsAt id)) u tied (are u named))

-- ---- builds

bottom_ready : (rec : List Command) (i k : ℕ) (z : Status) (m : Memory) (build : Building) (gs : List Geometry) → Ties rec i k z m → MayBuildBottom z build gs
    → IsBottomReady build gs (record { dst = m (StructureAt build.dst); geometries = map (see_geometry m build.buffers) gs })
bottom_ready rec i k z m build gs ties may = record {
  dst = dst_made z.structures m kinds.Bottom build.dst ties.forms may.dst;
  limits = may.limits;
  there = geometries_there build.buffers m gs (subst (λ bs. Buffers bs m) may.buffers ties.buffers) may.readable;
}

top_ready : (rec : List Command) (i k : ℕ) (z : Status) (m : Memory) (build : Building) (uses : List ℕ) (instances : Geometry) → Ties rec i k z m
    → MayBuildTop rec z build uses instances
    → IsTopReady build uses instances
    (record { dst = m (StructureAt build.dst); uses = see_structures m uses; instances = see_geometry m build.buffers instances })
top_ready rec i k z m build uses instances ties may = record {
  dst = dst_made z.structures m kinds.Top build.dst ties.forms may.dst;
  limits = may.limits;
  uses = uses_there rec i k z.structures m uses ties.contents may.are_built;
  there = geometry_there build.buffers m instances (subst (λ bs. Buffers bs m) may.buffers ties.buffers) may.readable;
}

source_there : (rec : List Command) (i k : ℕ) (z : Status) (m : Memory) (src : ℕ) (instances : Geometry) → Ties rec i k z m → IsSource rec z src instances
    → IsTopSource instances (m (ContentsAt src))
source_there rec i k z m src instances ties is =
    let by : IsTopBy rec is.by (m (ContentsAt src)) = ties.contents.held src kinds.Top is.by is.built in
    let many : IsAsMany rec is.by by.top = by.count is.own in record {
      top = by.top;
      is_it = ap (option_and_then as_top) by.is_it;
      as_many = is.as_many many.by many.info ∙ sym many.count;
    }

-- ---- copies

some_of : {X Y : Type 0} (f : X → Option Y) (found : Option X) → IsSome (option_and_then f found) → (x : X) × (found ≡ Some x)
some_of f None is = absurd cc
some_of f (Some x) is = (x, refl)

the_contents : (rec : List Command) (kind : StructureKind) (b : Built) (found : Option Contents) → Fills rec kind b found
    → (c : Contents) × ((found ≡ Some c) × (kind_of c ≡ kind))
the_contents rec kinds.Bottom b None fills = absurd cc
the_contents rec kinds.Bottom b (Some (Bottom c)) fills = (Bottom c, (refl, refl))
the_contents rec kinds.Bottom b (Some (Top t)) fills = absurd cc
the_contents rec kinds.Top b found fills = (Top fills.top, (fills.is_it, refl))

is_some_of : {X : Type 0} (found : Option X) (x : X) → found ≡ Some x → IsSome found
is_some_of None x e = absurd cc
is_some_of (Some y) x e = refl

contents_there : (rec : List Command) (i k : ℕ) (z : Status) (m : Memory) (id : ℕ) → Ties rec i k z m → IsBuiltAny (look z.structures id) → IsSome (m (ContentsAt id))
contents_there rec i k z m id ties is =
    let by : Built = is.built.by in
    let found = the_contents rec is.kind by (m (ContentsAt id)) (ties.contents.held id is.kind by is.built.built) in
    is_some_of (m (ContentsAt id)) found.0 found.1.0

mode_fits : (rec : List Command) (mode : CopyMode) (kind : StructureKind) (b : Built) (found : Option Contents) → FitsKind mode kind → Fills rec kind b found → FitsMode mode found
mode_fits rec copies.Clone kind b found fits fills = tt
mode_fits rec copies.Compact kind b found fits fills = subst (λ k. Fills rec k b found) fits fills

copy_ready : (rec : List Command) (i k : ℕ) (z : Status) (m : Memory) (mode : CopyMode) (src dst : ℕ) → Ties rec i k z m → MayCopy z mode src dst
    → IsReady (CopyStructure mode src dst) m
copy_ready rec i k z m mode src dst ties may =
    let fills = ties.contents.held src may.kind may.source.by may.source.built in
    let is = the_contents rec may.kind may.source.by (m (ContentsAt src)) fills in (
      record {
        source = is.0;
        is_it = is.1.0;
        made = subst (λ kind. IsMade kind (m (StructureAt dst))) (sym is.1.1) (dst_made z.structures m may.kind dst ties.forms may.target);
      },
      mode_fits rec mode may.kind may.source.by (m (ContentsAt src)) may.fits fills,
    )

-- ---- serialized copies

some_map : {X Y : Type 0} (f : X → Y) (found : Option X) → IsSome found → IsSome (option_map f found)
some_map f None is = absurd cc
some_map f (Some x) is = refl

form_there : (z : Status) (m : Memory) (id : ℕ) → TiedForms z.structures (λ q. m (StructureAt q)) → IsSome (look z.structures id) → IsSome (m (StructureAt id))
form_there z m id tied live = subst IsSome (sym (tied.form id)) (some_map form_of (look z.structures id) live)

deserialize_ready : (rec : List Command) (i k : ℕ) (z : Status) (m : Memory) (from : ByteRange) (dst : ℕ) (uses : List ℕ) → Ties rec i k z m
    → MayDeserialize z from dst uses → IsReady (DeserializeStructure from dst uses) m
deserialize_ready rec i k z m from dst uses ties may = record {
  bytes = range_there z.buffers m from ties.buffers may.within;
  dst = form_there z m dst ties.forms may.live;
  uses = uses_there rec i k z.structures m uses ties.contents may.are_built;
}

-- ---- properties

number_there : (rec : List Command) (i k : ℕ) (z : Status) (m : Memory) (what : Asked) (id : ℕ) → Ties rec i k z m → MayTell z what id
    → IsSome (number_of what (see_structure m id))
number_there rec i k z m asked.Compacted id ties may =
    some_map _ (option_and_then as_bottom (m (ContentsAt id))) (bottom_there rec i k z.structures (λ q. m (ContentsAt q)) id ties.contents may)
number_there rec i k z m asked.Size id ties may =
    some_map _ (m (StructureAt id)) (subst IsSome (sym (ties.forms.form id)) (some_map form_of (look z.structures id) may))
number_there rec i k z m asked.Serialized id ties may = some_map _ (m (ContentsAt id)) (contents_there rec i k z m id ties may)
number_there rec i k z m asked.SerializedForm2 id ties may = some_map _ (m (ContentsAt id)) (contents_there rec i k z m id ties may)
number_there rec i k z m asked.Handles id ties may = some_map _ (m (ContentsAt id)) (contents_there rec i k z m id ties may)

numbers_there : (rec : List Command) (i k : ℕ) (z : Status) (m : Memory) (what : Asked) (ids : List ℕ) → Ties rec i k z m → MayTellAll z what ids
    → IsSome (numbers_of what (map (see_structure m) ids))
numbers_there rec i k z m what [] ties may = refl
numbers_there rec i k z m what (id ∷ ids) ties may =
    both_some (number_of what (see_structure m id)) (numbers_of what (map (see_structure m) ids)) (number_there rec i k z m what id ties may.0)
    (numbers_there rec i k z m what ids ties may.1)

-- ---- traces

-- what is in use has bounds
known : (found : Option (Option BoxValue)) → IsSome found → (x : Option BoxValue) × (found ≡ Some x)
known None is = absurd cc
known (Some x) is = (x, refl)

stands : (rec : List Command) (i k : ℕ) (z : Status) (m : Memory) (trace : Tracing) → Ties rec i k z m → (may : MayTrace rec z trace)
    → (t : tops.TopValue) → m (ContentsAt trace.top) ≡ Some (Top t)
    → ((u : ℕ) (x : Option BoxValue) → bounds_in t.used u ≡ Some x → has (uses_of rec may.by) u ≡ true)
    → (v : InstanceValue) → IsSome (bounds_in t.used v.id) → IsStanding t.used (bottoms_in (see_structures m trace.uses)) v
stands rec i k z m trace ties may t is in_use v there =
    let bounds = known (bounds_in t.used v.id) there in
    let named : has (uses_of rec may.by) v.id ≡ true = in_use v.id bounds.0 bounds.1 in
    let seen : has trace.uses v.id ≡ true = ap (λ ids. has ids v.id) may.uses ∙ named in
    let found : IsBounded bounds.0 (m (ContentsAt v.id)) =
    ties.contents.bounds trace.top may.by t v.id bounds.0 may.top is bounds.1 (may.fresh v.id named) in record {
      bottom = found.bottom;
      stands = ap (option_and_then as_bottom) (sym (seen_used m trace.uses v.id seen) ∙ found.is_it);
      bounds = bounds.1 ∙ ap Some found.bounds;
    }

each_stands : (i : Option InstanceValue) (P Q : InstanceValue → Type 0) → ((v : InstanceValue) → P v → Q v) → IfSome i P → IfSome i Q
each_stands None P Q h is = tt
each_stands (Some v) P Q h is = h v is

trace_ready : (rec : List Command) (i k : ℕ) (z : Status) (m : Memory) (trace : Tracing) → Ties rec i k z m → MayTrace rec z trace
    → IsReady (TraceRays trace) m
trace_ready rec i k z m trace ties may =
    let by : IsTopBy rec may.by (m (ContentsAt trace.top)) = ties.contents.held trace.top kinds.Top may.by may.top in record {
      rays = range_there z.buffers m trace.rays ties.buffers may.rays;
      top = by.top;
      is_it = ap (option_and_then as_top) by.is_it;
      standing = record {
        each = λ n d less.
            each_stands _ (λ v. IsSome (bounds_in by.top.used v.id)) (IsStanding by.top.used (bottoms_in (see_structures m trace.uses)))
            (stands rec i k z m trace ties may by.top by.is_it by.in_use) (by.active n d less);
      };
      flags = may.flags;
    }

-- ---- every action

pub allowed_ready : (rec : List Command) (i k : ℕ) (z : Status) (m : Memory) (a : Action) → Ties rec i k z m → IsAllowed rec z a → IsReady a m
allowed_ready rec i k z m (MakeBuffer id size content) ties may = ties.buffers.size id ∙ ap (option_map size_of) may
allowed_ready rec i k z m (MakeStructure id form) ties may = ties.forms.form id ∙ ap (option_map form_of) may
allowed_ready rec i k z m (DestroyBuffer id) ties may = tt
allowed_ready rec i k z m (DestroyStructure id) ties may = tt
allowed_ready rec i k z m (ShowSizes kind counts) ties may = may
allowed_ready rec i k z m (ShowBytes from form) ties may = range_there z.buffers m from ties.buffers may
allowed_ready rec i k z m (UpdateBytes to content) ties may = tt
allowed_ready rec i k z m (FillBytes to value) ties may = tt
allowed_ready rec i k z m (CopyBytes from to) ties may = range_there z.buffers m from ties.buffers may
allowed_ready rec i k z m (BuildBottom build flags gs) ties may = (bottom_ready rec i k z m build gs ties may.0, may.1)
allowed_ready rec i k z m (UpdateBottom build src gs) ties may =
    (bottom_there rec i k z.structures (λ q. m (ContentsAt q)) src ties.contents may.0, bottom_ready rec i k z m build gs ties may.1)
allowed_ready rec i k z m (BuildTop build flags uses instances) ties may = (top_ready rec i k z m build uses instances ties may.0, may.1)
allowed_ready rec i k z m (UpdateTop build src uses instances) ties may =
    (source_there rec i k z m src instances ties may.0, top_ready rec i k z m build uses instances ties may.1)
allowed_ready rec i k z m (CopyStructure mode src dst) ties may = copy_ready rec i k z m mode src dst ties may
allowed_ready rec i k z m (SerializeStructure src to form) ties may = contents_there rec i k z m src ties may
allowed_ready rec i k z m (DeserializeStructure from dst uses) ties may = deserialize_ready rec i k z m from dst uses ties may
allowed_ready rec i k z m (TellProperty what structures to) ties may = numbers_there rec i k z m what structures ties may
allowed_ready rec i k z m (TraceRays trace) ties may = trace_ready rec i k z m trace ties may
allowed_ready rec i k z m Rest ties may = tt
allowed_ready rec i k z m Impossible ties may = may
