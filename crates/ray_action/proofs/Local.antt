-- An outcome is told by what the action reads: what it sees is the same.
use Rattle.std.proofs.Common.{◌≡◌, [], ◌∷◌, refl, ap}
use Rattle.std.specs.List.{flat_map}
use Rattle.ray_action.specs.Memory.{Memory}
use Rattle.ray_action.specs.Areas.{AgreeOn, Bytes, FormOf, ContentsOf, ContentsOfEach}
use Rattle.ray_action.specs.Action.{Action, areas_read, geometry_areas, MakeBuffer, MakeStructure, DestroyBuffer, DestroyStructure, ShowSizes, ShowBytes, UpdateBytes, FillBytes, CopyBytes, BuildBottom, UpdateBottom, BuildTop, UpdateTop, CopyStructure, SerializeStructure, DeserializeStructure, TellProperty, TraceRays, Rest, Impossible}
use Rattle.ray_action.specs.Seeing.{see}
use Rattle.ray_action.specs.Outcomes.{computed}
use Rattle.ray_action.specs.Laws.{OutcomesAreLocal}
use Rattle.ray_action.proofs.Reading.{agree_rest, bytes_same, size_same, form_same, contents_same, structures_same, geometry_same, geometries_same, asked_same}

pub seen_same : (action : Action) (m z : Memory) → AgreeOn (areas_read action) m z → see action m ≡ see action z
seen_same (MakeBuffer id size content) m z same = size_same id [] m z same
seen_same (MakeStructure id form) m z same = form_same id [] m z same
seen_same (DestroyBuffer id) m z same = refl
seen_same (DestroyStructure id) m z same = refl
seen_same (ShowSizes kind counts) m z same = refl
seen_same (ShowBytes from form) m z same = bytes_same from [] m z same
seen_same (UpdateBytes to content) m z same = refl
seen_same (FillBytes to value) m z same = refl
seen_same (CopyBytes from to) m z same = bytes_same from [] m z same
seen_same (BuildBottom build flags gs) m z same =
    let others = flat_map (geometry_areas build.buffers) gs in
    let dst = form_same build.dst others m z same in
    let rest = geometries_same build.buffers gs m z (agree_rest (FormOf build.dst) others m z same) in
    λ i. record { dst = dst i; geometries = rest i }
seen_same (UpdateBottom build src gs) m z same =
    let others = flat_map (geometry_areas build.buffers) gs in
    let dst = form_same build.dst (ContentsOf src ∷ others) m z same in
    let after_dst = agree_rest (FormOf build.dst) (ContentsOf src ∷ others) m z same in
    let source = contents_same src others m z after_dst in
    let rest = geometries_same build.buffers gs m z (agree_rest (ContentsOf src) others m z after_dst) in
    λ i. (source i, record { dst = dst i; geometries = rest i })
seen_same (BuildTop build flags uses instances) m z same =
    let others = geometry_areas build.buffers instances in
    let dst = form_same build.dst (ContentsOfEach uses ∷ others) m z same in
    let after_dst = agree_rest (FormOf build.dst) (ContentsOfEach uses ∷ others) m z same in
    let used = structures_same uses others m z after_dst in
    let rest = geometry_same build.buffers instances m z (agree_rest (ContentsOfEach uses) others m z after_dst) in
    λ i. record { dst = dst i; uses = used i; instances = rest i }
seen_same (UpdateTop build src uses instances) m z same =
    let others = geometry_areas build.buffers instances in
    let dst = form_same build.dst (ContentsOf src ∷ (ContentsOfEach uses ∷ others)) m z same in
    let after_dst = agree_rest (FormOf build.dst) (ContentsOf src ∷ (ContentsOfEach uses ∷ others)) m z same in
    let source = contents_same src (ContentsOfEach uses ∷ others) m z after_dst in
    let after_source = agree_rest (ContentsOf src) (ContentsOfEach uses ∷ others) m z after_dst in
    let used = structures_same uses others m z after_source in
    let rest = geometry_same build.buffers instances m z (agree_rest (ContentsOfEach uses) others m z after_source) in
    λ i. (source i, record { dst = dst i; uses = used i; instances = rest i })
seen_same (CopyStructure mode src dst) m z same =
    let source = contents_same src (FormOf dst ∷ []) m z same in
    let form = form_same dst [] m z (agree_rest (ContentsOf src) (FormOf dst ∷ []) m z same) in
    λ i. (source i, form i)
seen_same (SerializeStructure src to form) m z same = contents_same src [] m z same
seen_same (DeserializeStructure from dst uses) m z same =
    let bytes = bytes_same from (FormOf dst ∷ (ContentsOfEach uses ∷ [])) m z same in
    let after_bytes = agree_rest (Bytes from) (FormOf dst ∷ (ContentsOfEach uses ∷ [])) m z same in
    let form = form_same dst (ContentsOfEach uses ∷ []) m z after_bytes in
    let used = structures_same uses [] m z (agree_rest (FormOf dst) (ContentsOfEach uses ∷ []) m z after_bytes) in
    λ i. record { bytes = bytes i; dst = form i; uses = used i }
seen_same (TellProperty what structures to) m z same = asked_same structures m z same
seen_same (TraceRays trace) m z same =
    let rays = bytes_same trace.rays (ContentsOf trace.top ∷ (ContentsOfEach trace.uses ∷ [])) m z same in
    let after_rays = agree_rest (Bytes trace.rays) (ContentsOf trace.top ∷ (ContentsOfEach trace.uses ∷ [])) m z same in
    let top = contents_same trace.top (ContentsOfEach trace.uses ∷ []) m z after_rays in
    let used = structures_same trace.uses [] m z (agree_rest (ContentsOf trace.top) (ContentsOfEach trace.uses ∷ []) m z after_rays) in
    λ i. record { rays = rays i; top = top i; uses = used i }
seen_same Rest m z same = refl
seen_same Impossible m z same = refl

pub outcomes_local : OutcomesAreLocal
outcomes_local meaning action m z same = ap (λ seen. computed meaning action seen) (seen_same action m z same)
