-- What stands at members of one name, or of two. (Own.)
use Rattle.std.specs.Prelude.{Option, Some, None}
use Rattle.ray_causes.specs.declared.member.Name.{Name}
use Rattle.ray_causes.specs.declared.member.Name.TheVariants as names

-- at the member of one name alone
abbrev pub at_id : {X : Type 0} → Name → X → Option X
at_id names.Id x = Some x
at_id _ x = None

abbrev pub at_buffer : {X : Type 0} → Name → X → Option X
at_buffer names.Buffer x = Some x
at_buffer _ x = None

abbrev pub at_size : {X : Type 0} → Name → X → Option X
at_size names.Size x = Some x
at_size _ x = None

abbrev pub at_data : {X : Type 0} → Name → X → Option X
at_data names.Data x = Some x
at_data _ x = None

abbrev pub at_src : {X : Type 0} → Name → X → Option X
at_src names.Src x = Some x
at_src _ x = None

abbrev pub at_dst : {X : Type 0} → Name → X → Option X
at_dst names.Dst x = Some x
at_dst _ x = None

abbrev pub at_top : {X : Type 0} → Name → X → Option X
at_top names.Top x = Some x
at_top _ x = None

abbrev pub at_uses : {X : Type 0} → Name → X → Option X
at_uses names.Uses x = Some x
at_uses _ x = None

abbrev pub at_structures : {X : Type 0} → Name → X → Option X
at_structures names.Structures x = Some x
at_structures _ x = None

abbrev pub at_buffers : {X : Type 0} → Name → X → Option X
at_buffers names.Buffers x = Some x
at_buffers _ x = None

-- at the members of two names
abbrev pub at_src_or_dst : {X : Type 0} → Name → X → X → Option X
at_src_or_dst names.Src src dst = Some src
at_src_or_dst names.Dst src dst = Some dst
at_src_or_dst _ src dst = None

abbrev pub at_rays_or_hits : {X : Type 0} → Name → X → X → Option X
at_rays_or_hits names.Rays rays hits = Some rays
at_rays_or_hits names.Hits rays hits = Some hits
at_rays_or_hits _ rays hits = None
