-- A member of a command as the text of a JSON pointer (RFC 6901). (Own.)
use Rattle.std.specs.Prelude.{ℕ, List, ◌++◌, codes, decimal}
use Rattle.ray_causes.specs.declared.member.Member.{Member}
use Rattle.ray_causes.specs.declared.member.Member.TheVariants as members
use Rattle.ray_causes.specs.declared.member.Name.{Name}
use Rattle.ray_causes.specs.declared.member.Name.TheVariants as names

-- a name, as a recording writes it
abbrev pub name_of : Name → List ℕ
name_of names.Id = codes "id"
name_of names.Buffer = codes "buffer"
name_of names.Offset = codes "offset"
name_of names.Size = codes "size"
name_of names.Data = codes "data"
name_of names.Src = codes "src"
name_of names.Dst = codes "dst"
name_of names.SrcOffset = codes "src_offset"
name_of names.DstOffset = codes "dst_offset"
name_of names.Top = codes "top"
name_of names.Rays = codes "rays"
name_of names.Hits = codes "hits"
name_of names.Scratch = codes "scratch"
name_of names.Vertex = codes "vertex"
name_of names.Stride = codes "stride"
name_of names.Index = codes "index"
name_of names.Transform = codes "transform"
name_of names.PrimitiveOffset = codes "primitive_offset"
name_of names.TransformOffset = codes "transform_offset"
name_of names.Uses = codes "uses"
name_of names.Structures = codes "structures"
name_of names.Buffers = codes "buffers"
name_of names.Op = codes "op"
name_of names.Flags = codes "flags"
name_of names.SrcAccess = codes "src_access"
name_of names.DstAccess = codes "dst_access"
name_of names.Usage = codes "usage"

-- a member of command number i
abbrev pub member_text : ℕ → Member → List ℕ
member_text i (members.Own name) = codes "/" ++ (decimal i ++ (codes "/" ++ name_of name))
member_text i (members.Item name n) = codes "/" ++ (decimal i ++ (codes "/" ++ (name_of name ++ (codes "/" ++ decimal n))))
member_text i (members.Region k name) =
    codes "/" ++ (decimal i ++ (codes "/regions/" ++ (decimal k ++ (codes "/" ++ name_of name))))
member_text i (members.Info k name) =
    codes "/" ++ (decimal i ++ (codes "/infos/" ++ (decimal k ++ (codes "/" ++ name_of name))))
member_text i (members.InfoItem k name n) =
    codes "/" ++ (decimal i ++ (codes "/infos/" ++ (decimal k ++ (codes "/" ++ (name_of name ++ (codes "/" ++ decimal n))))))
member_text i (members.Geometry k g name) =
    codes "/" ++ (decimal i ++ (codes "/infos/" ++ (decimal k ++ (codes "/geometries/" ++ (decimal g ++ (codes "/" ++ name_of name))))))
