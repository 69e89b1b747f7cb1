-- The text of what is shown. (Own.)
use Rattle.std.specs.Prelude.{ℕ, ◌*◌, ◌/◌, ◌==◌, List, [], ◌∷◌, ◌++◌, map, length, take, drop, sum, codes, decimal, if◌then◌else◌}
use Rattle.std.specs.List.{flat_map, range_with_len}
use Rattle.hex.specs.Hex.{encode_lower}
use Rattle.ray_bytes.specs.declared.hit_record.HitRecord.{HitRecord}
use Rattle.ray_bytes.specs.Fields.{long_at}
use Rattle.ray_bytes.specs.Hits.{hit_of_bytes}
use Rattle.ray_bytes.specs.StructureSizes.{structure_size, build_scratch_size, update_scratch_size}
use Rattle.ray_cmd.specs.declared.read_form.ReadForm.{ReadForm}
use Rattle.ray_cmd.specs.declared.read_form.ReadForm.TheVariants as forms
use Rattle.ray_cmd.specs.declared.structure_kind.StructureKind.{StructureKind}
use Rattle.ray_cmd.specs.declared.structure_kind.StructureKind.TheVariants as kinds
use Rattle.ray_action.specs.Action.{Action, MakeBuffer, MakeStructure, DestroyBuffer, DestroyStructure, ShowSizes, ShowBytes, UpdateBytes, FillBytes, CopyBytes, BuildBottom, UpdateBottom, BuildTop, UpdateTop, CopyStructure, SerializeStructure, DeserializeStructure, TellProperty, TraceRays, Rest, Impossible}
use Rattle.ray_action.specs.Outcomes.{Output, Nothing, Bytes, Holds}

-- ---- hits

-- what a kind is called
abbrev pub kind_word : ℕ → List ℕ
kind_word kind = if kind == 1 then codes "tri" else (if kind == 2 then codes "box" else codes "bad")

-- where a hit is
abbrev pub place_text : HitRecord → List ℕ
place_text h =
    codes "inst " ++ (decimal h.instance
    ++ (codes " custom " ++ (decimal h.custom
    ++ (codes " sbt " ++ (decimal h.sbt
    ++ (codes " geom " ++ (decimal h.geometry
    ++ (codes " prim " ++ (decimal h.primitive
    ++ (codes " face " ++ decimal h.face))))))))))

-- how far it is, and where in the primitive: fractions as numerator / denominator
abbrev pub numbers_text : HitRecord → List ℕ
numbers_text h =
    codes "t " ++ (decimal h.t.0 ++ (codes "/" ++ (decimal h.t.1
    ++ (codes " u " ++ (decimal h.u.0 ++ (codes "/" ++ (decimal h.u.1
    ++ (codes " v " ++ (decimal h.v.0 ++ (codes "/" ++ decimal h.v.1))))))))))

-- the line of hit number k: `k none` for a miss, else its kind, its place and its numbers
abbrev pub hit_line : ℕ → HitRecord → List ℕ
hit_line k h =
    if h.kind == 0 then decimal k ++ codes " none\n"
    else decimal k ++ (codes " " ++ (kind_word h.kind
    ++ (codes " " ++ (place_text h
    ++ (codes " " ++ (numbers_text h ++ codes "\n"))))))

-- the line of record k of the bytes
abbrev pub line_at : List ℕ → ℕ → List ℕ
line_at bytes k = hit_line k (hit_of_bytes (take 80 (drop (80 * k) bytes)))

-- the lines of all records
unfoldable pub hits_text : List ℕ → List ℕ
hits_text bytes = flat_map (line_at bytes) (range_with_len 0 (length bytes / 80))

-- ---- numbers and digits

-- number k of the bytes, of 64 bits
abbrev pub number_at : List ℕ → ℕ → ℕ
number_at bytes k = long_at bytes (8 * k)

-- numbers with a blank before each
abbrev pub after_blank : ℕ → List ℕ
after_blank number = codes " " ++ decimal number

-- numbers with a blank between each two
abbrev pub spaced : List ℕ → List ℕ
spaced [] = []
spaced (number ∷ numbers) = decimal number ++ flat_map after_blank numbers

-- the line of the numbers of 64 bits
unfoldable pub numbers_line : List ℕ → List ℕ
numbers_line bytes = spaced (map (number_at bytes) (range_with_len 0 (length bytes / 8))) ++ codes "\n"

-- the line of the digits, two a byte, in lower case
abbrev pub digits_line : List ℕ → List ℕ
digits_line bytes = encode_lower bytes ++ codes "\n"

-- the text of bytes that are read in a form
abbrev pub bytes_text : ReadForm → List ℕ → List ℕ
bytes_text forms.Hex bytes = digits_line bytes
bytes_text forms.U64 bytes = numbers_line bytes
bytes_text forms.Hits bytes = hits_text bytes

-- ---- sizes

-- the line of the sizes of a structure of so many geometries and primitives, and of its scratch memory
abbrev pub sizes_line : ℕ → ℕ → List ℕ
sizes_line geometries primitives =
    codes "sizes " ++ (decimal (structure_size geometries primitives)
    ++ (codes " " ++ (decimal (build_scratch_size primitives)
    ++ (codes " " ++ (decimal (update_scratch_size primitives) ++ codes "\n")))))

-- of a bottom structure with a count for each geometry; a top structure has one geometry
abbrev pub sizes_text : StructureKind → List ℕ → List ℕ
sizes_text kinds.Bottom counts = sizes_line (length counts) (sum counts)
sizes_text kinds.Top counts = sizes_line 1 (sum counts)

-- ---- every action

-- the text of the bytes that an action of this form gives
abbrev pub output_text : ReadForm → Output → List ℕ
output_text form Nothing = []
output_text form (Bytes bytes) = bytes_text form bytes
output_text form (Holds contents) = []

-- the text of an action that has this output: only what is shown has one
abbrev pub text_of : Action → Output → List ℕ
text_of (MakeBuffer id size content) output = []
text_of (MakeStructure id form) output = []
text_of (DestroyBuffer id) output = []
text_of (DestroyStructure id) output = []
text_of (ShowSizes kind counts) output = sizes_text kind counts
text_of (ShowBytes from form) output = output_text form output
text_of (UpdateBytes to content) output = []
text_of (FillBytes to value) output = []
text_of (CopyBytes from to) output = []
text_of (BuildBottom build flags geometries) output = []
text_of (UpdateBottom build src geometries) output = []
text_of (BuildTop build flags uses instances) output = []
text_of (UpdateTop build src uses instances) output = []
text_of (CopyStructure mode src dst) output = []
text_of (SerializeStructure src to form) output = []
text_of (DeserializeStructure from dst uses) output = []
text_of (TellProperty what structures to) output = []
text_of (TraceRays trace) output = []
text_of Rest output = []
text_of Impossible output = []
