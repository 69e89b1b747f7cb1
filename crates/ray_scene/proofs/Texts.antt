-- The text of each command, and of the whole.
use Rattle.std.proofs.Common.{◌≡◌, ◌+◌, ◌-◌, ◌*◌, ◌/◌, ◌%◌, ◌^◌, ◌==◌, ◌++◌, ◌∷◌, ◌∙◌, ◌<◌, ◌≤◌, [], ℕ, zero, suc, List, Bool, true, false, if◌then◌else◌, refl, ap, sym, arith, map, codes, length, slice_index}
use Rattle.std.specs.Prelude.{⊤}
use Rattle.std.specs.Fmt.{decimal, digits}
use Rattle.std.specs.List.{flat_map, range_with_len}
use Rattle.std.proofs.lemmas.List.{append_assoc, append-nil}
use Rattle.hex.specs.Hex.{encode_lower, encode_with, lower_digits}
use Rattle.json.specs.Print.{escape, escape_byte}
use Rattle.serde_json.specs.Data.{Data, boolean}
use Rattle.serde_json.specs.View.{items_of}
use Rattle.serde_json.specs.Written.{compact_text, items_text}
use Rattle.ray_scene.specs.Grid.{below, bytes_of, hits_offset, index_offset, instance_offset, triangle_count, vertex_count, words_below}
use Rattle.ray_scene.specs.Recording.{bottom_build, bottom_size, buffer, filled_buffer, full_barrier, host_barrier, instances, list_of, place, plain, read, structure, top_build, top_size, trace, triangles}
use Rattle.ray_scene.specs.Text.{added, builds, commands, digits_text, empty_buffers, next, next_triangles, structures, traces, until_the_wait}

-- the numbers that stand in the commands as they are
numeral-0 : decimal 0 ≡ codes "0"
unfolding digits
numeral-0 = refl

numeral-1 : decimal 1 ≡ codes "1"
unfolding digits
numeral-1 = refl

numeral-2 : decimal 2 ≡ codes "2"
unfolding digits
numeral-2 = refl

numeral-3 : decimal 3 ≡ codes "3"
unfolding digits
numeral-3 = refl

numeral-12 : decimal 12 ≡ codes "12"
unfolding digits
numeral-12 = refl

numeral-255 : decimal 255 ≡ codes "255"
unfolding digits
numeral-255 = refl

pub structures_text : (old one new : List ℕ) (bottom top : ℕ)
    → one ≡ old ++ (codes ",{\"buffer\":1,\"id\":0,\"kind\":\"bottom\",\"offset\":0,\"op\":\"structure\",\"size\":"
    ++ (decimal bottom ++ codes "}"))
    → new ≡ one ++ (codes ",{\"buffer\":1,\"id\":1,\"kind\":\"top\",\"offset\":" ++ (decimal bottom
    ++ (codes ",\"op\":\"structure\",\"size\":" ++ (decimal top ++ codes "}"))))
    → new ≡ added old (structures bottom top)
unfolding structure escape_byte
structures_text old one new bottom top first second = rw (second, first) (simp (numeral-0, numeral-1))

pub read_text : (rays offset : ℕ) → offset ≡ hits_offset rays → compact_text (read rays)
    ≡ codes "{\"buffer\":3,\"form\":\"hits\",\"offset\":" ++ (decimal offset
    ++ (codes ",\"op\":\"read\",\"size\":" ++ (decimal (80 * rays) ++ codes "}")))
unfolding read escape_byte
read_text rays offset is = simp (numeral-3, is)

pub full_barrier_text : compact_text full_barrier
    ≡ codes "{\"dst_access\":[\"memory_read\",\"memory_write\"],\"dst_stages\":[\"all\"],\"op\":\"barrier\",\"src_access\":[\"memory_write\"],\"src_stages\":[\"all\"]}"
unfolding full_barrier escape_byte
full_barrier_text = refl

pub wait_text : (old : List ℕ) → added old until_the_wait
    ≡ old ++ codes ",{\"dst_access\":[\"host_read\"],\"dst_stages\":[\"host\"],\"op\":\"barrier\",\"src_access\":[\"memory_write\"],\"src_stages\":[\"all\"]},{\"op\":\"end\"},{\"op\":\"submit\"},{\"op\":\"wait\"}"
unfolding host_barrier plain escape_byte
wait_text old = simp append_assoc

pub trace_text : (old half new : List ℕ) (rays hits : ℕ) → hits ≡ hits_offset rays
    → half ≡ old ++ (codes ",{\"count\":" ++ (decimal rays
    ++ (codes ",\"flags\":[],\"hits\":{\"buffer\":3,\"offset\":" ++ (decimal hits ++ codes "},\"mask\":255,"))))
    → new ≡ half
    ++ codes "\"op\":\"trace\",\"rays\":{\"buffer\":3,\"offset\":0},\"script\":[{\"do\":\"confirm\"}],\"top\":1}"
    → new ≡ old ++ next (trace rays)
unfolding trace place escape_byte
trace_text old half new rays hits is first second =
    simp (second, first, is, numeral-0, numeral-1, numeral-3, numeral-255, append_assoc)

-- a truth value
true_or_false : (b : Bool) → compact_text (boolean b) ≡ (if b then codes "true" else codes "false")
true_or_false true = refl
true_or_false false = refl

pub triangles_text : (old one two three new comma : List ℕ)
    (side layers layer count index vertices vertex : ℕ)
    → count ≡ triangle_count side → index ≡ index_offset side layers → vertices ≡ vertex_count side
    → vertex ≡ index_offset side layer
    → one ≡ old ++ (comma ++ (codes "{\"count\":" ++ (decimal count
    ++ codes ",\"first_vertex\":0,\"format\":\"s32x3\",\"index\":")))
    → two ≡ one ++ (codes "{\"buffer\":0,\"offset\":" ++ (decimal index
    ++ codes ",\"type\":\"u32\"},\"kind\":\"triangles\","))
    → three ≡ two ++ (codes "\"max_vertex\":" ++ (decimal (vertices - 1)
    ++ (codes ",\"opaque\":" ++ ((if layer % 2 == 0 then codes "true" else codes "false")
    ++ codes ",\"primitive_offset\":0,"))))
    → new ≡ three ++ (codes "\"stride\":12,\"transform_offset\":0,\"vertex\":{\"buffer\":0,\"offset\":"
    ++ (decimal vertex ++ codes "}}"))
    → new ≡ old ++ (comma ++ compact_text (triangles side layers layer))
unfolding triangles place escape_byte
triangles_text
    old one two three new comma side layers layer count index vertices vertex
    counted indexed bounded placed first second third fourth =
    rw (fourth, third, second, first, counted, indexed, bounded, placed)
    (simp (numeral-0, numeral-12, true_or_false, append_assoc))

-- triangles of layers as a list, after its first item
further : (f : ℕ → Data) (a n : ℕ) (rest : List ℕ)
    → flat_map (λ k. next (f (k + 1))) (range_with_len a n) ++ 93 ∷ rest
    ≡ items_text true (items_of (map f (range_with_len (a + 1) n))) ++ rest
further f a zero rest = refl
further f a (suc n) rest =
    append_assoc (next (f (a + 1))) (flat_map (λ k. next (f (k + 1))) (range_with_len (a + 1) n)) (93 ∷ rest)
    ∙ (ap (λ t. next (f (a + 1)) ++ t) (further f (a + 1) n rest)
    ∙ sym (append_assoc (next (f (a + 1))) (items_text true (items_of (map f (range_with_len (a + 1 + 1) n)))) rest))

listed : (f : ℕ → Data) (n : ℕ) (rest : List ℕ)
    → items_text false (items_of (map f (range_with_len 0 (suc n)))) ++ rest
    ≡ compact_text (f 0) ++ (words_below (λ k. next (f (k + 1))) n ++ 93 ∷ rest)
listed f n rest =
    append_assoc (compact_text (f 0)) (items_text true (items_of (map f (range_with_len 1 n)))) rest
    ∙ ap (λ t. compact_text (f 0) ++ t) (sym (further f 0 n rest))

-- the build of the bottom structure round its list
round_geometries : (side layers : ℕ) → compact_text (bottom_build side layers)
    ≡ codes "{\"infos\":[{\"dst\":0,\"flags\":[],\"geometries\":["
    ++ (items_text false (items_of (map (triangles side layers) (below layers)))
    ++ codes ",\"mode\":\"build\",\"scratch\":{\"buffer\":2,\"offset\":0}}],\"op\":\"build\"}")
unfolding bottom_build place escape_byte digits
round_geometries side layers =
    let list : List ℕ = items_text false (items_of (map (triangles side layers) (below layers))) in
    let info : List ℕ = codes ",\"mode\":\"build\",\"scratch\":{\"buffer\":2,\"offset\":0}}" in
    let op : List ℕ = codes ",\"op\":\"build\"}" in
    ap (λ t. codes "{\"infos\":[{\"dst\":0,\"flags\":[],\"geometries\":[" ++ t)
    (append_assoc (list ++ info) (93 ∷ []) op ∙ append_assoc list info (93 ∷ op))

flat : (old a b c d : List ℕ) → old ++ (a ++ (b ++ (c ++ d))) ≡ (((old ++ a) ++ b) ++ c) ++ d
flat old a b c d = simp append_assoc

pub bottom_build_text : (old one two three new : List ℕ) (side layers : ℕ) → 1 ≤ layers
    → one ≡ old ++ codes ",{\"infos\":[{\"dst\":0,\"flags\":[],\"geometries\":["
    → two ≡ one ++ compact_text (triangles side layers 0)
    → three ≡ two ++ words_below (next_triangles side layers) (layers - 1)
    → new ≡ three ++ codes "],\"mode\":\"build\",\"scratch\":{\"buffer\":2,\"offset\":0}}],\"op\":\"build\"}"
    → new ≡ old ++ next (bottom_build side layers)
bottom_build_text old one two three new side layers some first second third fourth =
    let end : List ℕ = codes ",\"mode\":\"build\",\"scratch\":{\"buffer\":2,\"offset\":0}}],\"op\":\"build\"}" in
    let start : List ℕ = codes ",{\"infos\":[{\"dst\":0,\"flags\":[],\"geometries\":[" in
    let further : List ℕ = words_below (next_triangles side layers) (layers - 1) in
    let count : layers ≡ suc (layers - 1) = omega arith in
    let list =
    ap (λ n. items_text false (items_of (map (triangles side layers) (below n))) ++ end) count
    ∙ listed (triangles side layers) (layers - 1) end in
    let whole =
    ap (λ t. old ++ 44 ∷ t) (round_geometries side layers)
    ∙ (ap (λ t. old ++ (start ++ t)) list
    ∙ flat old start (compact_text (triangles side layers 0)) further (93 ∷ end)) in
    fourth
    ∙ (ap (λ t. t ++ 93 ∷ end) (third ∙ ap (λ t. t ++ further) (second
    ∙ ap (λ t. t ++ compact_text (triangles side layers 0)) first))
    ∙ sym whole)

pub top_build_text : (old one two new : List ℕ) (side layers place_of_instance : ℕ)
    → place_of_instance ≡ instance_offset side layers
    → one ≡ old ++ (codes ",{\"infos\":[{\"dst\":1,\"flags\":[],\"geometries\":[{\"count\":1,\"data\":{\"buffer\":0,\"offset\":"
    ++ (decimal place_of_instance ++ codes "},"))
    → two ≡ one ++ codes "\"kind\":\"instances\",\"primitive_offset\":0}],\"mode\":\"build\","
    → new ≡ two ++ codes "\"scratch\":{\"buffer\":2,\"offset\":0},\"uses\":[0]}],\"op\":\"build\"}"
    → new ≡ old ++ next (top_build side layers)
unfolding top_build instances place escape_byte
top_build_text old one two new side layers place_of_instance is first second third =
    simp (third, second, first, is, numeral-0, numeral-1, numeral-2, append_assoc)

-- ---- hexadecimal digits stand in JSON as they are

abbrev ArePlain : List ℕ → Type 0
ArePlain [] = ⊤
ArePlain (x ∷ xs) = (escape_byte x ≡ x ∷ []) × ArePlain xs

lower_are_plain : ArePlain lower_digits
unfolding escape_byte
lower_are_plain = (refl, (refl, (refl, (refl, (refl, (refl, (refl, (refl, (refl, (refl, (refl, (refl, (refl, (refl, (refl, (refl, tt))))))))))))))))

plain_at : (xs : List ℕ) (n : ℕ) → n < length xs → ArePlain xs
    → escape_byte (slice_index xs n) ≡ slice_index xs n ∷ []
plain_at [] n low are = absurd (omega arith)
plain_at (x ∷ xs) zero low are = are.0
plain_at (x ∷ xs) (suc n) low are = plain_at xs n (omega arith) are.1

-- one byte more in front
plain_byte : (b : ℕ) (bytes : List ℕ) → b < 256 → escape (encode_lower bytes) ≡ encode_lower bytes
    → escape (encode_lower (b ∷ bytes)) ≡ encode_lower (b ∷ bytes)
unfolding encode_with
plain_byte b bytes low are =
    let high : b / 16 < 16 = omega arith in
    let first = plain_at lower_digits (b / 16) high lower_are_plain in
    let second = plain_at lower_digits (b % 16) (omega arith) lower_are_plain in
    λ i. first i ++ (second i ++ are i)

pub plain_digits : (words : List ℕ) → escape (digits_text words) ≡ digits_text words
unfolding encode_with bytes_of
plain_digits [] = refl
plain_digits (w ∷ ws) =
    let three : List ℕ = w / 256 ^ 3 % 256 ∷ bytes_of ws in
    let two : List ℕ = w / 256 ^ 2 % 256 ∷ three in
    let one : List ℕ = w / 256 ^ 1 % 256 ∷ two in
    plain_byte (w % 256) one (omega arith)
    (plain_byte (w / 256 ^ 1 % 256) two (omega arith)
    (plain_byte (w / 256 ^ 2 % 256) three (omega arith)
    (plain_byte (w / 256 ^ 3 % 256) (bytes_of ws) (omega arith) (plain_digits ws))))

pub filled_buffer_text : (old one two three end last new : List ℕ) (before id size : ℕ) (usage words : List ℕ)
    → escape usage ≡ usage
    → one ≡ old ++ before ∷ []
    → two ≡ one ++ codes "{\"data\":\""
    → three ≡ two ++ digits_text words
    → end ≡ codes "\",\"id\":" ++ (decimal id ++ (codes ",\"op\":\"buffer\",\"size\":" ++ (decimal size
    ++ (codes ",\"usage\":[\"" ++ (usage ++ codes "\"]}")))))
    → last ≡ end
    → new ≡ three ++ last
    → new ≡ old ++ before ∷ compact_text (filled_buffer id size usage words)
unfolding filled_buffer escape_byte
filled_buffer_text
    old one two three end last new before id size usage words
    plain first second third fourth fifth sixth =
    simp (sixth, fifth, fourth, third, second, first, plain_digits words, plain, append_assoc)

-- ---- the whole

-- further items at a text's end
pub added_behind : (old text : List ℕ) (ds : List Data) → old ++ added text ds ≡ added (old ++ text) ds
added_behind old text [] = refl
added_behind old text (d ∷ ds) =
    added_behind old (text ++ next d) ds ∙ ap (λ t. added t ds) (sym (append_assoc old text (next d)))

added_behind_all : (old : List ℕ) (ds : List Data) → old ++ added [] ds ≡ added old ds
added_behind_all old ds = added_behind old [] ds ∙ ap (λ t. added t ds) (append-nil old)

-- they are a list's last ones
added_last : (text : List ℕ) (ds : List Data) (rest : List ℕ)
    → added text ds ++ 93 ∷ rest ≡ text ++ (items_text true (items_of ds) ++ rest)
added_last text [] rest = refl
added_last text (d ∷ ds) rest =
    added_last (text ++ next d) ds rest
    ∙ (append_assoc text (next d) (items_text true (items_of ds) ++ rest)
    ∙ ap (λ t. text ++ t) (sym (append_assoc (next d) (items_text true (items_of ds)) rest)))

pub whole_text : (d : Data) (ds : List Data)
    → added (91 ∷ compact_text d) ds ++ codes "]\n" ≡ compact_text (list_of (d ∷ ds)) ++ 10 ∷ []
whole_text d ds =
    added_last (91 ∷ compact_text d) ds (10 ∷ [])
    ∙ sym (append_assoc (91 ∷ compact_text d) (items_text true (items_of ds)) (10 ∷ []))

pub empty_buffers_text : (old none one two last new : List ℕ) (structures scratch : ℕ)
    → none ≡ []
    → one ≡ none ++ (codes ",{\"id\":1,\"op\":\"buffer\",\"size\":" ++ (decimal structures
    ++ codes ",\"usage\":[\"structure\"]}"))
    → two ≡ one ++ (codes ",{\"id\":2,\"op\":\"buffer\",\"size\":" ++ (decimal scratch
    ++ codes ",\"usage\":[\"scratch\"]}"))
    → last ≡ two
    → new ≡ old ++ last
    → new ≡ added old (empty_buffers structures scratch)
unfolding buffer escape_byte
empty_buffers_text old none one two last new structures scratch empty first second third fourth =
    rw (fourth, third, second, first, empty) (simp (numeral-1, numeral-2, append_assoc))

pub commands_text : (old none one two three last new : List ℕ) (side layers rays bottom top : ℕ)
    → bottom ≡ bottom_size side layers → top ≡ top_size
    → none ≡ []
    → one ≡ added none (structures bottom top)
    → two ≡ added one (builds side layers)
    → three ≡ added two (traces rays)
    → last ≡ three
    → new ≡ old ++ last
    → new ≡ added old (commands side layers rays)
commands_text
    old none one two three last new side layers rays bottom top low high
    empty first second third fourth fifth =
    let structured = first ∙ (λ i. added (empty i) (structures (low i) (high i))) in
    let built = second ∙ ap (λ t. added t (builds side layers)) structured in
    let traced = fourth ∙ (third ∙ ap (λ t. added t (traces rays)) built) in
    fifth ∙ (ap (λ t. old ++ t) traced ∙ added_behind_all old (commands side layers rays))
