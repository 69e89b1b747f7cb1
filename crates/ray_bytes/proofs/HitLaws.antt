-- A hit that is written is read again, and the other way round.
use Rattle.std.proofs.Common.{◌≡◌, ℕ, ◌^◌, ◌<◌, List, [], length, drop, slice_index, sym, arith, All, lit<}
use Rattle.std.proofs.lemmas.List.{drop_all}
use Rattle.std.proofs.lemmas.List.Elements.{All-cons, All-nil}
use Rattle.byteorder.specs.Numbers.{little_number-reads_back}
use Rattle.ray_bytes.specs.declared.hit_record.HitRecord.{HitRecord}
use Rattle.ray_bytes.specs.Fields.{word_at, long_at}
use Rattle.ray_bytes.specs.Hits.{hit_words, hit_numbers, hit_bytes, hit_of_bytes}
use Rattle.ray_bytes.proofs.LittleBytes.{little_bytes-at}

-- each word fits 32 bits, where each field does
pub words_fit :
    (h : HitRecord) → h.kind < 2 ^ 32 → h.instance < 2 ^ 32 → h.custom < 2 ^ 32 → h.sbt < 2 ^ 32
    → h.geometry < 2 ^ 32 → h.primitive < 2 ^ 32 → h.face < 2 ^ 32 → h.spare < 2 ^ 32
    → All (λ word. word < 2 ^ 32) (hit_words h)
words_fit h kind instance custom sbt geometry primitive face spare =
    let Fits : ℕ → Type 0 = λ word. word < 2 ^ 32 in
    search (All-cons Fits, All-nil Fits) depth 10

-- what is read of a hit's bytes is the hit
pub hit_of_bytes-hit_bytes :
    (h : HitRecord) → All (λ word. word < 2 ^ 32) (hit_words h) → All (λ number. number < 2 ^ 64) (hit_numbers h)
    → hit_of_bytes (hit_bytes h) ≡ h
unfolding word_at long_at
hit_of_bytes-hit_bytes h words numbers = λ i. record {
  kind = little_number-reads_back 4 h.kind [] (words 0 0 (lit< tt)) i;
  instance = little_number-reads_back 4 h.instance [] (words 1 0 (lit< tt)) i;
  custom = little_number-reads_back 4 h.custom [] (words 2 0 (lit< tt)) i;
  sbt = little_number-reads_back 4 h.sbt [] (words 3 0 (lit< tt)) i;
  geometry = little_number-reads_back 4 h.geometry [] (words 4 0 (lit< tt)) i;
  primitive = little_number-reads_back 4 h.primitive [] (words 5 0 (lit< tt)) i;
  face = little_number-reads_back 4 h.face [] (words 6 0 (lit< tt)) i;
  spare = little_number-reads_back 4 h.spare [] (words 7 0 (lit< tt)) i;
  t = (little_number-reads_back 8 h.t.0 [] (numbers 0 0 (lit< tt)) i, little_number-reads_back 8 h.t.1 [] (numbers 1 0 (lit< tt)) i);
  u = (little_number-reads_back 8 h.u.0 [] (numbers 2 0 (lit< tt)) i, little_number-reads_back 8 h.u.1 [] (numbers 3 0 (lit< tt)) i);
  v = (little_number-reads_back 8 h.v.0 [] (numbers 4 0 (lit< tt)) i, little_number-reads_back 8 h.v.1 [] (numbers 5 0 (lit< tt)) i);
}

-- what is written of the hit in 80 bytes is those bytes
pub hit_bytes-hit_of_bytes :
    (bytes : List ℕ) → ((i : ℕ) → slice_index bytes i < 256) → length bytes ≡ 80
    → hit_bytes (hit_of_bytes bytes) ≡ bytes
unfolding word_at long_at
hit_bytes-hit_of_bytes bytes fits long =
    let end : drop 80 bytes ≡ [] = drop_all 80 bytes (omega arith) in
    little_bytes-at 4 0 bytes _ fits (omega arith)
    (little_bytes-at 4 4 bytes _ fits (omega arith)
    (little_bytes-at 4 8 bytes _ fits (omega arith)
    (little_bytes-at 4 12 bytes _ fits (omega arith)
    (little_bytes-at 4 16 bytes _ fits (omega arith)
    (little_bytes-at 4 20 bytes _ fits (omega arith)
    (little_bytes-at 4 24 bytes _ fits (omega arith)
    (little_bytes-at 4 28 bytes _ fits (omega arith)
    (little_bytes-at 8 32 bytes _ fits (omega arith)
    (little_bytes-at 8 40 bytes _ fits (omega arith)
    (little_bytes-at 8 48 bytes _ fits (omega arith)
    (little_bytes-at 8 56 bytes _ fits (omega arith)
    (little_bytes-at 8 64 bytes _ fits (omega arith)
    (little_bytes-at 8 72 bytes [] fits (omega arith) (sym end))))))))))))))
