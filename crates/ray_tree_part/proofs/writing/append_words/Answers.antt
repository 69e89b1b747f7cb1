use Rattle.std.proofs.Common.{ℕ, ◌<◌, ◌^◌, get_or, refl}
use Rattle.byteorder.specs.Endian.{little_bytes}
use Rattle.ray_tree_part.proofs.Grown.{bytes_more, all_more}
use Rattle.ray_tree_part.proofs.writing.append_words.Goals as goal

pub loop-word-preserved : goal.loop-word-preserved
loop-word-preserved c =
    let words = c.args.words.now in
    let k = c.loop-word.word-index in
    record {
      bytes = bytes_more (little_bytes 4) words c.args.bytes.now.items c.loop-word.bytes.items c.append_word.new.bytes.items k (get_or words k 0) 0
          c.loop-word-test.true refl c.loop-word.invariant.bytes c.in_ok-append_word.ensures.written;
      all = all_more (λ (w : ℕ). w < 2 ^ 32) words k (get_or words k 0) 0 c.loop-word-test.true refl c.loop-word.invariant.all c.in_ok-append_word.ensures.fits;
    }
