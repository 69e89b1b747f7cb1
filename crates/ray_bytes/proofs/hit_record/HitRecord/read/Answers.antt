use Rattle.std.proofs.Common.{◌≡◌, ℕ, ◌<◌, slice_index, ◌∙◌, ap, arith}
use Rattle.ray_bytes.specs.declared.hit_record.HitRecord.{HitRecord}
use Rattle.ray_bytes.specs.Hits.{hit_bytes, hit_of_bytes}
use Rattle.ray_bytes.proofs.HitLaws.{hit_bytes-hit_of_bytes}
use Rattle.ray_bytes.proofs.hit_record.HitRecord.read.Goals as goal

pub returns-clause-writes_back : goal.returns-clause-writes_back
returns-clause-writes_back c =
    let read : HitRecord = record {
      kind = c.word.result;
      instance = c.word-2.result;
      custom = c.word-3.result;
      sbt = c.word-4.result;
      geometry = c.word-5.result;
      primitive = c.word-6.result;
      face = c.word-7.result;
      spare = c.word-8.result;
      t = (c.long.result, c.long-2.result);
      u = (c.long-3.result, c.long-4.result);
      v = (c.long-5.result, c.long-6.result);
    } in
    let same : read ≡ hit_of_bytes c.args.bytes.now = λ i. record {
      kind = c.word.ensures i;
      instance = c.word-2.ensures i;
      custom = c.word-3.ensures i;
      sbt = c.word-4.ensures i;
      geometry = c.word-5.ensures i;
      primitive = c.word-6.ensures i;
      face = c.word-7.ensures i;
      spare = c.word-8.ensures i;
      t = (c.long.ensures i, c.long-2.ensures i);
      u = (c.long-3.ensures i, c.long-4.ensures i);
      v = (c.long-5.ensures i, c.long-6.ensures i);
    } in
    let fits : (k : ℕ) → slice_index c.args.bytes.now k < 256 = λ k. let f = c.type_inv.bytes k in omega arith in
    ap hit_bytes same ∙ hit_bytes-hit_of_bytes c.args.bytes.now fits c.requires
