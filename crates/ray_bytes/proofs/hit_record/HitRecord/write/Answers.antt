use Rattle.std.proofs.Common.{rules, ◌≡◌, ◌++◌, ◌∙◌, ap}
use Rattle.ray_bytes.specs.Hits.{hit_bytes, hit_of_bytes}
use Rattle.ray_bytes.proofs.HitLaws.{hit_of_bytes-hit_bytes}
use Rattle.ray_bytes.proofs.hit_record.HitRecord.write.Goals as goal

pub returns-clause-reads_back : goal.returns-clause-reads_back
returns-clause-reads_back c =
    let written : c.write_u32_into.new.dst ++ c.write_u64_into.new.dst ≡ hit_bytes c.args.self.now = search rules in
    ap hit_of_bytes written ∙ hit_of_bytes-hit_bytes c.args.self.now c.words-words.ensures.fit c.numbers-numbers.ensures.fit
