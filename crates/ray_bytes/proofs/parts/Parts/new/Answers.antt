use Rattle.std.proofs.Common.{◌≡◌, length}
use Rattle.ray_bytes.specs.Slices.{record_at}
use Rattle.ray_bytes.proofs.FirstRecords.{first_records, All-before_missing, length-record_at}
use Rattle.ray_bytes.proofs.parts.Parts.new.Goals as goal

pub returns-clause-first : goal.returns-clause-first
returns-clause-first c = first_records (record_at c.args.bytes.now c.args.start c.args.stride c.args.width) c.args.count

pub returns-clause-sized : goal.returns-clause-sized
returns-clause-sized c =
    let at = record_at c.args.bytes.now c.args.start c.args.stride c.args.width in
    All-before_missing (λ part. length part ≡ c.args.width) at
    (length-record_at c.args.bytes.now c.args.start c.args.stride c.args.width) c.args.count 0
