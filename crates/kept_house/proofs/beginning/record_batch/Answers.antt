use Rattle.std.proofs.Common.{◌≡◌, rules, subst}
use Rattle.kept_batches.specs.Text.{IsLine}
use Rattle.kept_house.specs.Record.{first_record}
use Rattle.kept_house.proofs.RecordLemmas.{record_is_line}
use Rattle.kept_house.proofs.beginning.record_batch.Goals as goal

pub push-requires : goal.push-requires
push-requires c =
    let is : first_record c.args.program.now c.args.given.now ≡ c.as_slice.result.now = search rules in
    subst IsLine is (record_is_line c.args.program.now c.args.given.now c.requires)
