use Rattle.std.proofs.Common.{rules, ◌≡◌, ◌++◌}
use Rattle.std.specs.Prelude.{codes}
use Rattle.kept_house.specs.Record.{on_one_line}
use Rattle.kept_house.proofs.RecordLemmas.{put_together}
use Rattle.kept_house.proofs.record.first_record.Goals as goal

pub returns : goal.returns
returns c =
    let one : c.extend_from_slice.new.self.items ≡ codes "{\"format\":1,\"program\":\"" = search rules in
    let two : c.extend_from_slice-2.new.self.items ≡ c.extend_from_slice.new.self.items ++ c.args.program.now = search rules in
    let three : c.extend_from_slice-3.new.self.items ≡ c.extend_from_slice-2.new.self.items ++ codes "\",\"stream\":[" = search rules in
    let four : c.extend_from_slice-4.new.self.items ≡ c.extend_from_slice-3.new.self.items ++ codes "\"configure\",\"request_id\"" = search rules in
    let five : c.extend_from_slice-5.new.self.items ≡ c.extend_from_slice-4.new.self.items ++ codes "],\"config\":" = search rules in
    let six : c.extend_from_slice-6.new.self.items ≡ c.extend_from_slice-5.new.self.items ++ on_one_line c.args.config.now = search rules in
    let seven : c.push.new.self.items ≡ c.extend_from_slice-6.new.self.items ++ codes "}" = search rules in
    put_together _ _ _ _ _ _ _ _ _ _ _ _ _ _ one two three four five six seven
