use Rattle.std.proofs.Common.{◌≡◌, take}
use Rattle.std.specs.Prelude.{flat_map}
use Rattle.house_reports.specs.statements.StatementsText.{section_text}
use Rattle.house_reports.proofs.statements.text.statements.Given as goal

abbrev pub invariant-loop-party : goal.invariant-loop-party
invariant-loop-party l = l.text.items ≡ flat_map (section_text l.owed l.period) (take l.party-index l.parties)
