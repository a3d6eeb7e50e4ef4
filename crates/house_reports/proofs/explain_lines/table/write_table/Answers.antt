use Rattle.std.proofs.Common.{◌++◌, refl}
use Rattle.house_reports.specs.explain_lines.Table.{header}
use Rattle.house_reports.proofs.explain_lines.table.write_table.Goals as goal

pub returns : goal.returns
returns g c =
    let told = c.in_ok-write_rows_under.ensures in (
      told.0,
      told.1,
      header ++ told.2,
      told.3,
      told.4,
      g.met.W.Sink.takes_more c.args.writer.now c.write_header.new.writer c.write_rows_under.new.writer header told.2 c.in_ok-write_header.ensures told.5,
      (told.2, refl, told.6, told.7),
    )
