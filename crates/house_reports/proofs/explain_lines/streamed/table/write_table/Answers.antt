use Rattle.std.proofs.Common.{◌++◌, refl}
use Rattle.house_reports.specs.explain_lines.Table.{header}
use Rattle.house_reports.proofs.explain_lines.streamed.table.write_table.Goals as goal

pub returns : goal.returns
returns g c =
    let told = c.in_ok-write_rows_under.ensures in (
      told.0,
      told.1,
      header ++ told.2,
      told.4,
      told.5,
      g.met.W.Sink.takes_more c.args.writer.now c.write_header.new.writer c.write_rows_under.new.writer header told.2 c.in_ok-write_header.ensures told.6,
      record { rows = told.2; last = told.3; text_is = refl; rows_are = told.7 },
    )
