use Rattle.std.proofs.lemmas.Result.{IfOk-weaker}
use Rattle.house_reports.proofs.explain_lines.streamed.table.explain_stream.Goals as goal

pub returns : goal.returns
returns g c =
    IfOk-weaker c.write_table.result _ _
    (λ any told. (c.in_ok-config.config, c.in_ok-config.ensures, told.0, told.1, told.2, told.3, told.4, told.5, told.6)) c.write_table.ensures
