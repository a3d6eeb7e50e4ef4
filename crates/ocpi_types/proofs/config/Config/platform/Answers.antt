use Rattle.std.proofs.Common.{sym, ap, ◌∙◌}
use Rattle.std.specs.Prelude.{find}
use Rattle.ocpi_json.specs.Folded.{same_folded}
use Rattle.ocpi_types.proofs.PlatformNames.{found_written}
use Rattle.ocpi_types.proofs.config.Config.platform.Goals as goal

pub returns-then-is_same : goal.returns-then-is_same
returns-then-is_same c =
    let listed = c.as_slice-platforms in
    let name = c.args.name.now in
    sym (ap (find (λ platform. same_folded platform.name name)) (sym listed.ensures.value)
    ∙ found_written listed.result.now c.loop-platform.platform-index c.platform-item.result name listed.ensures.different c.loop-platform-test.true
    (sym c.platform-item.is) (c.is_same.ensures.0 c.if-is_same.true))
