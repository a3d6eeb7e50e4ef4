use Rattle.std.proofs.Common.{refl}
use Rattle.std.specs.Prelude.{codes}
use Rattle.kept_house.proofs.RecordLemmas.{without_newline}
use Rattle.clear_cli.proofs.reports.perform.Goals as goal

-- the version, as `help` has it
pub done-requires : goal.done-requires
done-requires g c = without_newline (codes "0.3.0 (rattle-kit-13f logic dac8208d650f15bf)") refl
