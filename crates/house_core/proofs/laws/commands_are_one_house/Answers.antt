use Rattle.house_core.specs.Start.{start}
use Rattle.house_core.proofs.FreedLemmas.{are_freed}
use Rattle.house_core.proofs.PlacedLemmas.{are_timed, one_house}
use Rattle.house_core.proofs.TimeLemmas.{keeps_time}
use Rattle.house_core.proofs.laws.commands_are_one_house.Goals as goal

pub returns : goal.returns
returns c = λ config commands steps is_config admitted. record {
  answered = one_house config commands c.house_laws.ensures is_config c.empty_lists_are_legal.ensures admitted steps;
  time = keeps_time (start config commands) steps;
  timed = are_timed config commands c.house_laws.ensures is_config c.empty_lists_are_legal.ensures admitted steps;
  freed = are_freed config commands c.house_laws.ensures is_config c.empty_lists_are_legal.ensures admitted steps;
}
