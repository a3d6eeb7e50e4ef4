-- What commands look into.
use Rattle.std.proofs.Common.{◌≡◌, true, false, refl, is_some}
use Rattle.cdr_checks.specs.declared.request.Command.{Command}
use Rattle.cdr_checks.specs.declared.request.Command.TheVariants as command
use Rattle.cdr_checks.specs.Parties.{operator_of_command, provider_of_command}
use Rattle.shared_house.specs.Calls.{is_collecting}

-- a command that collects nothing looks into a book or an account
pub looks_into_one : (told : Command) → is_collecting told ≡ false → is_some (operator_of_command told) ≡ false → is_some (provider_of_command told) ≡ true
looks_into_one (command.PutTariff tariff) alone h = absurd (cc)
looks_into_one (command.PutToken token) alone h = refl
looks_into_one (command.Authorize ask) alone h = refl
looks_into_one (command.Release release) alone h = refl
looks_into_one (command.Post checked) alone h = refl
looks_into_one (command.Close close) alone h = absurd (cc)
looks_into_one (command.Settle settlement) alone h = refl
looks_into_one (command.Exposure ask) alone h = refl
looks_into_one (command.Find find) alone h = absurd (cc)
looks_into_one (command.Statement ask) alone h = absurd (cc)
