-- What is known at the order to a call decides its command as all events do.
use Rattle.std.proofs.Common.{false, ◌≡◌, ℕ, List, refl, ap, ap₂, Some}
use Rattle.ocpi_types.specs.declared.config.Config.{Config}
use Rattle.ocpi_types.specs.declared.party.Party.{Party}
use Rattle.cdr_checks.specs.declared.request.Command.{Command}
use Rattle.cdr_checks.specs.declared.request.Command.TheVariants as command
use Rattle.cdr_checks.specs.Parties.{operator_of_command, provider_of_command}
use Rattle.plain_house.specs.declared.entry.AccountEntry.{AccountEntry}
use Rattle.plain_house.specs.declared.entry.BookEntry.{BookEntry}
use Rattle.plain_house.specs.House.{verdict}
use Rattle.plain_house.specs.Known.{Known}
use Rattle.house_core.specs.Calls.{collects}

abbrev seen_with : List BookEntry → List AccountEntry → ℕ → ℕ → Known
seen_with book account point period = record { book = book; account = account; point = point; period = period }

-- a command that collects no books looks into its own book and its own account alone
pub looks_into : (config : Config) (told : Command) (book books : List BookEntry) (account accounts : List AccountEntry) (point period : ℕ)
    → collects told ≡ false
    → ((operator : Party) → operator_of_command told ≡ Some operator → book ≡ books)
    → ((provider : Party) → provider_of_command told ≡ Some provider → account ≡ accounts)
    → verdict config (seen_with book account point period) told ≡ verdict config (seen_with books accounts point period) told
looks_into config (command.PutTariff tariff) book books account accounts point period e hb ha =
    ap (λ b. verdict config (seen_with b account point period) (command.PutTariff tariff)) (hb tariff.operator refl)
looks_into config (command.PutToken token) book books account accounts point period e hb ha =
    ap (λ a. verdict config (seen_with book a point period) (command.PutToken token)) (ha token.provider refl)
looks_into config (command.Authorize ask) book books account accounts point period e hb ha =
    ap (λ a. verdict config (seen_with book a point period) (command.Authorize ask)) (ha ask.provider refl)
looks_into config (command.Release release) book books account accounts point period e hb ha =
    ap (λ a. verdict config (seen_with book a point period) (command.Release release)) (ha release.provider refl)
looks_into config (command.Post checked) book books account accounts point period e hb ha =
    ap₂ (λ b a. verdict config (seen_with b a point period) (command.Post checked)) (hb checked.cdr.operator refl) (ha checked.cdr.cdr_token.provider refl)
looks_into config (command.Close close) book books account accounts point period e hb ha = absurd (cc)
looks_into config (command.Settle settlement) book books account accounts point period e hb ha =
    ap (λ a. verdict config (seen_with book a point period) (command.Settle settlement)) (ha settlement.provider refl)
looks_into config (command.Exposure ask) book books account accounts point period e hb ha =
    ap (λ a. verdict config (seen_with book a point period) (command.Exposure ask)) (ha ask.provider refl)
looks_into config (command.Find find) book books account accounts point period e hb ha =
    ap (λ b. verdict config (seen_with b account point period) (command.Find find)) (hb find.operator refl)
looks_into config (command.Statement ask) book books account accounts point period e hb ha = absurd (cc)
