use Rattle.std.proofs.Common.{◌≡◌, ◌<◌, ◌∙◌, sym, subst, length, Some}
use Rattle.ocpi_types.specs.declared.config.Provider.{Provider}
use Rattle.ocpi_types.specs.Party.{same_party}
use Rattle.cdr_checks.specs.Parties.{provider_of_command}
use Rattle.shared_house.proofs.NumberLemmas.{place_within}
use Rattle.shared_house.proofs.house.numbers.account_number.Goals as goal

pub returns-clause-within : goal.returns-clause-within
returns-clause-within c =
    let party = c.in_ok-provider.provider in
    let named : provider_of_command c.args.command.now ≡ Some party = sym c.provider.ensures ∙ c.in_ok-provider.was in
    subst (λ n. n < length c.args.config.now.providers) (sym c.provider_number.ensures)
    (place_within (λ (provider : Provider). same_party provider.party party) c.args.config.now.providers (c.requires.provider party named))
