use Rattle.std.proofs.Common.{◌≡◌, ◌+◌, ◌<◌, ◌^◌, ◌∙◌, Some, ap, rules, sym}
use Rattle.std.specs.Option.{option_copied}
use Rattle.ocpi_types.specs.Config.{provider_of}
use Rattle.ocpi_types.specs.Party.{same_party}
use Rattle.provider_account.proofs.OnlyOne.{found_passes}
use Rattle.provider_account.proofs.References.{same_reference}
use Rattle.provider_account.proofs.account.Account.next_reference.Goals as goal

pub returns-in-Some-clause-numbered : goal.returns-in-Some-clause-numbered
returns-in-Some-clause-numbered c =
    let provider = c.args.provider.now in
    let configured = c.in-Some.configured.now in
    let found : provider_of c.args.config.now provider ≡ Some configured = sym c.provider.ensures ∙ ap option_copied c.in-Some.is in
    let same = found_passes (λ one. same_party one.party provider) c.args.config.now.providers configured found in
    let small : c.holds_so_far-number.result + 1 < 2 ^ 64 = search rules in
    let number = c.holds_so_far-number.ensures.value in
    rw (c.reference.ensures, ← number) (same_reference configured.party provider (c.holds_so_far-number.result + 1) small same)
