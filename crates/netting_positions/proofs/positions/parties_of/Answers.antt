use Rattle.std.proofs.Common.{◌≡◌, ◌≤◌, List, Bool, ◌++◌, length, map, filter, not, ap, ◌∙◌, arith, length-append}
use Rattle.std.proofs.lemmas.List.{length-map}
use Rattle.std.proofs.lemmas.List.Sums.{length-filter, count_by-le-length}
use Rattle.ocpi_types.specs.Config.{is_operator}
use Rattle.ocpi_types.specs.declared.config.Config.{Config}
use Rattle.ocpi_types.specs.declared.party.Party.{Party}
use Rattle.netting_positions.specs.Netting.{parties}
use Rattle.netting_positions.proofs.positions.parties_of.Goals as goal

abbrev operator_parties : Config → List Party
operator_parties config = map (λ operator. operator.party) config.operators

abbrev others : Config → Party → Bool
others config party = not (is_operator config party)

abbrev provider_parties : Config → List Party
provider_parties config = map (λ provider. provider.party) config.providers

at_most : (config : Config) → length config.operators ≤ 64 → length config.providers ≤ 64 → length (parties config) ≤ 128
at_most config operators providers =
    omega (
      arith,
      length-append (operator_parties config) (filter (others config) (provider_parties config)),
      length-map config.operators (λ operator. operator.party),
      length-map config.providers (λ provider. provider.party),
      length-filter (others config) (provider_parties config),
      count_by-le-length (others config) (provider_parties config),
    )

pub returns-clause-few : goal.returns-clause-few
returns-clause-few c =
    let config = c.args.config.now in
    let e : c.add_providers.new.parties.items ≡ parties config =
    c.in_ok-add_providers.ensures ∙ ap (λ found. found ++ filter (others config) (provider_parties config))
    (c.in_ok-add_operators.ensures ∙ ap (λ found. found ++ operator_parties config) c.in_ok-parties.ensures.items)
    in
    let operators : length config.operators ≤ 64 = omega (arith, c.as_slice-operators.ensures.most, ap length c.as_slice-operators.ensures.value) in
    let providers : length config.providers ≤ 64 = omega (arith, c.as_slice-providers.ensures.most, ap length c.as_slice-providers.ensures.value) in
    omega (arith, ap length e, at_most config operators providers)
