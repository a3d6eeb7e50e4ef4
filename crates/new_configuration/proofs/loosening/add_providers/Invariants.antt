use Rattle.std.proofs.Common.{◌≡◌, ◌++◌, map, take}
use Rattle.new_configuration.proofs.loosening.add_providers.Given as goal

abbrev pub invariant-loop-provider : goal.invariant-loop-provider
invariant-loop-provider l = l.parties ≡ l.fn.parties ++ map (λ provider. provider.party) (take l.provider-index l.providers)
