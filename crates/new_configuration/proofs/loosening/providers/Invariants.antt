use Rattle.std.proofs.Common.{◌≡◌, map, take}
use Rattle.new_configuration.specs.Loosened.{with_highest_limits}
use Rattle.new_configuration.proofs.loosening.providers.Given as goal

abbrev pub invariant-loop-provider : goal.invariant-loop-provider
invariant-loop-provider l = l.providers ≡ map (with_highest_limits l.currencies) (take l.provider-index l.given)
