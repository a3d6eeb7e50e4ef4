use Rattle.std.proofs.Common.{◌≡◌, [], None, map, take}
use Rattle.house_core.specs.Inner.Shown.{shown_accounts}
use Rattle.house_core.proofs.locks.free_accounts.Given as goal

abbrev pub invariant-loop-provider : goal.invariant-loop-provider
invariant-loop-provider l = shown_accounts l.locks.items ≡ map (λ provider. record { holder = None; entries = [] }) (take l._provider-index l.config.providers)
