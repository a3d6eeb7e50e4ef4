use Rattle.std.proofs.Common.{◌≡◌, [], None, map, take}
use Rattle.house_core.specs.Inner.Shown.{shown_books}
use Rattle.house_core.proofs.locks.free_books.Given as goal

abbrev pub invariant-loop-operator : goal.invariant-loop-operator
invariant-loop-operator l = shown_books l.locks.items ≡ map (λ operator. record { holder = None; entries = [] }) (take l._operator-index l.config.operators)
