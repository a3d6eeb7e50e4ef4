use Rattle.std.proofs.Common.{◌≡◌, ◌<◌, ℕ}
use Rattle.jiff.specs.Words.{offset_at}
use Rattle.kept_house.specs.Clocks.{fifth_hour}
use Rattle.kept_house.proofs.clocks.show_same.Given as goal

abbrev pub invariant-loop-number : goal.invariant-loop-number
invariant-loop-number l = (number : ℕ) → number < l.number → offset_at l.ours (fifth_hour number) ≡ offset_at l.theirs (fifth_hour number)
