use Rattle.std.proofs.Common.{◌≡◌, ℕ, ◌-◌, ◌<◌, ◌≤◌, false}
use Rattle.std.specs.Str.{bytes_eq}
use Rattle.ocpi_json.specs.Inner.Picked.{name_at}
use Rattle.ocpi_json.specs.Name.{key_text}
use Rattle.ocpi_json.proofs.picked.index_between.Given as goal

abbrev pub invariant-loop-at : goal.invariant-loop-at
invariant-loop-at l = (i : ℕ) → l.from ≤ i → i < l.at → bytes_eq l.key (key_text (name_at l.names i)) ≡ false

abbrev pub decreases-loop-at : goal.decreases-loop-at
decreases-loop-at l = l.to - l.at
