-- What contracts see of a pass.
use Rattle.std.specs.Prelude.{ℕ, List}
use Rattle.shared_house.specs.declared.call.Call.{Call}

-- its number, its calls in the order in which they were made, how many events they added, and for how many more calls it has a place
pub record PassView : Type 0 where
  pub number : ℕ
  pub calls : List Call
  pub share : ℕ
  pub places : ℕ
