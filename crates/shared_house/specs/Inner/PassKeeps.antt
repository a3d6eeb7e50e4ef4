-- What is so of every pass.
use Rattle.std.specs.Prelude.{◌≡◌, ℕ, List, count_by}
use Rattle.ocpi_types.specs.declared.config.Config.{Config}
use Rattle.shared_house.specs.Calls.{call_adds_event}
use Rattle.shared_house.specs.Points.{AreAdmitted}
use Rattle.shared_house.specs.declared.call.Call.{Call}

-- it has one part of the ledger of events, its share is the number of its calls that added one, and its calls were admitted
pub record PassKeeps (config : Config) (calls : List Call) (parts share : ℕ) : Type 0 where
  pub part : parts ≡ 1
  pub counted : share ≡ count_by call_adds_event calls
  pub admitted : AreAdmitted config calls
