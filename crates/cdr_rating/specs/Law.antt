-- Laws of rounding, of splitting a volume of energy, and of CDRs that are the same.
use Rattle.std.specs.Prelude.{◌≡◌, ◌↔◌, IsTrue, ℕ, ◌+◌, ◌%◌, ◌<◌, ◌≤◌, List, [], ◌∷◌, ◌++◌}
use Rattle.exact_money.specs.Exact.{IsRoundedHalfUp}
use Rattle.jiff.specs.Types.{TimeZone as PlainZone}
use Rattle.ocpi_types.specs.declared.cdr.Cdr.{Cdr}
use Rattle.ocpi_types.specs.SameCdr.{same_cdr}
use Rattle.cdr_rating.specs.declared.tally.Priced.{Priced}
use Rattle.cdr_rating.specs.Price.{up_to_step, energy_cost, price, rounded}

-- with x more, the volume is a multiple of the step, and with less it is none
pub record IsLeastUpTo (step volume x : ℕ) : Type 0 where
  pub multiple : (volume + x) % step ≡ 0
  pub least : (other : ℕ) → (volume + other) % step ≡ 0 → x ≤ other

abbrev pub UpToStepIsLeast : Type 0
UpToStepIsLeast = (step volume : ℕ) → 0 < step → IsLeastUpTo step volume (up_to_step step volume)

-- an amount is the rounded one exactly where it is within half a ten-thousandth, and half goes up
abbrev pub RoundedIsHalfUp : Type 0
RoundedIsHalfUp = (units amount : ℕ) → (rounded units ≡ amount) ↔ IsRoundedHalfUp units amount

abbrev pub one_priced : ℕ → ℕ → ℕ → List Priced
one_priced price step_size volume = record { price = price; step_size = step_size; volume = volume } ∷ []

-- energy costs the same, steps included, where a priced volume is split over two, one behind the other, of its price and
-- step size; nothing is said of time
abbrev pub EnergySplitsAtNoCost : Type 0
EnergySplitsAtNoCost =
    (before after : List Priced) (price step_size first second : ℕ)
    → energy_cost (before ++ (one_priced price step_size first ++ (one_priced price step_size second ++ after)))
    ≡ energy_cost (before ++ (one_priced price step_size (first + second) ++ after))

-- CDRs with the same content cost the same
abbrev pub SameCdrsCostTheSame : Type 0
SameCdrsCostTheSame = (a b : Cdr) (zone : PlainZone) → IsTrue (same_cdr a b) → price a zone ≡ price b zone
