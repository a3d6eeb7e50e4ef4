-- A request is refused by the first of its tests that does not hold.
use Rattle.std.proofs.Common.{◌≡◌, arith, eqb, ℕ, ℤ, ◌==◌, Bool, true, false, not, ◌&&◌, ◌||◌, List, [], ◌∷◌, refl, sym, subst, Option, Some, None, Result, Ok, Err, nat_le, nat_lt, pos, unsigned_abs, is_some, if◌then◌else◌}
use Rattle.std.specs.Prelude.{is_none}
use Rattle.std.specs.List.{list_all, list_any}
use Rattle.std.proofs.lemmas.Bool.{eqb-false, le-leb, lt-leb, ltb-false, ltb-true, or_left}
use Rattle.jiff.specs.Types.{TimeZone as PlainZone}
use Rattle.ocpi_json.specs.declared.name.Name.TheVariants as name
use Rattle.ocpi_types.specs.declared.cdr.Cdr.{Cdr}
use Rattle.ocpi_types.specs.declared.config.Config.{Config}
use Rattle.ocpi_types.specs.declared.config.Operator.{Operator}
use Rattle.ocpi_types.specs.declared.party.Party.{Party}
use Rattle.ocpi_types.specs.declared.refusal.Refusal.{Refusal}
use Rattle.ocpi_types.specs.declared.refusal.Refusal.TheVariants.{UnknownParty, NotYours, WrongCurrency, BadDates, TariffNotGiven, UnsupportedRestriction, Reservation, EnergyMismatch, AmountTooLarge, CostMismatch}
use Rattle.ocpi_types.specs.Cdr.{is_credit}
use Rattle.ocpi_types.specs.Config.{has_currency, is_hub, is_operator, is_party, is_provider, may_act_for, operator_of, platform_of}
use Rattle.ocpi_types.specs.Refusal.{refusal_number}
use Rattle.tariff_elements.specs.Support.{unsupported}
use Rattle.cdr_rating.specs.Price.{price, rounded_amount, within_limit}
use Rattle.cdr_rating.specs.Pricing.{lacks_tariff}
use Rattle.cdr_checks.specs.declared.cause.Cause.{Cause}
use Rattle.cdr_checks.specs.declared.cause.Reason.{Reason}
use Rattle.cdr_checks.specs.declared.cause.Reason.TheVariants.{ActsNotFor, NoHub, UnknownPlatform}
use Rattle.cdr_checks.specs.declared.request.Ask.{Ask}
use Rattle.cdr_checks.specs.declared.request.Ask.TheVariants as ask
use Rattle.cdr_checks.specs.declared.request.Command.{Command}
use Rattle.cdr_checks.specs.declared.request.Command.TheVariants as command
use Rattle.cdr_checks.specs.Admission.{admission, ask_admission, judged, tariff_with_bound}
use Rattle.cdr_checks.specs.Asking.{is_a_hub, known_currency, known_provider, lacks_right, may_act, no_operator}
use Rattle.cdr_checks.specs.Cause.{refusal_by, refusal_of, with_refusal}
use Rattle.cdr_checks.specs.CdrAdmission.{before_preceding, checked_of, far_from, in_other_currency, of_no_tariff, of_other_energy, priced, rated_cost, session_cost, with_bound, with_reservation}
use Rattle.cdr_checks.specs.CdrConditions.{has_energy_of_periods, is_within_tolerance, other_currency, out_of_order, reservation, tariff_not_given, unsupported_tariff}
use Rattle.cdr_checks.specs.Checked.{Checked}
use Rattle.cdr_checks.specs.Conditions.{has_dates_in_order, has_no_reservation, has_one_currency, has_supported_tariffs, is_supported}
use Rattle.cdr_checks.specs.FirstRefusal.{◌>>=◌, ensure, or_refusal, unless}
use Rattle.cdr_checks.specs.Place.{at, inside}
use Rattle.cdr_checks.specs.Tests.{AdmittedPassTheirTests, IsFirst, RefusedByTheFirst, Test, cdr_tests, rated_tests, session_tests, test, tests}
use Rattle.cdr_checks.proofs.AdmissionLemmas.{admission_is}
use Rattle.cdr_checks.proofs.ConditionLemmas.{all_supported, in_order, not_reserved, one_currency, supported, tariff_lacking}

-- what comes of tests is decided by them: it is there where all hold, and else the first that does not
abbrev Decided : {A : Type 0} → Result A Cause → List Test → Type 0
Decided (Ok x) asked = list_all (λ t. t.holds) asked ≡ true
Decided (Err cause) asked = IsFirst asked (refusal_of cause)

-- none of these refusals has a smaller number
abbrev are_from : ℕ → List Test → Bool
are_from number asked = list_all (λ t. nat_le number (refusal_number t.refusal)) asked

first_of : (a b : Bool) → (a && b) ≡ true → a ≡ true
first_of true b h = refl
first_of false b h = absurd (cc)

second_of : (a b : Bool) → (a && b) ≡ true → b ≡ true
second_of true b h = h
second_of false b h = absurd (cc)

either : (a b : Bool) → b ≡ true → (a || b) ≡ true
either true b h = refl
either false b h = h

both : (a b : Bool) → a ≡ true → b ≡ true → (a && b) ≡ true
both true b h k = k
both false b h k = absurd (cc)

not_smaller : (number : ℕ) (asked : List Test) → are_from number asked ≡ true → list_all (λ t. t.holds || nat_le number (refusal_number t.refusal)) asked ≡ true
not_smaller number [] above = refl
not_smaller number (t ∷ asked) above =
    let here = first_of (nat_le number (refusal_number t.refusal)) (are_from number asked) above in
    let later = second_of (nat_le number (refusal_number t.refusal)) (are_from number asked) above in
    both (t.holds || nat_le number (refusal_number t.refusal)) (list_all (λ t. t.holds || nat_le number (refusal_number t.refusal)) asked)
    (either t.holds (nat_le number (refusal_number t.refusal)) here) (not_smaller number asked later)

same_number : (n : ℕ) → (n == n) ≡ true
same_number n = by (eqb n n) refl
  where
    by : (b : Bool) → eqb n n ≡ b → b ≡ true
    by true e = refl
    by false e = absurd (eqb-false n n e refl)

itself : (n : ℕ) → nat_le n n ≡ true
itself n = le-leb n n (omega arith)

-- the first that does not hold, and behind it none of a smaller number
failed : (refusal : Refusal) (asked : List Test) → are_from (refusal_number refusal) asked ≡ true → IsFirst (test false refusal ∷ asked) refusal
failed refusal asked above = record {
  fails = or_left (refusal_number refusal == refusal_number refusal) (list_any (λ t. not t.holds && (refusal_number t.refusal == refusal_number refusal)) asked) (same_number (refusal_number refusal));
  no_smaller = both (nat_le (refusal_number refusal) (refusal_number refusal)) (list_all (λ t. t.holds || nat_le (refusal_number refusal) (refusal_number t.refusal)) asked)
      (itself (refusal_number refusal)) (not_smaller (refusal_number refusal) asked above);
}

-- the same where that is a cause's refusal
failed_by : (cause : Cause) (refusal : Refusal) → refusal_of cause ≡ refusal → (asked : List Test) → are_from (refusal_number refusal) asked ≡ true
    → IsFirst (test false refusal ∷ asked) (refusal_of cause)
failed_by cause refusal is asked above = subst (λ (r : Refusal). IsFirst (test false refusal ∷ asked) r) (sym is) (failed refusal asked above)

module _ {A : Type 0} where
  passed : (refusal : Refusal) (result : Result A Cause) (asked : List Test) → Decided result asked → Decided result (test true refusal ∷ asked)
  passed refusal (Ok x) asked decided = decided
  passed refusal (Err other) asked decided = record { fails = decided.fails; no_smaller = decided.no_smaller }

  next : (holds : Bool) (cause : Cause) (refusal : Refusal) → refusal_of cause ≡ refusal → (rest : Result A Cause) (asked : List Test)
      → are_from (refusal_number refusal) asked ≡ true → Decided rest asked → Decided (ensure holds cause >>= λ _. rest) (test holds refusal ∷ asked)
  next true cause refusal is rest asked above decided = passed refusal rest asked decided
  next false cause refusal is rest asked above decided = failed_by cause refusal is asked above

  -- the same of a condition that holds if and only if nothing is found
  next_found : {X : Type 0} (o : Option X) (why : X → Cause) (refusal : Refusal) → ((x : X) → refusal_of (why x) ≡ refusal) → (holds : Bool) → is_none o ≡ holds
      → (rest : Result A Cause) (asked : List Test) → are_from (refusal_number refusal) asked ≡ true → Decided rest asked
      → Decided (unless o why >>= λ _. rest) (test holds refusal ∷ asked)
  next_found None why refusal is holds e rest asked above decided =
      subst (λ (b : Bool). Decided rest (test b refusal ∷ asked)) e (passed refusal rest asked decided)
  next_found (Some x) why refusal is holds e rest asked above decided =
      subst (λ (b : Bool). IsFirst (test b refusal ∷ asked) (refusal_of (why x))) e (failed_by (why x) refusal (is x) asked above)

  -- what is made of a result is decided alike
  mapped : {B : Type 0} (make : A → B) (result : Result A Cause) (asked : List Test) → Decided result asked → Decided (result >>= λ x. Ok (make x)) asked
  mapped make (Ok x) asked decided = decided
  mapped make (Err why) asked decided = decided

-- ---- the platform

module _ (config : Config) (platform : List ℕ) where
  lacking : (reason : Reason) → refusal_by reason ≡ NotYours → refusal_of (lacks_right config platform reason) ≡ NotYours
  lacking reason is = by (is_some (platform_of config platform))
    where
      by : (b : Bool) → refusal_by (if b then reason else UnknownPlatform platform) ≡ NotYours
      by true = is
      by false = refl

  acting : {A : Type 0} (party : Party) (rest : Result A Cause) (asked : List Test) → are_from (refusal_number NotYours) asked ≡ true → Decided rest asked
      → Decided (may_act config platform party >>= λ _. rest) (test (may_act_for config platform party) NotYours ∷ asked)
  acting party rest asked above decided =
      next (may_act_for config platform party) (lacks_right config platform (ActsNotFor platform party)) NotYours (lacking (ActsNotFor platform party) refl) rest asked above decided

  a_hub : {A : Type 0} (rest : Result A Cause) (asked : List Test) → are_from (refusal_number NotYours) asked ≡ true → Decided rest asked
      → Decided (is_a_hub config platform >>= λ _. rest) (test (is_hub config platform) NotYours ∷ asked)
  a_hub rest asked above decided = next (is_hub config platform) (lacks_right config platform (NoHub platform)) NotYours (lacking (NoHub platform) refl) rest asked above decided

-- ---- a CDR

module _ (config : Config) (zone : PlainZone) (cdr : Cdr) where
  -- a step whose outcome the step behind it uses
  priced_steps : (amount : ℕ) (above : Bool) → nat_lt 1_000_000_000_000 amount ≡ above
      → Decided (priced (if above then Err AmountTooLarge else Ok (pos amount)) >>= λ rated.
      (ensure (is_within_tolerance config.tolerance cdr.total_cost rated) (far_from cdr rated) >>= λ _. Ok (unsigned_abs rated)))
      (test (nat_le amount 1_000_000_000_000) AmountTooLarge ∷ test (is_within_tolerance config.tolerance cdr.total_cost (pos amount)) (CostMismatch (pos amount)) ∷ [])
  priced_steps amount true e =
      let later = test (is_within_tolerance config.tolerance cdr.total_cost (pos amount)) (CostMismatch (pos amount)) ∷ [] in
      subst (λ b. IsFirst (test b AmountTooLarge ∷ later) AmountTooLarge) (sym (lt-leb amount 1_000_000_000_000 (ltb-true 1_000_000_000_000 amount e)))
      (failed AmountTooLarge later refl)
  priced_steps amount false e =
      let fits = is_within_tolerance config.tolerance cdr.total_cost (pos amount) in
      let later = test fits (CostMismatch (pos amount)) ∷ [] in
      let rest : Result ℕ Cause = ensure fits (far_from cdr (pos amount)) >>= λ _. Ok (unsigned_abs (pos amount)) in
      subst (λ b. Decided rest (test b AmountTooLarge ∷ later)) (sym (le-leb amount 1_000_000_000_000 (ltb-false 1_000_000_000_000 amount e)))
      (passed AmountTooLarge rest later (next fits (far_from cdr (pos amount)) (CostMismatch (pos amount)) refl (Ok (unsigned_abs (pos amount))) [] refl refl))

  abbrev price_of : Bool → Result ℤ Refusal
  price_of lacks = if lacks then Err TariffNotGiven else within_limit (rounded_amount cdr zone)

  abbrev later_tests : List Test
  later_tests =
      test (has_supported_tariffs cdr) UnsupportedRestriction
      ∷ test (has_no_reservation cdr) Reservation
      ∷ test (has_energy_of_periods cdr) EnergyMismatch
      ∷ test (nat_le (rounded_amount cdr zone) 1_000_000_000_000) AmountTooLarge
      ∷ test (is_within_tolerance config.tolerance cdr.total_cost (pos (rounded_amount cdr zone))) (CostMismatch (pos (rounded_amount cdr zone)))
      ∷ []

  abbrev later_steps : Bool → Result ℕ Cause
  later_steps lacks =
      unless (unsupported_tariff cdr) with_bound >>= λ _.
      (unless (reservation cdr) with_reservation >>= λ _.
      (ensure (has_energy_of_periods cdr) (of_other_energy cdr) >>= λ _.
      (priced (price_of lacks) >>= λ amount.
      (ensure (is_within_tolerance config.tolerance cdr.total_cost amount) (far_from cdr amount) >>= λ _. Ok (unsigned_abs amount)))))

  given_steps : Decided (later_steps false) later_tests
  given_steps =
      next_found (unsupported_tariff cdr) with_bound UnsupportedRestriction (λ _. refl) (has_supported_tariffs cdr) (all_supported cdr) _ _ refl
      (next_found (reservation cdr) with_reservation Reservation (λ _. refl) (has_no_reservation cdr) (not_reserved cdr) _ _ refl
      (next (has_energy_of_periods cdr) (of_other_energy cdr) EnergyMismatch refl _ _ refl
      (priced_steps (rounded_amount cdr zone) (nat_lt 1_000_000_000_000 (rounded_amount cdr zone)) refl)))

  with_tariffs : (o : Option (ℕ × List ℕ)) (lacks : Bool) → is_some o ≡ lacks
      → Decided (unless o of_no_tariff >>= λ _. later_steps lacks) (test (not lacks) TariffNotGiven ∷ later_tests)
  with_tariffs (Some found) lacks e =
      subst (λ (b : Bool). IsFirst (test (not b) TariffNotGiven ∷ later_tests) TariffNotGiven) e (failed TariffNotGiven later_tests refl)
  with_tariffs None lacks e =
      subst (λ (b : Bool). Decided (later_steps b) (test (not b) TariffNotGiven ∷ later_tests)) e (passed TariffNotGiven (later_steps false) later_tests given_steps)

  rated : Decided (rated_cost config zone cdr) (rated_tests config zone cdr)
  unfolding rated_cost price
  rated =
      next_found (other_currency cdr) (in_other_currency cdr) WrongCurrency (λ _. refl) (has_one_currency cdr) (one_currency cdr) _ _ refl
      (next_found (out_of_order cdr) before_preceding BadDates (λ _. refl) (has_dates_in_order cdr) (in_order cdr) _ _ refl
      (with_tariffs (tariff_not_given cdr) (lacks_tariff cdr) (tariff_lacking cdr)))

  abbrev asked_where : Bool → List Test
  asked_where credit = if credit then [] else rated_tests config zone cdr

  session : (credit : Bool) → Decided (if credit then Ok None else (rated_cost config zone cdr >>= λ cost. Ok (Some cost))) (asked_where credit)
  session true = refl
  session false = mapped Some (rated_cost config zone cdr) (rated_tests config zone cdr) rated

  session_from : (number : ℕ) → are_from number (rated_tests config zone cdr) ≡ true → (credit : Bool) → are_from number (asked_where credit) ≡ true
  session_from number above true = refl
  session_from number above false = above

module _ (config : Config) (platform : List ℕ) (cdr : Cdr) where
  checked_from : Option Operator → Result Checked Cause
  checked_from found =
      or_refusal (no_operator (at name.Cdr) cdr.operator) found >>= λ operator.
      (known_provider config (inside name.Cdr name.CdrToken) cdr.cdr_token.provider >>= λ _.
      (may_act config platform cdr.operator >>= λ _.
      (known_currency config (inside name.Cdr name.Currency) cdr.currency >>= λ _.
      (session_cost config operator.zone cdr >>= λ cost. Ok (record { cdr = cdr; zone = operator.zone; cost = cost })))))

  abbrev asked_of : Option Operator → List Test
  asked_of found =
      test (is_some found) UnknownParty
      ∷ test (is_provider config cdr.cdr_token.provider) UnknownParty
      ∷ test (may_act_for config platform cdr.operator) NotYours
      ∷ test (has_currency config cdr.currency) WrongCurrency
      ∷ session_tests config found cdr

  checked_by : (found : Option Operator) → Decided (checked_from found) (asked_of found)
  unfolding checked_from
  checked_by None = failed UnknownParty _ refl
  checked_by (Some operator) =
      let from : (number : ℕ) → are_from number (rated_tests config operator.zone cdr) ≡ true → are_from number (session_tests config (Some operator) cdr) ≡ true =
      λ number above. session_from config operator.zone cdr number above (is_credit cdr) in
      passed UnknownParty _ _
      (next (is_provider config cdr.cdr_token.provider) _ UnknownParty refl _ _ (from 3 refl)
      (acting config platform cdr.operator _ _ (from 4 refl)
      (next (has_currency config cdr.currency) _ WrongCurrency refl _ _ (from 5 refl)
      (mapped (λ (cost : Option ℕ). record { cdr = cdr; zone = operator.zone; cost = cost }) (session_cost config operator.zone cdr) (session_tests config (Some operator) cdr)
      (session config operator.zone cdr (is_credit cdr))))))

  checked : Decided (checked_of config platform cdr) (cdr_tests config platform cdr)
  unfolding checked_of checked_from
  checked = checked_by (operator_of config cdr.operator)

-- ---- each request

module _ (config : Config) (platform : List ℕ) where
  decided : (what : Ask) → Decided (ask_admission config platform what) (tests config platform what)
  decided (ask.PutTariff tariff) =
      next (is_operator config tariff.operator) _ UnknownParty refl _ _ refl
      (acting config platform tariff.operator _ _ refl
      (next (has_currency config tariff.currency) _ WrongCurrency refl _ _ refl
      (next_found (unsupported tariff) tariff_with_bound UnsupportedRestriction (λ _. refl) (is_supported tariff) (supported tariff) (Ok _) [] refl refl)))
  decided (ask.PutToken token) =
      next (is_provider config token.provider) _ UnknownParty refl _ _ refl (acting config platform token.provider (Ok _) [] refl refl)
  decided (ask.Authorize asked) =
      next (is_operator config asked.operator) _ UnknownParty refl _ _ refl
      (next (is_provider config asked.provider) _ UnknownParty refl _ _ refl
      (acting config platform asked.operator _ _ refl
      (next (has_currency config asked.currency) _ WrongCurrency refl (Ok _) [] refl refl)))
  decided (ask.Release asked) =
      next (is_operator config asked.operator) _ UnknownParty refl _ _ refl
      (next (is_provider config asked.provider) _ UnknownParty refl _ _ refl (acting config platform asked.operator (Ok _) [] refl refl))
  decided (ask.Post cdr) =
      mapped command.Post (checked_of config platform cdr) (cdr_tests config platform cdr) (checked config platform cdr)
  decided (ask.Close asked) = a_hub config platform (Ok _) [] refl refl
  decided (ask.Settle asked) =
      next (is_provider config asked.provider) _ UnknownParty refl _ _ refl
      (a_hub config platform _ _ refl (next (has_currency config asked.currency) _ WrongCurrency refl (Ok _) [] refl refl))
  decided (ask.Exposure asked) =
      next (is_provider config asked.provider) _ UnknownParty refl _ _ refl
      (acting config platform asked.provider _ _ refl (next (has_currency config asked.currency) _ WrongCurrency refl (Ok _) [] refl refl))
  decided (ask.Find asked) =
      next (is_operator config asked.operator) _ UnknownParty refl _ _ refl (acting config platform asked.operator (Ok _) [] refl refl)
  decided (ask.Statement asked) =
      next (is_party config asked.party) _ UnknownParty refl _ _ refl (acting config platform asked.party (Ok _) [] refl refl)

pub admitted_pass : AdmittedPassTheirTests
admitted_pass config request command admits =
    subst (λ (result : Result Command Cause). Decided result (tests config request.platform request.ask)) (admission_is config request command admits)
    (decided config request.platform request.ask)

pub refused_first : RefusedByTheFirst
unfolding admission judged
refused_first config request refusal refuses = by (ask_admission config request.platform request.ask) (decided config request.platform request.ask) refuses
  where
    by : (m : Result Command Cause) → Decided m (tests config request.platform request.ask) → with_refusal m ≡ Err refusal → IsFirst (tests config request.platform request.ask) refusal
    by (Ok command) decides h = absurd (cc)
    by (Err cause) decides h =
        let same : refusal_of cause ≡ refusal = cc in
        subst (λ (r : Refusal). IsFirst (tests config request.platform request.ask) r) same decides
