-- What the admission of a CDR that is posted says.
use Rattle.std.proofs.Common.{◌≡◌, ℕ, ℤ, pos, List, Bool, true, false, refl, ap, subst, ◌∙◌, Option, Some, None, Result, Ok, Err, unsigned_abs, if◌then◌else◌, nat_lt, arith, ◌≤◌, ◌^◌, unwrap_or}
use Rattle.std.proofs.lemmas.Bool.{ltb-false}
use Rattle.jiff.specs.Types.{TimeZone as PlainZone}
use Rattle.ocpi_types.specs.declared.cdr.Cdr.{Cdr}
use Rattle.ocpi_types.specs.declared.config.Config.{Config}
use Rattle.ocpi_types.specs.declared.config.Operator.{Operator}
use Rattle.ocpi_types.specs.declared.refusal.Refusal.{Refusal}
use Rattle.ocpi_types.specs.declared.refusal.Refusal.TheVariants as refusal
use Rattle.ocpi_types.specs.Cdr.{is_credit}
use Rattle.ocpi_types.specs.Config.{operator_of, is_hub, is_operator, is_party, is_provider, has_currency, may_act_for}
use Rattle.tariff_elements.specs.Support.{unsupported}
use Rattle.cdr_rating.specs.Price.{price, rounded_amount}
use Rattle.cdr_rating.specs.Pricing.{lacks_tariff}
use Rattle.cdr_checks.specs.declared.cause.Cause.{Cause}
use Rattle.cdr_checks.specs.declared.request.Ask.{Ask}
use Rattle.cdr_checks.specs.declared.request.Ask.TheVariants as ask
use Rattle.cdr_checks.specs.declared.request.Command.{Command}
use Rattle.cdr_checks.specs.declared.request.Command.TheVariants as command
use Rattle.cdr_checks.specs.Admission.{IsAdmitted, ask_admission}
use Rattle.cdr_checks.specs.CdrAdmission.{checked_of, priced, rated_cost, session_cost}
use Rattle.cdr_checks.specs.CdrConditions.{has_energy_of_periods, is_within_tolerance, other_currency, out_of_order, reservation, tariff_not_given, unsupported_tariff}
use Rattle.cdr_checks.specs.Checked.{Checked, IsCostOf}
use Rattle.cdr_checks.specs.FirstRefusal.{◌>>=◌}
use Rattle.cdr_checks.specs.Law.{IsChecked, PostsAreChecked}
use Rattle.cdr_checks.proofs.AdmissionLemmas.{admission_is, ensured, goes_on, there, unless_none}

-- ---- the price

natural : (cdr : Cdr) (zone : PlainZone) (amount : ℤ) → price cdr zone ≡ Ok amount → amount ≡ pos (unsigned_abs amount)
unfolding price
natural cdr zone amount h = by (lacks_tariff cdr) (nat_lt 1_000_000_000_000 (rounded_amount cdr zone)) h
  where
    by : (lacks large : Bool) → (if lacks then Err refusal.TariffNotGiven else (if large then Err refusal.AmountTooLarge else Ok (pos (rounded_amount cdr zone)))) ≡ Ok amount → amount ≡ pos (unsigned_abs amount)
    by true large g = absurd (cc)
    by false true g = absurd (cc)
    by false false g = let same : pos (rounded_amount cdr zone) ≡ amount = cc in subst (λ (z : ℤ). z ≡ pos (unsigned_abs z)) same refl

-- and the amount is at most 10^12
bounded : (cdr : Cdr) (zone : PlainZone) (n : ℕ) → price cdr zone ≡ Ok (pos n) → n ≤ 10 ^ 12
unfolding price
bounded cdr zone n h = by (lacks_tariff cdr) (nat_lt 1_000_000_000_000 (rounded_amount cdr zone)) refl h
  where
    by : (lacks large : Bool) → nat_lt 1_000_000_000_000 (rounded_amount cdr zone) ≡ large
        → (if lacks then Err refusal.TariffNotGiven else (if large then Err refusal.AmountTooLarge else Ok (pos (rounded_amount cdr zone)))) ≡ Ok (pos n) → n ≤ 10 ^ 12
    by true large e g = absurd (cc)
    by false true e g = absurd (cc)
    by false false e g =
        let same : rounded_amount cdr zone ≡ n = cc in
        let most = ltb-false 1_000_000_000_000 (rounded_amount cdr zone) e in
        omega (arith, same, most)

same_price : (m : Result ℤ Refusal) (amount : ℤ) → priced m ≡ Ok amount → m ≡ Ok amount
same_price (Ok given) amount h = let same : given ≡ amount = cc in ap (λ (z : ℤ). Ok z) same
same_price (Err why) amount h = absurd (cc)

rated_price : (config : Config) (zone : PlainZone) (cdr : Cdr) (cost : ℕ) → rated_cost config zone cdr ≡ Ok cost → price cdr zone ≡ Ok (pos cost)
unfolding rated_cost
rated_price config zone cdr cost h =
    let currency = unless_none (other_currency cdr) _ _ cost h in
    let dates = unless_none (out_of_order cdr) _ _ cost currency.1 in
    let given = unless_none (tariff_not_given cdr) _ _ cost dates.1 in
    let supported = unless_none (unsupported_tariff cdr) _ _ cost given.1 in
    let free = unless_none (reservation cdr) _ _ cost supported.1 in
    let energy = ensured (has_energy_of_periods cdr) _ _ cost free.1 in
    let amount = goes_on (priced (price cdr zone)) _ cost energy.1 in
    let tolerated = ensured (is_within_tolerance config.tolerance cdr.total_cost amount.0) _ _ cost amount.2 in
    let is : price cdr zone ≡ Ok amount.0 = same_price (price cdr zone) amount.0 amount.1 in
    let made : Result ℕ Cause = Ok (unsigned_abs amount.0) in
    let same : unsigned_abs amount.0 ≡ cost = (let both : made ≡ Ok cost = tolerated.1 in cc) in
    is ∙ ap (λ (z : ℤ). Ok z) (natural cdr zone amount.0 is ∙ ap (λ (n : ℕ). pos n) same)

-- ---- the CDR

session : (config : Config) (zone : PlainZone) (cdr : Cdr) (cost : Option ℕ) → session_cost config zone cdr ≡ Ok cost → IsCostOf cost cdr zone
session config zone cdr cost h = by (is_credit cdr) refl h
  where
    rated : (m : Result ℕ Cause) → is_credit cdr ≡ false → rated_cost config zone cdr ≡ m → (m >>= λ n. Ok (Some n)) ≡ Ok cost → IsCostOf cost cdr zone
    rated (Ok n) credit e g =
        let same : Some n ≡ cost = cc in
        subst (λ (o : Option ℕ). IsCostOf o cdr zone) same (credit, rated_price config zone cdr n e)
    rated (Err why) credit e g = absurd (cc)

    by : (b : Bool) → is_credit cdr ≡ b → (if b then Ok None else (rated_cost config zone cdr >>= λ n. Ok (Some n))) ≡ Ok cost → IsCostOf cost cdr zone
    by true e g = let same : None ≡ cost = cc in subst (λ (o : Option ℕ). IsCostOf o cdr zone) same e
    by false e g = rated (rated_cost config zone cdr) e refl g

abbrev made : Cdr → Operator → Option ℕ → Checked
made cdr operator cost = record { cdr = cdr; zone = operator.zone; cost = cost }

pub checked_has : (config : Config) (platform : List ℕ) (cdr : Cdr) (checked : Checked) → checked_of config platform cdr ≡ Ok checked → IsChecked config checked
unfolding checked_of
checked_has config platform cdr checked h =
    let its = there (operator_of config cdr.operator) _ _ checked h in
    let operator : Operator = its.0 in
    let known = ensured (is_provider config cdr.cdr_token.provider) _ _ checked its.2 in
    let acts = ensured (may_act_for config platform cdr.operator) _ _ checked known.1 in
    let currency = ensured (has_currency config cdr.currency) _ _ checked acts.1 in
    let cost = goes_on (session_cost config operator.zone cdr) _ checked currency.1 in
    let given : Result Checked Cause = Ok (made cdr operator cost.0) in
    let same : made cdr operator cost.0 ≡ checked = (let both : given ≡ Ok checked = cost.2 in cc) in
    let has : IsCostOf cost.0 cdr operator.zone = session config operator.zone cdr cost.0 cost.1 in
    subst (IsChecked config) same
    (record { operator = operator; has_operator = its.1; has_provider = known.0; has_currency = currency.0; in_zone = refl; at_cost = has; within = small cost.0 operator.zone has })
  where
    small : (cost : Option ℕ) (zone : PlainZone) → IsCostOf cost cdr zone → unwrap_or cost 0 ≤ 10 ^ 12
    small None zone is = omega arith
    small (Some n) zone is = bounded cdr zone n is.1

-- ---- the request

abbrev done : Command → Result Command Cause
done given = Ok given

pub posts_are_checked : PostsAreChecked
unfolding IsAdmitted
posts_are_checked config checked admitted = by admitted.0.platform admitted.0.ask (admission_is config admitted.0 (command.Post checked) admitted.1)
  where
    posted : (cdr : Cdr) (platform : List ℕ) → (checked_of config platform cdr >>= λ c. Ok (command.Post c)) ≡ done (command.Post checked) → IsChecked config checked
    posted cdr platform h =
        let its = goes_on (checked_of config platform cdr) _ (command.Post checked) h in
        let same : its.0 ≡ checked = (let both : done (command.Post its.0) ≡ done (command.Post checked) = its.2 in cc) in
        checked_has config platform cdr checked (its.1 ∙ ap (λ (x : Checked). Ok x) same)

    other : (given : Command) → done given ≡ done (command.Post checked) → (given ≡ command.Post checked → IsChecked config checked) → IsChecked config checked
    other given h otherwise = otherwise (let both : done given ≡ done (command.Post checked) = h in cc)

    by : (platform : List ℕ) (asked : Ask) → ask_admission config platform asked ≡ done (command.Post checked) → IsChecked config checked
    by platform (ask.PutTariff tariff) h =
        let one = ensured (is_operator config tariff.operator) _ _ (command.Post checked) h in
        let two = ensured (may_act_for config platform tariff.operator) _ _ (command.Post checked) one.1 in
        let three = ensured (has_currency config tariff.currency) _ _ (command.Post checked) two.1 in
        let four = unless_none (unsupported tariff) _ _ (command.Post checked) three.1 in
        other (command.PutTariff tariff) four.1 (λ e. absurd (cc))
    by platform (ask.PutToken token) h =
        let one = ensured (is_provider config token.provider) _ _ (command.Post checked) h in
        let two = ensured (may_act_for config platform token.provider) _ _ (command.Post checked) one.1 in
        other (command.PutToken token) two.1 (λ e. absurd (cc))
    by platform (ask.Authorize a) h =
        let one = ensured (is_operator config a.operator) _ _ (command.Post checked) h in
        let two = ensured (is_provider config a.provider) _ _ (command.Post checked) one.1 in
        let three = ensured (may_act_for config platform a.operator) _ _ (command.Post checked) two.1 in
        let four = ensured (has_currency config a.currency) _ _ (command.Post checked) three.1 in
        other (command.Authorize a) four.1 (λ e. absurd (cc))
    by platform (ask.Release r) h =
        let one = ensured (is_operator config r.operator) _ _ (command.Post checked) h in
        let two = ensured (is_provider config r.provider) _ _ (command.Post checked) one.1 in
        let three = ensured (may_act_for config platform r.operator) _ _ (command.Post checked) two.1 in
        other (command.Release r) three.1 (λ e. absurd (cc))
    by platform (ask.Exposure x) h =
        let one = ensured (is_provider config x.provider) _ _ (command.Post checked) h in
        let two = ensured (may_act_for config platform x.provider) _ _ (command.Post checked) one.1 in
        let three = ensured (has_currency config x.currency) _ _ (command.Post checked) two.1 in
        other (command.Exposure x) three.1 (λ e. absurd (cc))
    by platform (ask.Post cdr) h = posted cdr platform h
    by platform (ask.Close c) h =
        let one = ensured (is_hub config platform) _ _ (command.Post checked) h in
        other (command.Close c) one.1 (λ e. absurd (cc))
    by platform (ask.Settle s) h =
        let one = ensured (is_provider config s.provider) _ _ (command.Post checked) h in
        let two = ensured (is_hub config platform) _ _ (command.Post checked) one.1 in
        let three = ensured (has_currency config s.currency) _ _ (command.Post checked) two.1 in
        other (command.Settle s) three.1 (λ e. absurd (cc))
    by platform (ask.Statement s) h =
        let one = ensured (is_party config s.party) _ _ (command.Post checked) h in
        let two = ensured (may_act_for config platform s.party) _ _ (command.Post checked) one.1 in
        other (command.Statement s) two.1 (λ e. absurd (cc))
    by platform (ask.Find f) h =
        let one = ensured (is_operator config f.operator) _ _ (command.Post checked) h in
        let two = ensured (may_act_for config platform f.operator) _ _ (command.Post checked) one.1 in
        other (command.Find f) two.1 (λ e. absurd (cc))
