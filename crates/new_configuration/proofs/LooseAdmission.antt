-- A command that is admitted under a configuration is admitted under the loosest one beside it.
use Rattle.std.proofs.Common.{◌≡◌, ◌≤◌, ◌*◌, ℕ, ℤ, pos, ◌-ℤ◌, ◌*ℤ◌, List, Bool, true, false, ◌||◌, arith, refl, ap, ◌∙◌, Option, None, Some, is_some, if◌then◌else◌, Result, Ok, Err, unsigned_abs, max, ◌^◌}
use Rattle.std.proofs.lemmas.Bool.{le-leb, leb-true}
use Rattle.std.proofs.Math.Nat.{le-max_left}
use Rattle.jiff.specs.Types.{TimeZone as PlainZone}
use Rattle.ocpi_json.specs.declared.name.Name.TheVariants as name
use Rattle.ocpi_types.specs.declared.cdr.Cdr.{Cdr}
use Rattle.ocpi_types.specs.declared.config.Config.{Config}
use Rattle.ocpi_types.specs.declared.config.Operator.{Operator}
use Rattle.ocpi_types.specs.Cdr.{is_credit}
use Rattle.ocpi_types.specs.Config.{is_hub, is_operator, is_party, is_provider, may_act_for, operator_of}
use Rattle.cdr_rating.specs.Price.{price}
use Rattle.cdr_checks.specs.Admission.{admission, ask_admission}
use Rattle.cdr_checks.specs.Asking.{known_currency, no_operator}
use Rattle.cdr_checks.specs.CdrAdmission.{before_preceding, checked_of, in_other_currency, of_no_tariff, of_other_energy, priced, rated_cost, session_cost, with_bound, with_reservation}
use Rattle.cdr_checks.specs.CdrConditions.{has_energy_of_periods, is_within_tolerance, other_currency, out_of_order, reservation, tariff_not_given, unsupported_tariff}
use Rattle.cdr_checks.specs.Checked.{Checked}
use Rattle.cdr_checks.specs.FirstRefusal.{◌>>=◌, ensure, or_refusal, unless}
use Rattle.cdr_checks.specs.Place.{at, inside}
use Rattle.cdr_checks.specs.declared.cause.Cause.{Cause}
use Rattle.cdr_checks.specs.declared.request.Ask.{Ask}
use Rattle.cdr_checks.specs.declared.request.Ask.TheVariants as ask
use Rattle.cdr_checks.specs.declared.request.Command.{Command}
use Rattle.cdr_checks.specs.declared.request.Command.TheVariants as command
use Rattle.cdr_checks.specs.declared.request.Request.{Request}
use Rattle.cdr_checks.proofs.AdmissionLemmas.{admission_is, ensured, is_admission}
use Rattle.new_configuration.specs.Loosened.{loosened}
use Rattle.new_configuration.proofs.LooseLemmas.{for_operator, for_provider, hub_acts, hub_name, same_provider}

-- ---- tests

-- where a test passes, so does another, and then the rest goes on
pub allowed : {X Why : Type 0} (one other : Bool) (why its : Why) (rest more : Result X Why) (x : X) → (one ≡ true → other ≡ true) → (one ≡ true → rest ≡ Ok x → more ≡ Ok x)
    → (ensure one why >>= λ _. rest) ≡ Ok x → (ensure other its >>= λ _. more) ≡ Ok x
allowed true other why its rest more x test next h = ap (λ (b : Bool). ensure b its >>= λ _. more) (test refl) ∙ next refl h
allowed false other why its rest more x test next h = absurd (cc)

-- the same result, and what follows from it
pub goes_on : {A B Why : Type 0} (one : Result A Why) (rest more : A → Result B Why) (x : B) → ((a : A) → one ≡ Ok a → rest a ≡ Ok x → more a ≡ Ok x)
    → (one >>= rest) ≡ Ok x → (one >>= more) ≡ Ok x
goes_on (Ok a) rest more x next h = next a refl h
goes_on (Err why) rest more x next h = absurd (cc)

as_well : {A B Why : Type 0} (one other : Result A Why) (rest : A → Result B Why) (x : B) → ((a : A) → one ≡ Ok a → other ≡ Ok a)
    → (one >>= rest) ≡ Ok x → (other >>= rest) ≡ Ok x
as_well (Ok a) other rest x same h = ap (λ m. m >>= rest) (same a refl) ∙ h
as_well (Err why) other rest x same h = absurd (cc)

pub higher_tolerance : (tolerance most : ℕ) (declared amount : ℤ) → is_within_tolerance tolerance declared amount ≡ true → is_within_tolerance (max tolerance most) declared amount ≡ true
higher_tolerance tolerance most declared amount h =
    let off = unsigned_abs (declared -ℤ pos 100 *ℤ amount) in
    let fits : off ≤ 100 * tolerance = leb-true off (100 * tolerance) h in
    let above : tolerance ≤ max tolerance most = le-max_left tolerance most in
    le-leb off (100 * max tolerance most) (omega (arith, fits, above))

module _ (config : Config) where
  abbrev loose : Config
  loose = loosened config

  -- ---- CDRs

  same_cost : (zone : PlainZone) (cdr : Cdr) (cost : ℕ) → rated_cost config zone cdr ≡ Ok cost → rated_cost loose zone cdr ≡ Ok cost
  unfolding rated_cost
  same_cost zone cdr cost h =
      goes_on (unless (other_currency cdr) (in_other_currency cdr)) _ _ cost (λ _ _.
      goes_on (unless (out_of_order cdr) before_preceding) _ _ cost (λ _ _.
      goes_on (unless (tariff_not_given cdr) of_no_tariff) _ _ cost (λ _ _.
      goes_on (unless (unsupported_tariff cdr) with_bound) _ _ cost (λ _ _.
      goes_on (unless (reservation cdr) with_reservation) _ _ cost (λ _ _.
      goes_on (ensure (has_energy_of_periods cdr) (of_other_energy cdr)) _ _ cost (λ _ _.
      goes_on (priced (price cdr zone)) _ _ cost (λ amount _.
      allowed (is_within_tolerance config.tolerance cdr.total_cost amount) (is_within_tolerance loose.tolerance cdr.total_cost amount) _ _ _ _ cost
      (higher_tolerance config.tolerance (10 ^ 12) cdr.total_cost amount) (λ _ g. g)))))))) h

  same_session : (zone : PlainZone) (cdr : Cdr) (cost : Option ℕ) → session_cost config zone cdr ≡ Ok cost → session_cost loose zone cdr ≡ Ok cost
  same_session zone cdr cost h = by (is_credit cdr) h
    where
      by : (b : Bool) → (if b then Ok None else (rated_cost config zone cdr >>= λ cost. Ok (Some cost))) ≡ Ok cost
          → (if b then Ok None else (rated_cost loose zone cdr >>= λ cost. Ok (Some cost))) ≡ Ok cost
      by true g = g
      by false g = as_well (rated_cost config zone cdr) (rated_cost loose zone cdr) (λ cost. Ok (Some cost)) cost (same_cost zone cdr) g

  abbrev made : Cdr → Operator → Option ℕ → Result Checked Cause
  made cdr operator cost = Ok (record { cdr = cdr; zone = operator.zone; cost = cost })

  same_checked : (platform : List ℕ) (cdr : Cdr) (checked : Checked) → checked_of config platform cdr ≡ Ok checked → checked_of loose hub_name cdr ≡ Ok checked
  unfolding checked_of
  same_checked platform cdr checked h =
      goes_on (or_refusal (no_operator (at name.Cdr) cdr.operator) (operator_of config cdr.operator)) _ _ checked (λ operator found.
      allowed (is_provider config cdr.cdr_token.provider) (is_provider loose cdr.cdr_token.provider) _ _ _ _ checked (λ e. same_provider config cdr.cdr_token.provider ∙ e) (λ _.
      allowed (may_act_for config platform cdr.operator) (may_act_for loose hub_name cdr.operator) _ _ _ _ checked
      (λ _. for_operator config cdr.operator (is_known (operator_of config cdr.operator) operator found)) (λ _.
      goes_on (known_currency config (inside name.Cdr name.Currency) cdr.currency) _ _ checked (λ _ _. as_well (session_cost config operator.zone cdr) (session_cost loose operator.zone cdr) (made cdr operator) checked (same_session operator.zone cdr))))) h
    where
      is_known : (o : Option Operator) (operator : Operator) → or_refusal (no_operator (at name.Cdr) cdr.operator) o ≡ Ok operator → is_some o ≡ true
      is_known None operator e = absurd (cc)
      is_known (Some other) operator e = refl

  -- ---- requests; that `hub_name` is a hub of the loose configuration is computed

  asked_wider : (platform : List ℕ) (asked : Ask) (told : Command) → ask_admission config platform asked ≡ Ok told → ask_admission loose hub_name asked ≡ Ok told
  asked_wider platform (ask.PutTariff tariff) told h =
      allowed (is_operator config tariff.operator) (is_operator loose tariff.operator) _ _ _ _ told (λ e. e) (λ known.
      allowed (may_act_for config platform tariff.operator) (may_act_for loose hub_name tariff.operator) _ _ _ _ told (λ _. for_operator config tariff.operator known) (λ _ g. g)) h
  asked_wider platform (ask.PutToken token) told h =
      allowed (is_provider config token.provider) (is_provider loose token.provider) _ _ _ _ told (λ e. same_provider config token.provider ∙ e) (λ known.
      allowed (may_act_for config platform token.provider) (may_act_for loose hub_name token.provider) _ _ _ _ told (λ _. for_provider config token.provider known) (λ _ g. g)) h
  asked_wider platform (ask.Authorize a) told h =
      allowed (is_operator config a.operator) (is_operator loose a.operator) _ _ _ _ told (λ e. e) (λ known.
      allowed (is_provider config a.provider) (is_provider loose a.provider) _ _ _ _ told (λ e. same_provider config a.provider ∙ e) (λ _.
      allowed (may_act_for config platform a.operator) (may_act_for loose hub_name a.operator) _ _ _ _ told (λ _. for_operator config a.operator known) (λ _ g. g))) h
  asked_wider platform (ask.Release r) told h =
      allowed (is_operator config r.operator) (is_operator loose r.operator) _ _ _ _ told (λ e. e) (λ known.
      allowed (is_provider config r.provider) (is_provider loose r.provider) _ _ _ _ told (λ e. same_provider config r.provider ∙ e) (λ _.
      allowed (may_act_for config platform r.operator) (may_act_for loose hub_name r.operator) _ _ _ _ told (λ _. for_operator config r.operator known) (λ _ g. g))) h
  asked_wider platform (ask.Post cdr) told h =
      as_well (checked_of config platform cdr) (checked_of loose hub_name cdr) (λ checked. Ok (command.Post checked)) told (same_checked platform cdr) h
  asked_wider platform (ask.Close close) told h = (ensured (is_hub config platform) _ _ told h).1
  asked_wider platform (ask.Settle s) told h =
      allowed (is_provider config s.provider) (is_provider loose s.provider) _ _ _ _ told (λ e. same_provider config s.provider ∙ e)
      (λ _ g. (ensured (is_hub config platform) _ _ told g).1) h
  asked_wider platform (ask.Exposure x) told h =
      allowed (is_provider config x.provider) (is_provider loose x.provider) _ _ _ _ told (λ e. same_provider config x.provider ∙ e) (λ known.
      allowed (may_act_for config platform x.provider) (may_act_for loose hub_name x.provider) _ _ _ _ told (λ _. for_provider config x.provider known) (λ _ g. g)) h
  asked_wider platform (ask.Find f) told h =
      allowed (is_operator config f.operator) (is_operator loose f.operator) _ _ _ _ told (λ e. e) (λ known.
      allowed (may_act_for config platform f.operator) (may_act_for loose hub_name f.operator) _ _ _ _ told (λ _. for_operator config f.operator known) (λ _ g. g)) h
  asked_wider platform (ask.Statement s) told h =
      allowed (is_party config s.party) (is_party loose s.party) _ _ _ _ told
      (λ e. ap (λ (b : Bool). is_operator config s.party || b) (same_provider config s.party) ∙ e) (λ known.
      allowed (may_act_for config platform s.party) (may_act_for loose hub_name s.party) _ _ _ _ told (λ _. hub_acts config s.party known) (λ _ g. g)) h

  pub admitted_wider : (request : Request) (told : Command) → admission config request ≡ Ok told → admission loose (record { platform = hub_name; ask = request.ask }) ≡ Ok told
  admitted_wider request told h =
      is_admission loose (record { platform = hub_name; ask = request.ask }) told (asked_wider request.platform request.ask told (admission_is config request told h))
