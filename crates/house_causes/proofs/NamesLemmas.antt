-- The event of the cause of a CDR or Credit CDR gives it, and the causes of some commands name none.
use Rattle.std.proofs.Common.{◌≡◌, ◌∙◌, ◌==◌, ◌⊎◌, inl, inr, ℕ, List, [], ◌∷◌, Bool, true, false, if◌then◌else◌, Option, Some, None, Result, Ok, Err, refl, sym, ap, option_map}
use Rattle.std.specs.Prelude.{nat_lt}
use Rattle.ocpi_types.specs.ContentDifference.{TariffsWithoutDifferenceAreSame}
use Rattle.ocpi_types.specs.SameTariff.{SameTariffsAreEqualFolded}
use Rattle.ocpi_types.specs.declared.config.Config.{Config}
use Rattle.ocpi_types.specs.declared.refusal.Refusal.{Refusal}
use Rattle.ocpi_types.specs.declared.refusal.Refusal.TheVariants as refusal
use Rattle.ocpi_types.specs.declared.refusal.Store.{Store}
use Rattle.ocpi_types.specs.declared.token.Token.{Token}
use Rattle.cdr_checks.specs.Checked.{Checked}
use Rattle.cdr_checks.specs.declared.request.Close.{Close}
use Rattle.cdr_checks.specs.declared.request.Command.{Command}
use Rattle.cdr_checks.specs.declared.request.Command.TheVariants as command
use Rattle.cdr_checks.specs.declared.request.ExposureOf.{ExposureOf}
use Rattle.cdr_checks.specs.declared.request.Find.{Find}
use Rattle.cdr_checks.specs.declared.request.StatementOf.{StatementOf}
use Rattle.plain_house.specs.Booked.{Booked, booked_as}
use Rattle.plain_house.specs.Entries.{book_entries, period_of}
use Rattle.plain_house.specs.House.{found_of, positions_in}
use Rattle.plain_house.specs.Legal.{IsLegal}
use Rattle.plain_house.specs.LegalLists.{LegalCdrsAreCharged, LegalCreditsAreTakenBack}
use Rattle.plain_house.specs.Verdict.{Verdict, accepts, refused_at, unless}
use Rattle.plain_house.specs.declared.answer.Answer.{Answer}
use Rattle.plain_house.specs.declared.answer.Answer.TheVariants as answer
use Rattle.plain_house.specs.declared.event.Event.{Event}
use Rattle.plain_house.specs.declared.event.Event.TheVariants as event
use Rattle.house_causes.specs.Bookings.{no_cdr}
use Rattle.house_causes.specs.Causes.{above_limit, cause_of, not_covered}
use Rattle.house_causes.specs.Credits.{reference_place, too_late}
use Rattle.house_causes.specs.HouseCause.{cause_at, refusal_by}
use Rattle.house_causes.specs.Laws.{IsGivenByEvent, IsGivenByVersion, NamesNoEvent, cause_after, said_by_house}
use Rattle.house_causes.specs.Periods.{not_closed, not_current}
use Rattle.house_causes.specs.Stores.{full}
use Rattle.house_causes.specs.declared.house_cause.HouseCause.{HouseCause}
use Rattle.house_causes.specs.declared.house_cause.HouseReason.TheVariants as reason
use Rattle.house_causes.proofs.CreditedNamedLemmas.{again_named}
use Rattle.house_causes.proofs.NamedLemmas.{no_event}
use Rattle.house_causes.proofs.PostLemmas.{is_for}
use Rattle.house_causes.proofs.PostNamedLemmas.{conflict_named, differs_named, of_credit_named}
use Rattle.house_causes.proofs.RegisteredNamedLemmas.{version_named}
use Rattle.house_causes.proofs.SaidLemmas.{causes_say}

-- ---- CDRs and Credit CDRs

module _ (tariffs : TariffsWithoutDifferenceAreSame) (equal : SameTariffsAreEqualFolded) (cdrs : LegalCdrsAreCharged) (credits : LegalCreditsAreTakenBack)
    (base config : Config) (events : List Event) (checked : Checked) (legal : IsLegal base events) (cause : HouseCause) (place : ℕ) where
  -- the event gives the cause, or stored a version with other content
  abbrev IsTold : Type 0
  IsTold =
      ((cause.reason ≡ reason.RegisteredOtherwise) × IsGivenByVersion config events checked cause place)
      ⊎ ((cause.reason ≡ reason.RegisteredOtherwise → ⊥) × IsGivenByEvent config events (command.Post checked) cause place)

  -- the cause of a refusal for another reason
  given : (why : Refusal) → (Some refusal.TariffNotRegistered ≡ Some why → ⊥) → cause_of config events (command.Post checked) (Err why) ≡ Some cause
      → IsGivenByEvent config events (command.Post checked) cause place → IsTold
  given why unlike h its =
      inr ((λ is. unlike (ap refusal_by (sym is) ∙ causes_say config events (command.Post checked) why cause h)), its)

  told : cause_after config events (command.Post checked) ≡ Some cause → cause.event ≡ Some place → IsTold
  told h named = by (said_by_house config events (command.Post checked)) refl h
    where
      no_reference : (reference : Option (List ℕ)) → option_map (λ id. cause_at reference_place (reason.NoOriginal id)) reference ≡ Some cause → ⊥
      no_reference None e = absurd (cc)
      no_reference (Some id) e =
          let one = cause_at reference_place (reason.NoOriginal id) in
          let same : one ≡ cause = cc in no_event one cause place same refl named

      refused_for : (why : Refusal) → said_by_house config events (command.Post checked) ≡ Err why → cause_of config events (command.Post checked) (Err why) ≡ Some cause → IsTold
      refused_for refusal.Syntax said e = absurd (cc)
      refused_for (refusal.Field called) said e = absurd (cc)
      refused_for refusal.UnknownParty said e = absurd (cc)
      refused_for refusal.NotYours said e = absurd (cc)
      refused_for refusal.WrongCurrency said e = absurd (cc)
      refused_for refusal.BadDates said e = absurd (cc)
      refused_for refusal.TariffNotGiven said e = absurd (cc)
      refused_for refusal.UnsupportedRestriction said e = absurd (cc)
      refused_for refusal.Reservation said e = absurd (cc)
      refused_for refusal.EnergyMismatch said e = absurd (cc)
      refused_for refusal.AmountTooLarge said e = absurd (cc)
      refused_for (refusal.CostMismatch rated) said e = absurd (cc)
      refused_for refusal.Conflict said e =
          given refusal.Conflict (λ bad. absurd (cc)) e (conflict_named config events checked (is_for config events checked refusal.Conflict said) cause place e named)
      refused_for refusal.TariffNotRegistered said e =
          inl (version_named config events checked tariffs equal base legal (is_for config events checked refusal.TariffNotRegistered said) cause place e named)
      refused_for refusal.UnknownToken said e = absurd (cc)
      refused_for refusal.UnknownHold said e = absurd (cc)
      refused_for refusal.UnknownOriginal said e = absurd (no_reference checked.cdr.credit e)
      refused_for refusal.CreditOfCredit said e =
          given refusal.CreditOfCredit (λ bad. absurd (cc)) e (of_credit_named config events checked (is_for config events checked refusal.CreditOfCredit said) cause place e named)
      refused_for refusal.AlreadyCredited said e =
          given refusal.AlreadyCredited (λ bad. absurd (cc)) e
          (again_named cdrs credits base config events checked legal (is_for config events checked refusal.AlreadyCredited said) cause place e named)
      refused_for refusal.CreditDiffers said e =
          given refusal.CreditDiffers (λ bad. absurd (cc)) e (differs_named config events checked (is_for config events checked refusal.CreditDiffers said) cause place e named)
      refused_for (refusal.NotCurrent current) said e = absurd (cc)
      refused_for refusal.PeriodOpen said e = absurd (cc)
      refused_for refusal.AlreadySettled said e = absurd (cc)
      refused_for refusal.UnknownCdr said e = absurd (cc)
      refused_for (refusal.Full what) said e =
          let one = full config (command.Post checked) what in let same : one ≡ cause = cc in absurd (no_event one cause place same refl named)
      refused_for (refusal.OverLimit exposure limit pair) said e =
          let one = above_limit exposure limit pair in let same : one ≡ cause = cc in absurd (no_event one cause place same refl named)
      refused_for (refusal.TooLate original current) said e =
          let one = too_late original current in let same : one ≡ cause = cc in absurd (no_event one cause place same refl named)
      refused_for refusal.NoMemory said e = absurd (cc)

      by : (reply : Result Answer Refusal) → said_by_house config events (command.Post checked) ≡ reply → cause_of config events (command.Post checked) reply ≡ Some cause → IsTold
      by (Err why) said e = refused_for why said e
      by (Ok answer.Stored) said e = absurd (cc)
      by (Ok answer.Unchanged) said e = absurd (cc)
      by (Ok (answer.Allowed reference)) said e = absurd (cc)
      by (Ok answer.Blocked) said e = absurd (cc)
      by (Ok (answer.NoCredit over)) said e = let one = not_covered over in let same : one ≡ cause = cc in absurd (no_event one cause place same refl named)
      by (Ok (answer.Released amount)) said e = absurd (cc)
      by (Ok (answer.Accepted amount period)) said e = absurd (cc)
      by (Ok (answer.Repeated amount period)) said e = absurd (cc)
      by (Ok (answer.Closed period positions)) said e = absurd (cc)
      by (Ok (answer.Settled amount)) said e = absurd (cc)
      by (Ok (answer.Exposure holds debts limit)) said e = absurd (cc)
      by (Ok (answer.Found amount period credited)) said e = absurd (cc)
      by (Ok (answer.Statement rows)) said e = absurd (cc)

  pub post_named : cause_after config events (command.Post checked) ≡ Some cause → cause.event ≡ Some place → (cause.reason ≡ reason.RegisteredOtherwise → ⊥)
      → IsGivenByEvent config events (command.Post checked) cause place
  post_named h named unlike = by (told h named)
    where
      by : IsTold → IsGivenByEvent config events (command.Post checked) cause place
      by (inl its) = absurd (unlike its.0)
      by (inr its) = its.1

  pub registered_named : cause_after config events (command.Post checked) ≡ Some cause → cause.event ≡ Some place → cause.reason ≡ reason.RegisteredOtherwise
      → IsGivenByVersion config events checked cause place
  registered_named h named like = by (told h named)
    where
      by : IsTold → IsGivenByVersion config events checked cause place
      by (inl its) = its.1
      by (inr its) = absurd (its.0 like)

-- ---- commands whose causes name no event

-- a cause that names none
same_none : (one cause : HouseCause) → one ≡ cause → one.event ≡ None → cause.event ≡ None
same_none one cause same none = ap (λ (c : HouseCause). c.event) (sym same) ∙ none

module _ (config : Config) (events : List Event) where
  full_none : (asked : Command) (what : Store) (cause : HouseCause) → Some (full config asked what) ≡ Some cause → cause.event ≡ None
  full_none asked what cause e = let same : full config asked what ≡ cause = cc in same_none (full config asked what) cause same refl

  pub token_none : (token : Token) → NamesNoEvent config events (command.PutToken token)
  token_none token cause h = by _ h
    where
      by : (room : Option Store) → cause_of config events (command.PutToken token) (unless (refused_at room ∷ []) (accepts answer.Stored (event.Token token))).reply ≡ Some cause
          → cause.event ≡ None
      by None e = absurd (cc)
      by (Some what) e = full_none (command.PutToken token) what cause e

  pub close_none : (close : Close) → NamesNoEvent config events (command.Close close)
  close_none close cause h = by (close.period == period_of events) _ h
    where
      by : (same : Bool) (room : Option Store)
          → cause_of config events (command.Close close)
          (unless ((if same then None else Some (Err (refusal.NotCurrent (period_of events)))) ∷ refused_at room ∷ [])
          (accepts (answer.Closed close.period (positions_in config (book_entries events) close.period)) (event.Closed close.period))).reply ≡ Some cause
          → cause.event ≡ None
      by false room e = let one = not_current close.period (period_of events) in let same : one ≡ cause = cc in same_none one cause same refl
      by true None e = absurd (cc)
      by true (Some what) e = full_none (command.Close close) what cause e

  pub exposure_none : (ask : ExposureOf) → NamesNoEvent config events (command.Exposure ask)
  exposure_none ask cause h = absurd (cc)

  pub find_none : (find : Find) → NamesNoEvent config events (command.Find find)
  find_none find cause h = by (booked_as find.operator find.id (book_entries events)) h
    where
      by : (found : Option Booked) → cause_of config events (command.Find find) (found_of find (book_entries events) found).reply ≡ Some cause → cause.event ≡ None
      by None e = let same : no_cdr find ≡ cause = cc in same_none (no_cdr find) cause same refl
      by (Some found) e = absurd (cc)

  pub statement_none : (ask : StatementOf) → NamesNoEvent config events (command.Statement ask)
  statement_none ask cause h = by (nat_lt ask.period (period_of events)) _ (λ bad. absurd (cc)) h
    where
      by : (closed : Bool) (rows : Verdict) → (cause_of config events (command.Statement ask) rows.reply ≡ Some cause → ⊥)
          → cause_of config events (command.Statement ask) (unless ((if closed then None else Some (Err refusal.PeriodOpen)) ∷ []) rows).reply ≡ Some cause
          → cause.event ≡ None
      by true rows none e = absurd (none e)
      by false rows none e = let same : not_closed events ask.period ≡ cause = cc in same_none (not_closed events ask.period) cause same refl
