-- What is so of the events after which the house refuses a CDR or a Credit CDR.
use Rattle.std.proofs.Common.{◌≡◌, ◌∙◌, ℕ, ℤ, pos, neg_ℤ, List, [], ◌∷◌, ◌++◌, Bool, true, false, not, if◌then◌else◌, Option, Some, None, Result, Ok, Err, refl, ap, subst, option_and_then}
use Rattle.std.specs.Option.{option_or}
use Rattle.std.specs.Prelude.{nat_lt}
use Rattle.std.proofs.lemmas.Bool.{not-false, not-true}
use Rattle.ocpi_types.specs.Cdr.{is_credit}
use Rattle.ocpi_types.specs.Config.{limit_of, pair_limit_of}
use Rattle.ocpi_types.specs.SameCdr.{same_cdr}
use Rattle.ocpi_types.specs.declared.config.Config.{Config}
use Rattle.ocpi_types.specs.declared.refusal.Refusal.{Refusal}
use Rattle.ocpi_types.specs.declared.refusal.Refusal.TheVariants as refusal
use Rattle.ocpi_types.specs.declared.refusal.Store.{Store}
use Rattle.cdr_checks.specs.Checked.{Checked}
use Rattle.cdr_checks.specs.FirstRefusal.{◌>>=◌, ensure, or_refusal}
use Rattle.cdr_checks.specs.declared.request.Command.TheVariants as command
use Rattle.plain_house.specs.Booked.{Booked, booked_as, is_credited}
use Rattle.plain_house.specs.Entries.{account_entries, book_entries, charge_of, period_of}
use Rattle.plain_house.specs.Exposure.{exposure_of, of_pair, of_provider}
use Rattle.plain_house.specs.House.{cdr_posted, credit_posted, credit_taken, full_for_cdr, post_of}
use Rattle.plain_house.specs.Known.{known}
use Rattle.plain_house.specs.Posting.{above, above_if_any, booked_already, credited_amount, is_in_window, meets_original, over_limit, taken_back, unless_registered}
use Rattle.plain_house.specs.Tariffs.{lacks_registered}
use Rattle.plain_house.specs.Verdict.{Case, Verdict, accepts, refused_at, refused_for, unless}
use Rattle.plain_house.specs.declared.answer.Answer.{Answer}
use Rattle.plain_house.specs.declared.answer.Answer.TheVariants as answer
use Rattle.plain_house.specs.declared.entry.AccountEntry.{AccountEntry}
use Rattle.plain_house.specs.declared.entry.AccountEntry.TheVariants as account
use Rattle.plain_house.specs.declared.entry.Charge.{Charge}
use Rattle.plain_house.specs.declared.event.Event.{Event}
use Rattle.plain_house.specs.declared.event.Event.TheVariants as event
use Rattle.house_causes.specs.Laws.{said_by_house}

-- ---- by what the house refuses it for

-- its id is not booked
abbrev pub IsNew : List Event → Checked → Type 0
IsNew events checked = booked_as checked.cdr.operator checked.cdr.id (book_entries events) ≡ None

-- another CDR is booked under its id
pub record IsBookedOtherwise (events : List Event) (checked : Checked) : Type 0 where
  pub found : Booked
  pub stands : booked_as checked.cdr.operator checked.cdr.id (book_entries events) ≡ Some found
  pub other : same_cdr found.cdr checked.cdr ≡ false

-- it is no Credit CDR, and a tariff of it is not registered
pub record Lacks (events : List Event) (checked : Checked) : Type 0 where
  pub cost : ℕ
  pub priced : checked.cost ≡ Some cost
  pub new : IsNew events checked
  pub lacks : lacks_registered checked.cdr (book_entries events) ≡ true

-- it is a Credit CDR, and the CDR that it names is booked
pub record HasOriginal (events : List Event) (checked : Checked) : Type 0 where
  pub costless : checked.cost ≡ None
  pub new : IsNew events checked
  pub id : List ℕ
  pub named : checked.cdr.credit ≡ Some id
  pub original : Booked
  pub stands : booked_as checked.cdr.operator id (book_entries events) ≡ Some original

pub record NamesCredit (events : List Event) (checked : Checked) : Type 0 where
  pub its : HasOriginal events checked
  pub of_credit : is_credit its.original.cdr ≡ true

abbrev pub credited_in : List Event → Booked → Bool
credited_in events original = is_credited original.cdr.operator original.cdr.id (book_entries events)

pub record IsCreditedAgain (events : List Event) (checked : Checked) : Type 0 where
  pub its : HasOriginal events checked
  pub of_cdr : is_credit its.original.cdr ≡ false
  pub again : credited_in events its.original ≡ true

pub record Differs (config : Config) (events : List Event) (checked : Checked) : Type 0 where
  pub its : HasOriginal events checked
  pub of_cdr : is_credit its.original.cdr ≡ false
  pub once : credited_in events its.original ≡ false
  pub within : is_in_window config.credit_window its.original.period (period_of events) ≡ true
  pub differs : meets_original config checked.cdr its.original ≡ false

module _ (config : Config) (events : List Event) (checked : Checked) where
  abbrev pub IsFor : Refusal → Type 0
  IsFor refusal.Syntax = Unit {0}
  IsFor (refusal.Field called) = Unit {0}
  IsFor refusal.UnknownParty = Unit {0}
  IsFor refusal.NotYours = Unit {0}
  IsFor refusal.WrongCurrency = Unit {0}
  IsFor refusal.BadDates = Unit {0}
  IsFor refusal.TariffNotGiven = Unit {0}
  IsFor refusal.UnsupportedRestriction = Unit {0}
  IsFor refusal.Reservation = Unit {0}
  IsFor refusal.EnergyMismatch = Unit {0}
  IsFor refusal.AmountTooLarge = Unit {0}
  IsFor (refusal.CostMismatch rated) = Unit {0}
  IsFor refusal.Conflict = IsBookedOtherwise events checked
  IsFor refusal.TariffNotRegistered = Lacks events checked
  IsFor refusal.UnknownToken = Unit {0}
  IsFor refusal.UnknownHold = Unit {0}
  IsFor refusal.UnknownOriginal = Unit {0}
  IsFor refusal.CreditOfCredit = NamesCredit events checked
  IsFor refusal.AlreadyCredited = IsCreditedAgain events checked
  IsFor refusal.CreditDiffers = Differs config events checked
  IsFor (refusal.NotCurrent current) = Unit {0}
  IsFor refusal.PeriodOpen = Unit {0}
  IsFor refusal.AlreadySettled = Unit {0}
  IsFor refusal.UnknownCdr = Unit {0}
  IsFor (refusal.Full what) = Unit {0}
  IsFor (refusal.OverLimit exposure limit pair) = Unit {0}
  IsFor (refusal.TooLate original current) = Unit {0}
  IsFor refusal.NoMemory = Unit {0}

  abbrev ReplyIs : Result Answer Refusal → Type 0
  ReplyIs (Ok answer) = Unit {0}
  ReplyIs (Err why) = IsFor why

  abbrev CaseIs : Case → Type 0
  CaseIs None = Unit {0}
  CaseIs (Some reply) = ReplyIs reply

  abbrev AmountIs : Result ℤ Refusal → Type 0
  AmountIs (Ok amount) = Unit {0}
  AmountIs (Err why) = IsFor why

  abbrev AllAre : List Case → Type 0
  AllAre [] = Unit {0}
  AllAre (case ∷ cases) = CaseIs case × AllAre cases

  -- ---- cases in order

  unless_is : (cases : List Case) (otherwise : Verdict) → AllAre cases → ReplyIs otherwise.reply → ReplyIs (unless cases otherwise).reply
  unless_is [] otherwise all last = last
  unless_is (None ∷ cases) otherwise all last = unless_is cases otherwise all.1 last
  unless_is (Some reply ∷ cases) otherwise all last = all.0

  full_is : (full : Option Store) → CaseIs (refused_at full)
  full_is None = tt
  full_is (Some what) = tt

  ensure_is : (b : Bool) (why : Refusal) (next : Unit {0} → Result ℤ Refusal) → (b ≡ false → IsFor why) → (b ≡ true → AmountIs (next tt))
      → AmountIs (ensure b why >>= next)
  ensure_is true why next here later = later refl
  ensure_is false why next here later = here refl

  limit_is : (one other : Option Refusal) → CaseIs (refused_for one) → CaseIs (refused_for other) → CaseIs (refused_for (option_or one other))
  limit_is None other h k = k
  limit_is (Some why) other h k = h

  above_is : (limit exposure : ℕ) (pair : Bool) → CaseIs (refused_for (above limit exposure pair))
  above_is limit exposure pair = by (nat_lt limit exposure)
    where
      by : (b : Bool) → CaseIs (refused_for (if b then Some (refusal.OverLimit (pos exposure) (pos limit) pair) else None))
      by true = tt
      by false = tt

  above_any_is : (limit : Option ℕ) (exposure : ℕ) → CaseIs (refused_for (above_if_any limit exposure))
  above_any_is None exposure = tt
  above_any_is (Some limit) exposure = above_is limit exposure true

  over_is : (charge : Charge) (entries : List AccountEntry) → CaseIs (refused_for (over_limit config charge entries))
  over_is charge entries =
      let limit = limit_of config charge.provider charge.currency in
      let exposure = exposure_of (of_provider charge.provider charge.currency) (entries ++ account.Charge charge ∷ []) in
      let pair_limit = pair_limit_of config charge.operator charge.provider charge.currency in
      let pair_exposure = exposure_of (of_pair charge.operator charge.provider charge.currency) (entries ++ account.Charge charge ∷ []) in
      limit_is (above limit exposure false) (above_if_any pair_limit pair_exposure) (above_is limit exposure false) (above_any_is pair_limit pair_exposure)

  booked_is : (found : Option Booked) → booked_as checked.cdr.operator checked.cdr.id (book_entries events) ≡ found → CaseIs (booked_already checked.cdr found)
  booked_is None is = tt
  booked_is (Some found) is = by (same_cdr found.cdr checked.cdr) refl
    where
      by : (b : Bool) → same_cdr found.cdr checked.cdr ≡ b → ReplyIs (if b then Ok (answer.Repeated found.amount found.period) else Err refusal.Conflict)
      by true same = tt
      by false other = record { found = found; stands = is; other = other }

  -- ---- a CDR

  registered_is : (cost : ℕ) → checked.cost ≡ Some cost → IsNew events checked → (lacks : Bool) → lacks_registered checked.cdr (book_entries events) ≡ lacks
      → CaseIs (unless_registered lacks)
  registered_is cost priced new true is = record { cost = cost; priced = priced; new = new; lacks = is }
  registered_is cost priced new false is = tt

  cdr_is : (cost : ℕ) → checked.cost ≡ Some cost → ReplyIs (cdr_posted config (known events) checked.cdr cost).reply
  cdr_is cost priced = by (booked_as checked.cdr.operator checked.cdr.id (book_entries events)) refl
    where
      charge : Charge
      charge = charge_of checked.cdr cost (period_of events)

      by : (found : Option Booked) → booked_as checked.cdr.operator checked.cdr.id (book_entries events) ≡ found
          → ReplyIs (unless (booked_already checked.cdr found ∷ unless_registered (lacks_registered checked.cdr (book_entries events))
          ∷ full_for_cdr config (known events) checked.cdr ∷ refused_for (over_limit config charge (account_entries events)) ∷ [])
          (accepts (answer.Accepted (pos cost) (period_of events)) (event.Cdr checked.cdr cost))).reply
      by None is =
          unless_is
          (None ∷ unless_registered (lacks_registered checked.cdr (book_entries events)) ∷ full_for_cdr config (known events) checked.cdr
          ∷ refused_for (over_limit config charge (account_entries events)) ∷ [])
          (accepts (answer.Accepted (pos cost) (period_of events)) (event.Cdr checked.cdr cost))
          (tt, (registered_is cost priced is (lacks_registered checked.cdr (book_entries events)) refl, (full_is _, (over_is charge (account_entries events), tt)))) tt
      by (Some found) is = booked_is (Some found) is

  -- ---- a Credit CDR

  module _ (costless : checked.cost ≡ None) (new : IsNew events checked) where
    taken_is : (id : List ℕ) (original : Booked) → checked.cdr.credit ≡ Some id → booked_as checked.cdr.operator id (book_entries events) ≡ Some original
        → AmountIs (taken_back config (period_of events) checked.cdr (credited_in events original) original)
    taken_is id original named stands =
        let its : HasOriginal events checked = record { costless = costless; new = new; id = id; named = named; original = original; stands = stands } in
        let credited = credited_in events original in
        let within = is_in_window config.credit_window original.period (period_of events) in
        ensure_is (not (is_credit original.cdr)) refusal.CreditOfCredit _
        (λ bad. record { its = its; of_credit = not-false (is_credit original.cdr) bad })
        (λ of_cdr. ensure_is (not credited) refusal.AlreadyCredited _
        (λ bad. record { its = its; of_cdr = not-true (is_credit original.cdr) of_cdr; again = not-false credited bad })
        (λ once. ensure_is within (refusal.TooLate original.period (period_of events)) _ (λ bad. tt)
        (λ good. ensure_is (meets_original config checked.cdr original) refusal.CreditDiffers _
        (λ bad. record {
          its = its;
          of_cdr = not-true (is_credit original.cdr) of_cdr;
          once = not-true credited once;
          within = good;
          differs = bad;
        }) (λ same. tt))))

    amount_is : AmountIs (credited_amount config (period_of events) checked.cdr (book_entries events))
    amount_is = by_reference checked.cdr.credit refl
      where
        by_original : (id : List ℕ) → checked.cdr.credit ≡ Some id → (original : Option Booked) → booked_as checked.cdr.operator id (book_entries events) ≡ original
            → AmountIs (or_refusal refusal.UnknownOriginal original >>= λ found. taken_back config (period_of events) checked.cdr (credited_in events found) found)
        by_original id named None stands = tt
        by_original id named (Some original) stands = taken_is id original named stands

        by_reference : (reference : Option (List ℕ)) → checked.cdr.credit ≡ reference
            → AmountIs (or_refusal refusal.UnknownOriginal (option_and_then (λ id. booked_as checked.cdr.operator id (book_entries events)) reference)
            >>= λ found. taken_back config (period_of events) checked.cdr (credited_in events found) found)
        by_reference None is = tt
        by_reference (Some id) is = by_original id is (booked_as checked.cdr.operator id (book_entries events)) refl

    taking_is : (amount : Result ℤ Refusal) → AmountIs amount → ReplyIs (credit_taken config (known events) checked.cdr amount).reply
    taking_is (Err why) its = its
    taking_is (Ok amount) its =
        unless_is (full_for_cdr config (known events) checked.cdr ∷ [])
        (accepts (answer.Accepted amount (period_of events)) (event.Credit checked.cdr amount)) (full_is _, tt) tt

  credit_is : checked.cost ≡ None → ReplyIs (credit_posted config (known events) checked.cdr).reply
  credit_is costless = by (booked_as checked.cdr.operator checked.cdr.id (book_entries events)) refl
    where
      by : (found : Option Booked) → booked_as checked.cdr.operator checked.cdr.id (book_entries events) ≡ found
          → ReplyIs (unless (booked_already checked.cdr found ∷ [])
          (credit_taken config (known events) checked.cdr (credited_amount config (period_of events) checked.cdr (book_entries events)))).reply
      by None is = taking_is costless is (credited_amount config (period_of events) checked.cdr (book_entries events)) (amount_is costless is)
      by (Some found) is = booked_is (Some found) is

  -- ---- either

  post_is : (cost : Option ℕ) → checked.cost ≡ cost → ReplyIs (post_of config (known events) checked.cdr cost).reply
  post_is None costless = credit_is costless
  post_is (Some cost) priced = cdr_is cost priced

  pub is_for : (why : Refusal) → said_by_house config events (command.Post checked) ≡ Err why → IsFor why
  is_for why said = subst ReplyIs said (post_is checked.cost refl)

  -- ---- what the house replies

  pub conflict_reply : (cost : Option ℕ) → IsBookedOtherwise events checked → (post_of config (known events) checked.cdr cost).reply ≡ Err refusal.Conflict
  conflict_reply None its =
      ap (λ (found : Option Booked). (unless (booked_already checked.cdr found ∷ [])
      (credit_taken config (known events) checked.cdr (credited_amount config (period_of events) checked.cdr (book_entries events)))).reply) its.stands
      ∙ ap (λ b. if b then Ok (answer.Repeated its.found.amount its.found.period) else Err refusal.Conflict) its.other
  conflict_reply (Some cost) its =
      ap (λ (found : Option Booked). (unless
      (booked_already checked.cdr found ∷ unless_registered (lacks_registered checked.cdr (book_entries events)) ∷ full_for_cdr config (known events) checked.cdr
      ∷ refused_for (over_limit config (charge_of checked.cdr cost (period_of events)) (account_entries events)) ∷ [])
      (accepts (answer.Accepted (pos cost) (period_of events)) (event.Cdr checked.cdr cost))).reply) its.stands
      ∙ ap (λ b. if b then Ok (answer.Repeated its.found.amount its.found.period) else Err refusal.Conflict) its.other

  pub lacks_reply : Lacks events checked → said_by_house config events (command.Post checked) ≡ Err refusal.TariffNotRegistered
  lacks_reply its =
      let room = full_for_cdr config (known events) checked.cdr in
      let over = refused_for (over_limit config (charge_of checked.cdr its.cost (period_of events)) (account_entries events)) in
      let otherwise = accepts (answer.Accepted (pos its.cost) (period_of events)) (event.Cdr checked.cdr its.cost) in
      let lacks = unless_registered (lacks_registered checked.cdr (book_entries events)) in
      ap (λ (cost : Option ℕ). (post_of config (known events) checked.cdr cost).reply) its.priced
      ∙ ap (λ (found : Option Booked). (unless (booked_already checked.cdr found ∷ lacks ∷ room ∷ over ∷ []) otherwise).reply) its.new
      ∙ ap (λ b. (unless (unless_registered b ∷ room ∷ over ∷ []) otherwise).reply) its.lacks

  -- by whether the original is a Credit CDR, is credited, has its period in the window, and is met
  abbrev taken_by : Bool → Bool → Bool → Bool → Booked → Result ℤ Refusal
  taken_by of_credit credited within meets original = do
    _ ← ensure (not of_credit) refusal.CreditOfCredit
    _ ← ensure (not credited) refusal.AlreadyCredited
    _ ← ensure within (refusal.TooLate original.period (period_of events))
    _ ← ensure meets refusal.CreditDiffers
    Ok (neg_ℤ original.amount)

  module _ (its : HasOriginal events checked) where
    abbrev of_credit : Bool
    of_credit = is_credit its.original.cdr

    abbrev credited : Bool
    credited = credited_in events its.original

    abbrev within : Bool
    within = is_in_window config.credit_window its.original.period (period_of events)

    abbrev meets : Bool
    meets = meets_original config checked.cdr its.original

    abbrev reply_by : Result ℤ Refusal → Result Answer Refusal
    reply_by amount = (credit_taken config (known events) checked.cdr amount).reply

    reply_taken : said_by_house config events (command.Post checked) ≡ reply_by (taken_by of_credit credited within meets its.original)
    reply_taken =
        let entries = book_entries events in
        ap (λ (cost : Option ℕ). (post_of config (known events) checked.cdr cost).reply) its.costless
        ∙ ap (λ (found : Option Booked). (unless (booked_already checked.cdr found ∷ [])
        (credit_taken config (known events) checked.cdr (credited_amount config (period_of events) checked.cdr entries))).reply) its.new
        ∙ ap (λ (reference : Option (List ℕ)). reply_by (or_refusal refusal.UnknownOriginal (option_and_then (λ id. booked_as checked.cdr.operator id entries) reference)
        >>= λ found. taken_back config (period_of events) checked.cdr (credited_in events found) found)) its.named
        ∙ ap (λ (original : Option Booked). reply_by (or_refusal refusal.UnknownOriginal original
        >>= λ found. taken_back config (period_of events) checked.cdr (credited_in events found) found)) its.stands

    pub of_credit_reply : of_credit ≡ true → said_by_house config events (command.Post checked) ≡ Err refusal.CreditOfCredit
    of_credit_reply h = reply_taken ∙ ap (λ b. reply_by (taken_by b credited within meets its.original)) h

    pub again_reply : of_credit ≡ false → credited ≡ true → said_by_house config events (command.Post checked) ≡ Err refusal.AlreadyCredited
    again_reply of_cdr again =
        reply_taken ∙ ap (λ b. reply_by (taken_by b credited within meets its.original)) of_cdr ∙ ap (λ b. reply_by (taken_by false b within meets its.original)) again

    pub differs_reply : of_credit ≡ false → credited ≡ false → within ≡ true → meets ≡ false
        → said_by_house config events (command.Post checked) ≡ Err refusal.CreditDiffers
    differs_reply of_cdr once good differs =
        reply_taken ∙ ap (λ b. reply_by (taken_by b credited within meets its.original)) of_cdr ∙ ap (λ b. reply_by (taken_by false b within meets its.original)) once
        ∙ ap (λ b. reply_by (taken_by false false b meets its.original)) good ∙ ap (λ b. reply_by (taken_by false false true b its.original)) differs
