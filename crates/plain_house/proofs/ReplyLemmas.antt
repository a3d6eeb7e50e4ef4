-- What is so of each verdict, by what is so of each reply that can be given.
use Rattle.std.proofs.Common.{◌≡◌, ℕ, ℤ, pos, neg_ℤ, List, [], ◌∷◌, ◌++◌, ◌==◌, Bool, true, false, not, nat_lt, refl, Option, None, Some, Ok, Err, if◌then◌else◌}
use Rattle.std.specs.Option.{option_or}
use Rattle.ocpi_types.specs.declared.cdr.Cdr.{Cdr}
use Rattle.ocpi_types.specs.declared.config.Config.{Config}
use Rattle.ocpi_types.specs.declared.refusal.Refusal.{Refusal}
use Rattle.ocpi_types.specs.declared.refusal.Refusal.TheVariants as refusal
use Rattle.ocpi_types.specs.declared.refusal.Store.{Store}
use Rattle.ocpi_types.specs.declared.refusal.Store.TheVariants as store
use Rattle.ocpi_types.specs.declared.party.Party.{Party}
use Rattle.ocpi_types.specs.declared.tariff.Tariff.{Tariff}
use Rattle.ocpi_types.specs.declared.token.Token.{Token}
use Rattle.ocpi_types.specs.Cdr.{is_credit}
use Rattle.ocpi_types.specs.Config.{limit_of, pair_limit_of}
use Rattle.ocpi_types.specs.SameCdr.{same_cdr}
use Rattle.ocpi_types.specs.SameTariff.{same_tariff}
use Rattle.cdr_checks.specs.declared.request.Find.{Find}
use Rattle.cdr_checks.specs.declared.request.Release.{Release}
use Rattle.cdr_checks.specs.declared.request.Settlement.{Settlement}
use Rattle.cdr_checks.specs.declared.request.Command.{Command}
use Rattle.cdr_checks.specs.declared.request.Command.TheVariants as command
use Rattle.cdr_checks.specs.declared.request.StatementOf.{StatementOf}
use Rattle.cdr_checks.specs.FirstRefusal.{◌>>=◌, ensure, or_refusal}
use Rattle.plain_house.specs.declared.answer.Answer.TheVariants as answer
use Rattle.plain_house.specs.declared.entry.AccountEntry.{AccountEntry}
use Rattle.plain_house.specs.declared.entry.AccountEntry.TheVariants as account
use Rattle.plain_house.specs.declared.entry.BookEntry.{BookEntry}
use Rattle.plain_house.specs.declared.entry.Charge.{Charge}
use Rattle.plain_house.specs.declared.event.Event.TheVariants as event
use Rattle.plain_house.specs.declared.event.Hold.{Hold}
use Rattle.plain_house.specs.declared.over_limit.OverLimit.{OverLimit}
use Rattle.plain_house.specs.Booked.{Booked, booked_as, is_credited}
use Rattle.plain_house.specs.Entries.{charge_of}
use Rattle.plain_house.specs.Exposure.{debts_of, exposure_of, holds_of, of_pair, of_provider, released_hold}
use Rattle.plain_house.specs.House.{allows, cdr_posted, credit_posted, credit_taken, found_of, full_for, full_for_cdr, hold_for, over_credit, positions_in, post_of, release_of, stored_already, unless_covered, unless_current, unless_open, unless_settled, unless_valid, verdict}
use Rattle.plain_house.specs.Known.{Known}
use Rattle.plain_house.specs.Posting.{above, above_if_any, booked_already, credited_amount, is_in_window, meets_original, original_of, over_limit, taken_back, unless_registered}
use Rattle.plain_house.specs.Replies.{is_refusal_no_memory}
use Rattle.netting_positions.specs.Statement.{statement_rows}
use Rattle.plain_house.specs.Obligations.{obligations}
use Rattle.plain_house.specs.Full.{are_cdrs_full, are_periods_full, are_versions_full, first_full, is_account_full, is_order_full}
use Rattle.plain_house.specs.Settlements.{is_settled, settled_debt}
use Rattle.plain_house.specs.Tariffs.{lacks_registered, stored_version}
use Rattle.plain_house.specs.Tokens.{validity}
use Rattle.plain_house.specs.Verdict.{Case, Verdict, accepts, refused_at, refused_for, replies, unless}

-- it is so of each reply that ends a command before its last case, and of what each command comes to in the last
pub record IsOfEach (config : Config) (known : Known) (Is : Verdict → Type 0) : Type 0 where
  pub refused : (why : Refusal) → is_refusal_no_memory why ≡ false → Is (replies (Err why))
  pub unchanged : Is (replies (Ok answer.Unchanged))
  pub blocked : Is (replies (Ok answer.Blocked))
  pub no_credit : (over : OverLimit) → Is (replies (Ok (answer.NoCredit over)))
  pub repeated : (amount : ℤ) (period : ℕ) → Is (replies (Ok (answer.Repeated amount period)))
  pub tariff : (tariff : Tariff) → Is (accepts answer.Stored (event.Tariff tariff))
  pub token : (token : Token) → Is (accepts answer.Stored (event.Token token))
  pub allowed : (hold : Hold) → Is (allows hold)
  pub released : (amount : ℤ) (release : Release) → Is (accepts (answer.Released amount) (event.Released release))
  pub cdr : (amount : ℤ) (cdr : Cdr) (cost : ℕ) → Is (accepts (answer.Accepted amount known.period) (event.Cdr cdr cost))
  pub credit : (amount : ℤ) (cdr : Cdr) → Is (accepts (answer.Accepted amount known.period) (event.Credit cdr amount))
  pub closed : (period : ℕ) → Is (accepts (answer.Closed period (positions_in config known.book period)) (event.Closed period))
  pub settled : (amount : ℤ) (settlement : Settlement) → Is (accepts (answer.Settled amount) (event.Settled settlement))
  pub exposure : (holds debts limit : ℤ) → Is (replies (Ok (answer.Exposure holds debts limit)))
  pub found : (amount : ℤ) (period : ℕ) (credited : Bool) → Is (replies (Ok (answer.Found amount period credited)))
  pub statement : (ask : StatementOf) → Is (replies (Ok (answer.Statement (statement_rows ask.party (obligations ask.period known.book)))))

module _ (config : Config) (known : Known) (Is : Verdict → Type 0) (each : IsOfEach config known Is) where
  -- ---- cases

  abbrev CaseIs : Case → Type 0
  CaseIs None = Unit {0}
  CaseIs (Some reply) = Is (replies reply)

  abbrev AreAll : List Case → Type 0
  AreAll [] = Unit {0}
  AreAll (case ∷ cases) = CaseIs case × AreAll cases

  is_unless : (cases : List Case) (last : Verdict) → AreAll cases → Is last → Is (unless cases last)
  is_unless [] last all h = h
  is_unless (None ∷ cases) last all h = is_unless cases last all.1 h
  is_unless (Some reply ∷ cases) last all h = all.0

  full_is : (full : Option Store) → CaseIs (refused_at full)
  full_is None = tt
  full_is (Some what) = each.refused (refusal.Full what) refl

  stored_is : (tariff : Tariff) (stored : Option Tariff) → CaseIs (stored_already tariff stored)
  stored_is tariff None = tt
  stored_is tariff (Some stored) = by (same_tariff stored tariff)
    where
      by : (same : Bool) → Is (replies (if same then Ok answer.Unchanged else Err refusal.Conflict))
      by true = each.unchanged
      by false = each.refused refusal.Conflict refl

  valid_is : (valid : Option Bool) → CaseIs (unless_valid valid)
  valid_is None = each.refused refusal.UnknownToken refl
  valid_is (Some true) = tt
  valid_is (Some false) = each.blocked

  covered_is : (over : Option OverLimit) → CaseIs (unless_covered over)
  covered_is None = tt
  covered_is (Some over) = each.no_credit over

  settled_is : (settled : Bool) → CaseIs (unless_settled settled)
  settled_is true = each.refused refusal.AlreadySettled refl
  settled_is false = tt

  refused_is : (b : Bool) (why : Refusal) → is_refusal_no_memory why ≡ false → CaseIs (if b then None else Some (Err why))
  refused_is true why h = tt
  refused_is false why h = each.refused why h

  above_is : (limit exposure : ℕ) (pair : Bool) → CaseIs (refused_for (above limit exposure pair))
  above_is limit exposure pair = by (nat_lt limit exposure)
    where
      by : (b : Bool) → CaseIs (refused_for (if b then Some (refusal.OverLimit (pos exposure) (pos limit) pair) else None))
      by true = each.refused (refusal.OverLimit (pos exposure) (pos limit) pair) refl
      by false = tt

  above_any_is : (limit : Option ℕ) (exposure : ℕ) → CaseIs (refused_for (above_if_any limit exposure))
  above_any_is None exposure = tt
  above_any_is (Some limit) exposure = above_is limit exposure true

  either_is : (one other : Option Refusal) → CaseIs (refused_for one) → CaseIs (refused_for other) → CaseIs (refused_for (option_or one other))
  either_is None other a b = b
  either_is (Some why) other a b = a

  over_is : (charge : Charge) (entries : List AccountEntry) → CaseIs (refused_for (over_limit config charge entries))
  over_is charge entries =
      either_is
      (above (limit_of config charge.provider charge.currency) (exposure_of (of_provider charge.provider charge.currency) (entries ++ account.Charge charge ∷ [])) false)
      (above_if_any (pair_limit_of config charge.operator charge.provider charge.currency) (exposure_of (of_pair charge.operator charge.provider charge.currency) (entries ++ account.Charge charge ∷ [])))
      (above_is (limit_of config charge.provider charge.currency) (exposure_of (of_provider charge.provider charge.currency) (entries ++ account.Charge charge ∷ [])) false)
      (above_any_is (pair_limit_of config charge.operator charge.provider charge.currency) (exposure_of (of_pair charge.operator charge.provider charge.currency) (entries ++ account.Charge charge ∷ [])))

  -- ---- posts

  booked_is : (cdr : Cdr) (found : Option Booked) → CaseIs (booked_already cdr found)
  booked_is cdr None = tt
  booked_is cdr (Some found) = by (same_cdr found.cdr cdr)
    where
      by : (same : Bool) → Is (replies (if same then Ok (answer.Repeated found.amount found.period) else Err refusal.Conflict))
      by true = each.repeated found.amount found.period
      by false = each.refused refusal.Conflict refl

  registered_is : (lacks : Bool) → CaseIs (unless_registered lacks)
  registered_is true = each.refused refusal.TariffNotRegistered refl
  registered_is false = tt

  room_is : (cdr : Cdr) → CaseIs (full_for_cdr config known cdr)
  room_is cdr =
      full_is (first_full ((store.Cdrs, are_cdrs_full config cdr.operator known.book) ∷ (store.Account, is_account_full config cdr.cdr_token.provider known.account) ∷ (store.Order, is_order_full config known.point) ∷ []))

  cdr_is : (cdr : Cdr) (cost : ℕ) → Is (cdr_posted config known cdr cost)
  cdr_is cdr cost =
      let found = booked_as cdr.operator cdr.id known.book in
      let over = over_limit config (charge_of cdr cost known.period) known.account in
      is_unless (booked_already cdr found ∷ unless_registered (lacks_registered cdr known.book) ∷ full_for_cdr config known cdr ∷ refused_for over ∷ [])
      (accepts (answer.Accepted (pos cost) known.period) (event.Cdr cdr cost))
      (booked_is cdr found, (registered_is (lacks_registered cdr known.book), (room_is cdr, (over_is (charge_of cdr cost known.period) known.account, tt))))
      (each.cdr (pos cost) cdr cost)

  back_is : (period : ℕ) (credit : Cdr) (credited : Bool) (original : Booked) → Is (credit_taken config known credit (taken_back config period credit credited original))
  back_is period credit credited original =
      by (not (is_credit original.cdr)) (not credited) (is_in_window config.credit_window original.period period) (meets_original config credit original)
    where
      by : (a b c d : Bool) → Is (credit_taken config known credit (ensure a refusal.CreditOfCredit >>= λ _. (ensure b refusal.AlreadyCredited >>= λ _.
          (ensure c (refusal.TooLate original.period period) >>= λ _. (ensure d refusal.CreditDiffers >>= λ _. Ok (neg_ℤ original.amount))))))
      by true true true true =
          is_unless (full_for_cdr config known credit ∷ []) (accepts (answer.Accepted (neg_ℤ original.amount) known.period) (event.Credit credit (neg_ℤ original.amount)))
          (room_is credit, tt) (each.credit (neg_ℤ original.amount) credit)
      by true true true false = each.refused refusal.CreditDiffers refl
      by true true false d = each.refused (refusal.TooLate original.period period) refl
      by true false c d = each.refused refusal.AlreadyCredited refl
      by false b c d = each.refused refusal.CreditOfCredit refl

  taken_is : (period : ℕ) (credit : Cdr) (entries : List BookEntry) → Is (credit_taken config known credit (credited_amount config period credit entries))
  taken_is period credit entries = by (original_of credit entries)
    where
      by : (o : Option Booked) → Is (credit_taken config known credit (or_refusal refusal.UnknownOriginal o >>= λ original. taken_back config period credit (is_credited original.cdr.operator original.cdr.id entries) original))
      by None = each.refused refusal.UnknownOriginal refl
      by (Some original) = back_is period credit (is_credited original.cdr.operator original.cdr.id entries) original

  credit_is : (credit : Cdr) → Is (credit_posted config known credit)
  credit_is credit =
      let found = booked_as credit.operator credit.id known.book in
      is_unless (booked_already credit found ∷ []) (credit_taken config known credit (credited_amount config known.period credit known.book))
      (booked_is credit found, tt) (taken_is known.period credit known.book)

  post_is : (cdr : Cdr) (cost : Option ℕ) → Is (post_of config known cdr cost)
  post_is cdr None = credit_is cdr
  post_is cdr (Some cost) = cdr_is cdr cost

  -- ---- commands

  abbrev room_for : Party → Option Store
  room_for provider = first_full ((store.Account, is_account_full config provider known.account) ∷ (store.Order, is_order_full config known.point) ∷ [])

  release_is : (release : Release) (hold : Option Hold) → Is (release_of config known release hold)
  release_is release None = each.refused refusal.UnknownHold refl
  release_is release (Some hold) =
      is_unless (full_for config known release.provider ∷ []) (accepts (answer.Released (pos hold.amount)) (event.Released release))
      (full_is (room_for release.provider), tt) (each.released (pos hold.amount) release)

  found_is : (find : Find) (found : Option Booked) → Is (found_of find known.book found)
  found_is find None = each.refused refusal.UnknownCdr refl
  found_is find (Some found) = each.found found.amount found.period (is_credited find.operator find.id known.book)

  pub is_so : (given : Command) → Is (verdict config known given)
  is_so (command.PutTariff tariff) =
      let stores = (store.Tariffs, are_versions_full config tariff.operator known.book) ∷ (store.Order, is_order_full config known.point) ∷ [] in
      is_unless (stored_already tariff (stored_version tariff known.book) ∷ refused_at (first_full stores) ∷ []) (accepts answer.Stored (event.Tariff tariff))
      (stored_is tariff (stored_version tariff known.book), (full_is (first_full stores), tt)) (each.tariff tariff)
  is_so (command.PutToken token) =
      is_unless (full_for config known token.provider ∷ []) (accepts answer.Stored (event.Token token)) (full_is (room_for token.provider), tt) (each.token token)
  is_so (command.Authorize ask) =
      let valid = validity ask.provider ask.uid ask.kind known.account in
      let over = over_credit config ask known.account in
      is_unless (unless_valid valid ∷ full_for config known ask.provider ∷ unless_covered over ∷ []) (allows (hold_for config ask known.account))
      (valid_is valid, (full_is (room_for ask.provider), (covered_is over, tt))) (each.allowed (hold_for config ask known.account))
  is_so (command.Release release) = release_is release (released_hold known.account release)
  is_so (command.Post checked) = post_is checked.cdr checked.cost
  is_so (command.Close close) =
      let stores = (store.Order, is_order_full config known.point) ∷ (store.Periods, are_periods_full config known.period) ∷ [] in
      is_unless (unless_current close.period known.period ∷ refused_at (first_full stores) ∷ [])
      (accepts (answer.Closed close.period (positions_in config known.book close.period)) (event.Closed close.period))
      (refused_is (close.period == known.period) (refusal.NotCurrent known.period) refl, (full_is (first_full stores), tt)) (each.closed close.period)
  is_so (command.Settle settlement) =
      let settled = is_settled settlement known.account in
      is_unless (unless_open settlement.period known.period ∷ unless_settled settled ∷ full_for config known settlement.provider ∷ [])
      (accepts (answer.Settled (pos (settled_debt settlement known.account))) (event.Settled settlement))
      (refused_is (nat_lt settlement.period known.period) refusal.PeriodOpen refl, (settled_is settled, (full_is (room_for settlement.provider), tt)))
      (each.settled (pos (settled_debt settlement known.account)) settlement)
  is_so (command.Exposure ask) =
      each.exposure (pos (holds_of (of_provider ask.provider ask.currency) known.account)) (pos (debts_of (of_provider ask.provider ask.currency) known.account)) (pos (limit_of config ask.provider ask.currency))
  is_so (command.Find find) = found_is find (booked_as find.operator find.id known.book)
  is_so (command.Statement ask) =
      is_unless (unless_open ask.period known.period ∷ []) (replies (Ok (answer.Statement (statement_rows ask.party (obligations ask.period known.book)))))
      (refused_is (nat_lt ask.period known.period) refusal.PeriodOpen refl, tt) (each.statement ask)
