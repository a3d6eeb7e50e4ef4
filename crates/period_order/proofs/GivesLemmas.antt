-- The event of a command is one that its book takes and its account gives.
use Rattle.std.proofs.Common.{◌≡◌, ◌<◌, ℕ, List, [], ◌∷◌, Bool, true, false, refl, sym, ap, subst, ◌∙◌, length, Option, None, Some, option_map, Result, Ok, Err, IfSome, pos, ℤ}
use Rattle.std.proofs.lemmas.Option.{slice_get_within}
use Rattle.ocpi_types.specs.declared.cdr.Cdr.{Cdr}
use Rattle.ocpi_types.specs.declared.config.Config.{Config}
use Rattle.ocpi_types.specs.declared.party.Party.{Party}
use Rattle.ocpi_types.specs.declared.refusal.Refusal.{Refusal}
use Rattle.ocpi_types.specs.declared.refusal.Store.TheVariants as store
use Rattle.ocpi_types.specs.declared.tariff.Tariff.{Tariff}
use Rattle.cdr_checks.specs.declared.request.Command.{Command}
use Rattle.cdr_checks.specs.declared.request.Command.TheVariants as command
use Rattle.cdr_checks.specs.declared.request.Find.{Find}
use Rattle.cdr_checks.specs.declared.request.Release.{Release}
use Rattle.cdr_checks.specs.Parties.{CommandsHaveParties, HasParties, operator_of_command, provider_of_command}
use Rattle.operator_book.specs.State.{PlainBook}
use Rattle.provider_account.specs.State.{PlainAccount}
use Rattle.netting_positions.specs.Statement.{statement_rows}
use Rattle.plain_house.specs.declared.answer.Answer.{Answer}
use Rattle.plain_house.specs.declared.answer.Answer.TheVariants as answer
use Rattle.plain_house.specs.declared.entry.AccountEntry.{AccountEntry}
use Rattle.plain_house.specs.declared.entry.BookEntry.{BookEntry}
use Rattle.plain_house.specs.declared.event.Event.{Event}
use Rattle.plain_house.specs.declared.event.Event.TheVariants as event
use Rattle.plain_house.specs.declared.event.Hold.{Hold}
use Rattle.plain_house.specs.declared.over_limit.OverLimit.{OverLimit}
use Rattle.plain_house.specs.Booked.{Booked, booked_as}
use Rattle.plain_house.specs.Entries.{account_entries, book_entries, charge_of, period_of}
use Rattle.plain_house.specs.Exposure.{released_hold}
use Rattle.plain_house.specs.Full.{are_periods_full, are_versions_full, first_full, is_order_full}
use Rattle.plain_house.specs.House.{credit_taken, found_of, full_for, full_for_cdr, hold_for, over_credit, positions_in, post_of, release_of, stored_already, unless_covered, unless_current, unless_open, unless_settled, unless_valid, verdict}
use Rattle.plain_house.specs.Known.{Known, known}
use Rattle.plain_house.specs.Legal.{IsGiven}
use Rattle.plain_house.specs.Obligations.{obligations}
use Rattle.plain_house.specs.Own.{EventsAreOfTheirCommand, VerdictsAreOfOwnEntries, of_account, of_operator, own_known}
use Rattle.plain_house.specs.Posting.{booked_already, credited_amount, over_limit, unless_registered}
use Rattle.plain_house.specs.Settlements.{is_settled, settled_debt}
use Rattle.plain_house.specs.Tariffs.{lacks_registered, stored_version}
use Rattle.plain_house.specs.Tokens.{validity}
use Rattle.plain_house.specs.Verdict.{Case, Verdict, accepts, first_reply, refused_at, refused_for, replies, unless}
use Rattle.period_order.specs.Decided.{BookTakes}
use Rattle.period_order.specs.Inner.EventParties.{account_of_event, book_of_event, operator_of_event, provider_of_event}
use Rattle.period_order.specs.Inner.Gives.{AccountGives, AccountGivesAt}
use Rattle.period_order.specs.Inner.Kept.{BookTakesAt}
use Rattle.period_order.specs.Kept.{Keeps}
use Rattle.period_order.specs.Order.{PlainOrder, current_of}
use Rattle.period_order.specs.Places.{operator_number, provider_number}
use Rattle.period_order.specs.Resolved.{entries_of_accounts, entries_of_books}
use Rattle.period_order.proofs.EntryBooksLemmas.{same_operator, same_provider}
use Rattle.period_order.proofs.PerformLemmas.{account_given, book_given, period_kept}

-- ---- cases

-- a verdict that adds an event comes behind all cases
behind_cases : (cases : List Case) (verdict : Verdict) (e : Event) → (unless cases verdict).event ≡ Some e
    → (first_reply cases ≡ None) × (verdict.event ≡ Some e)
behind_cases [] verdict e h = (refl, h)
behind_cases (None ∷ cases) verdict e h = behind_cases cases verdict e h
behind_cases (Some reply ∷ cases) verdict e h = absurd (cc)

none_of : (case : Case) (cases : List Case) → first_reply (case ∷ cases) ≡ None → (case ≡ None) × (first_reply cases ≡ None)
none_of None cases h = (refl, h)
none_of (Some reply) cases h = absurd (cc)

none_stored : (tariff : Tariff) (stored : Option Tariff) → stored_already tariff stored ≡ None → stored ≡ None
none_stored tariff None h = refl
none_stored tariff (Some stored) h = absurd (cc)

covered : (over : Option OverLimit) → unless_covered over ≡ None → over ≡ None
covered None h = refl
covered (Some over) h = absurd (cc)

none_refused : (refusal : Option Refusal) → refused_for refusal ≡ None → refusal ≡ None
none_refused None h = refl
none_refused (Some refusal) h = absurd (cc)

-- ---- the event of a command

module _ (config : Config) (known : Known) where
  -- the book takes the event, and the account gives it
  record IsOwed (e : Event) : Type 0 where
    pub book : BookTakes known.book e
    pub account : AccountGives config known.account known.period e

  -- where no case holds, the event is the one that is accepted
  accepted : (cases : List Case) (answer : Answer) (given e : Event) → (unless cases (accepts answer given)).event ≡ Some e
      → (first_reply cases ≡ None → IsOwed given) → IsOwed e
  accepted cases answer given e h owed =
      let behind = behind_cases cases (accepts answer given) e h in
      let same : given ≡ e = cc (behind.1) in
      subst IsOwed same (owed behind.0)

  posted : (cdr : Cdr) (cost : Option ℕ) (e : Event) → (post_of config known cdr cost).event ≡ Some e → IsOwed e
  posted cdr None e h =
      let behind = behind_cases (booked_already cdr (booked_as cdr.operator cdr.id known.book) ∷ [])
      (credit_taken config known cdr (credited_amount config known.period cdr known.book)) e h in
      by (credited_amount config known.period cdr known.book) behind.1
    where
      by : (amount : Result ℤ Refusal) → (credit_taken config known cdr amount).event ≡ Some e → IsOwed e
      by (Err refusal) g = absurd (cc)
      by (Ok amount) g =
          accepted (full_for_cdr config known cdr ∷ []) (answer.Accepted amount known.period) (event.Credit cdr amount) e g (λ none. record { book = tt; account = tt })
  posted cdr (Some cost) e h =
      let booked : Case = booked_already cdr (booked_as cdr.operator cdr.id known.book) in
      let registered : Case = unless_registered (lacks_registered cdr known.book) in
      let full : Case = full_for_cdr config known cdr in
      let over : Option Refusal = over_limit config (charge_of cdr cost known.period) known.account in
      accepted (booked ∷ registered ∷ full ∷ refused_for over ∷ []) (answer.Accepted (pos cost) known.period) (event.Cdr cdr cost) e h
      (λ none. record {
        book = tt;
        account =
            let behind_booked = (none_of booked (registered ∷ full ∷ refused_for over ∷ []) none).1 in
            let behind_registered = (none_of registered (full ∷ refused_for over ∷ []) behind_booked).1 in
            let behind_full = (none_of full (refused_for over ∷ []) behind_registered).1 in
            none_refused over (none_of (refused_for over) [] behind_full).0;
      })

  released : (release : Release) (hold : Option Hold) (e : Event) → (release_of config known release hold).event ≡ Some e → IsOwed e
  released release None e h = absurd (cc)
  released release (Some hold) e h =
      accepted (full_for config known release.provider ∷ []) (answer.Released (pos hold.amount)) (event.Released release) e h (λ none. record { book = tt; account = tt })

  found : (find : Find) (booked : Option Booked) (e : Event) → (found_of find known.book booked).event ≡ Some e → IsOwed e
  found find None e h = absurd (cc)
  found find (Some booked) e h = absurd (cc)

  is_owed : (told : Command) (e : Event) → (verdict config known told).event ≡ Some e → IsOwed e
  is_owed (command.PutTariff tariff) e h =
      let stored : Case = stored_already tariff (stored_version tariff known.book) in
      let full : Case = refused_at (first_full ((store.Tariffs, are_versions_full config tariff.operator known.book) ∷ (store.Order, is_order_full config known.point) ∷ [])) in
      accepted (stored ∷ full ∷ []) answer.Stored (event.Tariff tariff) e h
      (λ none. record { book = none_stored tariff (stored_version tariff known.book) (none_of stored (full ∷ []) none).0; account = tt })
  is_owed (command.PutToken token) e h =
      accepted (full_for config known token.provider ∷ []) answer.Stored (event.Token token) e h (λ none. record { book = tt; account = tt })
  is_owed (command.Authorize ask) e h =
      let valid : Case = unless_valid (validity ask.provider ask.uid ask.kind known.account) in
      let full : Case = full_for config known ask.provider in
      let over : Option OverLimit = over_credit config ask known.account in
      let hold : Hold = hold_for config ask known.account in
      accepted (valid ∷ full ∷ unless_covered over ∷ []) (answer.Allowed hold.reference) (event.Authorised hold) e h
      (λ none. record {
        book = tt;
        account =
            let behind_valid = (none_of valid (full ∷ unless_covered over ∷ []) none).1 in
            let behind_full = (none_of full (unless_covered over ∷ []) behind_valid).1 in
            (covered over (none_of (unless_covered over) [] behind_full).0, refl);
      })
  is_owed (command.Release release) e h = released release (released_hold known.account release) e h
  is_owed (command.Post checked) e h = posted checked.cdr checked.cost e h
  is_owed (command.Close close) e h =
      accepted
      (unless_current close.period known.period
      ∷ refused_at (first_full ((store.Order, is_order_full config known.point) ∷ (store.Periods, are_periods_full config known.period) ∷ [])) ∷ [])
      (answer.Closed close.period (positions_in config known.book close.period)) (event.Closed close.period) e h
      (λ none. record { book = tt; account = tt })
  is_owed (command.Settle settlement) e h =
      accepted
      (unless_open settlement.period known.period ∷ unless_settled (is_settled settlement known.account) ∷ full_for config known settlement.provider ∷ [])
      (answer.Settled (pos (settled_debt settlement known.account))) (event.Settled settlement) e h
      (λ none. record { book = tt; account = tt })
  is_owed (command.Exposure ask) e h = absurd (cc)
  is_owed (command.Find find) e h = found find (booked_as find.operator find.id known.book) e h
  is_owed (command.Statement ask) e h =
      let behind = behind_cases (unless_open ask.period known.period ∷ [])
      (replies (Ok (answer.Statement (statement_rows ask.party (obligations ask.period known.book))))) e h in
      let none : None ≡ Some e = behind.1 in
      absurd (cc)

-- ---- the event of a legal list

module _ (config : Config) (books : List PlainBook) (accounts : List PlainAccount) (order : PlainOrder) (events : List Event)
    (keeps : Keeps config (entries_of_books books) (entries_of_accounts accounts) order.entries events) (e : Event) where
  -- the event's book is there and takes it, and its account is there and gives it
  pub record IsTaken : Type 0 where
    pub in_books : IfSome (book_of_event config e) (λ n. n < length books)
    pub in_accounts : IfSome (account_of_event config e) (λ n. n < length accounts)
    pub book : BookTakesAt books (book_of_event config e) e
    pub account : AccountGivesAt config accounts (account_of_event config e) (current_of order) e

  module _ (told : Command) (parties : HasParties config told) where
    book_there : (operator : Option Party) → operator_of_command told ≡ operator → IfSome (option_map (operator_number config) operator) (λ n. n < length books)
    book_there None own = tt
    book_there (Some operator) own =
        let given = book_given config books accounts order events keeps told parties operator own in
        slice_get_within books (operator_number config operator) given.0 given.1

    account_there : (provider : Option Party) → provider_of_command told ≡ provider → IfSome (option_map (provider_number config) provider) (λ n. n < length accounts)
    account_there None own = tt
    account_there (Some provider) own =
        let given = account_given config books accounts order events keeps told parties provider own in
        slice_get_within accounts (provider_number config provider) given.0 given.1

    book_takes : (operator : Option Party) → operator_of_command told ≡ operator → BookTakes (of_operator operator (book_entries events)) e
        → BookTakesAt books (option_map (operator_number config) operator) e
    book_takes None own takes = tt
    book_takes (Some operator) own takes = λ book at.
        let given = book_given config books accounts order events keeps told parties operator own in
        let same : given.0 ≡ book = cc (given.1, at) in
        subst (λ (l : List BookEntry). BookTakes l e) (given.2 ∙ ap (λ (b : PlainBook). b.entries) same) takes

    account_gives : (provider : Option Party) → provider_of_command told ≡ provider → AccountGives config (of_account provider (account_entries events)) (period_of events) e
        → AccountGivesAt config accounts (option_map (provider_number config) provider) (current_of order) e
    account_gives None own gives = tt
    account_gives (Some provider) own gives = λ account at.
        let given = account_given config books accounts order events keeps told parties provider own in
        let same : given.0 ≡ account = cc (given.1, at) in
        let now = period_kept config (entries_of_books books) (entries_of_accounts accounts) order.entries events keeps told parties in
        subst (λ (n : ℕ). AccountGives config account.entries n e) (sym now)
        (subst (λ (l : List AccountEntry). AccountGives config l (period_of events) e) (given.2 ∙ ap (λ (a : PlainAccount). a.entries) same) gives)

  pub is_taken : CommandsHaveParties → EventsAreOfTheirCommand → VerdictsAreOfOwnEntries → IsGiven config events e → IsTaken
  is_taken have their laws given =
      let told : Command = given.0 in
      let parties = have config told given.1 in
      let own = their config (known events) told e given.2 in
      let operator = same_operator told e own in
      let provider = same_provider told e own in
      let owed = is_owed config (own_known told (known events)) told e (ap (λ (v : Verdict). v.event) (laws config events told keeps.legal) ∙ given.2) in
      record {
        in_books = book_there told parties (operator_of_event e) operator;
        in_accounts = account_there told parties (provider_of_event e) provider;
        book = book_takes told parties (operator_of_event e) operator
            (subst (λ (o : Option Party). BookTakes (of_operator o (book_entries events)) e) operator owed.book);
        account = account_gives told parties (provider_of_event e) provider
            (subst (λ (o : Option Party). AccountGives config (of_account o (account_entries events)) (period_of events) e) provider owed.account);
      }
