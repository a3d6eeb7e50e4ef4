-- A house after a command that looks into one book, one account, or both.
use Rattle.std.proofs.Common.{◌≡◌, ℕ, List, [], ◌∷◌, ◌++◌, true, refl, sym, ap, ap₂, subst, ◌∙◌, length, slice_get, count_by, Option, None, Some, is_some, map, option_map, Bor}
use Rattle.std.specs.Option.{option_and_then, option_copied}
use Rattle.std.proofs.lemmas.Option.{slice_get-map}
use Rattle.ocpi_types.specs.declared.config.Config.{Config}
use Rattle.ocpi_types.specs.declared.party.Party.{Party}
use Rattle.ocpi_types.specs.Config.{alike_operators, alike_providers}
use Rattle.ocpi_types.specs.Different.{all_different}
use Rattle.cdr_checks.specs.declared.request.Command.{Command}
use Rattle.cdr_checks.specs.Admission.{IsAdmitted}
use Rattle.cdr_checks.specs.Parties.{HasParties, operator_of_command, provider_of_command}
use Rattle.plain_house.specs.declared.entry.AccountEntry.{AccountEntry}
use Rattle.plain_house.specs.declared.entry.BookEntry.{BookEntry}
use Rattle.plain_house.specs.declared.event.Event.{Event}
use Rattle.plain_house.specs.Entries.{account_entries, account_entry, book_entries, book_entry, period_of}
use Rattle.plain_house.specs.House.{verdict}
use Rattle.plain_house.specs.Known.{known}
use Rattle.plain_house.specs.Legal.{CommandsKeepListsLegal, IsLegal}
use Rattle.plain_house.specs.Own.{EventsAreOfTheirCommand, IsOfCommand, of_account, of_operator, own_account, own_book}
use Rattle.operator_book.specs.State.{PlainBook}
use Rattle.provider_account.specs.State.{PlainAccount}
use Rattle.period_order.specs.declared.decided.Outcome.{Outcome}
use Rattle.period_order.specs.declared.decided.Outcome.TheVariants as outcome
use Rattle.period_order.specs.Decided.{AreOfAccount, AreOfBook, Decides, OutcomesAreVerdicts, account_length, book_length, event_of, order_with, outcome_of, seen, verdict_with, with_entry}
use Rattle.plain_house.specs.Replies.{with_event}
use Rattle.plain_house.specs.Verdict.{Verdict}
use Rattle.period_order.specs.declared.order_entry.OrderEntry.{OrderEntry}
use Rattle.period_order.specs.Judging.{JudgedByOwnEntries, MayJudge}
use Rattle.period_order.specs.Kept.{Keeps, account_number, book_number, with_added}
use Rattle.period_order.specs.Inner.Kept.{with_event_added}
use Rattle.period_order.specs.Order.{PlainOrder, current_of, is_close_entry}
use Rattle.period_order.specs.Places.{operator_number, order_entry, order_of, provider_number}
use Rattle.period_order.specs.Resolved.{OrdersAreResolved, books_of, entries_of_accounts, entries_of_books, resolved}
use Rattle.period_order.proofs.BooksLemmas.{account_at, book_at}
use Rattle.period_order.proofs.HouseLemmas.{accounts_added, books_added, entry_is}
use Rattle.period_order.proofs.JudgingLemmas.{legal_with, same_order}
use Rattle.period_order.proofs.OrderLemmas.{current_is, order_push, point_is}
use Rattle.period_order.proofs.OutcomeLemmas.{are_verdicts}

module _ (config : Config) (books : List (List BookEntry)) (accounts : List (List AccountEntry)) (order : List OrderEntry) where
  -- what is kept is resolved
  pub kept_is : (events : List Event) → OrdersAreResolved → Keeps config books accounts order events → resolved books accounts order ≡ events
  kept_is events laws keeps =
      ap₂ (λ b o. resolved b accounts o) keeps.books_are keeps.order_is
      ∙ ap (λ a. resolved (books_of config events) a (order_of config events)) keeps.accounts_are
      ∙ laws config events keeps.legal

  module _ (events : List Event) (keeps : Keeps config books accounts order events) (told : Command) (parties : HasParties config told) where
    pub point_kept : length order ≡ length events
    point_kept = ap length keeps.order_is ∙ point_is config events

    pub period_kept : count_by is_close_entry order ≡ period_of events
    period_kept = ap (count_by is_close_entry) keeps.order_is ∙ current_is config events

    -- with an event of the command
    pub keeps_event : (e : Event) (book account : ℕ) → IsLegal config (events ++ e ∷ []) → IsOfCommand told e
        → all_different alike_operators config.operators ≡ true → all_different alike_providers config.providers ≡ true
        → ((operator : Party) → operator_of_command told ≡ Some operator → book ≡ length (own_book operator (book_entries events)))
        → ((provider : Party) → provider_of_command told ≡ Some provider → account ≡ length (own_account provider events))
        → Keeps config
        (with_added books (book_number config told) (book_entry e (count_by is_close_entry order)))
        (with_added accounts (account_number config told) (account_entry e (count_by is_close_entry order)))
        (order ++ order_entry config book account e ∷ [])
        (events ++ e ∷ [])
    keeps_event e book account legal own operators providers in_book in_account = record {
      legal = legal;
      books_are =
          ap₂ (λ b n. with_added b (book_number config told) (book_entry e n)) keeps.books_are period_kept
          ∙ books_added config events told parties operators e own;
      accounts_are =
          ap₂ (λ a n. with_added a (account_number config told) (account_entry e n)) keeps.accounts_are period_kept
          ∙ accounts_added config events told parties providers e own;
      order_is =
          ap₂ (λ o x. o ++ x ∷ []) keeps.order_is (entry_is config events told parties book account e own in_book in_account)
          ∙ sym (order_push config events e);
    }

-- ---- the event of an outcome

pub event_is : (config : Config) (entries : List BookEntry) (outcome : Outcome) → (verdict_with config entries outcome).event ≡ event_of outcome
event_is config entries (outcome.Replied reply event) = refl
event_is config entries (outcome.Closed period) = refl
event_is config entries (outcome.Stated ask) = refl

-- ---- what is given

-- the book whose entries are known
pub given_at : {X Y : Type 0} (f : X → List Y) (items : List X) (number : ℕ) (own : List Y) → slice_get (map f items) number ≡ Some own
    → (x : X) × (slice_get items number ≡ Some x) × (own ≡ f x)
given_at {X = X} f items number own h = by (slice_get items number) refl (sym (slice_get-map f items number) ∙ h)
  where
    by : (o : Option X) → slice_get items number ≡ o → option_map f o ≡ Some own → (x : X) × (slice_get items number ≡ Some x) × (own ≡ f x)
    by None e g = absurd (cc)
    by (Some x) e g = let same : f x ≡ own = cc (g) in (x, e, sym same)

module _ (config : Config) (books : List PlainBook) (accounts : List PlainAccount) (order : PlainOrder) (events : List Event)
    (keeps : Keeps config (entries_of_books books) (entries_of_accounts accounts) order.entries events) (told : Command) (parties : HasParties config told) where
  pub book_given : (operator : Party) → operator_of_command told ≡ Some operator
      → (book : PlainBook) × (slice_get books (operator_number config operator) ≡ Some book) × (own_book operator (book_entries events) ≡ book.entries)
  book_given operator own =
      given_at (λ book. book.entries) books (operator_number config operator) (own_book operator (book_entries events))
      (ap (λ b. slice_get b (operator_number config operator)) keeps.books_are ∙ book_at config events operator (parties.operator operator own))

  pub account_given : (provider : Party) → provider_of_command told ≡ Some provider
      → (account : PlainAccount) × (slice_get accounts (provider_number config provider) ≡ Some account) × (own_account provider events ≡ account.entries)
  account_given provider own =
      given_at (λ account. account.entries) accounts (provider_number config provider) (own_account provider events)
      (ap (λ a. slice_get a (provider_number config provider)) keeps.accounts_are ∙ account_at config events provider (parties.provider provider own))

  -- the book at the command's number, if it has one
  abbrev pub the_book : Option PlainBook
  the_book = option_and_then (slice_get books) (option_map (operator_number config) (operator_of_command told))

  abbrev pub the_account : Option PlainAccount
  the_account = option_and_then (slice_get accounts) (option_map (provider_number config) (provider_of_command told))

  pub are_of_book : AreOfBook the_book (of_operator (operator_of_command told) (book_entries events))
  are_of_book = by (operator_of_command told) refl
    where
      by : (o : Option Party) → operator_of_command told ≡ o → AreOfBook (option_and_then (slice_get books) (option_map (operator_number config) o)) (of_operator o (book_entries events))
      by None e = tt
      by (Some operator) e =
          let given = book_given operator e in
          subst (λ (o : Option PlainBook). AreOfBook o (own_book operator (book_entries events))) (sym given.1) given.2

  pub are_of_account : AreOfAccount the_account (of_account (provider_of_command told) (account_entries events))
  are_of_account = by (provider_of_command told) refl
    where
      by : (o : Option Party) → provider_of_command told ≡ o → AreOfAccount (option_and_then (slice_get accounts) (option_map (provider_number config) o)) (of_account o (account_entries events))
      by None e = tt
      by (Some provider) e =
          let given = account_given provider e in
          subst (λ (o : Option PlainAccount). AreOfAccount o (own_account provider events)) (sym given.1) given.2

  -- the verdict on what is known of the book and the account is that of the outcome
  given_verdict : OutcomesAreVerdicts → (judge : Config) (outcome : Outcome) (entries : List BookEntry) (others : List AccountEntry)
      → outcome ≡ outcome_of told (verdict judge (seen entries others order) told)
      → verdict judge (seen entries others order) told ≡ verdict_with judge entries outcome
  given_verdict law judge outcome entries others is = sym (ap (verdict_with judge entries) is ∙ law judge (seen entries others order) told)

  -- the verdict on the list, under the configuration that decided, is that of what is given
  pub verdict_is : JudgedByOwnEntries → (judge : Config) (outcome : Outcome) → Decides judge the_book the_account order told outcome
      → verdict judge (known events) told ≡ verdict_with judge (of_operator (operator_of_command told) (book_entries events)) outcome
  verdict_is laws judge outcome decides =
      sym (laws judge config events told keeps.legal)
      ∙ ap₂ (λ (point period : ℕ). verdict judge (record { book = of_operator (operator_of_command told) (book_entries events); account = of_account (provider_of_command told) (account_entries events); point = point; period = period }) told)
      (sym (point_kept config (entries_of_books books) (entries_of_accounts accounts) order.entries events keeps told parties))
      (sym (period_kept config (entries_of_books books) (entries_of_accounts accounts) order.entries events keeps told parties))
      ∙ given_verdict are_verdicts judge outcome (of_operator (operator_of_command told) (book_entries events)) (of_account (provider_of_command told) (account_entries events))
      (decides.outcome_is (of_operator (operator_of_command told) (book_entries events)) (of_account (provider_of_command told) (account_entries events)) are_of_book are_of_account)

  -- ---- how many entries stand at the command's numbers

  pub book_size_is : (operator : Party) → operator_of_command told ≡ Some operator → book_length the_book ≡ length (own_book operator (book_entries events))
  book_size_is operator own =
      let given = book_given operator own in
      ap (λ (o : Option Party). book_length (option_and_then (slice_get books) (option_map (operator_number config) o))) own
      ∙ ap book_length given.1 ∙ ap length (sym given.2)

  pub account_size_is : (provider : Party) → provider_of_command told ≡ Some provider → account_length the_account ≡ length (own_account provider events)
  account_size_is provider own =
      let given = account_given provider own in
      ap (λ (o : Option Party). account_length (option_and_then (slice_get accounts) (option_map (provider_number config) o))) own
      ∙ ap account_length given.1 ∙ ap length (sym given.2)

  -- ---- once it is put

  module _ (judge : Config) (outcome : Outcome) (decides : Decides judge the_book the_account order told outcome) (laws : JudgedByOwnEntries) where
    abbrev verdict_reached : verdict judge (known events) told ≡ verdict_with judge (of_operator (operator_of_command told) (book_entries events)) outcome
    verdict_reached = verdict_is laws judge outcome decides

    pub event_reached : (verdict judge (known events) told).event ≡ event_of outcome
    event_reached = ap (λ (v : Verdict). v.event) verdict_reached ∙ event_is judge (of_operator (operator_of_command told) (book_entries events)) outcome

    pub keeps_put : (now_books : List (List BookEntry)) (now_accounts : List (List AccountEntry)) (now : PlainOrder) → MayJudge judge config
        → EventsAreOfTheirCommand → CommandsKeepListsLegal → IsAdmitted judge told
        → all_different alike_operators config.operators ≡ true → all_different alike_providers config.providers ≡ true
        → now_books ≡ with_event_added (entries_of_books books) (option_map (operator_number config) (operator_of_command told)) (λ e. book_entry e (current_of order)) (event_of outcome)
        → now_accounts ≡ with_event_added (entries_of_accounts accounts) (option_map (provider_number config) (provider_of_command told)) (λ e. account_entry e (current_of order)) (event_of outcome)
        → now ≡ order_with judge the_book the_account order outcome
        → Keeps config now_books now_accounts now.entries (with_event events (event_of outcome))
    keeps_put now_books now_accounts now judges their legal admitted operators providers b a o =
        subst (λ x. Keeps config x now_accounts now.entries (with_event events (event_of outcome))) (sym b)
        (subst (λ x. Keeps config (with_event_added (entries_of_books books) (option_map (operator_number config) (operator_of_command told)) (λ e. book_entry e (current_of order)) (event_of outcome)) x now.entries (with_event events (event_of outcome))) (sym a)
        (subst (λ (x : PlainOrder). Keeps config (with_event_added (entries_of_books books) (option_map (operator_number config) (operator_of_command told)) (λ e. book_entry e (current_of order)) (event_of outcome))
        (with_event_added (entries_of_accounts accounts) (option_map (provider_number config) (provider_of_command told)) (λ e. account_entry e (current_of order)) (event_of outcome)) x.entries (with_event events (event_of outcome)))
        (sym (o ∙ same_order judge config judges the_book the_account order outcome))
        (by (event_of outcome) refl)))
      where
        by : (x : Option Event) → event_of outcome ≡ x
            → Keeps config (with_event_added (entries_of_books books) (option_map (operator_number config) (operator_of_command told)) (λ e. book_entry e (current_of order)) x)
            (with_event_added (entries_of_accounts accounts) (option_map (provider_number config) (provider_of_command told)) (λ e. account_entry e (current_of order)) x)
            (with_entry order (option_map (order_entry config (book_length the_book) (account_length the_account)) x)).entries (with_event events x)
        by None e = keeps
        by (Some added) e =
            keeps_event config (entries_of_books books) (entries_of_accounts accounts) order.entries events keeps told parties added
            (book_length the_book) (account_length the_account)
            (legal_with judge config judges legal events added keeps.legal (told, admitted, event_reached ∙ e)) (their judge (known events) told added (event_reached ∙ e))
            operators providers book_size_is account_size_is

-- ---- what is seen as before

-- room that was made changes nothing that is kept
pub kept_still : (config : Config) (books : List (List BookEntry)) (accounts : List (List AccountEntry)) (order : List OrderEntry)
    (now_books : List (List BookEntry)) (now_accounts : List (List AccountEntry)) (now_order : List OrderEntry) (events : List Event)
    → Keeps config books accounts order events → now_books ≡ books → now_accounts ≡ accounts → now_order ≡ order
    → Keeps config now_books now_accounts now_order events
kept_still config books accounts order now_books now_accounts now_order events keeps b a o = record {
  legal = keeps.legal;
  books_are = b ∙ keeps.books_are;
  accounts_are = a ∙ keeps.accounts_are;
  order_is = o ∙ keeps.order_is;
}

pub some_copied : {T : Type 0} (found : Option (Bor T)) → is_some found ≡ is_some (option_copied found)
some_copied None = refl
some_copied (Some x) = refl

-- ---- what is given, in other words

module _ (config judge : Config) (books : List PlainBook) (accounts : List PlainAccount) (order : PlainOrder) (told : Command) where
  abbrev book_of : Option PlainBook
  book_of = option_and_then (slice_get books) (option_map (operator_number config) (operator_of_command told))

  abbrev account_of : Option PlainAccount
  account_of = option_and_then (slice_get accounts) (option_map (provider_number config) (provider_of_command told))

  pub decides_given : (book : Option PlainBook) (account : Option PlainAccount) (outcome given : Outcome) → book ≡ book_of → account ≡ account_of → outcome ≡ given
      → Decides judge book account order told outcome → Decides judge book_of account_of order told given
  decides_given book account outcome given b a o h =
      subst (λ x. Decides judge book_of account_of order told x) o
      (subst (λ x. Decides judge book_of x order told outcome) a
      (subst (λ x. Decides judge x account order told outcome) b h))

  pub ordered_given : (book : Option PlainBook) (account : Option PlainAccount) (outcome given : Outcome) (now : PlainOrder) → book ≡ book_of → account ≡ account_of → outcome ≡ given
      → now ≡ order_with judge book account order outcome → now ≡ order_with judge book_of account_of order given
  ordered_given book account outcome given now b a o h =
      h ∙ ap₂ (λ x y. order_with judge x y order outcome) b a ∙ ap (order_with judge book_of account_of order) o
