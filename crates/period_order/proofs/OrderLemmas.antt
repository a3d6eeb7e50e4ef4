-- The order of a list of events with one more.
use Rattle.std.proofs.Common.{◌≡◌, ℕ, ◌+◌, suc, List, [], ◌∷◌, ◌++◌, Bool, cond, refl, sym, ap, ap₂, ◌∙◌, append_assoc, append-nil, length, count_by, flat_map}
use Rattle.std.proofs.lemmas.List.{length-append}
use Rattle.std.proofs.lemmas.List.Sums.{sum_by-cons}
use Rattle.ocpi_types.specs.declared.config.Config.{Config}
use Rattle.plain_house.specs.declared.event.Event.{Event}
use Rattle.plain_house.specs.declared.event.Event.TheVariants as event
use Rattle.plain_house.specs.Entries.{Dated, account_entries, account_entry, book_entries, book_entry, dated_from, period_after, period_of}
use Rattle.plain_house.specs.Entries.{is_close as closes}
use Rattle.period_order.specs.declared.order_entry.OrderEntry.{OrderEntry}
use Rattle.period_order.specs.Order.{is_close_entry, names_account, names_book}
use Rattle.period_order.specs.Places.{account_size, book_size, order_after, order_entry, order_of}

-- what the order keeps of an event behind these
abbrev pub entry_behind : Config → List Event → Event → OrderEntry
entry_behind config before e = order_entry config (book_size before e) (account_size before e) e

after_split : (config : Config) (before later : List Event) (e : Event) (behind : List Event)
    → order_after config before (later ++ e ∷ behind) ≡ order_after config before later ++ entry_behind config (before ++ later) e ∷ order_after config ((before ++ later) ++ e ∷ []) behind
after_split config before [] e behind =
    ap (λ (l : List Event). entry_behind config l e ∷ order_after config (l ++ e ∷ []) behind) (sym (append-nil before))
after_split config before (x ∷ later) e behind =
    ap (λ l. entry_behind config before x ∷ l) (after_split config (before ++ x ∷ []) later e behind)
    ∙ ap (λ (l : List Event). entry_behind config before x ∷ (order_after config (before ++ x ∷ []) later ++ entry_behind config l e ∷ order_after config (l ++ e ∷ []) behind)) (append_assoc before (x ∷ []) later)

-- what it keeps of events before one, of that one, and of those behind it
pub order_split : (config : Config) (before : List Event) (e : Event) (behind : List Event)
    → order_of config (before ++ e ∷ behind) ≡ order_of config before ++ entry_behind config before e ∷ order_after config (before ++ e ∷ []) behind
order_split config before e behind = after_split config [] before e behind

pub order_push : (config : Config) (events : List Event) (e : Event)
    → order_of config (events ++ e ∷ []) ≡ order_of config events ++ order_entry config (book_size events e) (account_size events e) e ∷ []
order_push config events e = order_split config events e []

-- ---- how many

pub close_is : (config : Config) (book account : ℕ) (e : Event) → is_close_entry (order_entry config book account e) ≡ closes e
close_is config book account (event.Tariff tariff) = refl
close_is config book account (event.Token token) = refl
close_is config book account (event.Authorised hold) = refl
close_is config book account (event.Released release) = refl
close_is config book account (event.Cdr cdr cost) = refl
close_is config book account (event.Credit cdr amount) = refl
close_is config book account (event.Settled settlement) = refl
close_is config book account (event.Closed period) = refl

closes_after : (config : Config) (before later : List Event) → count_by is_close_entry (order_after config before later) ≡ count_by closes later
closes_after config before [] = refl
closes_after config before (e ∷ later) =
    let rest = order_after config (before ++ e ∷ []) later in
    sum_by-cons (λ x. cond (is_close_entry x) 1 0) (entry_behind config before e) rest
    ∙ ap₂ (λ (b : Bool) (n : ℕ). cond {A = ℕ} b 1 0 + n) (close_is config (book_size before e) (account_size before e) e) (closes_after config (before ++ e ∷ []) later)
    ∙ sym (sum_by-cons (λ x. cond (closes x) 1 0) e later)

pub current_is : (config : Config) (events : List Event) → count_by is_close_entry (order_of config events) ≡ period_of events
current_is config events = closes_after config [] events

length_after : (config : Config) (before later : List Event) → length (order_after config before later) ≡ length later
length_after config before [] = refl
length_after config before (e ∷ later) = ap suc (length_after config (before ++ e ∷ []) later)

pub point_is : (config : Config) (events : List Event) → length (order_of config events) ≡ length events
point_is config events = length_after config [] events

-- ---- how many entries it names

-- a test of what the order keeps of an event tells how many entries the event has
module _ {X : Type 0} (names : OrderEntry → Bool) (kept : Event → ℕ → List X) (config : Config)
    (one : (book account period : ℕ) (e : Event) → cond {A = ℕ} (names (order_entry config book account e)) 1 0 ≡ length (kept e period)) where
  named_after : (before later : List Event) (period : ℕ) → count_by names (order_after config before later) ≡ length (flat_map (λ dated. kept dated.event dated.period) (dated_from period later))
  named_after before [] period = refl
  named_after before (e ∷ later) period =
      let rest = order_after config (before ++ e ∷ []) later in
      let others = flat_map (λ (dated : Dated). kept dated.event dated.period) (dated_from (period_after period e) later) in
      sum_by-cons (λ x. cond (names x) 1 0) (entry_behind config before e) rest
      ∙ ap₂ (λ (a b : ℕ). a + b) (one (book_size before e) (account_size before e) period e) (named_after (before ++ e ∷ []) later (period_after period e))
      ∙ sym (length-append (kept e period) others)

names_one_book : (config : Config) (book account period : ℕ) (e : Event) → cond {A = ℕ} (names_book (order_entry config book account e)) 1 0 ≡ length (book_entry e period)
names_one_book config book account period (event.Tariff tariff) = refl
names_one_book config book account period (event.Token token) = refl
names_one_book config book account period (event.Authorised hold) = refl
names_one_book config book account period (event.Released release) = refl
names_one_book config book account period (event.Cdr cdr cost) = refl
names_one_book config book account period (event.Credit cdr amount) = refl
names_one_book config book account period (event.Settled settlement) = refl
names_one_book config book account period (event.Closed closed) = refl

names_one_account : (config : Config) (book account period : ℕ) (e : Event) → cond {A = ℕ} (names_account (order_entry config book account e)) 1 0 ≡ length (account_entry e period)
names_one_account config book account period (event.Tariff tariff) = refl
names_one_account config book account period (event.Token token) = refl
names_one_account config book account period (event.Authorised hold) = refl
names_one_account config book account period (event.Released release) = refl
names_one_account config book account period (event.Cdr cdr cost) = refl
names_one_account config book account period (event.Credit cdr amount) = refl
names_one_account config book account period (event.Settled settlement) = refl
names_one_account config book account period (event.Closed closed) = refl

pub books_named : (config : Config) (events : List Event) → count_by names_book (order_of config events) ≡ length (book_entries events)
books_named config events = named_after names_book book_entry config (names_one_book config) [] events 0

pub accounts_named : (config : Config) (events : List Event) → count_by names_account (order_of config events) ≡ length (account_entries events)
accounts_named config events = named_after names_account account_entry config (names_one_account config) [] events 0
