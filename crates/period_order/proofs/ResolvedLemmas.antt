-- The order of a legal list names its events in its books and accounts.
use Rattle.std.proofs.Common.{◌≡◌, List, [], ◌∷◌, ◌++◌, Bool, true, refl, sym, ap, ◌∙◌, subst, cond, length, Option, option_map, option_and_then, Some, slice_get}
use Rattle.ocpi_types.specs.declared.config.Config.{Config}
use Rattle.ocpi_types.specs.declared.party.Party.{Party}
use Rattle.ocpi_types.specs.Config.{is_operator, is_provider}
use Rattle.plain_house.specs.declared.event.Event.{Event}
use Rattle.plain_house.specs.declared.event.Event.TheVariants as event
use Rattle.plain_house.specs.declared.entry.AccountEntry.{AccountEntry}
use Rattle.plain_house.specs.declared.entry.AccountEntry.TheVariants as account
use Rattle.plain_house.specs.declared.entry.BookEntry.{BookEntry}
use Rattle.plain_house.specs.declared.entry.BookEntry.TheVariants as book
use Rattle.plain_house.specs.Entries.{account_entries_from, account_entry, book_entries, book_entries_from, book_entry, charge_of, credit_of, period_after, period_of}
use Rattle.plain_house.specs.Known.{known}
use Rattle.plain_house.specs.Legal.{EventsAreOfConfigured, IsLegal, IsOfConfigured}
use Rattle.plain_house.specs.Own.{is_in_book_of, own_account, own_book}
use Rattle.plain_house.specs.Full.{is_entry_of, own_entries}
use Rattle.period_order.specs.declared.order_entry.OrderEntry.{OrderEntry}
use Rattle.period_order.specs.Kept.{Keeps}
use Rattle.period_order.specs.Places.{in_account, in_book, order_after, order_of}
use Rattle.period_order.specs.Resolved.{OrdersAreResolved, accounts_of, books_of, entry_at}
use Rattle.period_order.specs.Resolves.{Names, OrdersResolve, Resolves, ResolvingIsUnique}
use Rattle.period_order.proofs.BooksLemmas.{account_at, book_at}
use Rattle.period_order.proofs.EntriesLemmas.{own_account_split, own_book_split}
use Rattle.period_order.proofs.OrderLemmas.{entry_behind, order_split, point_is}
use Rattle.period_order.proofs.PartyLemmas.{party_itself}
use Rattle.period_order.proofs.ResolvesLemmas.{same_place, seam}

abbrev alone : {X : Type 0} → X → List X
alone x = x ∷ []

-- ---- the entries of one event

module _ (config : Config) (before : List Event) (e : Event) (later : List Event) where
  abbrev whole : List Event
  whole = before ++ e ∷ later

  book_found : (operator : Party) (entry : BookEntry) → book_entry e (period_of before) ≡ entry ∷ [] → is_operator config operator ≡ true → is_in_book_of operator entry ≡ true
      → entry_at (books_of config whole) (in_book config operator (length (own_book operator (book_entries before)))) ≡ Some entry
  book_found operator entry one known own =
      ap (option_and_then at) (book_at config whole operator known)
      ∙ ap at (own_book_split operator before (e ∷ later))
      ∙ ap (λ l. at (own_book operator (book_entries before) ++ own_book operator (l ++ rest))) one
      ∙ ap (λ (b : Bool). at (own_book operator (book_entries before) ++ cond b (entry ∷ own_book operator rest) (own_book operator rest))) own
      ∙ seam (own_book operator (book_entries before)) entry (own_book operator rest)
    where
      at : List BookEntry → Option BookEntry
      at entries = slice_get entries (length (own_book operator (book_entries before)))

      rest : List BookEntry
      rest = book_entries_from (period_after (period_of before) e) later

  account_found : (provider : Party) (entry : AccountEntry) → account_entry e (period_of before) ≡ entry ∷ [] → is_provider config provider ≡ true → is_entry_of provider entry ≡ true
      → entry_at (accounts_of config whole) (in_account config provider (length (own_account provider before))) ≡ Some entry
  account_found provider entry one known own =
      ap (option_and_then at) (account_at config whole provider known)
      ∙ ap at (own_account_split provider before (e ∷ later))
      ∙ ap (λ l. at (own_account provider before ++ own_entries provider (l ++ rest))) one
      ∙ ap (λ (b : Bool). at (own_account provider before ++ cond b (entry ∷ own_entries provider rest) (own_entries provider rest))) own
      ∙ seam (own_account provider before) entry (own_entries provider rest)
    where
      at : List AccountEntry → Option AccountEntry
      at entries = slice_get entries (length (own_account provider before))

      rest : List AccountEntry
      rest = account_entries_from (period_after (period_of before) e) later

-- what the order keeps of an event names it
named : (config : Config) (before : List Event) (e : Event) (later : List Event) → IsOfConfigured config (period_of before) e
    → Names (books_of config (before ++ e ∷ later)) (accounts_of config (before ++ e ∷ later)) (period_of before) (entry_behind config before e) e
named config before (event.Tariff tariff) later has = record {
  in_book = ap (option_map alone) (book_found config before (event.Tariff tariff) later tariff.operator (book.Tariff tariff) refl has (party_itself tariff.operator));
  in_account = refl;
  closes = λ h. absurd (cc);
}
named config before (event.Token token) later has = record {
  in_book = refl;
  in_account = ap (option_map alone) (account_found config before (event.Token token) later token.provider (account.Token token) refl has (party_itself token.provider));
  closes = λ h. absurd (cc);
}
named config before (event.Authorised hold) later has = record {
  in_book = refl;
  in_account = ap (option_map alone) (account_found config before (event.Authorised hold) later hold.provider (account.Hold hold) refl has (party_itself hold.provider));
  closes = λ h. absurd (cc);
}
named config before (event.Released release) later has = record {
  in_book = refl;
  in_account = ap (option_map alone) (account_found config before (event.Released release) later release.provider (account.Release release) refl has (party_itself release.provider));
  closes = λ h. absurd (cc);
}
named config before (event.Cdr cdr cost) later has = record {
  in_book = ap (option_map alone) (book_found config before (event.Cdr cdr cost) later cdr.operator (book.Cdr cdr cost (period_of before)) refl has.0 (party_itself cdr.operator));
  in_account = ap (option_map alone) (account_found config before (event.Cdr cdr cost) later cdr.cdr_token.provider (account.Charge (charge_of cdr cost (period_of before))) refl has.1 (party_itself cdr.cdr_token.provider));
  closes = λ h. absurd (cc);
}
named config before (event.Credit cdr amount) later has = record {
  in_book = ap (option_map alone) (book_found config before (event.Credit cdr amount) later cdr.operator (book.Credit cdr amount (period_of before)) refl has.0 (party_itself cdr.operator));
  in_account = ap (option_map alone) (account_found config before (event.Credit cdr amount) later cdr.cdr_token.provider (account.Credit (credit_of cdr amount (period_of before))) refl has.1 (party_itself cdr.cdr_token.provider));
  closes = λ h. absurd (cc);
}
named config before (event.Settled settlement) later has = record {
  in_book = refl;
  in_account = ap (option_map alone) (account_found config before (event.Settled settlement) later settlement.provider (account.Settlement settlement) refl has (party_itself settlement.provider));
  closes = λ h. absurd (cc);
}
named config before (event.Closed period) later has = record { in_book = refl; in_account = refl; closes = λ h. ap event.Closed has }

-- ---- the whole list

given_has : EventsAreOfConfigured → (config : Config) (events before : List Event) (e : Event) (later : List Event) → IsLegal config events → events ≡ before ++ e ∷ later
    → IsOfConfigured config (period_of before) e
unfolding IsLegal
given_has of_configured config events before e later legal same = of_configured config (known before) e (legal before e later same)

pub orders_do : EventsAreOfConfigured → OrdersResolve
orders_do of_configured config events legal = record {
  each = point_is config events;
  names = λ earlier entry later before e behind same other long.
      let split : earlier ++ entry ∷ later ≡ order_of config before ++ entry_behind config before e ∷ order_after config (before ++ e ∷ []) behind =
      sym same ∙ ap (order_of config) other ∙ order_split config before e behind in
      let is : entry ≡ entry_behind config before e =
      same_place earlier later (order_of config before) (order_after config (before ++ e ∷ []) behind) entry (entry_behind config before e) split
      (long ∙ sym (point_is config before)) in
      subst (λ (x : OrderEntry). Names (books_of config events) (accounts_of config events) (period_of before) x e) (sym is)
      (subst (λ (l : List Event). Names (books_of config l) (accounts_of config l) (period_of before) (entry_behind config before e) e) (sym other)
      (named config before e behind (given_has of_configured config events before e behind legal other)));
}

pub are_resolved : OrdersResolve → ResolvingIsUnique → OrdersAreResolved
are_resolved resolve unique config events legal =
    unique (books_of config events) (accounts_of config events) (order_of config events) events (resolve config events legal)

-- an order that is kept resolves to its events
pub kept_resolves : OrdersResolve → (config : Config) (books : List (List BookEntry)) (accounts : List (List AccountEntry)) (order : List OrderEntry) (events : List Event)
    → Keeps config books accounts order events → Resolves books accounts order events
kept_resolves resolve config books accounts order events keeps =
    subst (λ b. Resolves b accounts order events) (sym keeps.books_are)
    (subst (λ a. Resolves (books_of config events) a order events) (sym keeps.accounts_are)
    (subst (λ o. Resolves (books_of config events) (accounts_of config events) o events) (sym keeps.order_is) (resolve config events keeps.legal)))
