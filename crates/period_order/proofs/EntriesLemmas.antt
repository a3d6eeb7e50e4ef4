-- The entries of an operator's book and of a provider's account, in two parts.
use Rattle.std.proofs.Common.{◌≡◌, ℕ, ◌+◌, List, [], ◌∷◌, ◌++◌, Bool, true, false, cond, if◌then◌else◌, arith, sym, ap, ◌∙◌, append-nil, flat_map, count_by}
use Rattle.std.proofs.lemmas.List.Concat.{flat_map-append}
use Rattle.std.proofs.lemmas.List.Elements.{filter-append, filter_agree}
use Rattle.std.proofs.lemmas.List.Sums.{sum_by-append, sum_by-cons}
use Rattle.ocpi_types.specs.declared.party.Party.{Party}
use Rattle.ocpi_types.specs.Party.{same_party}
use Rattle.plain_house.specs.declared.event.Event.{Event}
use Rattle.plain_house.specs.declared.entry.AccountEntry.{AccountEntry}
use Rattle.plain_house.specs.declared.entry.AccountEntry.TheVariants as account
use Rattle.plain_house.specs.declared.entry.BookEntry.{BookEntry}
use Rattle.plain_house.specs.declared.entry.BookEntry.TheVariants as book
use Rattle.plain_house.specs.Entries.{Dated, account_entries, account_entries_from, account_entry, book_entries, book_entries_from, book_entry, dated_from, is_close, period_after, period_of}
use Rattle.plain_house.specs.Own.{is_in_book_of, own_account, own_book}
use Rattle.plain_house.specs.Full.{is_entry_of, own_entries}
use Rattle.period_order.proofs.PartyLemmas.{party_along}

-- ---- periods

period_later : (n : ℕ) (e : Event) (k : ℕ) → period_after n e + k ≡ n + (cond (is_close e) 1 0 + k)
period_later n e k = by (is_close e)
  where
    by : (b : Bool) → (if b then n + 1 else n) + k ≡ n + (cond b 1 0 + k)
    by true = omega arith
    by false = omega arith

period_after-cons : (n : ℕ) (e : Event) (later : List Event) → period_after n e + count_by is_close later ≡ n + count_by is_close (e ∷ later)
period_after-cons n e later =
    period_later n e (count_by is_close later) ∙ ap (λ k. n + k) (sym (sum_by-cons (λ x. cond (is_close x) 1 0) e later))

-- the period after one more event
pub period_push : (before : List Event) (e : Event) → period_of (before ++ e ∷ []) ≡ period_after (period_of before) e
period_push before e =
    let one : ℕ = count_by is_close (e ∷ []) in
    let more : period_of (before ++ e ∷ []) ≡ period_of before + one = sum_by-append (λ x. cond (is_close x) 1 0) before (e ∷ []) in
    omega (arith, more, period_after-cons (period_of before) e [])

dated-append : (n : ℕ) (before later : List Event) → dated_from n (before ++ later) ≡ dated_from n before ++ dated_from (n + count_by is_close before) later
dated-append n [] later = ap (λ k. dated_from k later) (omega arith)
dated-append n (x ∷ before) later =
    let rest : List Dated = dated_from (period_after n x) before in
    ap (λ (l : List Dated). record { event = x; period = n } ∷ l) (dated-append (period_after n x) before later)
    ∙ ap (λ k. (record { event = x; period = n } ∷ rest) ++ dated_from k later) (period_after-cons n x before)

-- what the dated events of a list keep, in two parts
kept_split : {E : Type 0} (f : Event → ℕ → List E) (before later : List Event)
    → flat_map (λ d. f d.event d.period) (dated_from 0 (before ++ later))
    ≡ flat_map (λ d. f d.event d.period) (dated_from 0 before) ++ flat_map (λ d. f d.event d.period) (dated_from (period_of before) later)
kept_split {E} f before later =
    let of : Dated → List E = λ d. f d.event d.period in
    ap (flat_map of) (dated-append 0 before later) ∙ flat_map-append of (dated_from 0 before) (dated_from (0 + period_of before) later)
    ∙ ap (λ k. flat_map of (dated_from 0 before) ++ flat_map of (dated_from k later)) (omega arith)

-- and with one event more
kept_push : {E : Type 0} (f : Event → ℕ → List E) (events : List Event) (e : Event)
    → flat_map (λ d. f d.event d.period) (dated_from 0 (events ++ e ∷ []))
    ≡ flat_map (λ d. f d.event d.period) (dated_from 0 events) ++ f e (period_of events)
kept_push f events e =
    kept_split f events (e ∷ []) ∙ ap (λ l. flat_map (λ d. f d.event d.period) (dated_from 0 events) ++ l) (append-nil (f e (period_of events)))

-- ---- books

pub book_entries_push : (events : List Event) (e : Event) → book_entries (events ++ e ∷ []) ≡ book_entries events ++ book_entry e (period_of events)
book_entries_push events e = kept_push book_entry events e

pub own_book_split : (operator : Party) (before later : List Event)
    → own_book operator (book_entries (before ++ later)) ≡ own_book operator (book_entries before) ++ own_book operator (book_entries_from (period_of before) later)
own_book_split operator before later =
    ap (own_book operator) (kept_split book_entry before later)
    ∙ filter-append (is_in_book_of operator) (book_entries before) (book_entries_from (period_of before) later)

pub books_push : (operator : Party) (events : List Event) (e : Event)
    → own_book operator (book_entries (events ++ e ∷ [])) ≡ own_book operator (book_entries events) ++ own_book operator (book_entry e (period_of events))
books_push operator events e =
    ap (own_book operator) (book_entries_push events e)
    ∙ filter-append (is_in_book_of operator) (book_entries events) (book_entry e (period_of events))

book_entry_along : (a b : Party) (entry : BookEntry) → same_party a b ≡ true → is_in_book_of a entry ≡ is_in_book_of b entry
book_entry_along a b (book.Tariff tariff) h = party_along tariff.operator a b h
book_entry_along a b (book.Cdr cdr cost period) h = party_along cdr.operator a b h
book_entry_along a b (book.Credit cdr amount period) h = party_along cdr.operator a b h

-- the book in another spelling of its operator
pub book_along : (a b : Party) (entries : List BookEntry) → same_party a b ≡ true → own_book a entries ≡ own_book b entries
book_along a b entries h = filter_agree (is_in_book_of a) (is_in_book_of b) (λ entry. book_entry_along a b entry h) entries

-- ---- accounts

pub account_entries_push : (events : List Event) (e : Event) → account_entries (events ++ e ∷ []) ≡ account_entries events ++ account_entry e (period_of events)
account_entries_push events e = kept_push account_entry events e

pub own_account_split : (provider : Party) (before later : List Event)
    → own_account provider (before ++ later) ≡ own_account provider before ++ own_entries provider (account_entries_from (period_of before) later)
own_account_split provider before later =
    ap (own_entries provider) (kept_split account_entry before later)
    ∙ filter-append (is_entry_of provider) (account_entries before) (account_entries_from (period_of before) later)

pub accounts_push : (provider : Party) (events : List Event) (e : Event)
    → own_account provider (events ++ e ∷ []) ≡ own_account provider events ++ own_entries provider (account_entry e (period_of events))
accounts_push provider events e =
    ap (own_entries provider) (account_entries_push events e)
    ∙ filter-append (is_entry_of provider) (account_entries events) (account_entry e (period_of events))

account_entry_along : (a b : Party) (entry : AccountEntry) → same_party a b ≡ true → is_entry_of a entry ≡ is_entry_of b entry
account_entry_along a b (account.Token token) h = party_along token.provider a b h
account_entry_along a b (account.Hold hold) h = party_along hold.provider a b h
account_entry_along a b (account.Release release) h = party_along release.provider a b h
account_entry_along a b (account.Charge charge) h = party_along charge.provider a b h
account_entry_along a b (account.Credit credit) h = party_along credit.provider a b h
account_entry_along a b (account.Settlement settlement) h = party_along settlement.provider a b h

-- the account in another spelling of its provider
pub account_along : (a b : Party) (events : List Event) → same_party a b ≡ true → own_account a events ≡ own_account b events
account_along a b events h = filter_agree (is_entry_of a) (is_entry_of b) (λ entry. account_entry_along a b entry h) (account_entries events)
