-- The entries of an event and of those around it.
use Rattle.std.proofs.Common.{◌≡◌, ℕ, ◌+◌, List, [], ◌∷◌, ◌++◌, arith, ap, ◌∙◌, cond, flat_map, count_by}
use Rattle.std.proofs.lemmas.List.Concat.{flat_map-append}
use Rattle.std.proofs.lemmas.List.Sums.{sum_by-append}
use Rattle.plain_house.specs.declared.event.Event.{Event}
use Rattle.plain_house.specs.Entries.{account_entry, book_entries, book_entries_from, book_entry, Dated, dated_from, EntriesAreDated, is_close, period_after, period_of}
use Rattle.plain_house.specs.declared.entry.BookEntry.{BookEntry}
use Rattle.plain_house.proofs.PeriodsLemmas.{period_after-cons}

dated-append : (n : ℕ) (before later : List Event) → dated_from n (before ++ later) ≡ dated_from n before ++ dated_from (n + count_by is_close before) later
dated-append n [] later = ap (λ k. dated_from k later) (omega arith)
dated-append n (x ∷ before) later =
    let rest : List Dated = dated_from (period_after n x) before in
    ap (λ (l : List Dated). record { event = x; period = n } ∷ l) (dated-append (period_after n x) before later)
    ∙ ap (λ k. (record { event = x; period = n } ∷ rest) ++ dated_from k later) (period_after-cons n x before)

-- the entries of books, in two parts
pub entries_split : (before later : List Event) → book_entries (before ++ later) ≡ book_entries before ++ book_entries_from (period_of before) later
entries_split before later =
    let of : Dated → List BookEntry = λ d. book_entry d.event d.period in
    ap (flat_map of) (dated-append 0 before later) ∙ flat_map-append of (dated_from 0 before) (dated_from (0 + period_of before) later)
    ∙ ap (λ k. book_entries before ++ book_entries_from k later) (omega arith)

-- the period after the event
pub period_of-push : (before : List Event) (event : Event) → period_after (period_of before) event ≡ period_of (before ++ event ∷ [])
period_of-push before event =
    let one : ℕ = count_by is_close (event ∷ []) in
    let more : period_of (before ++ event ∷ []) ≡ period_of before + one = sum_by-append (λ x. cond (is_close x) 1 0) before (event ∷ []) in
    omega (arith, more, period_after-cons (period_of before) event [])

pub around : {E : Type 0} (f : Event → ℕ → List E) (before : List Event) (event : Event) (later : List Event)
    → flat_map (λ d. f d.event d.period) (dated_from 0 (before ++ event ∷ later))
    ≡ flat_map (λ d. f d.event d.period) (dated_from 0 before) ++ (f event (period_of before) ++ flat_map (λ d. f d.event d.period) (dated_from (period_of (before ++ event ∷ [])) later))
around {E} f before event later =
    let of : Dated → List E = λ d. f d.event d.period in
    ap (flat_map of) (dated-append 0 before (event ∷ later))
    ∙ flat_map-append of (dated_from 0 before) (dated_from (0 + period_of before) (event ∷ later))
    ∙ ap (λ k. flat_map of (dated_from 0 before) ++ (f event k ++ flat_map of (dated_from (period_after k event) later))) (omega arith)
    ∙ ap (λ k. flat_map of (dated_from 0 before) ++ (f event (period_of before) ++ flat_map of (dated_from k later))) (period_of-push before event)

pub are_dated : EntriesAreDated
are_dated before event later = record {
  in_books = around book_entry before event later;
  in_accounts = around account_entry before event later;
}
