-- What is booked and credited on the first of all events.
use Rattle.std.proofs.Common.{◌≡◌, ◌∙◌, ◌≤◌, ℕ, ◌+◌, List, ◌++◌, Bool, true, false, ◌||◌, cond, Option, Some, None, refl, sym, ap, arith, count_by, find, is_some, take, drop}
use Rattle.std.specs.List.{list_any, position}
use Rattle.std.specs.Option.{option_or}
use Rattle.std.proofs.lemmas.Bool.Decides.{nat_tests}
use Rattle.std.proofs.lemmas.List.Concat.{flat_map-append}
use Rattle.std.proofs.lemmas.List.Folds.{find-append, list_any-append}
use Rattle.std.proofs.lemmas.List.Sums.{sum_by-append}
use Rattle.std.proofs.lemmas.Option.{get_or_from_slice_get}
use Rattle.ocpi_types.specs.declared.party.Party.{Party}
use Rattle.plain_house.specs.Booked.{Booked, booked, booked_as, booked_in, has_id, is_credited}
use Rattle.plain_house.specs.Entries.{book_entries, book_entries_from, is_close, period_of}
use Rattle.plain_house.specs.Happened.{books, takes_back}
use Rattle.plain_house.specs.Inner.Scanned.{booked_of_event}
use Rattle.plain_house.specs.Posting.{is_in_window}
use Rattle.plain_house.specs.declared.event.Event.{Event}
use Rattle.plain_house.specs.declared.event.Event.TheVariants as event
use Rattle.plain_house.proofs.DatedLemmas.{entries_split}
use Rattle.plain_house.proofs.EntriesLemmas.{credited_in_events}
use Rattle.known_events.proofs.BookedLemmas.{booked_there, not_booked}
use Rattle.house_causes.proofs.PrefixLemmas.{first_parts, first_upto, none_first}

pub neither : (one other : Bool) → (one || other) ≡ false → (one ≡ false) × (other ≡ false)
neither true other h = absurd (cc)
neither false other h = (refl, h)

pub other_any : (one other : Bool) → one ≡ false → (one || other) ≡ true → other ≡ true
other_any true other h any = absurd (cc)
other_any false other h any = any

first_none : {A : Type 0} (one other : Option A) → option_or one other ≡ None → one ≡ None
first_none None other h = refl
first_none (Some x) other h = absurd (cc)

first_some : {A : Type 0} (one other : Option A) (x : A) → is_some one ≡ true → option_or one other ≡ Some x → one ≡ Some x
first_some None other x some h = absurd (cc)
first_some (Some y) other x some h = h

-- a period in the window stays in it at an earlier current one
pub in_window_before : (window : Option ℕ) (original current earlier : ℕ) → earlier ≤ current → is_in_window window original current ≡ true
    → is_in_window window original earlier ≡ true
in_window_before None original current earlier less h = refl
in_window_before (Some window) original current earlier less h = grind (arith, nat_tests)

module _ (events before later : List Event) (whole : events ≡ before ++ later) where
  booked_split : (operator : Party) (id : List ℕ) → booked_as operator id (book_entries events)
      ≡ option_or (booked_as operator id (book_entries before)) (booked_as operator id (book_entries_from (period_of before) later))
  booked_split operator id =
      ap (λ (l : List Event). booked_as operator id (book_entries l)) whole
      ∙ ap (booked_as operator id) (entries_split before later)
      ∙ ap (find (has_id operator id)) (flat_map-append booked_in (book_entries before) (book_entries_from (period_of before) later))
      ∙ find-append (has_id operator id) (booked (book_entries before)) (booked (book_entries_from (period_of before) later))

  pub none_booked : (operator : Party) (id : List ℕ) → booked_as operator id (book_entries events) ≡ None → booked_as operator id (book_entries before) ≡ None
  none_booked operator id h =
      first_none (booked_as operator id (book_entries before)) (booked_as operator id (book_entries_from (period_of before) later)) (sym (booked_split operator id) ∙ h)

  -- what is booked before is what is booked
  pub same_booked : (operator : Party) (id : List ℕ) (found : Booked) → is_some (booked_as operator id (book_entries before)) ≡ true
      → booked_as operator id (book_entries events) ≡ Some found → booked_as operator id (book_entries before) ≡ Some found
  same_booked operator id found some h =
      first_some (booked_as operator id (book_entries before)) (booked_as operator id (book_entries_from (period_of before) later)) found some (sym (booked_split operator id) ∙ h)

  -- and stays booked
  pub kept_booked : (operator : Party) (id : List ℕ) (found : Booked) → booked_as operator id (book_entries before) ≡ Some found → booked_as operator id (book_entries events) ≡ Some found
  kept_booked operator id found h =
      booked_split operator id ∙ ap (λ (o : Option Booked). option_or o (booked_as operator id (book_entries_from (period_of before) later))) h

  pub none_credited : (operator : Party) (id : List ℕ) → is_credited operator id (book_entries events) ≡ false → is_credited operator id (book_entries before) ≡ false
  none_credited operator id h =
      let any : (list_any (takes_back operator id) before || list_any (takes_back operator id) later) ≡ false =
      sym (list_any-append (takes_back operator id) before later) ∙ ap (list_any (takes_back operator id)) (sym whole)
      ∙ sym (credited_in_events operator id events) ∙ h in
      credited_in_events operator id before ∙ (neither (list_any (takes_back operator id) before) (list_any (takes_back operator id) later) any).0

  pub earlier_period : period_of before ≤ period_of events
  earlier_period =
      let sum : period_of events ≡ period_of before + count_by is_close later =
      ap period_of whole ∙ sum_by-append (λ x. cond (is_close x) 1 0) before later in
      omega (arith, sum)

-- ---- the first event that books

books_one : (operator : Party) (id : List ℕ) (e : Event) (period : ℕ) → books operator id e ≡ true → is_some (booked_of_event e period) ≡ true
books_one operator id (event.Tariff tariff) period h = absurd (cc)
books_one operator id (event.Token token) period h = absurd (cc)
books_one operator id (event.Authorised hold) period h = absurd (cc)
books_one operator id (event.Released release) period h = absurd (cc)
books_one operator id (event.Cdr cdr cost) period h = refl
books_one operator id (event.Credit cdr amount) period h = refl
books_one operator id (event.Settled settlement) period h = absurd (cc)
books_one operator id (event.Closed closed) period h = absurd (cc)

is_booked : (operator : Party) (id : List ℕ) (events : List Event) (place : ℕ) → position (books operator id) events ≡ Some place
    → is_some (booked_as operator id (book_entries events)) ≡ true
is_booked operator id events place first =
    let it = first_parts (books operator id) events place first in
    let item = it.parts.item in
    let there = sym (get_or_from_slice_get events place item item it.parts.stands) in
    ap is_some (sym (booked_there operator id events place first item there)) ∙ books_one operator id item _ it.passes

module _ (operator : Party) (id : List ℕ) (events : List Event) (place : ℕ) (first : position (books operator id) events ≡ Some place) where
  pub none_booked_before : booked_as operator id (book_entries (take place events)) ≡ None
  none_booked_before =
      sym (not_booked operator id (take place events) (none_first (books operator id) (take place events) (first_parts (books operator id) events place first).none))

  pub booked_upto : (found : Booked) → booked_as operator id (book_entries events) ≡ Some found → booked_as operator id (book_entries (take (place + 1) events)) ≡ Some found
  booked_upto found stands =
      same_booked events (take (place + 1) events) (drop (place + 1) events) (first_parts (books operator id) events place first).parts.split operator id found
      (is_booked operator id (take (place + 1) events) place (first_upto (books operator id) events place first)) stands
