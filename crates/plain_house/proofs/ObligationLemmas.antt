-- The obligations of entries, one event after another.
use Rattle.std.proofs.Common.{◌≡◌, ◌<◌, ◌≤◌, ◌^◌, ◌+◌, ◌==◌, ◌&&◌, ℕ, List, [], ◌∷◌, ◌++◌, Bool, true, false, cond, refl, sym, ap, ◌∙◌, arith, filter, map, append_assoc, append-nil}
use Rattle.std.specs.List.{list_all}
use Rattle.std.proofs.lemmas.List.{map-append}
use Rattle.std.proofs.lemmas.List.Concat.{flat_map-append}
use Rattle.std.proofs.lemmas.List.Elements.{filter-append}
use Rattle.std.proofs.lemmas.List.Folds.{list_all-append}
use Rattle.std.proofs.lemmas.List.Sums.{sum_by-append, sum_by-cons}
use Rattle.netting_positions.specs.Netting.{size, total_size}
use Rattle.netting_positions.specs.declared.obligation.Obligation.{Obligation}
use Rattle.plain_house.specs.declared.event.Event.{Event}
use Rattle.plain_house.specs.declared.entry.BookEntry.{BookEntry}
use Rattle.plain_house.specs.Booked.{booked, booked_in}
use Rattle.plain_house.specs.Entries.{book_entries_from, book_entry, period_after}
use Rattle.plain_house.specs.Obligations.{is_of_period, obligation_of, obligations}

pub obligations-append : (period : ℕ) (xs ys : List BookEntry) → obligations period (xs ++ ys) ≡ obligations period xs ++ obligations period ys
obligations-append period xs ys =
    ap (λ l. map obligation_of (filter (is_of_period period) l)) (flat_map-append booked_in xs ys)
    ∙ ap (map obligation_of) (filter-append (is_of_period period) (booked xs) (booked ys))
    ∙ map-append obligation_of (filter (is_of_period period) (booked xs)) (filter (is_of_period period) (booked ys))

pub next_obligations : (period n : ℕ) (e : Event) (es : List Event)
    → obligations period (book_entries_from n (e ∷ es)) ≡ obligations period (book_entry e n) ++ obligations period (book_entries_from (period_after n e) es)
next_obligations period n e es = obligations-append period (book_entry e n) (book_entries_from (period_after n e) es)

-- what holds of all holds of one of them
pub passes_at : (p : Obligation → Bool) (xs ys : List Obligation) (o : Obligation) → list_all p (xs ++ o ∷ ys) ≡ true → p o ≡ true
passes_at p xs ys o h = by (list_all p xs) (p o) (list_all p ys) (sym (list_all-append p xs (o ∷ ys)) ∙ h)
  where
    by : (a b c : Bool) → (a && (b && c)) ≡ true → b ≡ true
    by true true c g = refl
    by true false c g = absurd (cc)
    by false b c g = absurd (cc)

pub fits_at : (xs ys : List Obligation) (o : Obligation) (most : ℕ) → total_size (xs ++ o ∷ ys) < most → total_size xs + size o < most
fits_at xs ys o most h = omega (arith, sum_by-append size xs (o ∷ ys), sum_by-cons size o ys, h)

pub ruleset obligation_rules = (next_obligations, passes_at, fits_at, append_assoc)
