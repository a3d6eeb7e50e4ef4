-- A settlement is found by its provider, currency and period.
use Rattle.std.proofs.Common.{◌≡◌, List, [], ◌∷◌, ◌++◌, Bool, true, false, cond, ◌&&◌, ◌||◌, ◌==◌, refl, ap₂, ap, sym, ◌∙◌}
use Rattle.std.specs.List.{list_any}
use Rattle.std.proofs.Math.Bool.{and_assoc}
use Rattle.indexmap.specs.IndexSet.{IndexSet, contains}
use Rattle.ocpi_types.specs.Currency.{same_currency}
use Rattle.ocpi_types.specs.Party.{same_party}
use Rattle.cdr_checks.specs.declared.request.Settlement.{Settlement}
use Rattle.house_reports.specs.declared.balances.booking.Booking.{Booking}
use Rattle.house_reports.specs.declared.balances.settled.SettledKey.{SettledKey}
use Rattle.house_reports.specs.balances.Bookings.{is_settled, settles}
use Rattle.house_reports.specs.balances.Inner.Settled.{HasKeys, key_by, key_of, same_key}

-- the keys are the same if the settlement is the booking's
one : (settlement : Settlement) (booking : Booking) → same_key (key_by settlement) (key_of booking) ≡ settles settlement booking
one settlement booking =
    sym (and_assoc (same_party settlement.provider booking.provider) (same_currency settlement.currency booking.currency) (settlement.period == booking.period))

found : (settlements : List Settlement) (booking : Booking) → list_any (λ settlement. same_key (key_by settlement) (key_of booking)) settlements ≡ is_settled settlements booking
found [] booking = refl
found (settlement ∷ settlements) booking = ap₂ (λ (a b : Bool). a || b) (one settlement booking) (found settlements booking)

pub found_by_key : {S : Type 0} (keys : IndexSet SettledKey S) (settlements : List Settlement) (booking : Booking) → HasKeys keys settlements
    → contains same_key keys (key_of booking) ≡ is_settled settlements booking
found_by_key keys settlements booking has = has (key_of booking) ∙ found settlements booking

or_last : (a b c : Bool) → cond a true (b || c) ≡ (b || cond a true c)
or_last true true c = refl
or_last true false c = refl
or_last false b c = refl

one_more : (settlements : List Settlement) (settlement : Settlement) (key : SettledKey)
    → cond (same_key (key_by settlement) key) true (list_any (λ other. same_key (key_by other) key) settlements)
    ≡ list_any (λ other. same_key (key_by other) key) (settlements ++ settlement ∷ [])
one_more [] settlement key = by (same_key (key_by settlement) key)
  where
    by : (b : Bool) → cond b true false ≡ (b || false)
    by true = refl
    by false = refl
one_more (other ∷ settlements) settlement key =
    or_last (same_key (key_by settlement) key) (same_key (key_by other) key) (list_any (λ s. same_key (key_by s) key) settlements)
    ∙ ap (λ (b : Bool). same_key (key_by other) key || b) (one_more settlements settlement key)

-- the keys of one settlement more
pub has_more : {S : Type 0} (keys keys' : IndexSet SettledKey S) (settlements : List Settlement) (settlement : Settlement) → HasKeys keys settlements
    → ((key : SettledKey) → contains same_key keys' key ≡ cond (same_key (key_by settlement) key) true (contains same_key keys key))
    → HasKeys keys' (settlements ++ settlement ∷ [])
has_more keys keys' settlements settlement has inserted key =
    inserted key ∙ ap (λ (b : Bool). cond (same_key (key_by settlement) key) true b) (has key) ∙ one_more settlements settlement key
