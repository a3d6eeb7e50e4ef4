-- Net positions of legal lists: they add up to 0, and those of closed periods stay.
use Rattle.std.proofs.Common.{◌≡◌, ◌<◌, ◌+◌, ◌==◌, ◌&&◌, ℕ, pos, List, [], ◌∷◌, ◌++◌, Bool, true, false, cond, refl, ap, ap₂, ◌∙◌, arith, map, append-nil}
use Rattle.std.specs.List.{list_all}
use Rattle.ocpi_types.specs.declared.config.Config.{Config}
use Rattle.ocpi_types.specs.Config.{has_currency_among}
use Rattle.cdr_checks.specs.Law.{PostsAreChecked}
use Rattle.netting_positions.specs.Laws.{NetPositionsAreBalanced, PartiesAreDifferent, PositionsBalance}
use Rattle.netting_positions.specs.Netting.{are_among, is_among, is_configured, parties}
use Rattle.netting_positions.specs.declared.obligation.Obligation.{Obligation}
use Rattle.plain_house.specs.declared.event.Event.{Event}
use Rattle.plain_house.specs.declared.event.Event.TheVariants as event
use Rattle.plain_house.specs.Booked.{booked}
use Rattle.plain_house.specs.Entries.{book_entries, book_entries_from, book_entry, is_close, period_after, period_of}
use Rattle.plain_house.specs.Legal.{IsLegal}
use Rattle.plain_house.specs.LegalLists.{ClosedPositionsBalance, LegalPositionsBalance}
use Rattle.plain_house.specs.Obligations.{ClosedPeriodsStay, obligation_of, obligations}
use Rattle.plain_house.proofs.DatedLemmas.{entries_split}
use Rattle.plain_house.proofs.NettingLemmas.{all_configured}
use Rattle.plain_house.proofs.ObligationLemmas.{next_obligations, obligations-append}
use Rattle.plain_house.proofs.ListEntryLemmas.{legal_sound}

-- ---- closed periods

other_period : (period n : ℕ) → period < n → (n == period) ≡ false
other_period period n h = grind arith

none_now : (period n : ℕ) (e : Event) → period < n → obligations period (book_entry e n) ≡ []
none_now period n (event.Tariff tariff) h = refl
none_now period n (event.Token token) h = refl
none_now period n (event.Authorised hold) h = refl
none_now period n (event.Released release) h = refl
none_now period n (event.Cdr cdr cost) h =
    ap (λ (b : Bool). map obligation_of (cond b (record { cdr = cdr; amount = pos cost; period = n } ∷ []) [])) (other_period period n h)
none_now period n (event.Credit cdr amount) h =
    ap (λ (b : Bool). map obligation_of (cond b (record { cdr = cdr; amount = amount; period = n } ∷ []) [])) (other_period period n h)
none_now period n (event.Settled settlement) h = refl
none_now period n (event.Closed closed) h = refl

goes_on : (period n : ℕ) (e : Event) → period < n → period < period_after n e
goes_on period n e h = by (is_close e)
  where
    by : (b : Bool) → period < cond b (n + 1) n
    by true = omega (arith, h)
    by false = h

none_later : (period n : ℕ) (es : List Event) → period < n → obligations period (book_entries_from n es) ≡ []
none_later period n [] h = refl
none_later period n (e ∷ es) h =
    next_obligations period n e es ∙ ap₂ (λ (xs ys : List Obligation). xs ++ ys) (none_now period n e h) (none_later period (period_after n e) es (goes_on period n e h))

pub closed_stay : ClosedPeriodsStay
closed_stay before later period h =
    ap (obligations period) (entries_split before later)
    ∙ obligations-append period (book_entries before) (book_entries_from (period_of before) later)
    ∙ ap (λ l. obligations period (book_entries before) ++ l) (none_later period (period_of before) later h) ∙ append-nil (obligations period (book_entries before))

-- ---- balance

all_among : (config : Config) (found : List Obligation) → list_all (is_configured (parties config) config.currencies) found ≡ true → are_among (parties config) found ≡ true
all_among config [] h = refl
all_among config (o ∷ found) h =
    by (is_among (parties config) o.operator) (is_among (parties config) o.provider) (has_currency_among config.currencies o.currency)
    (list_all (is_configured (parties config) config.currencies) found) (all_among config found) h
  where
    by : (a b c d : Bool) → (d ≡ true → are_among (parties config) found ≡ true) → ((a && b && c) && d) ≡ true → ((a && b) && are_among (parties config) found) ≡ true
    by true true true true rest g = rest refl
    by true true true false rest g = absurd (cc)
    by true true false d rest g = absurd (cc)
    by true false c d rest g = absurd (cc)
    by false b c d rest g = absurd (cc)

-- what is obliged to in a period is among the parties
module _ (law : PostsAreChecked) (config : Config) (events : List Event) (period : ℕ) (legal : IsLegal config events) where
  legal_among : are_among (parties config) (obligations period (book_entries events)) ≡ true
  legal_among =
      all_among config (obligations period (book_entries events)) (all_configured config period (booked (book_entries events)) (legal_sound law config events legal).each)

pub balanced : PartiesAreDifferent → PositionsBalance → PostsAreChecked → LegalPositionsBalance
balanced different balance law config events period currency operators providers legal =
    balance (parties config) (obligations period (book_entries events)) currency (different config operators providers) (legal_among law config events period legal)

pub closed_balanced : PartiesAreDifferent → NetPositionsAreBalanced → PostsAreChecked → ClosedPositionsBalance
closed_balanced different balance law config events period operators providers legal =
    balance (parties config) config.currencies (obligations period (book_entries events)) (different config operators providers) (legal_among law config events period legal)
