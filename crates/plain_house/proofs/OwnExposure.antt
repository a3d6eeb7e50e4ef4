-- On a legal list the exposure is that of the entries of the provider's own account.
use Rattle.std.proofs.Common.{◌≡◌, ◌⊎◌, inl, inr, ◌+◌, List, [], ◌∷◌, ◌++◌, Bool, true, false, if◌then◌else◌, Option, Some, is_none, ap₂, refl, sym, subst}
use Rattle.ocpi_types.specs.declared.cdr.Cdr.{Cdr}
use Rattle.ocpi_types.specs.declared.config.Config.{Config}
use Rattle.ocpi_types.specs.Party.{same_party}
use Rattle.plain_house.specs.declared.event.Event.{Event}
use Rattle.plain_house.specs.declared.event.Event.TheVariants as event
use Rattle.plain_house.specs.declared.posting.CreditDifference.{CreditDifference}
use Rattle.plain_house.specs.declared.posting.CreditDifference.TheVariants.{Provider}
use Rattle.plain_house.specs.declared.scope.Scope.{Scope}
use Rattle.plain_house.specs.Booked.{Booked}
use Rattle.plain_house.specs.Entries.{account_entries}
use Rattle.plain_house.specs.Own.{ExposureIsOfOwnEntries, ExposureWithChargeIsOfOwnEntries, IsOfOwnEntries}
use Rattle.plain_house.specs.Legal.{IsLegal}
use Rattle.plain_house.specs.LegalLists.{LegalCdrsAreCharged, LegalCreditsAreTakenBack}
use Rattle.plain_house.specs.Posting.{credit_difference, meets_original}
use Rattle.plain_house.proofs.BookedOnce.{AreBookable, IsBookable, are_ended_by_own}
use Rattle.plain_house.proofs.ExposureLater.{entries_push}
use Rattle.plain_house.proofs.GrownLemmas.{last_or_before}
use Rattle.plain_house.proofs.OwnEntries.{debts_of_own, holds_of_own}

pub bookable_own : (scope : Scope) (events : List Event) → AreBookable events → IsOfOwnEntries scope (account_entries events)
bookable_own scope events bookable =
    let holds = holds_of_own scope (account_entries events) in
    let debts = debts_of_own scope (account_entries events) (are_ended_by_own events bookable) in
    record { holds = holds; debts = debts; exposure = ap₂ ◌+◌ holds debts }

same_provider : (config : Config) (credit : Cdr) (original : Booked) → meets_original config credit original ≡ true
    → same_party credit.cdr_token.provider original.cdr.cdr_token.provider ≡ true
unfolding credit_difference
same_provider config credit original meets =
    by (same_party credit.cdr_token.provider original.cdr.cdr_token.provider) _ meets
  where
    by : (same : Bool) (others : Option CreditDifference) → is_none (if same then others else Some Provider) ≡ true → same ≡ true
    by true others none = refl
    by false others none = absurd (cc)

pub legal_bookable : LegalCdrsAreCharged → LegalCreditsAreTakenBack → (config : Config) (events : List Event) → IsLegal config events → AreBookable events
legal_bookable charged taken config events legal before e later same = by e (subst (IsLegal config) same legal)
  where
    by : (e : Event) → IsLegal config (before ++ e ∷ later) → IsBookable before e
    by (event.Tariff tariff) legal = tt
    by (event.Token token) legal = tt
    by (event.Authorised hold) legal = tt
    by (event.Released release) legal = tt
    by (event.Cdr cdr cost) legal = (charged config before later cdr cost legal).unknown
    by (event.Credit cdr amount) legal =
        let back = taken config before later cdr amount legal in
        (back.original, back.named, same_provider config cdr back.original back.same)
    by (event.Settled settlement) legal = tt
    by (event.Closed period) legal = tt

pub exposure_of_own : LegalCdrsAreCharged → LegalCreditsAreTakenBack → ExposureIsOfOwnEntries
exposure_of_own charged taken config events scope legal = bookable_own scope events (legal_bookable charged taken config events legal)

-- ---- one more charge

-- an event that is bookable behind those that are
bookable_push : (events : List Event) (e : Event) → AreBookable events → IsBookable events e → AreBookable (events ++ e ∷ [])
bookable_push events e bookable last before x later same = by (last_or_before events e before x later same)
  where
    by : ((before ≡ events) × (x ≡ e)) ⊎ ((rest : List Event) × (events ≡ before ++ x ∷ rest)) → IsBookable before x
    by (inl p) = subst (λ (b : List Event). IsBookable b x) (sym p.0) (subst (IsBookable events) (sym p.1) last)
    by (inr p) = bookable before x p.0 p.1

pub exposure_with_charge_of_own : LegalCdrsAreCharged → LegalCreditsAreTakenBack → ExposureWithChargeIsOfOwnEntries
exposure_with_charge_of_own charged taken config events scope cdr cost legal unknown =
    subst (IsOfOwnEntries scope) (entries_push events (event.Cdr cdr cost))
    (bookable_own scope (events ++ event.Cdr cdr cost ∷ []) (bookable_push events (event.Cdr cdr cost) (legal_bookable charged taken config events legal) unknown))
