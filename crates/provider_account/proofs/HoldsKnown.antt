-- What is known of holds, after one more entry.
use Rattle.std.proofs.Common.{◌≡◌, ◌≤◌, ℕ, ◌+◌, ◌-◌, List, [], ◌∷◌, ◌++◌, Bool, true, false, not, ◌&&◌, cond, Option, None, Some, filter, find, count_by, refl, sym, ap, ◌∙◌, subst, arith}
use Rattle.std.specs.Map.{lookup}
use Rattle.std.specs.Option.{IfSome}
use Rattle.std.proofs.lemmas.List.{append-nil}
use Rattle.std.proofs.lemmas.List.Sums.{sum_by-append}
use Rattle.std.proofs.lemmas.Map.Entries.{option_filter}
use Rattle.ocpi_json.specs.Folded.{same_folded}
use Rattle.ocpi_types.specs.declared.party.Party.{Party}
use Rattle.ocpi_types.specs.Currency.{same_currency}
use Rattle.ocpi_types.specs.Party.{same_party}
use Rattle.cdr_checks.specs.declared.request.Release.{Release}
use Rattle.plain_house.specs.declared.entry.AccountEntry.{AccountEntry}
use Rattle.plain_house.specs.declared.entry.AccountEntry.TheVariants as account
use Rattle.plain_house.specs.declared.entry.Charge.{Charge}
use Rattle.plain_house.specs.declared.event.Hold.{Hold}
use Rattle.plain_house.specs.declared.scope.Scope.{Scope}
use Rattle.plain_house.specs.Exposure.{ends_hold, names, holds_of, holds_within, open_hold, open_holds, released_hold, total_held}
use Rattle.plain_house.specs.House.{is_hold_of}
use Rattle.provider_account.specs.declared.hold_sums.HoldSumKey.{HoldSumKey}
use Rattle.provider_account.specs.declared.holds.HoldKey.{HoldKey}
use Rattle.provider_account.specs.declared.holds.Holds.{Holds}
use Rattle.provider_account.specs.Inner.HoldSums.{hold_sum_at, key_of_scope, same_hold_sum_key}
use Rattle.provider_account.specs.Inner.Sums.{sum_at}
use Rattle.provider_account.specs.Inner.Holds.{AreCovered, AreNumbered, IsCovered, KnowsHolds, ended_hold, in_currency, key_of_hold, key_of_release, names_key, open_ended, open_under, open_used, same_hold, used_under, without}
use Rattle.provider_account.proofs.OnlyOne.{count-filter, count-none, fewer, filter-none, find-apart, find-narrow, find-none, found_in_sum, found_passes, none_left, sum_without}
use Rattle.provider_account.proofs.OpenHolds.{ended_by_key, named_by, open_holds-push, same_ended, same_hold_laws}

-- the entry that ends a hold, as a test
abbrev by : AccountEntry → Hold → Bool
by x hold = ends_hold hold x

abbrev freed : Release → Hold → Bool
freed release hold = ends_hold hold (account.Release release)

-- what is open is part of what is sums
pub covered : (known : Holds) (entries : List AccountEntry) → KnowsHolds known entries → AreCovered known
covered known entries knows release hold found scope within =
    let there : released_hold entries release ≡ Some hold = sym (knows.found release) ∙ found in
    let part = found_in_sum (freed release) (λ (h : Hold). h.amount) (holds_within scope) (open_holds entries) hold there within in
    subst (λ (n : ℕ). hold.amount ≤ n) (sym (knows.sums scope)) part

-- ---- an entry that is no hold

module _ (entries : List AccountEntry) (x : AccountEntry) (none : open_hold x [] ≡ []) where
  abbrev left : List Hold
  left = filter (λ hold. not (ends_hold hold x)) (open_holds entries)

  left_open : open_holds (entries ++ x ∷ []) ≡ left
  left_open = open_holds-push entries x ∙ ap (λ l. filter (λ hold. not (ends_hold hold x)) (open_holds entries) ++ l) none ∙ append-nil (filter (λ hold. not (ends_hold hold x)) (open_holds entries))

  counted : (provider : Party) → count_by (is_hold_of provider) entries ≤ count_by (is_hold_of provider) (entries ++ x ∷ [])
  counted provider = omega (arith, sum_by-append (λ y. cond (is_hold_of provider y) 1 0) entries (x ∷ []))

  still_numbered : AreNumbered entries → AreNumbered (entries ++ x ∷ [])
  still_numbered numbered = record {
    one_each = λ release. omega (arith, ap (count_by (freed release)) left_open, count-filter (freed release) (λ hold. not (ends_hold hold x)) (open_holds entries), numbered.one_each release);
    to_come = λ release number more small named.
        let before : released_hold entries release ≡ None = numbered.to_come release number (omega (arith, counted release.provider, more)) small named in
        ap (find (freed release)) left_open
        ∙ find-none (freed release) left (omega (arith, count-filter (freed release) (λ hold. not (ends_hold hold x)) (open_holds entries), count-none (freed release) (open_holds entries) before));
  }

  -- it ends no hold
  pub unended_known : (known : Holds) → KnowsHolds known entries → ended_hold entries x ≡ None → KnowsHolds known (entries ++ x ∷ [])
  unended_known known knows ends_none =
      let same : open_holds (entries ++ x ∷ []) ≡ open_holds entries = left_open ∙ filter-none (by x) (open_holds entries) ends_none in
      record {
        found = λ release. knows.found release ∙ ap (find (freed release)) (sym same);
        sums = λ scope. knows.sums scope ∙ ap (λ l. total_held (filter (holds_within scope) l)) (sym same);
        numbered = still_numbered knows.numbered;
      }

  module _ (old : Holds) (knows : KnowsHolds old entries) (hold : Hold) (ended : ended_hold entries x ≡ Some hold) where
    it_ends : ends_hold hold x ≡ true
    it_ends = found_passes (by x) (open_holds entries) hold ended

    pub named : (key : HoldKey) → names_key x key ≡ same_hold (key_of_hold hold) key
    named = named_by x hold it_ends

    -- the holds that the entry ends have the key of this one
    of_key : (other : Hold) → ends_hold other x ≡ true → same_hold (key_of_hold hold) (key_of_hold other) ≡ true
    of_key other e = same_ended x hold other it_ends e

    narrow : (release : Release) → same_hold (key_of_hold hold) (key_of_release release) ≡ true → (other : Hold) → ends_hold other x ≡ true → freed release other ≡ true
    narrow release same other e =
        ended_by_key other release ∙ sym (same_hold_laws.congr (key_of_hold hold) (key_of_release release) (key_of_hold other) same) ∙ of_key other e

    apart : (release : Release) → same_hold (key_of_hold hold) (key_of_release release) ≡ false → (other : Hold) → freed release other ≡ true → ends_hold other x ≡ false
    apart release differ other free = pick (ends_hold other x) refl
      where
        pick : (b : Bool) → ends_hold other x ≡ b → b ≡ false
        pick false e = refl
        pick true e =
            let of_release : same_hold (key_of_hold other) (key_of_release release) ≡ true = same_hold_laws.symm (key_of_hold other) (key_of_release release) ∙ (sym (ended_by_key other release) ∙ free) in
            let no : false ≡ true = sym differ ∙ same_hold_laws.congr (key_of_hold hold) (key_of_hold other) (key_of_release release) (of_key other e) ∙ of_release in
            absurd (Prim.cc)

    found_after : (release : Release) (b : Bool) → same_hold (key_of_hold hold) (key_of_release release) ≡ b → cond b None (released_hold entries release) ≡ find (freed release) left
    found_after release true e = sym (none_left (freed release) (by x) (narrow release e) (open_holds entries) hold (knows.numbered.one_each release) ended)
    found_after release false e = sym (find-apart (by x) (freed release) (apart release e) (open_holds entries))

    own : Release
    own = record { operator = hold.operator; provider = hold.provider; reference = hold.reference }

    only_one : count_by (by x) (open_holds entries) ≤ 1
    unfolding own
    only_one = omega (arith, fewer (freed own) (by x) (narrow own (same_hold_laws.refl (key_of_hold hold))) (open_holds entries), knows.numbered.one_each own)

    held_after : (scope : Scope) (b : Bool) → holds_within scope hold ≡ b
        → cond {A = ℕ} b (hold_sum_at old.sums scope - hold.amount) (hold_sum_at old.sums scope) ≡ total_held (filter (holds_within scope) left)
    held_after scope b e =
        let without = sum_without (by x) (λ (h : Hold). h.amount) (holds_within scope) (open_holds entries) hold only_one ended in
        pick b e without
      where
        pick : (b : Bool) → holds_within scope hold ≡ b → total_held (filter (holds_within scope) (open_holds entries)) ≡ total_held (filter (holds_within scope) left) + cond {A = ℕ} (holds_within scope hold) hold.amount 0
            → cond {A = ℕ} b (hold_sum_at old.sums scope - hold.amount) (hold_sum_at old.sums scope) ≡ total_held (filter (holds_within scope) left)
        pick true e w = omega (arith, w, knows.sums scope, ap (λ b. cond {A = ℕ} b hold.amount 0) e)
        pick false e w = omega (arith, w, knows.sums scope, ap (λ b. cond {A = ℕ} b hold.amount 0) e)

    pub held_without : (scope : Scope) → without scope (Some hold) (hold_sum_at old.sums scope) ≡ holds_of scope (entries ++ x ∷ [])
    held_without scope = held_after scope (holds_within scope hold) refl ∙ ap (λ l. total_held (filter (holds_within scope) l)) (sym left_open)

    pub ended_known : (new : Holds)
        → ((release : Release) → open_under new release ≡ cond (same_hold (key_of_hold hold) (key_of_release release)) None (open_under old release))
        → ((scope : Scope) → hold_sum_at new.sums scope ≡ without scope (Some hold) (hold_sum_at old.sums scope))
        → KnowsHolds new (entries ++ x ∷ [])
    ended_known new opened sums = record {
      found = λ release. opened release ∙ ap (cond (same_hold (key_of_hold hold) (key_of_release release)) None) (knows.found release) ∙ found_after release (same_hold (key_of_hold hold) (key_of_release release)) refl ∙ ap (find (freed release)) (sym left_open);
      sums = λ scope. sums scope ∙ held_without scope;
      numbered = still_numbered knows.numbered;
    }

-- ---- what the maps find is what the entries say

charged_as : (charge : Charge) (hold : Hold) (reference : List ℕ)
    → (same_party charge.operator hold.operator && same_party charge.provider hold.provider && same_currency charge.currency hold.currency && same_folded reference hold.reference)
    ≡ ((same_party charge.operator hold.operator && same_party charge.provider hold.provider && same_folded reference hold.reference) && same_currency charge.currency hold.currency)
charged_as charge hold reference =
    swapped (same_party charge.operator hold.operator && same_party charge.provider hold.provider) (same_currency charge.currency hold.currency) (same_folded reference hold.reference)
  where
    swapped : (a b c : Bool) → (a && b && c) ≡ (a && c && b)
    swapped true true true = refl
    swapped true true false = refl
    swapped true false true = refl
    swapped true false false = refl
    swapped false b c = refl

none_used : (charge : Charge) (holds : List Hold)
    → find (λ hold. same_party charge.operator hold.operator && same_party charge.provider hold.provider && same_currency charge.currency hold.currency && false) holds ≡ None
none_used charge [] = refl
none_used charge (hold ∷ holds) =
    ap (λ b. cond b (Some hold) (find (λ h. same_party charge.operator h.operator && same_party charge.provider h.provider && same_currency charge.currency h.currency && false) holds))
    (no (same_party charge.operator hold.operator && same_party charge.provider hold.provider && same_currency charge.currency hold.currency))
    ∙ none_used charge holds
  where
    no : (a : Bool) → (a && false) ≡ false
    no true = refl
    no false = refl

in_currency_is : (currency : List ℕ) (found : Option Hold) → in_currency currency found ≡ option_filter (λ hold. same_currency currency hold.currency) found
in_currency_is currency None = refl
in_currency_is currency (Some hold) = refl

abbrev used_by : Charge → Option (List ℕ) → Hold → Bool
used_by charge reference hold =
    same_party charge.operator hold.operator && same_party charge.provider hold.provider && same_currency charge.currency hold.currency && names hold.reference reference

none_found : (holds : List Hold) → find (λ (hold : Hold). false) holds ≡ None
none_found [] = refl
none_found (hold ∷ holds) = none_found holds

pub used_known : (known : Holds) (entries : List AccountEntry) → KnowsHolds known entries → (charge : Charge) → open_used known charge ≡ ended_hold entries (account.Charge charge)
used_known known entries knows charge = pick charge.hold refl
  where
    pick : (reference : Option (List ℕ)) → charge.hold ≡ reference → used_under known charge charge.hold ≡ find (λ hold. ends_hold hold (account.Charge charge)) (open_holds entries)
    pick None e = ap (used_under known charge) e ∙ sym (none_used charge (open_holds entries)) ∙ (λ i. find (used_by charge (sym e i)) (open_holds entries))
    pick (Some reference) e =
        let release : Release = record { operator = charge.operator; provider = charge.provider; reference = reference } in
        ap (used_under known charge) e
        ∙ ap (in_currency charge.currency) (knows.found release)
        ∙ in_currency_is charge.currency (released_hold entries release)
        ∙ sym (find-narrow (freed release) (λ hold. same_currency charge.currency hold.currency) (open_holds entries) (knows.numbered.one_each release))
        ∙ (λ i. find (λ hold. sym (charged_as charge hold reference) i) (open_holds entries))
        ∙ (λ i. find (used_by charge (sym e i)) (open_holds entries))

pub ended_found : (known : Holds) (entries : List AccountEntry) → KnowsHolds known entries → (x : AccountEntry) → open_ended known x ≡ ended_hold entries x
ended_found known entries knows (account.Token token) = sym (none_found (open_holds entries))
ended_found known entries knows (account.Hold hold) = sym (none_found (open_holds entries))
ended_found known entries knows (account.Release release) = knows.found release
ended_found known entries knows (account.Charge charge) = used_known known entries knows charge
ended_found known entries knows (account.Credit credit) = sym (none_found (open_holds entries))
ended_found known entries knows (account.Settlement settlement) = sym (none_found (open_holds entries))

-- what is found is covered
covered_in_currency : (known : Holds) (currency : List ℕ) (found : Option Hold) → IfSome found (IsCovered known) → IfSome (in_currency currency found) (IsCovered known)
covered_in_currency known currency None h = h
covered_in_currency known currency (Some hold) h = pick (same_currency currency hold.currency)
  where
    pick : (b : Bool) → IfSome (cond b (Some hold) None) (IsCovered known)
    pick true = h
    pick false = tt

covered_under : (known : Holds) → AreCovered known → (release : Release) → IfSome (open_under known release) (IsCovered known)
covered_under known all release = pick (open_under known release) (all release)
  where
    pick : (found : Option Hold) → ((hold : Hold) → found ≡ Some hold → IsCovered known hold) → IfSome found (IsCovered known)
    pick None h = tt
    pick (Some hold) h = h hold refl

covered_used : (known : Holds) → AreCovered known → (charge : Charge) (reference : Option (List ℕ)) → IfSome (used_under known charge reference) (IsCovered known)
covered_used known all charge None = tt
covered_used known all charge (Some reference) =
    let release : Release = record { operator = charge.operator; provider = charge.provider; reference = reference } in
    covered_in_currency known charge.currency (open_under known release) (covered_under known all release)

pub covered_ended : (known : Holds) → AreCovered known → (x : AccountEntry) → IfSome (open_ended known x) (IsCovered known)
covered_ended known all (account.Token token) = tt
covered_ended known all (account.Hold hold) = tt
covered_ended known all (account.Release release) = covered_under known all release
covered_ended known all (account.Charge charge) = covered_used known all charge charge.hold
covered_ended known all (account.Credit credit) = tt
covered_ended known all (account.Settlement settlement) = tt

pub covered_hold : (known : Holds) (found : Option Hold) (hold : Hold) → IfSome found (IsCovered known) → found ≡ Some hold → IsCovered known hold
covered_hold known found hold h e = subst (λ (o : Option Hold). IfSome o (IsCovered known)) e h

-- a charge added, for a sum
pub total_with_known : (known : Holds) (entries : List AccountEntry) → KnowsHolds known entries → (scope : Scope) (charge : Charge)
    → without scope (open_used known charge) (hold_sum_at known.sums scope) ≡ holds_of scope (entries ++ account.Charge charge ∷ [])
total_with_known known entries knows scope charge = pick (open_used known charge) refl
  where
    pick : (found : Option Hold) → open_used known charge ≡ found → without scope (open_used known charge) (hold_sum_at known.sums scope) ≡ holds_of scope (entries ++ account.Charge charge ∷ [])
    pick None e =
        ap (λ (found : Option Hold). without scope found (hold_sum_at known.sums scope)) e
        ∙ (unended_known entries (account.Charge charge) refl known knows (sym (used_known known entries knows charge) ∙ e)).sums scope
    pick (Some hold) e =
        ap (λ (found : Option Hold). without scope found (hold_sum_at known.sums scope)) e
        ∙ held_without entries (account.Charge charge) refl known knows hold (sym (used_known known entries knows charge) ∙ e) scope

-- ---- nothing, and the same

pub nothing_known : (known : Holds) → known.open.entries ≡ [] → ((key : HoldSumKey) → sum_at same_hold_sum_key known.sums key ≡ 0) → KnowsHolds known []
nothing_known known none zero = record {
  found = λ release. ap (lookup (same_hold (key_of_release release))) none;
  sums = λ scope. zero (key_of_scope scope);
  numbered = record { one_each = λ release. omega arith; to_come = λ release number more small named. refl };
}

pub same_known : (old new : Holds) (entries : List AccountEntry) → new.open.entries ≡ old.open.entries → ((key : HoldSumKey) → sum_at same_hold_sum_key new.sums key ≡ sum_at same_hold_sum_key old.sums key)
    → KnowsHolds old entries → KnowsHolds new entries
same_known old new entries kept sums knows = record {
  found = λ release. ap (lookup (same_hold (key_of_release release))) kept ∙ knows.found release;
  sums = λ scope. sums (key_of_scope scope) ∙ knows.sums scope;
  numbered = knows.numbered;
}

pub same_holds : (old new : Holds) (entries : List AccountEntry) → ((release : Release) → open_under new release ≡ open_under old release) → new.sums ≡ old.sums
    → KnowsHolds old entries → KnowsHolds new entries
same_holds old new entries found sums knows = record {
  found = λ release. found release ∙ knows.found release;
  sums = λ scope. ap (λ all. hold_sum_at all scope) sums ∙ knows.sums scope;
  numbered = knows.numbered;
}
