-- What is known of holds, after one more hold.
use Rattle.std.proofs.Common.{◌≡◌, ◌≤◌, ◌<◌, ◌==◌, ◌^◌, ℕ, ◌+◌, List, [], ◌∷◌, ◌++◌, Bool, true, false, ◌&&◌, cond, Option, None, Some, filter, find, count_by, refl, sym, ap, ap₂, ◌∙◌, arith}
use Rattle.std.specs.Cmp.Lexicographic.{pointwise}
use Rattle.std.specs.Option.{option_or}
use Rattle.std.proofs.lemmas.List.Elements.{filter-append}
use Rattle.std.proofs.lemmas.List.Folds.{find-append}
use Rattle.std.proofs.lemmas.List.Sums.{sum_by-append}
use Rattle.ocpi_json.specs.Folded.{folded, same_folded}
use Rattle.ocpi_types.specs.declared.party.Party.{Party}
use Rattle.ocpi_types.specs.Party.{same_party}
use Rattle.ocpi_types.specs.SameTariff.{folded_party}
use Rattle.cdr_checks.specs.declared.request.Release.{Release}
use Rattle.plain_house.specs.declared.entry.AccountEntry.{AccountEntry}
use Rattle.plain_house.specs.declared.entry.AccountEntry.TheVariants as account
use Rattle.plain_house.specs.declared.event.Hold.{Hold}
use Rattle.plain_house.specs.declared.scope.Scope.{Scope}
use Rattle.plain_house.specs.Exposure.{ends_hold, holds_of, holds_within, open_holds, released_hold, total_held}
use Rattle.plain_house.specs.House.{is_hold_of, reference_text}
use Rattle.provider_account.specs.declared.holds.Holds.{Holds}
use Rattle.provider_account.specs.Inner.HoldSums.{hold_sum_at}
use Rattle.provider_account.specs.Inner.Holds.{AreNumbered, IsNumbered, KnowsHolds, key_of_hold, key_of_release, open_under, same_hold}
use Rattle.provider_account.proofs.HoldSumCells.{same_party_laws}
use Rattle.provider_account.proofs.OnlyOne.{count-none}
use Rattle.provider_account.proofs.OpenHolds.{both, ended_by_key, open_holds-push, same_hold_laws}
use Rattle.provider_account.proofs.References.{folded_reference, folded_same, same_folded_party, same_from_folded, same_number, spelled}

abbrev freed : Release → Hold → Bool
freed release hold = ends_hold hold (account.Release release)

all_stay : (holds : List Hold) → filter (λ (hold : Hold). true) holds ≡ holds
all_stay [] = refl
all_stay (hold ∷ holds) = ap (λ l. hold ∷ l) (all_stay holds)

total_held-append : (p : Hold → Bool) (xs ys : List Hold) → total_held (filter p (xs ++ ys)) ≡ total_held (filter p xs) + total_held (filter p ys)
total_held-append p xs ys = ap total_held (filter-append p xs ys) ∙ sum_by-append (λ hold. hold.amount) (filter p xs) (filter p ys)

-- a test against a party is one against its folded texts
abbrev is_folded : Party → Party → Bool
is_folded party text = pointwise ◌==◌ (folded party.country_code) text.country_code && pointwise ◌==◌ (folded party.party_id) text.party_id

-- how many holds the same provider has
hold_of_same : (a b : Party) → folded_party a ≡ folded_party b → (x : AccountEntry) → is_hold_of a x ≡ is_hold_of b x
hold_of_same a b same (account.Token token) = refl
hold_of_same a b same (account.Hold hold) = ap (λ (party : Party). is_folded hold.provider party) same
hold_of_same a b same (account.Release release) = refl
hold_of_same a b same (account.Charge charge) = refl
hold_of_same a b same (account.Credit credit) = refl
hold_of_same a b same (account.Settlement settlement) = refl

holds_of_same : (a b : Party) → folded_party a ≡ folded_party b → (entries : List AccountEntry) → count_by (is_hold_of a) entries ≡ count_by (is_hold_of b) entries
holds_of_same a b same entries i = count_by (λ x. hold_of_same a b same x i) entries

or_none : (found : Option Hold) → option_or found None ≡ found
or_none None = refl
or_none (Some hold) = refl

module _ (entries : List AccountEntry) (hold : Hold) (numbered : AreNumbered entries) (next : IsNumbered entries hold)
    (small : count_by (is_hold_of hold.provider) entries + 1 < 2 ^ 64) where
  with_hold : open_holds (entries ++ account.Hold hold ∷ []) ≡ open_holds entries ++ hold ∷ []
  with_hold = open_holds-push entries (account.Hold hold) ∙ ap (λ l. l ++ hold ∷ []) (all_stay (open_holds entries))

  -- a release of its key is of the same provider, and names its number
  same_provider : (release : Release) → same_hold (key_of_release release) (key_of_hold hold) ≡ true → folded_party release.provider ≡ folded_party hold.provider
  same_provider release same =
      let parts = both (same_party release.operator hold.operator) (same_party release.provider hold.provider && same_folded release.reference hold.reference) same in
      same_folded_party release.provider hold.provider (both (same_party release.provider hold.provider) (same_folded release.reference hold.reference) parts.1).0

  named : (release : Release) → same_hold (key_of_release release) (key_of_hold hold) ≡ true
      → folded release.reference ≡ spelled (folded_party release.provider) (count_by (is_hold_of hold.provider) entries + 1)
  named release same =
      let parts = both (same_party release.operator hold.operator) (same_party release.provider hold.provider && same_folded release.reference hold.reference) same in
      let reference = (both (same_party release.provider hold.provider) (same_folded release.reference hold.reference) parts.1).1 in
      folded_same release.reference hold.reference reference
      ∙ folded_same hold.reference (reference_text hold.provider (count_by (is_hold_of hold.provider) entries + 1)) next
      ∙ folded_reference hold.provider (count_by (is_hold_of hold.provider) entries + 1) small
      ∙ ap (λ (party : Party). spelled party (count_by (is_hold_of hold.provider) entries + 1)) (sym (same_provider release same))

  -- no open hold has its key yet
  none_yet : (release : Release) → same_hold (key_of_release release) (key_of_hold hold) ≡ true → released_hold entries release ≡ None
  none_yet release same =
      let theirs : count_by (is_hold_of release.provider) entries ≡ count_by (is_hold_of hold.provider) entries = holds_of_same release.provider hold.provider (same_provider release same) entries in
      numbered.to_come release (count_by (is_hold_of hold.provider) entries + 1) (omega (arith, theirs)) small
      (same_from_folded release.reference (reference_text release.provider (count_by (is_hold_of hold.provider) entries + 1))
      (named release same ∙ sym (folded_reference release.provider (count_by (is_hold_of hold.provider) entries + 1) small)))

  -- one more hold of its provider
  one_more : (provider : Party) → count_by (is_hold_of provider) (entries ++ account.Hold hold ∷ []) ≡ count_by (is_hold_of provider) entries + cond {A = ℕ} (same_party hold.provider provider) 1 0
  one_more provider = sum_by-append (λ y. cond (is_hold_of provider y) 1 0) entries (account.Hold hold ∷ []) ∙ omega arith

  -- a number that is still to come is not its own
  later : (release : Release) (n : ℕ) → count_by (is_hold_of release.provider) (entries ++ account.Hold hold ∷ []) < n → n < 2 ^ 64
      → same_folded release.reference (reference_text release.provider n) ≡ true → same_hold (key_of_release release) (key_of_hold hold) ≡ false
  later release n more fits names = pick (same_hold (key_of_release release) (key_of_hold hold)) refl
    where
      pick : (b : Bool) → same_hold (key_of_release release) (key_of_hold hold) ≡ b → b ≡ false
      pick false e = refl
      pick true e =
          let provider = same_provider release e in
          let spelling : spelled (folded_party release.provider) (count_by (is_hold_of hold.provider) entries + 1) ≡ spelled (folded_party release.provider) n =
          sym (named release e) ∙ folded_same release.reference (reference_text release.provider n) names ∙ folded_reference release.provider n fits in
          let same : count_by (is_hold_of hold.provider) entries + 1 ≡ n = same_number (folded_party release.provider) (count_by (is_hold_of hold.provider) entries + 1) n small fits spelling in
          let theirs = holds_of_same release.provider hold.provider provider entries in
          let its : same_party hold.provider release.provider ≡ true = ap (λ (party : Party). is_folded hold.provider party) provider ∙ same_party_laws.refl hold.provider in
          absurd (omega (arith, one_more release.provider, ap (λ b. cond {A = ℕ} b 1 0) its, theirs, same, more))

  counts : (release : Release) (b : Bool) → same_hold (key_of_release release) (key_of_hold hold) ≡ b → count_by (freed release) (open_holds entries) + cond {A = ℕ} b 1 0 ≤ 1
  counts release true e = omega (arith, count-none (freed release) (open_holds entries) (none_yet release e))
  counts release false e = omega (arith, numbered.one_each release)

  one_each_after : (release : Release) → count_by (freed release) (open_holds (entries ++ account.Hold hold ∷ [])) ≤ 1
  one_each_after release =
      let split : count_by (freed release) (open_holds entries ++ hold ∷ []) ≡ count_by (freed release) (open_holds entries) + cond {A = ℕ} (freed release hold) 1 0 =
      sum_by-append (λ h. cond (freed release h) 1 0) (open_holds entries) (hold ∷ []) ∙ omega arith in
      omega (arith, ap (count_by (freed release)) with_hold, split, ap (λ b. cond {A = ℕ} b 1 0) (ended_by_key hold release), counts release (same_hold (key_of_release release) (key_of_hold hold)) refl)

  released_after : (release : Release) → released_hold (entries ++ account.Hold hold ∷ []) release
      ≡ option_or (released_hold entries release) (cond (same_hold (key_of_release release) (key_of_hold hold)) (Some hold) None)
  released_after release =
      ap (find (freed release)) with_hold ∙ find-append (freed release) (open_holds entries) (hold ∷ [])
      ∙ ap (λ b. option_or (released_hold entries release) (cond b (Some hold) None)) (ended_by_key hold release)

  numbered_after : AreNumbered (entries ++ account.Hold hold ∷ [])
  numbered_after = record {
    one_each = one_each_after;
    to_come = λ release n more fits names.
        released_after release
        ∙ ap (λ b. option_or (released_hold entries release) (cond b (Some hold) None)) (later release n more fits names)
        ∙ or_none (released_hold entries release)
        ∙ numbered.to_come release n (omega (arith, one_more release.provider, more)) fits names;
  }

  found_after : (release : Release) (b : Bool) → same_hold (key_of_release release) (key_of_hold hold) ≡ b
      → cond b (Some hold) (released_hold entries release) ≡ option_or (released_hold entries release) (cond b (Some hold) None)
  found_after release true e = sym (ap (λ found. option_or found (Some hold)) (none_yet release e))
  found_after release false e = sym (or_none (released_hold entries release))

  held_after : (scope : Scope) (b : Bool) → holds_within scope hold ≡ b → (n : ℕ) → n ≡ holds_of scope entries
      → cond {A = ℕ} b (n + hold.amount) n ≡ total_held (filter (holds_within scope) (open_holds entries ++ hold ∷ []))
  held_after scope true e n known =
      omega (arith, total_held-append (holds_within scope) (open_holds entries) (hold ∷ []), ap (λ b. total_held (cond b (hold ∷ []) [])) e, known)
  held_after scope false e n known =
      omega (arith, total_held-append (holds_within scope) (open_holds entries) (hold ∷ []), ap (λ b. total_held (cond b (hold ∷ []) [])) e, known)

  pub begun_known : (old new : Holds) → ((release : Release) → open_under old release ≡ released_hold entries release) → ((scope : Scope) → hold_sum_at old.sums scope ≡ holds_of scope entries)
      → ((release : Release) → open_under new release ≡ cond (same_hold (key_of_hold hold) (key_of_release release)) (Some hold) (open_under old release))
      → ((scope : Scope) → hold_sum_at new.sums scope ≡ cond {A = ℕ} (holds_within scope hold) (hold_sum_at old.sums scope + hold.amount) (hold_sum_at old.sums scope))
      → KnowsHolds new (entries ++ account.Hold hold ∷ [])
  begun_known old new knows_found knows_held opened sums = record {
    found = λ release.
        opened release
        ∙ ap₂ (λ (b : Bool) (o : Option Hold). cond b (Some hold) o) (same_hold_laws.symm (key_of_hold hold) (key_of_release release)) (knows_found release)
        ∙ found_after release (same_hold (key_of_release release) (key_of_hold hold)) refl
        ∙ sym (released_after release);
    sums = λ scope.
        sums scope ∙ held_after scope (holds_within scope hold) refl (hold_sum_at old.sums scope) (knows_held scope)
        ∙ ap (λ l. total_held (filter (holds_within scope) l)) (sym with_hold);
    numbered = numbered_after;
  }
