-- A tariff is registered by no event before the first that stores its version.
use Rattle.std.proofs.Common.{◌≡◌, ◌∙◌, ◌<◌, ℕ, ◌+◌, suc, List, [], ◌∷◌, Bool, true, false, ◌&&◌, ◌||◌, cond, Some, None, refl, sym, ap, length, drop, arith}
use Rattle.std.specs.List.{list_any, position, position_from}
use Rattle.std.proofs.lemmas.Bool.Decides.{Decides-int_eq}
use Rattle.std.proofs.lemmas.Iterator.Adapters.{position_from-zero}
use Rattle.std.specs.Cmp.Lexicographic.{bytes_decides}
use Rattle.ocpi_json.specs.Folded.{folded}
use Rattle.ocpi_types.specs.SameTariff.{SameTariffsAreEqualFolded, folded_tariff, same_tariff}
use Rattle.ocpi_types.specs.Party.{same_party}
use Rattle.ocpi_types.specs.declared.party.Party.{Party}
use Rattle.ocpi_types.specs.declared.tariff.Tariff.{Tariff}
use Rattle.plain_house.specs.declared.event.Event.{Event}
use Rattle.plain_house.specs.declared.event.Event.TheVariants as event
use Rattle.plain_house.specs.Happened.{registers, stores}
use Rattle.plain_house.specs.Tariffs.{same_version}
use Rattle.operator_book.proofs.KeyLemmas.{or_false}

-- tariffs of the same content are of the same operator, id and moment
same_content : SameTariffsAreEqualFolded → (version tariff : Tariff) → same_tariff version tariff ≡ true → same_version version tariff ≡ true
same_content equal version tariff h =
    let same : folded_tariff version ≡ folded_tariff tariff = (equal version tariff).0 h in
    let country_code = (bytes_decides (folded version.operator.country_code) (folded tariff.operator.country_code)).1 (λ i. (same i).operator.country_code) in
    let party_id = (bytes_decides (folded version.operator.party_id) (folded tariff.operator.party_id)).1 (λ i. (same i).operator.party_id) in
    let id = (bytes_decides (folded version.id) (folded tariff.id)).1 (λ i. (same i).id) in
    let moment = (Decides-int_eq version.last_updated.nanosecond tariff.last_updated.nanosecond).1 (λ i. (same i).last_updated.nanosecond) in
    λ i. ((country_code i && party_id i) && id i) && moment i

other_content : SameTariffsAreEqualFolded → (version tariff : Tariff) → same_version version tariff ≡ false → same_tariff version tariff ≡ false
other_content equal version tariff other = by (same_tariff version tariff) refl
  where
    by : (b : Bool) → same_tariff version tariff ≡ b → same_tariff version tariff ≡ false
    by true h = absurd (let e : true ≡ false = sym (same_content equal version tariff h) ∙ other in cc)
    by false h = h

none_registered : (a b : Bool) → b ≡ false → ((a && b) || false) ≡ false
none_registered a true h = absurd (cc)
none_registered true false h = refl
none_registered false false h = refl

-- an event that does not store the version does not register the tariff
unlike : SameTariffsAreEqualFolded → (operator : Party) (tariff : Tariff) (e : Event) → stores tariff e ≡ false → registers operator tariff e ≡ false
unlike equal operator tariff (event.Tariff version) other =
    none_registered (same_party version.operator operator) (same_tariff version tariff)
    (other_content equal version tariff (sym (or_false (same_version version tariff)) ∙ other))
unlike equal operator tariff (event.Token token) other = refl
unlike equal operator tariff (event.Authorised hold) other = refl
unlike equal operator tariff (event.Released release) other = refl
unlike equal operator tariff (event.Cdr cdr cost) other = refl
unlike equal operator tariff (event.Credit cdr amount) other = refl
unlike equal operator tariff (event.Settled settlement) other = refl
unlike equal operator tariff (event.Closed period) other = refl

module _ {E : Type 0} (p q : E → Bool) (fails : (e : E) → p e ≡ false → q e ≡ false) where
  -- none passes the second test before the first that passes the first
  skipped_from : (n : ℕ) (xs : List E) (m : ℕ) → position_from p n xs ≡ Some m → (k : ℕ) × (m ≡ n + k) × (k < length xs) × (list_any q xs ≡ list_any q (drop k xs))
  skipped_from n [] m h = absurd (cc)
  skipped_from n (x ∷ xs) m h = by (p x) refl h (skipped_from (n + 1) xs m)
    where
      by : (b : Bool) → p x ≡ b → cond b (Some n) (position_from p (n + 1) xs) ≡ Some m
          → (position_from p (n + 1) xs ≡ Some m → (k : ℕ) × (m ≡ n + 1 + k) × (k < length xs) × (list_any q xs ≡ list_any q (drop k xs)))
          → (k : ℕ) × (m ≡ n + k) × (k < length (x ∷ xs)) × (list_any q (x ∷ xs) ≡ list_any q (drop k (x ∷ xs)))
      by true good here rest =
          let same : n ≡ m = cc in (0, omega arith, omega arith, refl)
      by false bad later rest =
          let (k, is, within, same) = rest later in
          (suc k, omega arith, omega arith, ap (λ b. b || list_any q xs) (fails x bad) ∙ same)

  none_from : (n : ℕ) (xs : List E) → position_from p n xs ≡ None → list_any q xs ≡ false
  none_from n [] h = refl
  none_from n (x ∷ xs) h = by (p x) refl h (none_from (n + 1) xs)
    where
      by : (b : Bool) → p x ≡ b → cond b (Some n) (position_from p (n + 1) xs) ≡ None → (position_from p (n + 1) xs ≡ None → list_any q xs ≡ false)
          → (q x || list_any q xs) ≡ false
      by true good here rest = absurd (cc)
      by false bad later rest = ap (λ b. b || list_any q xs) (fails x bad) ∙ rest later

-- the first event that stores the version is in the list
pub stored_within : (tariff : Tariff) (events : List Event) (at : ℕ) → position (stores tariff) events ≡ Some at → at < length events
stored_within tariff events at h =
    let (k, is, within, same) = skipped_from (stores tariff) (stores tariff) (λ e none. none) 0 events at (sym (position_from-zero (stores tariff) events) ∙ h) in
    omega arith

pub registered_from : SameTariffsAreEqualFolded → (operator : Party) (tariff : Tariff) (events : List Event) (at : ℕ) → position (stores tariff) events ≡ Some at
    → list_any (registers operator tariff) (drop at events) ≡ list_any (registers operator tariff) events
registered_from equal operator tariff events at h =
    let (k, is, within, same) = skipped_from (stores tariff) (registers operator tariff) (unlike equal operator tariff) 0 events at (sym (position_from-zero (stores tariff) events) ∙ h) in
    let here : k ≡ at = omega arith in
    sym (same ∙ ap (λ n. list_any (registers operator tariff) (drop n events)) here)

pub none_stored : SameTariffsAreEqualFolded → (operator : Party) (tariff : Tariff) (events : List Event) → position (stores tariff) events ≡ None
    → false ≡ list_any (registers operator tariff) events
none_stored equal operator tariff events h =
    sym (none_from (stores tariff) (registers operator tariff) (unlike equal operator tariff) 0 events (sym (position_from-zero (stores tariff) events) ∙ h))
