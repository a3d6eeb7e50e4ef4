-- What the entries say of an operator is what its own book says.
use Rattle.std.proofs.Common.{◌≡◌, ℕ, List, [], ◌∷◌, Bool, true, false, not, ◌&&◌, ◌||◌, cond, refl, sym, ap, ap₂, ◌∙◌, Option, None, Some, option_and_then, filter, find, nat_le}
use Rattle.std.specs.List.{list_any}
use Rattle.std.specs.Ordering.{int_eq}
use Rattle.std.proofs.lemmas.List.Elements.{filter_agree}
use Rattle.std.proofs.lemmas.Map.Views.{any-filter_same}
use Rattle.ocpi_json.specs.Folded.{same_folded}
use Rattle.ocpi_types.specs.declared.cdr.Cdr.{Cdr}
use Rattle.ocpi_types.specs.declared.config.Config.{Config}
use Rattle.ocpi_types.specs.declared.party.Party.{Party}
use Rattle.ocpi_types.specs.declared.tariff.Tariff.{Tariff}
use Rattle.ocpi_types.specs.Party.{same_party}
use Rattle.ocpi_types.specs.SameTariff.{same_tariff}
use Rattle.plain_house.specs.declared.entry.BookEntry.{BookEntry}
use Rattle.plain_house.specs.declared.entry.BookEntry.TheVariants as book
use Rattle.plain_house.specs.Booked.{Booked, booked, booked_as, booked_in, credits, has_id, is_credited}
use Rattle.plain_house.specs.Exposure.{names}
use Rattle.plain_house.specs.Own.{BooksAreOfOwnEntries, is_in_book_of, own_book}
use Rattle.plain_house.specs.Posting.{booked_already, credited_amount, judged_by, judged_cdr, judged_credit, original_of}
use Rattle.plain_house.specs.Full.{is_cdr_of, is_version_of}
use Rattle.plain_house.specs.Tariffs.{is_registered, lacks_registered, same_version, stored_version, tariff_versions, version_in}
use Rattle.plain_house.proofs.BookedOnce.{party_itself}
use Rattle.plain_house.proofs.KeptLemmas.{count_kept, find_kept, flat_kept, none_of}
use Rattle.plain_house.proofs.OwnEntries.{party_along}
use Rattle.plain_house.proofs.SameScope.{both_are}

-- ---- what is of the operator

abbrev is_booked_of : Party → Booked → Bool
is_booked_of operator found = same_party found.cdr.operator operator

abbrev is_tariff_of : Party → Tariff → Bool
is_tariff_of operator tariff = same_party tariff.operator operator

own_booked : (operator : Party) (entries : List BookEntry) → booked (own_book operator entries) ≡ filter (is_booked_of operator) (booked entries)
own_booked operator entries = flat_kept booked_in (is_in_book_of operator) (is_booked_of operator) one entries
  where
    one : (entry : BookEntry) → filter (is_booked_of operator) (booked_in entry) ≡ cond (is_in_book_of operator entry) (booked_in entry) []
    one (book.Tariff tariff) = none_of (same_party tariff.operator operator)
    one (book.Cdr cdr cost period) = refl
    one (book.Credit cdr amount period) = refl

own_versions : (operator : Party) (entries : List BookEntry) → tariff_versions (own_book operator entries) ≡ filter (is_tariff_of operator) (tariff_versions entries)
own_versions operator entries = flat_kept version_in (is_in_book_of operator) (is_tariff_of operator) one entries
  where
    one : (entry : BookEntry) → filter (is_tariff_of operator) (version_in entry) ≡ cond (is_in_book_of operator entry) (version_in entry) []
    one (book.Tariff tariff) = refl
    one (book.Cdr cdr cost period) = none_of (same_party cdr.operator operator)
    one (book.Credit cdr amount period) = none_of (same_party cdr.operator operator)

entry_along : (a b : Party) (entry : BookEntry) → same_party a b ≡ true → is_in_book_of a entry ≡ is_in_book_of b entry
entry_along a b (book.Tariff tariff) h = party_along tariff.operator a b h
entry_along a b (book.Cdr cdr cost period) h = party_along cdr.operator a b h
entry_along a b (book.Credit cdr amount period) h = party_along cdr.operator a b h

-- ---- what the book says, in each spelling of the operator

module _ (operator : Party) (entries : List BookEntry) (p : Party) (same : same_party p operator ≡ true) where
  of_operator : (party : Party) → same_party party p ≡ true → same_party party operator ≡ true
  of_operator party h = sym (party_along party p operator same) ∙ h

  its_booked : (id : List ℕ) → booked_as p id (own_book operator entries) ≡ booked_as p id entries
  its_booked id =
      ap (find (has_id p id)) (own_booked operator entries)
      ∙ find_kept (has_id p id) (is_booked_of operator)
      (λ found h. of_operator found.cdr.operator (both_are (same_party found.cdr.operator p) (same_folded found.cdr.id id) h).0) (booked entries)

  its_credited : (id : List ℕ) → is_credited p id (own_book operator entries) ≡ is_credited p id entries
  its_credited id =
      ap (list_any (credits p id)) (own_booked operator entries)
      ∙ any-filter_same (credits p id) (is_booked_of operator) true
      (λ credit h. of_operator credit.cdr.operator (both_are (same_party credit.cdr.operator p) (names id credit.cdr.credit) h).0) (booked entries)

  its_registered : (tariff : Tariff) → is_registered p (own_book operator entries) tariff ≡ is_registered p entries tariff
  its_registered tariff =
      let registers : Tariff → Bool = λ version. same_party version.operator p && same_tariff version tariff in
      ap (list_any registers) (own_versions operator entries)
      ∙ any-filter_same registers (is_tariff_of operator) true
      (λ version h. of_operator version.operator (both_are (same_party version.operator p) (same_tariff version tariff) h).0) (tariff_versions entries)

  none_registered : (tariffs : List Tariff) → list_any (λ tariff. not (is_registered p (own_book operator entries) tariff)) tariffs ≡ list_any (λ tariff. not (is_registered p entries tariff)) tariffs
  none_registered [] = refl
  none_registered (tariff ∷ tariffs) = ap₂ (λ a b. not a || b) (its_registered tariff) (none_registered tariffs)

-- ---- tariffs

its_version : (operator : Party) (entries : List BookEntry) (tariff : Tariff) → same_party tariff.operator operator ≡ true → stored_version tariff (own_book operator entries) ≡ stored_version tariff entries
its_version operator entries tariff same =
    ap (find (λ version. same_version version tariff)) (own_versions operator entries)
    ∙ find_kept (λ version. same_version version tariff) (is_tariff_of operator) (λ version h. of_operator operator entries tariff.operator same version.operator (first version h)) (tariff_versions entries)
  where
    first : (version : Tariff) → same_version version tariff ≡ true → same_party version.operator tariff.operator ≡ true
    first version h =
        (both_are (same_party version.operator tariff.operator) (same_folded version.id tariff.id)
        (both_are (same_party version.operator tariff.operator && same_folded version.id tariff.id) (int_eq version.last_updated.nanosecond tariff.last_updated.nanosecond) h).0).0

lacks : (operator : Party) (entries : List BookEntry) (cdr : Cdr) → same_party cdr.operator operator ≡ true → lacks_registered cdr (own_book operator entries) ≡ lacks_registered cdr entries
lacks operator entries cdr same = none_registered operator entries cdr.operator same cdr.tariffs

-- ---- how many

cdr_in_book : (operator : Party) (entry : BookEntry) → is_cdr_of operator entry ≡ true → is_in_book_of operator entry ≡ true
cdr_in_book operator (book.Tariff tariff) h = absurd (cc)
cdr_in_book operator (book.Cdr cdr cost period) h = h
cdr_in_book operator (book.Credit cdr amount period) h = h

version_in_book : (operator : Party) (entry : BookEntry) → is_version_of operator entry ≡ true → is_in_book_of operator entry ≡ true
version_in_book operator (book.Tariff tariff) h = h
version_in_book operator (book.Cdr cdr cost period) h = absurd (cc)
version_in_book operator (book.Credit cdr amount period) h = absurd (cc)

-- ---- CDRs and Credit CDRs

judged_of : (operator : Party) (entries : List BookEntry) (cdr : Cdr) → same_party cdr.operator operator ≡ true → judged_cdr cdr (own_book operator entries) ≡ judged_cdr cdr entries
judged_of operator entries cdr same = rw (its_booked operator entries cdr.operator same cdr.id, lacks operator entries cdr same)

find_passes : (p : Booked → Bool) (xs : List Booked) (found : Booked) → find p xs ≡ Some found → p found ≡ true
find_passes p [] found e = absurd (cc)
find_passes p (x ∷ xs) found e = by (p x) refl (find_passes p xs found) e
  where
    by : (b : Bool) → p x ≡ b → (find p xs ≡ Some found → p found ≡ true) → cond b (Some x) (find p xs) ≡ Some found → p found ≡ true
    by true f later e = let same : x ≡ found = cc in ap p (sym same) ∙ f
    by false f later e = later e

module _ (operator : Party) (entries : List BookEntry) (credit : Cdr) (same : same_party credit.operator operator ≡ true) where
  its_original : original_of credit (own_book operator entries) ≡ original_of credit entries
  its_original = by credit.credit
    where
      by : (named : Option (List ℕ)) → option_and_then (λ id. booked_as credit.operator id (own_book operator entries)) named ≡ option_and_then (λ id. booked_as credit.operator id entries) named
      by None = refl
      by (Some id) = its_booked operator entries credit.operator same id

  original_is : (original : Booked) → original_of credit entries ≡ Some original → same_party original.cdr.operator operator ≡ true
  original_is original e = by credit.credit e
    where
      by : (named : Option (List ℕ)) → option_and_then (λ id. booked_as credit.operator id entries) named ≡ Some original → same_party original.cdr.operator operator ≡ true
      by None e = absurd (cc)
      by (Some id) e =
          of_operator operator entries credit.operator same original.cdr.operator
          (both_are (same_party original.cdr.operator credit.operator) (same_folded original.cdr.id id) (find_passes (has_id credit.operator id) (booked entries) original e)).0

  its_amount : (config : Config) (period : ℕ) → credited_amount config period credit (own_book operator entries) ≡ credited_amount config period credit entries
  its_amount config period = by (original_of credit entries) refl
    where
      by : (named : Option Booked) → original_of credit entries ≡ named → credited_amount config period credit (own_book operator entries) ≡ credited_amount config period credit entries
      by None e = rw (its_original, e)
      by (Some original) e = rw (its_original, e, its_credited operator entries original.cdr.operator (original_is original e) original.cdr.id)

  judged_credit_of : (config : Config) (period : ℕ) → judged_credit config period credit (own_book operator entries) ≡ judged_credit config period credit entries
  judged_credit_of config period =
      ap₂ (λ found amount. judged_by (booked_already credit found) amount) (its_booked operator entries credit.operator same credit.id) (its_amount config period)

pub books_of_own : BooksAreOfOwnEntries
books_of_own operator entries = record {
  booked = its_booked operator entries operator (party_itself operator);
  credited = its_credited operator entries operator (party_itself operator);
  version = its_version operator entries;
  registered = lacks operator entries;
  cdrs_full = λ config. ap (nat_le config.limits.cdrs) (count_kept (is_cdr_of operator) (is_in_book_of operator) (cdr_in_book operator) entries);
  versions_full = λ config. ap (nat_le config.limits.tariffs) (count_kept (is_version_of operator) (is_in_book_of operator) (version_in_book operator) entries);
  cdr = judged_of operator entries;
  credit = λ config period credit same. judged_credit_of operator entries credit same config period;
  taken = λ config period credit same. its_amount operator entries credit same config period;
  spelling = λ party same. filter_agree (is_in_book_of party) (is_in_book_of operator) (λ entry. entry_along party operator entry same) entries;
}
