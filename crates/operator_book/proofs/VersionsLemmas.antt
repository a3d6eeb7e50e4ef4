-- Tariff versions by their operators, ids and moments.
use Rattle.std.proofs.Common.{◌≡◌, ◌<◌, ◌∙◌, ℕ, List, [], ◌∷◌, ◌++◌, Bool, true, false, ◌&&◌, ◌||◌, ◌==◌, cond, Option, Some, None, refl, sym, ap, find, length, get_or, if◌then◌else◌}
use Rattle.std.specs.Cmp.Lexicographic.{pointwise, bytes_decides}
use Rattle.std.specs.List.{list_any, position_from}
use Rattle.std.specs.Option.{option_or, option_to_list}
use Rattle.std.specs.Ordering.{int_eq}
use Rattle.std.proofs.Math.Bool.{and_assoc}
use Rattle.std.proofs.lemmas.Bool.Decides.{Decides-int_eq}
use Rattle.std.proofs.lemmas.List.Concat.{flat_map-append}
use Rattle.std.proofs.lemmas.List.Folds.{find-append, list_any-append}
use Rattle.std.proofs.lemmas.Option.{get_or_from_slice_get, slice_get_within}
use Rattle.ocpi_json.specs.Folded.{folded, same_folded}
use Rattle.ocpi_types.specs.Party.{same_party}
use Rattle.ocpi_types.specs.SameTariff.{SameTariffsAreEqualFolded, folded_party, folded_tariff, same_tariff}
use Rattle.ocpi_types.specs.declared.party.Party.{Party}
use Rattle.ocpi_types.specs.declared.tariff.Tariff.{Tariff}
use Rattle.plain_house.specs.Tariffs.{is_registered, same_version, stored_version, tariff_versions, version_in}
use Rattle.plain_house.specs.declared.entry.BookEntry.{BookEntry}
use Rattle.plain_house.specs.declared.entry.BookEntry.TheVariants as book
use Rattle.operator_book.specs.Inner.Versions.{IsNewVersion, StoresEachOnce, is_version_at, registers, same_version_key}
use Rattle.operator_book.specs.declared.keys.VersionKey.{VersionKey}
use Rattle.operator_book.proofs.FoundLemmas.{IsTestOf, found, none_found, or_none, place_after, same_one}
use Rattle.operator_book.proofs.KeyLemmas.{both_are, folded_alike, is_folded, or_false}

abbrev pub key_of : Tariff → VersionKey
key_of tariff = record { operator = tariff.operator; id = tariff.id; last_updated = tariff.last_updated }

passes : (tariff : Tariff) (entry : BookEntry) → is_version_at (key_of tariff) entry ≡ true
    → (version : Tariff) × (version_in entry ≡ version ∷ []) × (same_version version tariff ≡ true)
passes tariff (book.Tariff version) h = (version, refl, h)
passes tariff (book.Cdr cdr cost period) h = absurd (cc)
passes tariff (book.Credit cdr amount period) h = absurd (cc)

fails : (tariff : Tariff) (entry : BookEntry) → is_version_at (key_of tariff) entry ≡ false → find (λ version. same_version version tariff) (version_in entry) ≡ None
fails tariff (book.Tariff version) h = ap (λ b. cond b (Some version) None) h
fails tariff (book.Cdr cdr cost period) h = refl
fails tariff (book.Credit cdr amount period) h = refl

test : (tariff : Tariff) → IsTestOf version_in (λ version. same_version version tariff) (is_version_at (key_of tariff))
test tariff = record { passes = passes tariff; fails = fails tariff }

-- the version that stands where its key is found
pub version_at : (tariff : Tariff) (entries : List BookEntry) (place : ℕ) (entry : BookEntry) (result : Option Tariff) → position_from (is_version_at (key_of tariff)) 0 entries ≡ Some place
    → entry ≡ get_or entries place entry → option_to_list result ≡ version_in entry → result ≡ stored_version tariff entries
version_at tariff entries place entry result at here is =
    let it = found version_in (λ version. same_version version tariff) (is_version_at (key_of tariff)) (test tariff) entries place at in
    let item : entry ≡ it.item = here ∙ get_or_from_slice_get entries place it.item entry it.stands in
    same_one result (Some it.one) (is ∙ ap version_in item ∙ it.only) ∙ sym it.first

-- a key is not found past the end
pub version_within : (tariff : Tariff) (entries : List BookEntry) (place : ℕ) → position_from (is_version_at (key_of tariff)) 0 entries ≡ Some place → place < length entries
version_within tariff entries place at =
    let it = found version_in (λ version. same_version version tariff) (is_version_at (key_of tariff)) (test tariff) entries place at in
    slice_get_within entries place it.item it.stands

pub no_version : (tariff : Tariff) (entries : List BookEntry) → position_from (is_version_at (key_of tariff)) 0 entries ≡ None → stored_version tariff entries ≡ None
no_version tariff entries h = none_found version_in (λ version. same_version version tariff) (is_version_at (key_of tariff)) (test tariff) entries h

-- ---- one entry more

is_at : (key : VersionKey) (entry : BookEntry) (tariff : Tariff) → tariff ∷ [] ≡ version_in entry → is_version_at key entry ≡ same_version_key (key_of tariff) key
is_at key (book.Tariff version) tariff h =
    let e : version ≡ tariff = cc in
    and_assoc (same_party version.operator key.operator) (same_folded version.id key.id) (int_eq version.last_updated.nanosecond key.last_updated.nanosecond)
    ∙ ap (λ (t : Tariff). same_version_key (key_of t) key) e
is_at key (book.Cdr cdr cost period) tariff h = absurd (cc)
is_at key (book.Credit cdr amount period) tariff h = absurd (cc)

is_not_at : (key : VersionKey) (entry : BookEntry) → [] ≡ version_in entry → is_version_at key entry ≡ false
is_not_at key (book.Tariff tariff) h = absurd (cc)
is_not_at key (book.Cdr cdr cost period) h = refl
is_not_at key (book.Credit cdr amount period) h = refl

pub version_added : (key : VersionKey) (entries : List BookEntry) (entry : BookEntry) (tariff : Tariff) → tariff ∷ [] ≡ version_in entry
    → option_or (position_from (is_version_at key) 0 entries) (if same_version_key (key_of tariff) key then Some (length entries) else None)
    ≡ position_from (is_version_at key) 0 (entries ++ entry ∷ [])
version_added key entries entry tariff h =
    ap (λ b. option_or (position_from (is_version_at key) 0 entries) (cond b (Some (length entries)) None)) (sym (is_at key entry tariff h))
    ∙ sym (place_after (is_version_at key) entries entry)

pub none_added : (key : VersionKey) (entries : List BookEntry) (entry : BookEntry) → [] ≡ version_in entry
    → position_from (is_version_at key) 0 entries ≡ position_from (is_version_at key) 0 (entries ++ entry ∷ [])
none_added key entries entry h =
    sym (place_after (is_version_at key) entries entry
    ∙ ap (λ b. option_or (position_from (is_version_at key) 0 entries) (cond b (Some (length entries)) None)) (is_not_at key entry h)
    ∙ or_none (position_from (is_version_at key) 0 entries))

-- ---- a version that is stored once

-- versions that are the same are the same as the same others
same_for : (version tariff : Tariff) → same_version version tariff ≡ true → (entries : List BookEntry) → stored_version version entries ≡ stored_version tariff entries
same_for version tariff h entries =
    let parts = both_are (same_party version.operator tariff.operator && same_folded version.id tariff.id) (int_eq version.last_updated.nanosecond tariff.last_updated.nanosecond) h in
    let named = both_are (same_party version.operator tariff.operator) (same_folded version.id tariff.id) parts.0 in
    let operator : folded_party version.operator ≡ folded_party tariff.operator = folded_alike version.operator tariff.operator named.0 in
    let id : folded version.id ≡ folded tariff.id = (bytes_decides (folded version.id) (folded tariff.id)).0 named.1 in
    let moment = (Decides-int_eq version.last_updated.nanosecond tariff.last_updated.nanosecond).0 parts.1 in
    λ i. find (λ (x : Tariff). is_folded x.operator (operator i) && pointwise ◌==◌ (folded x.id) (id i) && int_eq x.last_updated.nanosecond (moment i)) (tariff_versions entries)

-- tariffs of the same content are of the same operator, id and moment
same_content : SameTariffsAreEqualFolded → (version tariff : Tariff) → same_tariff version tariff ≡ true → same_version version tariff ≡ true
same_content equal version tariff h =
    let same : folded_tariff version ≡ folded_tariff tariff = (equal version tariff).0 h in
    let country_code = (bytes_decides (folded version.operator.country_code) (folded tariff.operator.country_code)).1 (λ i. (same i).operator.country_code) in
    let party_id = (bytes_decides (folded version.operator.party_id) (folded tariff.operator.party_id)).1 (λ i. (same i).operator.party_id) in
    let id = (bytes_decides (folded version.id) (folded tariff.id)).1 (λ i. (same i).id) in
    let moment = (Decides-int_eq version.last_updated.nanosecond tariff.last_updated.nanosecond).1 (λ i. (same i).last_updated.nanosecond) in
    λ i. ((country_code i && party_id i) && id i) && moment i

registered_added : SameTariffsAreEqualFolded → (operator : Party) (tariff version : Tariff) (entries : List BookEntry) → stored_version version entries ≡ None → StoresEachOnce entries
    → (is_registered operator entries tariff || (same_party version.operator operator && same_tariff version tariff))
    ≡ registers operator tariff (option_or (stored_version tariff entries) (cond (same_version version tariff) (Some version) None))
registered_added equal operator tariff version entries fresh once = by (same_version version tariff) refl
  where
    unlike : (b : Bool) → same_tariff version tariff ≡ b → same_version version tariff ≡ false → same_tariff version tariff ≡ false
    unlike true h other = absurd (let e : true ≡ false = sym (same_content equal version tariff h) ∙ other in cc)
    unlike false h other = h

    and_false : (a : Bool) → (a && false) ≡ false
    and_false true = refl
    and_false false = refl

    by : (b : Bool) → same_version version tariff ≡ b
        → (is_registered operator entries tariff || (same_party version.operator operator && same_tariff version tariff))
        ≡ registers operator tariff (option_or (stored_version tariff entries) (cond b (Some version) None))
    by true h =
        let none : stored_version tariff entries ≡ None = sym (same_for version tariff h entries) ∙ fresh in
        ap (λ b. b || (same_party version.operator operator && same_tariff version tariff)) (once operator tariff ∙ ap (registers operator tariff) none)
        ∙ ap (λ o. registers operator tariff (option_or o (Some version))) (sym none)
    by false h =
        ap (λ b. is_registered operator entries tariff || (same_party version.operator operator && b)) (unlike (same_tariff version tariff) refl h)
        ∙ ap (λ b. is_registered operator entries tariff || b) (and_false (same_party version.operator operator))
        ∙ or_false (is_registered operator entries tariff) ∙ once operator tariff
        ∙ ap (registers operator tariff) (sym (or_none (stored_version tariff entries)))

versions_more : (entries : List BookEntry) (entry : BookEntry) → tariff_versions (entries ++ entry ∷ []) ≡ tariff_versions entries ++ tariff_versions (entry ∷ [])
versions_more entries entry = flat_map-append version_in entries (entry ∷ [])

append_none : (operator : Party) (tariff : Tariff) (entries : List BookEntry) (entry : BookEntry) → tariff_versions (entry ∷ []) ≡ [] → StoresEachOnce entries
    → is_registered operator (entries ++ entry ∷ []) tariff ≡ registers operator tariff (stored_version tariff (entries ++ entry ∷ []))
append_none operator tariff entries entry none once =
    let passes = λ (version : Tariff). same_party version.operator operator && same_tariff version tariff in
    let is = λ (version : Tariff). same_version version tariff in
    let all : tariff_versions (entries ++ entry ∷ []) ≡ tariff_versions entries ++ [] = versions_more entries entry ∙ ap (λ l. tariff_versions entries ++ l) none in
    ap (list_any passes) all ∙ list_any-append passes (tariff_versions entries) [] ∙ or_false (list_any passes (tariff_versions entries)) ∙ once operator tariff
    ∙ ap (registers operator tariff) (sym (ap (find is) all ∙ find-append is (tariff_versions entries) [] ∙ or_none (stored_version tariff entries)))

-- a version that is new is stored once
pub stored_once : SameTariffsAreEqualFolded → (entries : List BookEntry) (entry : BookEntry) → IsNewVersion entries entry → StoresEachOnce entries → StoresEachOnce (entries ++ entry ∷ [])
stored_once equal entries (book.Tariff version) fresh once operator tariff =
    let passes = λ (version : Tariff). same_party version.operator operator && same_tariff version tariff in
    let is = λ (version : Tariff). same_version version tariff in
    let all : tariff_versions (entries ++ book.Tariff version ∷ []) ≡ tariff_versions entries ++ version ∷ [] = versions_more entries (book.Tariff version) in
    ap (list_any passes) all ∙ list_any-append passes (tariff_versions entries) (version ∷ [])
    ∙ ap (λ b. is_registered operator entries tariff || b) (or_false (passes version)) ∙ registered_added equal operator tariff version entries fresh once
    ∙ ap (registers operator tariff) (sym (ap (find is) all ∙ find-append is (tariff_versions entries) (version ∷ [])))
stored_once equal entries (book.Cdr cdr cost period) fresh once operator tariff = append_none operator tariff entries (book.Cdr cdr cost period) refl once
stored_once equal entries (book.Credit cdr amount period) fresh once operator tariff = append_none operator tariff entries (book.Credit cdr amount period) refl once
