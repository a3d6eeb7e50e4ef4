-- CDRs and Credit CDRs by their operators and ids.
use Rattle.std.proofs.Common.{◌≡◌, ◌∙◌, ℕ, List, [], ◌∷◌, ◌++◌, true, false, cond, Option, Some, None, refl, sym, ap, find, length, pos, ◌<◌, get_or, if◌then◌else◌}
use Rattle.std.specs.List.{position_from}
use Rattle.std.specs.Option.{option_or, option_to_list}
use Rattle.std.proofs.lemmas.Option.{get_or_from_slice_get, slice_get_within}
use Rattle.plain_house.specs.Booked.{Booked, booked_as, booked_in, has_id}
use Rattle.plain_house.specs.declared.entry.BookEntry.{BookEntry}
use Rattle.plain_house.specs.declared.entry.BookEntry.TheVariants as book
use Rattle.operator_book.specs.Inner.Ids.{is_cdr_at, same_cdr_key}
use Rattle.operator_book.specs.declared.keys.CdrKey.{CdrKey}
use Rattle.operator_book.proofs.FoundLemmas.{IsTestOf, found, none_found, or_none, place_after, same_one}

passes : (key : CdrKey) (entry : BookEntry) → is_cdr_at key entry ≡ true → (x : Booked) × (booked_in entry ≡ x ∷ []) × (has_id key.operator key.id x ≡ true)
passes key (book.Tariff tariff) h = absurd (cc)
passes key (book.Cdr cdr cost period) h = (_, refl, h)
passes key (book.Credit cdr amount period) h = (_, refl, h)

fails : (key : CdrKey) (entry : BookEntry) → is_cdr_at key entry ≡ false → find (has_id key.operator key.id) (booked_in entry) ≡ None
fails key (book.Tariff tariff) h = refl
fails key (book.Cdr cdr cost period) h =
    let it : Booked = record { cdr = cdr; amount = pos cost; period = period } in ap (λ b. cond b (Some it) None) h
fails key (book.Credit cdr amount period) h =
    let it : Booked = record { cdr = cdr; amount = amount; period = period } in ap (λ b. cond b (Some it) None) h

test : (key : CdrKey) → IsTestOf booked_in (has_id key.operator key.id) (is_cdr_at key)
test key = record { passes = passes key; fails = fails key }

-- the CDR that stands where its key is found
pub cdr_at : (key : CdrKey) (entries : List BookEntry) (place : ℕ) (entry : BookEntry) (result : Option Booked) → position_from (is_cdr_at key) 0 entries ≡ Some place
    → entry ≡ get_or entries place entry → option_to_list result ≡ booked_in entry → result ≡ booked_as key.operator key.id entries
cdr_at key entries place entry result at here is =
    let it = found booked_in (has_id key.operator key.id) (is_cdr_at key) (test key) entries place at in
    let item : entry ≡ it.item = here ∙ get_or_from_slice_get entries place it.item entry it.stands in
    same_one result (Some it.one) (is ∙ ap booked_in item ∙ it.only) ∙ sym it.first

-- a key is not found past the end
pub cdr_within : (key : CdrKey) (entries : List BookEntry) (place : ℕ) → position_from (is_cdr_at key) 0 entries ≡ Some place → place < length entries
cdr_within key entries place at =
    let it = found booked_in (has_id key.operator key.id) (is_cdr_at key) (test key) entries place at in
    slice_get_within entries place it.item it.stands

pub no_cdr : (key : CdrKey) (entries : List BookEntry) → position_from (is_cdr_at key) 0 entries ≡ None → booked_as key.operator key.id entries ≡ None
no_cdr key entries h = none_found booked_in (has_id key.operator key.id) (is_cdr_at key) (test key) entries h

-- ---- one entry more

abbrev key_of : Booked → CdrKey
key_of found = record { operator = found.cdr.operator; id = found.cdr.id }

is_at : (key : CdrKey) (entry : BookEntry) (x : Booked) → x ∷ [] ≡ booked_in entry → is_cdr_at key entry ≡ same_cdr_key (key_of x) key
is_at key (book.Tariff tariff) x h = absurd (cc)
is_at key (book.Cdr cdr cost period) x h =
    let e : (record { cdr = cdr; amount = pos cost; period = period }) ≡ x = cc in ap (λ (y : Booked). same_cdr_key (key_of y) key) e
is_at key (book.Credit cdr amount period) x h =
    let e : (record { cdr = cdr; amount = amount; period = period }) ≡ x = cc in ap (λ (y : Booked). same_cdr_key (key_of y) key) e

is_not_at : (key : CdrKey) (entry : BookEntry) → [] ≡ booked_in entry → is_cdr_at key entry ≡ false
is_not_at key (book.Tariff tariff) h = refl
is_not_at key (book.Cdr cdr cost period) h = absurd (cc)
is_not_at key (book.Credit cdr amount period) h = absurd (cc)

pub cdr_added : (key : CdrKey) (entries : List BookEntry) (entry : BookEntry) (x : Booked) → x ∷ [] ≡ booked_in entry
    → option_or (position_from (is_cdr_at key) 0 entries) (if same_cdr_key (key_of x) key then Some (length entries) else None)
    ≡ position_from (is_cdr_at key) 0 (entries ++ entry ∷ [])
cdr_added key entries entry x h =
    ap (λ b. option_or (position_from (is_cdr_at key) 0 entries) (cond b (Some (length entries)) None)) (sym (is_at key entry x h))
    ∙ sym (place_after (is_cdr_at key) entries entry)

pub none_added : (key : CdrKey) (entries : List BookEntry) (entry : BookEntry) → [] ≡ booked_in entry
    → position_from (is_cdr_at key) 0 entries ≡ position_from (is_cdr_at key) 0 (entries ++ entry ∷ [])
none_added key entries entry h =
    sym (place_after (is_cdr_at key) entries entry
    ∙ ap (λ b. option_or (position_from (is_cdr_at key) 0 entries) (cond b (Some (length entries)) None)) (is_not_at key entry h)
    ∙ or_none (position_from (is_cdr_at key) 0 entries))
