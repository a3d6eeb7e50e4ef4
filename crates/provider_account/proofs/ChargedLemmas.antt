-- The places of charges, as entries are added.
use Rattle.std.proofs.Common.{◌≡◌, ◌≢◌, ◌<◌, ◌≤◌, ◌==◌, ℕ, suc, Bool, true, false, ◌&&◌, cond, List, [], ◌∷◌, ◌++◌, filter, length, slice_get, Option, Some, None, option_and_then, IfSome, is_some, zero, true≢false, refl, sym, ap, ap₂, subst, ◌∙◌, arith}
use Rattle.std.specs.Cmp.{IsEquivalence}
use Rattle.std.proofs.lemmas.List.{append-nil}
use Rattle.std.proofs.lemmas.List.Concat.{flat_map-append}
use Rattle.std.proofs.lemmas.List.Elements.{filter-append, filter_agree}
use Rattle.std.proofs.lemmas.List.Sums.{count_by-le-length, length-filter}
use Rattle.std.specs.Map.{lookup}
use Rattle.indexmap.specs.IndexMap.{get, Updates}
use Rattle.plain_house.specs.declared.entry.AccountEntry.{AccountEntry}
use Rattle.plain_house.specs.declared.entry.AccountEntry.TheVariants as account
use Rattle.plain_house.specs.declared.entry.Charge.{Charge}
use Rattle.plain_house.specs.Exposure.{charge_in, charges}
use Rattle.provider_account.specs.declared.charged.ChargePlaces.{ChargePlaces}
use Rattle.provider_account.specs.declared.debt_keys.CdrKey.{CdrKey}
use Rattle.provider_account.specs.declared.debt_keys.ChargeKey.{ChargeKey}
use Rattle.provider_account.specs.contracts.debt_keys.CdrKeyEq.TheImpl.Laws.{laws-law}
use Rattle.provider_account.specs.Inner.Charged.{KnowsPlaces, charge_at, charge_of_entry, place_of}
use Rattle.provider_account.specs.Inner.DebtKeys.{cdr_of, charges_of, same_cdr, same_charge}
use Rattle.std.proofs.lemmas.Bool.{eqb-true, eqb-false, ne_eqb}

pub same_cdr_laws : IsEquivalence same_cdr
same_cdr_laws = laws-law

-- ---- counts

length-charges : (entries : List AccountEntry) → length (charges entries) ≤ length entries
length-charges [] = omega arith
length-charges (account.Token token ∷ entries) = let rest = length-charges entries in omega arith
length-charges (account.Hold hold ∷ entries) = let rest = length-charges entries in omega arith
length-charges (account.Release release ∷ entries) = let rest = length-charges entries in omega arith
length-charges (account.Charge charge ∷ entries) = let rest = length-charges entries in omega arith
length-charges (account.Credit credit ∷ entries) = let rest = length-charges entries in omega arith
length-charges (account.Settlement settlement ∷ entries) = let rest = length-charges entries in omega arith

pub length-charges_of : (key : CdrKey) (entries : List AccountEntry) → length (charges_of key entries) ≤ length entries
length-charges_of key entries =
    let own = λ (charge : Charge). same_cdr key (cdr_of charge) in
    omega (arith, length-filter own (charges entries), count_by-le-length own (charges entries), length-charges entries)

-- ---- lists with one more element

get_last : {X : Type 0} (xs : List X) (y : X) → slice_get (xs ++ y ∷ []) (length xs) ≡ Some y
get_last [] y = refl
get_last (x ∷ xs) y = get_last xs y

get_other : {X : Type 0} (xs : List X) (y : X) (i : ℕ) → i ≢ length xs → slice_get (xs ++ y ∷ []) i ≡ slice_get xs i
get_other [] y zero h = absurd (h refl)
get_other [] y (suc i) h = refl
get_other (x ∷ xs) y zero h = refl
get_other (x ∷ xs) y (suc i) h = get_other xs y i (λ e. h (ap suc e))

pub is_within : {X : Type 0} (xs : List X) (i : ℕ) → is_some (slice_get xs i) ≡ true → i < length xs
is_within [] i h = absurd (true≢false (sym h))
is_within (x ∷ xs) zero h = omega arith
is_within (x ∷ xs) (suc i) h = let rest = is_within xs i h in omega arith

pub is_past : {X : Type 0} (xs : List X) (i : ℕ) → is_some (slice_get xs i) ≡ false → length xs ≤ i
is_past [] i h = omega arith
is_past (x ∷ xs) zero h = absurd (true≢false h)
is_past (x ∷ xs) (suc i) h = let rest = is_past xs i h in omega arith

-- ---- one more entry

pub charges-push : (entries : List AccountEntry) (entry : AccountEntry) → charges (entries ++ entry ∷ []) ≡ charges entries ++ charge_in entry
charges-push entries entry = flat_map-append charge_in entries (entry ∷ []) ∙ ap (λ l. charges entries ++ l) (append-nil (charge_in entry))

pub charges_of-push : (key : CdrKey) (entries : List AccountEntry) (entry : AccountEntry)
    → charges_of key (entries ++ entry ∷ []) ≡ charges_of key entries ++ filter (λ charge. same_cdr key (cdr_of charge)) (charge_in entry)
charges_of-push key entries entry =
    ap (filter (λ charge. same_cdr key (cdr_of charge))) (charges-push entries entry)
    ∙ filter-append (λ charge. same_cdr key (cdr_of charge)) (charges entries) (charge_in entry)

-- ---- what stands at a place

is_there : {X Y : Type 0} (f : X → Option Y) (o : Option X) → is_some (option_and_then f o) ≡ true → is_some o ≡ true
is_there f None h = h
is_there f (Some x) h = refl

-- a charge stands within the entries
within : (entries : List AccountEntry) (at : ℕ) → is_some (charge_at entries at) ≡ true → at < length entries
within entries at h = is_within entries at (is_there charge_of_entry (slice_get entries at) h)

-- it stays there
charge_stays : (entries : List AccountEntry) (entry : AccountEntry) (at : ℕ) → at < length entries → charge_at (entries ++ entry ∷ []) at ≡ charge_at entries at
charge_stays entries entry at h = ap (option_and_then charge_of_entry) (get_other entries entry at (λ e. absurd (omega (arith, e, h))))

still_at : (entries : List AccountEntry) (entry : AccountEntry) (place : Option ℕ) → IfSome place (λ at. is_some (charge_at entries at) ≡ true)
    → option_and_then (charge_at (entries ++ entry ∷ [])) place ≡ option_and_then (charge_at entries) place
still_at entries entry None h = refl
still_at entries entry (Some at) h = charge_stays entries entry at (within entries at h)

still_there : (entries : List AccountEntry) (entry : AccountEntry) (place : Option ℕ) → IfSome place (λ at. is_some (charge_at entries at) ≡ true)
    → IfSome place (λ at. is_some (charge_at (entries ++ entry ∷ []) at) ≡ true)
still_there entries entry None h = h
still_there entries entry (Some at) h = ap is_some (charge_stays entries entry at (within entries at h)) ∙ h

-- an entry that is no charge
pub places_kept : (charged : ChargePlaces) (entries : List AccountEntry) (entry : AccountEntry) → charge_in entry ≡ []
    → KnowsPlaces charged entries → KnowsPlaces charged (entries ++ entry ∷ [])
places_kept charged entries entry none knows = record {
  charge = λ key.
      still_at entries entry (place_of charged key) (knows.there key) ∙ knows.charge key
      ∙ ap (λ (l : List Charge). slice_get l key.nth)
      (sym (charges_of-push key.cdr entries entry ∙ ap (λ (l : List Charge). charges_of key.cdr entries ++ filter (λ charge. same_cdr key.cdr (cdr_of charge)) l) none
      ∙ append-nil (charges_of key.cdr entries)));
  there = λ key. still_there entries entry (place_of charged key) (knows.there key);
}

-- the same places
pub same_places : (old new : ChargePlaces) (entries : List AccountEntry) → ((key : ChargeKey) → place_of new key ≡ place_of old key)
    → KnowsPlaces old entries → KnowsPlaces new entries
same_places old new entries same knows = record {
  charge = λ key. ap (option_and_then (charge_at entries)) (same key) ∙ knows.charge key;
  there = λ key. subst (λ (o : Option ℕ). IfSome o (λ at. is_some (charge_at entries at) ≡ true)) (sym (same key)) (knows.there key);
}

-- the place of a first charge, taken by another place and put back
pub put_back : (old new : ChargePlaces) (entries : List AccountEntry) (cdr : CdrKey) (first place : ℕ) (taken : CdrKey → Option ℕ)
    → Some first ≡ get same_cdr old.firsts cdr
    → ((key : CdrKey) → taken key ≡ cond (same_cdr cdr key) (Some place) (get same_cdr old.firsts key))
    → ((key : CdrKey) → get same_cdr new.firsts key ≡ cond (same_cdr cdr key) (Some first) (taken key))
    → new.others ≡ old.others → KnowsPlaces old entries → KnowsPlaces new entries
put_back old new entries cdr first place taken was takes puts same = same_places old new entries (λ key. by key (key.nth == 0))
  where
    again : (key : CdrKey) (b : Bool) → same_cdr cdr key ≡ b → get same_cdr new.firsts key ≡ get same_cdr old.firsts key
    again key true e =
        puts key ∙ ap (λ b. cond b (Some first) (taken key)) e ∙ was
        ∙ (λ i. lookup (λ other. same_cdr_laws.congr cdr key other e i) old.firsts.entries)
    again key false e =
        puts key ∙ ap (λ b. cond b (Some first) (taken key)) e ∙ takes key ∙ ap (λ b. cond b (Some place) (get same_cdr old.firsts key)) e

    by : (key : ChargeKey) (b : Bool) → cond b (get same_cdr new.firsts key.cdr) (get same_charge new.others key)
        ≡ cond b (get same_cdr old.firsts key.cdr) (get same_charge old.others key)
    by key true = again key.cdr (same_cdr cdr key.cdr) refl
    by key false = ap (λ others. get same_charge others key) same

-- ---- one more charge

module _ (old new : ChargePlaces) (entries : List AccountEntry) (charge : Charge) (knows : KnowsPlaces old entries) where
  abbrev pub added : ChargeKey
  added = record { nth = length (charges_of (cdr_of charge) entries); cdr = cdr_of charge }

  abbrev later : List AccountEntry
  later = entries ++ account.Charge charge ∷ []

  module _ (h : (key : ChargeKey) → place_of new key ≡ cond (same_charge added key) (Some (length entries)) (place_of old key)) (key : ChargeKey) where
    pushed : (b : Bool) → same_cdr (cdr_of charge) key.cdr ≡ b → charges_of key.cdr later ≡ cond b (charges_of key.cdr entries ++ charge ∷ []) (charges_of key.cdr entries)
    pushed true e =
        charges_of-push key.cdr entries (account.Charge charge)
        ∙ ap (λ b. charges_of key.cdr entries ++ cond b (charge ∷ []) []) (same_cdr_laws.symm key.cdr (cdr_of charge) ∙ e)
    pushed false e =
        charges_of-push key.cdr entries (account.Charge charge)
        ∙ ap (λ b. charges_of key.cdr entries ++ cond b (charge ∷ []) []) (same_cdr_laws.symm key.cdr (cdr_of charge) ∙ e)
        ∙ append-nil (charges_of key.cdr entries)

    as_many : same_cdr (cdr_of charge) key.cdr ≡ true → length (charges_of key.cdr entries) ≡ length (charges_of (cdr_of charge) entries)
    as_many e =
        ap length
        (filter_agree (λ other. same_cdr key.cdr (cdr_of other)) (λ other. same_cdr (cdr_of charge) (cdr_of other))
        (λ other. sym (same_cdr_laws.congr (cdr_of charge) key.cdr (cdr_of other) e)) (charges entries))

    other_place : same_charge added key ≡ false → place_of new key ≡ place_of old key
    other_place e = h key ∙ ap (λ b. cond b (Some (length entries)) (place_of old key)) e

    new_place : same_charge added key ≡ true → place_of new key ≡ Some (length entries)
    new_place e = h key ∙ ap (λ b. cond b (Some (length entries)) (place_of old key)) e

    at_other : same_charge added key ≡ false → option_and_then (charge_at later) (place_of new key) ≡ slice_get (charges_of key.cdr entries) key.nth
    at_other e =
        ap (option_and_then (charge_at later)) (other_place e) ∙ still_at entries (account.Charge charge) (place_of old key) (knows.there key) ∙ knows.charge key

    placed : (m n : Bool) → same_cdr (cdr_of charge) key.cdr ≡ m → (added.nth == key.nth) ≡ n
        → option_and_then (charge_at later) (place_of new key) ≡ slice_get (charges_of key.cdr later) key.nth
    placed false n e f =
        at_other (ap (λ b. (added.nth == key.nth) && b) e ∙ no_both (added.nth == key.nth)) ∙ ap (λ (l : List Charge). slice_get l key.nth) (sym (pushed false e))
      where
        no_both : (b : Bool) → (b && false) ≡ false
        no_both true = refl
        no_both false = refl
    placed true false e f =
        let apart = eqb-false added.nth key.nth f in
        at_other (ap (λ b. b && same_cdr (cdr_of charge) key.cdr) f)
        ∙ sym (get_other (charges_of key.cdr entries) charge key.nth (λ g. apart (sym (g ∙ as_many e))))
        ∙ ap (λ (l : List Charge). slice_get l key.nth) (sym (pushed true e))
    placed true true e f =
        let nth : added.nth ≡ key.nth = eqb-true added.nth key.nth f in
        let hit : same_charge added key ≡ true = ap (λ b. b && same_cdr (cdr_of charge) key.cdr) f ∙ e in
        ap (option_and_then (charge_at later)) (new_place hit)
        ∙ ap (option_and_then charge_of_entry) (get_last entries (account.Charge charge))
        ∙ sym (get_last (charges_of key.cdr entries) charge)
        ∙ ap (λ (l : List Charge). slice_get l (length (charges_of key.cdr entries))) (sym (pushed true e))
        ∙ ap (slice_get (charges_of key.cdr later)) (as_many e ∙ nth)

    placed_there : (b : Bool) → same_charge added key ≡ b → IfSome (place_of new key) (λ at. is_some (charge_at later at) ≡ true)
    placed_there true e =
        let last : is_some (charge_at later (length entries)) ≡ true = ap (λ o. is_some (option_and_then charge_of_entry o)) (get_last entries (account.Charge charge)) in
        subst (λ (o : Option ℕ). IfSome o (λ at. is_some (charge_at later at) ≡ true)) (sym (new_place e)) last
    placed_there false e =
        subst (λ (o : Option ℕ). IfSome o (λ at. is_some (charge_at later at) ≡ true)) (sym (other_place e))
        (still_there entries (account.Charge charge) (place_of old key) (knows.there key))

  pub places_added : ((key : ChargeKey) → place_of new key ≡ cond (same_charge added key) (Some (length entries)) (place_of old key)) → KnowsPlaces new later
  places_added h = record {
    charge = λ key. placed h key (same_cdr (cdr_of charge) key.cdr) (added.nth == key.nth) refl refl;
    there = λ key. placed_there h key (same_charge added key) refl;
  }

  -- the first charge of its CDR
  pub first_added : get same_cdr old.firsts (cdr_of charge) ≡ None → Updates same_cdr old.firsts new.firsts (cdr_of charge) (Some (length entries))
      → new.others ≡ old.others → KnowsPlaces new later
  first_added none updates same = places_added (λ key. by key (key.nth == 0) refl)
    where
      no_charge : length (charges_of (cdr_of charge) entries) ≡ 0
      no_charge =
          let first : slice_get (charges_of (cdr_of charge) entries) 0 ≡ None =
          sym (knows.charge (record { nth = 0; cdr = cdr_of charge })) ∙ ap (option_and_then (charge_at entries)) none in
          let past = is_past (charges_of (cdr_of charge) entries) 0 (ap is_some first) in
          omega arith

      by : (key : ChargeKey) (b : Bool) → (key.nth == 0) ≡ b
          → cond b (get same_cdr new.firsts key.cdr) (get same_charge new.others key)
          ≡ cond (same_charge added key) (Some (length entries)) (cond b (get same_cdr old.firsts key.cdr) (get same_charge old.others key))
      by key true e =
          let hit : (added.nth == key.nth) ≡ true = ap₂ (λ a b. a == b) no_charge (eqb-true key.nth 0 e) in
          updates.0 key.cdr
          ∙ ap (λ b. cond (b && same_cdr (cdr_of charge) key.cdr) (Some (length entries)) (get same_cdr old.firsts key.cdr)) (sym hit)
      by key false e =
          let miss : (added.nth == key.nth) ≡ false = ne_eqb added.nth key.nth (λ same. eqb-false key.nth 0 e (sym same ∙ no_charge)) in
          ap (λ others. get same_charge others key) same
          ∙ ap (λ b. cond (b && same_cdr (cdr_of charge) key.cdr) (Some (length entries)) (get same_charge old.others key)) (sym miss)

  -- one more charge of a CDR that has some
  pub other_added : is_some (place_of old (record { nth = 0; cdr = cdr_of charge })) ≡ true → new.firsts ≡ old.firsts
      → Updates same_charge old.others new.others added (Some (length entries)) → KnowsPlaces new later
  other_added some same updates = places_added (λ key. by key (key.nth == 0) refl)
    where
      there : (place : Option ℕ) → is_some place ≡ true → IfSome place (λ at. is_some (charge_at entries at) ≡ true) → is_some (option_and_then (charge_at entries) place) ≡ true
      there None h g = h
      there (Some at) h g = g

      has_charge : 0 < length (charges_of (cdr_of charge) entries)
      has_charge =
          let first : ChargeKey = record { nth = 0; cdr = cdr_of charge } in
          is_within (charges_of (cdr_of charge) entries) 0 (ap is_some (sym (knows.charge first)) ∙ there (place_of old first) some (knows.there first))

      by : (key : ChargeKey) (b : Bool) → (key.nth == 0) ≡ b
          → cond b (get same_cdr new.firsts key.cdr) (get same_charge new.others key)
          ≡ cond (same_charge added key) (Some (length entries)) (cond b (get same_cdr old.firsts key.cdr) (get same_charge old.others key))
      by key true e =
          let miss : (added.nth == key.nth) ≡ false = ne_eqb added.nth key.nth (λ same. absurd (omega (arith, has_charge, same, eqb-true key.nth 0 e))) in
          ap (λ firsts. get same_cdr firsts key.cdr) same
          ∙ ap (λ b. cond (b && same_cdr (cdr_of charge) key.cdr) (Some (length entries)) (get same_cdr old.firsts key.cdr)) (sym miss)
      by key false e = updates.0 key
