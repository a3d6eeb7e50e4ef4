-- What a book has under an id: a CDR or a Credit CDR, and at which amount.
use Rattle.std.proofs.Common.{◌≡◌, ◌≤ℤ◌, ◌⊎◌, inl, inr, ℕ, ℤ, pos, neg_ℤ, List, [], ◌∷◌, ◌++◌, Bool, true, false, refl, sym, ap, subst, arith, cond, find, Option, None, Some}
use Rattle.std.specs.Prelude.{is_some, option_and_then}
use Rattle.std.proofs.lemmas.Int.{ints}
use Rattle.ocpi_types.specs.declared.cdr.Cdr.{Cdr}
use Rattle.ocpi_types.specs.declared.config.Config.{Config}
use Rattle.ocpi_types.specs.Cdr.{is_credit}
use Rattle.plain_house.specs.declared.entry.BookEntry.{BookEntry}
use Rattle.plain_house.specs.declared.entry.BookEntry.TheVariants as book
use Rattle.plain_house.specs.Booked.{Booked, booked, booked_as, has_id}
use Rattle.plain_house.specs.LegalEntries.{IsLegalBook, LegalBooksAreTakenBack}
use Rattle.plain_house.specs.Posting.{original_of}

-- it is a CDR of the book
pub record IsCdrOf (entries : List BookEntry) (found : Booked) : Type 0 where
  pub before : List BookEntry
  pub later : List BookEntry
  pub cost : ℕ
  pub entries_are : entries ≡ before ++ book.Cdr found.cdr cost found.period ∷ later
  pub amount_is : found.amount ≡ pos cost

-- it is a Credit CDR of the book
pub record IsCreditOf (entries : List BookEntry) (found : Booked) : Type 0 where
  pub before : List BookEntry
  pub later : List BookEntry
  pub entries_are : entries ≡ before ++ book.Credit found.cdr found.amount found.period ∷ later

one_more : (entry : BookEntry) (entries : List BookEntry) (found : Booked) → IsCdrOf entries found ⊎ IsCreditOf entries found → IsCdrOf (entry ∷ entries) found ⊎ IsCreditOf (entry ∷ entries) found
one_more entry entries found (inl of) =
    inl (record { before = entry ∷ of.before; later = of.later; cost = of.cost; entries_are = ap (λ (l : List BookEntry). entry ∷ l) of.entries_are; amount_is = of.amount_is })
one_more entry entries found (inr of) =
    inr (record { before = entry ∷ of.before; later = of.later; entries_are = ap (λ (l : List BookEntry). entry ∷ l) of.entries_are })

pub entry_of : (p : Booked → Bool) (entries : List BookEntry) (found : Booked) → find p (booked entries) ≡ Some found → IsCdrOf entries found ⊎ IsCreditOf entries found
entry_of p [] found h = absurd (cc)
entry_of p (book.Tariff tariff ∷ entries) found h = one_more (book.Tariff tariff) entries found (entry_of p entries found h)
entry_of p (book.Cdr cdr cost period ∷ entries) found h =
    by (p (record { cdr = cdr; amount = pos cost; period = period })) h (entry_of p entries found)
  where
    by : (b : Bool) → cond b (Some (let x : Booked = record { cdr = cdr; amount = pos cost; period = period } in x)) (find p (booked entries)) ≡ Some found → (find p (booked entries) ≡ Some found → IsCdrOf entries found ⊎ IsCreditOf entries found) → IsCdrOf (book.Cdr cdr cost period ∷ entries) found ⊎ IsCreditOf (book.Cdr cdr cost period ∷ entries) found
    by true h rest =
        let x : Booked = record { cdr = cdr; amount = pos cost; period = period } in
        let same : x ≡ found = cc in
        inl (subst (IsCdrOf (book.Cdr cdr cost period ∷ entries)) same (record { before = []; later = entries; cost = cost; entries_are = refl; amount_is = refl }))
    by false h rest = one_more (book.Cdr cdr cost period) entries found (rest h)
entry_of p (book.Credit cdr amount period ∷ entries) found h =
    by (p (record { cdr = cdr; amount = amount; period = period })) h (entry_of p entries found)
  where
    by : (b : Bool) → cond b (Some (let x : Booked = record { cdr = cdr; amount = amount; period = period } in x)) (find p (booked entries)) ≡ Some found → (find p (booked entries) ≡ Some found → IsCdrOf entries found ⊎ IsCreditOf entries found) → IsCdrOf (book.Credit cdr amount period ∷ entries) found ⊎ IsCreditOf (book.Credit cdr amount period ∷ entries) found
    by true h rest =
        let x : Booked = record { cdr = cdr; amount = amount; period = period } in
        let same : x ≡ found = cc in
        inr (subst (IsCreditOf (book.Credit cdr amount period ∷ entries)) same (record { before = []; later = entries; entries_are = refl }))
    by false h rest = one_more (book.Credit cdr amount period) entries found (rest h)

-- what a legal book takes back names a CDR, so it is a Credit CDR
pub names_original : (credit : Cdr) (entries : List BookEntry) (original : Booked) → original_of credit entries ≡ Some original → is_credit credit ≡ true
names_original credit entries original = by credit.credit
  where
    by : (o : Option (List ℕ)) → option_and_then (λ id. booked_as credit.operator id entries) o ≡ Some original → is_some o ≡ true
    by None h = absurd (cc)
    by (Some id) h = refl

-- a CDR of a legal book that is no Credit CDR has an amount of at least 0
pub owed_back : LegalBooksAreTakenBack → (config : Config) (entries : List BookEntry) → IsLegalBook config entries → (credit : Cdr) (original : Booked) → original_of credit entries ≡ Some original
    → is_credit original.cdr ≡ false → neg_ℤ original.amount ≤ℤ pos 0
owed_back taken config entries legal credit original is no_credit = by credit.credit is
  where
    of : IsCdrOf entries original ⊎ IsCreditOf entries original → neg_ℤ original.amount ≤ℤ pos 0
    of (inl cdr) = subst (λ (a : ℤ). neg_ℤ a ≤ℤ pos 0) (sym cdr.amount_is) (omega (arith, ints))
    of (inr other) =
        let has = taken config other.before other.later original.cdr original.amount original.period (subst (IsLegalBook config) other.entries_are legal) in
        let names = names_original original.cdr other.before has.original has.named in
        absurd (cc)

    by : (o : Option (List ℕ)) → option_and_then (λ id. booked_as credit.operator id entries) o ≡ Some original → neg_ℤ original.amount ≤ℤ pos 0
    by None h = absurd (cc)
    by (Some id) h = of (entry_of (has_id credit.operator id) entries original h)
