-- Charges and credits whose CDR is booked under its id.
use Rattle.std.proofs.Common.{◌≡◌, ℕ, ℤ, pos, List, [], ◌∷◌, ◌++◌, Bool, true, ◌&&◌, ◌==◌, refl, sym, ap, ap₂, ◌∙◌, subst, append_assoc, Option, Some, None, option_and_then, find, if◌then◌else◌}
use Rattle.std.specs.Prelude.{⊤}
use Rattle.std.specs.List.{AllByRecursion}
use Rattle.std.specs.Option.{option_or}
use Rattle.std.specs.Cmp.Lexicographic.{pointwise, same_text}
use Rattle.std.proofs.lemmas.Cmp.{nat_list_eq_equiv}
use Rattle.std.proofs.lemmas.List.Concat.{flat_map-append}
use Rattle.std.proofs.lemmas.List.Folds.{find-append}
use Rattle.ocpi_json.specs.Folded.{folded, same_folded}
use Rattle.ocpi_types.specs.declared.cdr.Cdr.{Cdr}
use Rattle.ocpi_types.specs.declared.party.Party.{Party}
use Rattle.ocpi_types.specs.Currency.{same_currency}
use Rattle.ocpi_types.specs.Party.{same_party}
use Rattle.plain_house.specs.declared.event.Event.{Event}
use Rattle.plain_house.specs.declared.event.Event.TheVariants as event
use Rattle.plain_house.specs.declared.entry.AccountEntry.{AccountEntry}
use Rattle.plain_house.specs.declared.entry.AccountEntry.TheVariants as account
use Rattle.plain_house.specs.declared.entry.BookEntry.{BookEntry}
use Rattle.plain_house.specs.declared.entry.BookEntry.TheVariants as book
use Rattle.plain_house.specs.declared.entry.Charge.{Charge}
use Rattle.plain_house.specs.declared.entry.Credit.{Credit}
use Rattle.plain_house.specs.Booked.{Booked, booked, booked_as, has_id}
use Rattle.plain_house.specs.Entries.{account_entries, account_entries_from, account_entry, book_entries, book_entries_from, book_entry, charge_of, credit_of, period_after, period_of}
use Rattle.plain_house.specs.Exposure.{charges, ends_debt, names}
use Rattle.plain_house.specs.Posting.{original_of}
use Rattle.plain_house.specs.Full.{is_entry_of}
use Rattle.plain_house.proofs.DatedLemmas.{are_dated, period_of-push}
use Rattle.plain_house.proofs.OwnEntries.{IsEndedByOwn}
use Rattle.plain_house.proofs.SameScope.{FoldedParty, both_are, is_party_of, same_folded_party}

-- ---- booked under an id

pub first_of_three : (a b c : Bool) → (a && b && c) ≡ true → a ≡ true
first_of_three a b c h = (both_are a b (both_are (a && b) c h).0).0

same_id : (a b : List ℕ) → same_folded a b ≡ true → folded a ≡ folded b
same_id a b h = same_text (folded a) (folded b) (sym h)

pub party_itself : (a : Party) → same_party a a ≡ true
party_itself a = ap₂ ◌&&◌ (nat_list_eq_equiv.refl (folded a.country_code)) (nat_list_eq_equiv.refl (folded a.party_id))

-- what is booked depends on the folded texts alone
abbrev booked_by : FoldedParty → List ℕ → List BookEntry → Option Booked
booked_by operator id books = find (λ found. is_party_of operator found.cdr.operator && pointwise ◌==◌ (folded found.cdr.id) id) (booked books)

booked_along : (a b : Party) (id another : List ℕ) (books : List BookEntry) → same_party a b ≡ true → same_folded id another ≡ true
    → booked_as a id books ≡ booked_as b another books
booked_along a b id another books h k =
    ap₂ (λ (operator : FoldedParty) (text : List ℕ). booked_by operator text books) (same_folded_party a b h) (same_id id another k)

booked-append : (operator : Party) (id : List ℕ) (xs ys : List BookEntry) → booked_as operator id (xs ++ ys) ≡ option_or (booked_as operator id xs) (booked_as operator id ys)
booked-append operator id xs ys =
    ap (find (has_id operator id)) (flat_map-append _ xs ys) ∙ find-append (has_id operator id) (booked xs) (booked ys)

-- ---- an entry whose CDR is booked, of its provider

abbrev pub HasCdr : List BookEntry → AccountEntry → Type 0
HasCdr books (account.Token token) = ⊤
HasCdr books (account.Hold hold) = ⊤
HasCdr books (account.Release release) = ⊤
HasCdr books (account.Charge charge) = (found : Booked) × (booked_as charge.operator charge.cdr books ≡ Some found) × (found.cdr.cdr_token.provider ≡ charge.provider)
HasCdr books (account.Credit credit) =
    (id : List ℕ) × (found : Booked) × (credit.original ≡ Some id) × (booked_as credit.operator id books ≡ Some found) × (same_party credit.provider found.cdr.cdr_token.provider ≡ true)
HasCdr books (account.Settlement settlement) = ⊤

-- a credit that ends the debt of a charge is of its provider
credit_own : (books : List BookEntry) (charge : Charge) (credit : Credit) → HasCdr books (account.Charge charge) → HasCdr books (account.Credit credit)
    → ends_debt charge (account.Credit credit) ≡ true → same_party credit.provider charge.provider ≡ true
credit_own books charge credit (original, charged, provider) (id, found, named, credited, same) ends =
    let parts = both_are (same_party credit.operator charge.operator) (names charge.cdr credit.original) ends in
    let its_id : same_folded id charge.cdr ≡ true = sym (ap (names charge.cdr) named) ∙ parts.1 in
    let one : Some found ≡ Some original = sym credited ∙ booked_along credit.operator charge.operator id charge.cdr books parts.0 its_id ∙ charged in
    let same_cdr : found ≡ original = cc (one) in
    let same_provider : found.cdr.cdr_token.provider ≡ charge.provider = ap (λ (b : Booked). b.cdr.cdr_token.provider) same_cdr ∙ provider in
    subst (λ (p : Party). same_party credit.provider p ≡ true) same_provider same

ended_own : (books : List BookEntry) (charge : Charge) (entry : AccountEntry) → HasCdr books (account.Charge charge) → HasCdr books entry
    → ends_debt charge entry ≡ true → is_entry_of charge.provider entry ≡ true
ended_own books charge (account.Token token) its has ends = absurd (cc)
ended_own books charge (account.Hold hold) its has ends = absurd (cc)
ended_own books charge (account.Release release) its has ends = absurd (cc)
ended_own books charge (account.Charge another) its has ends = absurd (cc)
ended_own books charge (account.Credit credit) its has ends = credit_own books charge credit its has ends
ended_own books charge (account.Settlement settlement) its has ends =
    first_of_three (same_party settlement.provider charge.provider) (same_currency settlement.currency charge.currency) (settlement.period == charge.period) ends

all_ended_own : (books : List BookEntry) (charge : Charge) (entries : List AccountEntry) → HasCdr books (account.Charge charge) → AllByRecursion (HasCdr books) entries
    → IsEndedByOwn entries charge
all_ended_own books charge [] its all = tt
all_ended_own books charge (entry ∷ later) its all = (ended_own books charge entry its all.0, all_ended_own books charge later its all.1)

charges_ended_own : (books : List BookEntry) (entries found : List AccountEntry) → AllByRecursion (HasCdr books) entries → AllByRecursion (HasCdr books) found
    → AllByRecursion (IsEndedByOwn entries) (charges found)
charges_ended_own books entries [] all its = tt
charges_ended_own books entries (account.Token token ∷ found) all its = charges_ended_own books entries found all its.1
charges_ended_own books entries (account.Hold hold ∷ found) all its = charges_ended_own books entries found all its.1
charges_ended_own books entries (account.Release release ∷ found) all its = charges_ended_own books entries found all its.1
charges_ended_own books entries (account.Charge charge ∷ found) all its = (all_ended_own books charge entries its.0 all, charges_ended_own books entries found all its.1)
charges_ended_own books entries (account.Credit credit ∷ found) all its = charges_ended_own books entries found all its.1
charges_ended_own books entries (account.Settlement settlement ∷ found) all its = charges_ended_own books entries found all its.1

-- ---- events that are bookable

-- the CDR's id is not booked before; the Credit CDR's original is, and has its provider
abbrev pub IsBookable : List Event → Event → Type 0
IsBookable before (event.Tariff tariff) = ⊤
IsBookable before (event.Token token) = ⊤
IsBookable before (event.Authorised hold) = ⊤
IsBookable before (event.Released release) = ⊤
IsBookable before (event.Cdr cdr cost) = booked_as cdr.operator cdr.id (book_entries before) ≡ None
IsBookable before (event.Credit cdr amount) =
    (original : Booked) × (original_of cdr (book_entries before) ≡ Some original) × (same_party cdr.cdr_token.provider original.cdr.cdr_token.provider ≡ true)
IsBookable before (event.Settled settlement) = ⊤
IsBookable before (event.Closed period) = ⊤

abbrev pub AreBookable : List Event → Type 0
AreBookable events = (before : List Event) (event : Event) (later : List Event) → events ≡ before ++ event ∷ later → IsBookable before event

-- a CDR stands under its id
charge_has : (before : List Event) (cdr : Cdr) (cost : ℕ) (later : List Event) → booked_as cdr.operator cdr.id (book_entries before) ≡ None
    → HasCdr (book_entries (before ++ event.Cdr cdr cost ∷ later)) (account.Charge (charge_of cdr cost (period_of before)))
charge_has before cdr cost later unknown = (
  found,
  ap (booked_as cdr.operator cdr.id) (are_dated before (event.Cdr cdr cost) later).in_books
      ∙ booked-append cdr.operator cdr.id (book_entries before) (book.Cdr cdr cost (period_of before) ∷ rest)
      ∙ ap (λ o. option_or o (booked_as cdr.operator cdr.id (book.Cdr cdr cost (period_of before) ∷ rest))) unknown
      ∙ ap (λ (b : Bool). if b then Some found else booked_as cdr.operator cdr.id rest) itself,
  refl,
)
  where
    rest : List BookEntry
    rest = book_entries_from (period_of (before ++ event.Cdr cdr cost ∷ [])) later

    found : Booked
    found = record { cdr = cdr; amount = pos cost; period = period_of before }

    itself : has_id cdr.operator cdr.id found ≡ true
    itself = ap₂ ◌&&◌ (party_itself cdr.operator) (nat_list_eq_equiv.refl (folded cdr.id))

-- an original that is booked stays booked
credit_has : (before : List Event) (cdr : Cdr) (amount : ℤ) (later : List Event) → IsBookable before (event.Credit cdr amount)
    → HasCdr (book_entries (before ++ event.Credit cdr amount ∷ later)) (account.Credit (credit_of cdr amount (period_of before)))
credit_has before cdr amount later (original, named, same) = by cdr.credit refl named
  where
    more : List BookEntry
    more = book_entry (event.Credit cdr amount) (period_of before) ++ book_entries_from (period_of (before ++ event.Credit cdr amount ∷ [])) later

    by : (o : Option (List ℕ)) → cdr.credit ≡ o → option_and_then (λ id. booked_as cdr.operator id (book_entries before)) o ≡ Some original
        → HasCdr (book_entries (before ++ event.Credit cdr amount ∷ later)) (account.Credit (credit_of cdr amount (period_of before)))
    by None e g = absurd (cc)
    by (Some id) e g = (
      id,
      original,
      e,
      ap (booked_as cdr.operator id) (are_dated before (event.Credit cdr amount) later).in_books
          ∙ booked-append cdr.operator id (book_entries before) more ∙ ap (λ o. option_or o (booked_as cdr.operator id more)) g,
      same,
    )

one_has : (before : List Event) (e : Event) (later : List Event) → IsBookable before e
    → AllByRecursion (HasCdr (book_entries (before ++ e ∷ later))) (account_entry e (period_of before))
one_has before (event.Tariff tariff) later bookable = tt
one_has before (event.Token token) later bookable = (tt, tt)
one_has before (event.Authorised hold) later bookable = (tt, tt)
one_has before (event.Released release) later bookable = (tt, tt)
one_has before (event.Cdr cdr cost) later bookable = (charge_has before cdr cost later bookable, tt)
one_has before (event.Credit cdr amount) later bookable = (credit_has before cdr amount later bookable, tt)
one_has before (event.Settled settlement) later bookable = (tt, tt)
one_has before (event.Closed period) later bookable = tt

all-append : (P : AccountEntry → Type 0) (xs ys : List AccountEntry) → AllByRecursion P xs → AllByRecursion P ys → AllByRecursion P (xs ++ ys)
all-append P [] ys all more = more
all-append P (x ∷ xs) ys all more = (all.0, all-append P xs ys all.1 more)

-- the entries of later events
later_have : (before later : List Event) → AreBookable (before ++ later) → AllByRecursion (HasCdr (book_entries (before ++ later))) (account_entries_from (period_of before) later)
later_have before [] bookable = tt
later_have before (e ∷ later) bookable =
    let joined : (before ++ e ∷ []) ++ later ≡ before ++ e ∷ later = append_assoc before (e ∷ []) later in
    let rest = later_have (before ++ e ∷ []) later (λ b x l same. bookable b x l (sym joined ∙ same)) in
    all-append (HasCdr (book_entries (before ++ e ∷ later))) (account_entry e (period_of before)) (account_entries_from (period_after (period_of before) e) later)
    (one_has before e later (bookable before e later refl))
    (subst (λ (n : ℕ). AllByRecursion (HasCdr (book_entries (before ++ e ∷ later))) (account_entries_from n later)) (sym (period_of-push before e))
    (subst (λ (events : List Event). AllByRecursion (HasCdr (book_entries events)) (account_entries_from (period_of (before ++ e ∷ [])) later)) joined rest))

all_have : (events : List Event) → AreBookable events → AllByRecursion (HasCdr (book_entries events)) (account_entries events)
all_have events bookable = later_have [] events bookable

pub are_ended_by_own : (events : List Event) → AreBookable events → AllByRecursion (IsEndedByOwn (account_entries events)) (charges (account_entries events))
are_ended_by_own events bookable =
    let all = all_have events bookable in charges_ended_own (book_entries events) (account_entries events) (account_entries events) all all
