-- What is booked in a legal book is of configured parties and currencies, its amounts are bounded, and the book has room for it.
use Rattle.std.proofs.Common.{◌≡◌, ◌≤◌, ◌<◌, ◌^◌, ◌+◌, ℕ, ℤ, pos, neg_ℤ, unsigned_abs, List, [], ◌∷◌, ◌++◌, Bool, true, false, cond, refl, sym, ap, ap₂, subst, ◌∙◌, arith, append-nil, Option, Some, None, is_some, option_and_then, unwrap_or, find, count_by, nat_le, zero, suc, negsuc, Ok}
use Rattle.std.specs.List.{AllByRecursion}
use Rattle.std.proofs.lemmas.Bool.{leb-false}
use Rattle.std.proofs.lemmas.List.Concat.{flat_map-append}
use Rattle.std.proofs.lemmas.List.Sums.{sum_by-append, sum_by-cons}
use Rattle.ocpi_types.specs.declared.cdr.Cdr.{Cdr}
use Rattle.ocpi_types.specs.declared.config.Config.{Config}
use Rattle.ocpi_types.specs.declared.party.Party.{Party}
use Rattle.ocpi_types.specs.Config.{has_currency, is_operator, is_provider}
use Rattle.ocpi_types.specs.Party.{same_party}
use Rattle.cdr_checks.specs.Admission.{IsAdmitted}
use Rattle.cdr_checks.specs.Checked.{Checked}
use Rattle.cdr_checks.specs.Law.{PostsAreChecked}
use Rattle.cdr_checks.specs.declared.request.Command.{Command}
use Rattle.cdr_checks.specs.declared.request.Command.TheVariants as command
use Rattle.plain_house.specs.declared.event.Event.{Event}
use Rattle.plain_house.specs.declared.event.Event.TheVariants as event
use Rattle.plain_house.specs.declared.entry.BookEntry.{BookEntry}
use Rattle.plain_house.specs.declared.entry.BookEntry.TheVariants as book
use Rattle.plain_house.specs.Booked.{Booked, booked, booked_as, booked_in, has_id}
use Rattle.plain_house.specs.Known.{Known}
use Rattle.plain_house.specs.Entries.{book_entry}
use Rattle.plain_house.specs.Legal.{IsGivenBy}
use Rattle.plain_house.specs.Posting.{credited_amount, original_of}
use Rattle.plain_house.specs.Full.{are_cdrs_full, are_versions_full, is_cdr_of, is_version_of}
use Rattle.plain_house.proofs.BookingLemmas.{taken_from}
use Rattle.plain_house.proofs.EventLemmas.{Gives, GivesPost, event_has}
use Rattle.plain_house.proofs.SameScope.{FoldedParty, is_party_of, same_folded_party}

abbrev pub IsSound : Config → Booked → Type 0
IsSound config found =
    (is_operator config found.cdr.operator ≡ true) × (is_provider config found.cdr.cdr_token.provider ≡ true)
    × (has_currency config found.cdr.currency ≡ true) × (unsigned_abs found.amount ≤ 10 ^ 12)

pub record AreSound (config : Config) (entries : List BookEntry) : Type 0 where
  pub each : AllByRecursion (IsSound config) (booked entries)
  pub room : (operator : Party) → count_by (is_cdr_of operator) entries ≤ config.limits.cdrs
  pub versions : (operator : Party) → count_by (is_version_of operator) entries ≤ config.limits.tariffs

-- ---- what is found among what is sound

found_sound : (P : Booked → Type 0) (p : Booked → Bool) (xs : List Booked) (x : Booked) → AllByRecursion P xs → find p xs ≡ Some x → P x
found_sound P p [] x all h = absurd (cc)
found_sound P p (y ∷ xs) x all h = by (p y) (found_sound P p xs x all.1) h
  where
    by : (b : Bool) → (find p xs ≡ Some x → P x) → cond b (Some y) (find p xs) ≡ Some x → P x
    by true rest g = let same : y ≡ x = cc in subst P same all.0
    by false rest g = rest g

original_sound : (config : Config) (credit : Cdr) (entries : List BookEntry) (original : Booked) → AllByRecursion (IsSound config) (booked entries)
    → original_of credit entries ≡ Some original → IsSound config original
original_sound config credit entries original all h = by credit.credit h
  where
    by : (o : Option (List ℕ)) → option_and_then (λ id. booked_as credit.operator id entries) o ≡ Some original → IsSound config original
    by None g = absurd (cc)
    by (Some id) g = found_sound (IsSound config) (has_id credit.operator id) (booked entries) original all g

abs_neg : (z : ℤ) → unsigned_abs (neg_ℤ z) ≡ unsigned_abs z
abs_neg (pos zero) = refl
abs_neg (pos (suc n)) = refl
abs_neg (negsuc n) = refl

-- ---- one entry more

-- what is booked is sound, and its operator's book had room for it
abbrev Fits : Config → List BookEntry → Booked → Type 0
Fits config entries found = IsSound config found × (are_cdrs_full config found.cdr.operator entries ≡ false)

abbrev made : Cdr → ℤ → ℕ → Booked
made cdr amount period = record { cdr = cdr; amount = amount; period = period }

all-append : (P : Booked → Type 0) (xs ys : List Booked) → AllByRecursion P xs → AllByRecursion P ys → AllByRecursion P (xs ++ ys)
all-append P [] ys all more = more
all-append P (x ∷ xs) ys all more = (all.0, all-append P xs ys all.1 more)

count-append : {X : Type 0} (p : X → Bool) (xs ys : List X) → count_by p (xs ++ ys) ≡ count_by p xs + count_by p ys
count-append p xs ys = sum_by-append (λ x. cond (p x) 1 0) xs ys

same_count : {X : Type 0} (p q : X → Bool) → ((x : X) → p x ≡ q x) → (xs : List X) → count_by p xs ≡ count_by q xs
same_count p q same [] = refl
same_count p q same (x ∷ xs) =
    sum_by-cons (λ y. cond (p y) 1 0) x xs ∙ ap₂ (λ (b : Bool) (n : ℕ). cond b 1 0 + n) (same x) (same_count p q same xs) ∙ sym (sum_by-cons (λ y. cond (q y) 1 0) x xs)

-- one entry more leaves the count at most what it may be, where it was less or the entry is not counted
pub counted_one : {X : Type 0} (test : Party → X → Bool) (limit : ℕ) (entries : List X) (x : X) (its : Party)
    → ((operator : Party) → test operator x ≡ same_party its operator)
    → ((a b : Party) → same_party a b ≡ true → (y : X) → test a y ≡ test b y)
    → nat_le limit (count_by (test its) entries) ≡ false → ((operator : Party) → count_by (test operator) entries ≤ limit)
    → (operator : Party) → count_by (test operator) (entries ++ x ∷ []) ≤ limit
counted_one {X} test limit entries x its is along fits room operator = by (same_party its operator) refl
  where
    by : (b : Bool) → same_party its operator ≡ b → count_by (test operator) (entries ++ x ∷ []) ≤ limit
    by true e =
        let less : count_by (test its) entries < limit = leb-false limit (count_by (test its) entries) fits in
        let same : count_by (test its) entries ≡ count_by (test operator) entries = same_count (test its) (test operator) (along its operator e) entries in
        let last : count_by (test operator) (x ∷ []) ≡ 1 = ap (λ b. 0 + cond b 1 0) (is operator ∙ e) in
        omega (arith, count-append (test operator) entries (x ∷ []), last, same, less)
    by false e =
        let last : count_by (test operator) (x ∷ []) ≡ 0 = ap (λ b. 0 + cond b 1 0) (is operator ∙ e) in
        omega (arith, count-append (test operator) entries (x ∷ []), last, room operator)

cdr_along : (a b : Party) → same_party a b ≡ true → (x : BookEntry) → is_cdr_of a x ≡ is_cdr_of b x
cdr_along a b h (book.Tariff tariff) = refl
cdr_along a b h (book.Cdr cdr cost period) = ap (λ (f : FoldedParty). is_party_of f cdr.operator) (same_folded_party a b h)
cdr_along a b h (book.Credit cdr amount period) = ap (λ (f : FoldedParty). is_party_of f cdr.operator) (same_folded_party a b h)

version_along : (a b : Party) → same_party a b ≡ true → (x : BookEntry) → is_version_of a x ≡ is_version_of b x
version_along a b h (book.Tariff tariff) = ap (λ (f : FoldedParty). is_party_of f tariff.operator) (same_folded_party a b h)
version_along a b h (book.Cdr cdr cost period) = refl
version_along a b h (book.Credit cdr amount period) = refl

module _ (config : Config) (entries : List BookEntry) (sound : AreSound config entries) where
  -- no entry
  unbooked : AreSound config (entries ++ [])
  unbooked = subst (AreSound config) (sym (append-nil entries)) sound

  -- a tariff version
  with_version : (x : BookEntry) (its : Party) → booked_in x ≡ [] → ((operator : Party) → is_cdr_of operator x ≡ false)
      → ((operator : Party) → is_version_of operator x ≡ same_party its operator) → are_versions_full config its entries ≡ false → AreSound config (entries ++ x ∷ [])
  with_version x its none uncounted is fits = record {
    each =
        subst (AllByRecursion (IsSound config)) (sym (flat_map-append booked_in entries (x ∷ []) ∙ ap (λ l. booked entries ++ (l ++ [])) none ∙ append-nil (booked entries))) sound.each;
    room = λ operator.
        let last : count_by (is_cdr_of operator) (x ∷ []) ≡ 0 = ap (λ b. 0 + cond b 1 0) (uncounted operator) in
        omega (arith, count-append (is_cdr_of operator) entries (x ∷ []), last, sound.room operator);
    versions = counted_one is_version_of config.limits.tariffs entries x its is version_along fits sound.versions;
  }

  -- an entry that books
  with_booked : (x : BookEntry) (found : Booked) → booked_in x ≡ found ∷ [] → ((operator : Party) → is_version_of operator x ≡ false)
      → ((operator : Party) → is_cdr_of operator x ≡ same_party found.cdr.operator operator) → Fits config entries found → AreSound config (entries ++ x ∷ [])
  with_booked x found one uncounted is fits = record {
    each =
        subst (AllByRecursion (IsSound config)) (sym (flat_map-append booked_in entries (x ∷ []) ∙ ap (λ l. booked entries ++ (l ++ [])) one))
        (all-append (IsSound config) (booked entries) (found ∷ []) sound.each (fits.0, tt));
    room = counted_one is_cdr_of config.limits.cdrs entries x found.cdr.operator is cdr_along fits.1 sound.room;
    versions = λ operator.
        let last : count_by (is_version_of operator) (x ∷ []) ≡ 0 = ap (λ b. 0 + cond b 1 0) (uncounted operator) in
        omega (arith, count-append (is_version_of operator) entries (x ∷ []), last, sound.versions operator);
  }

-- ---- one event more

module _ (law : PostsAreChecked) (config : Config) (known : Known) (sound : AreSound config known.book) where
  abbrev IsSoundAfter : Event → Type 0
  IsSoundAfter e = AreSound config (known.book ++ book_entry e known.period)

  with_cdr : (checked : Checked) (cost : ℕ) → IsAdmitted config (command.Post checked) → checked.cost ≡ Some cost
      → are_cdrs_full config checked.cdr.operator known.book ≡ false → IsSoundAfter (event.Cdr checked.cdr cost)
  with_cdr checked cost admitted is room =
      let has = law config checked admitted in
      let within : cost ≤ 10 ^ 12 = subst (λ (o : Option ℕ). unwrap_or o 0 ≤ 10 ^ 12) is has.within in
      with_booked config known.book sound (book.Cdr checked.cdr cost known.period) (made checked.cdr (pos cost) known.period) refl (λ operator. refl) (λ operator. refl)
      ((ap is_some has.has_operator, has.has_provider, has.has_currency, within), room)

  with_credit : (checked : Checked) (amount : ℤ) → IsAdmitted config (command.Post checked)
      → credited_amount config known.period checked.cdr known.book ≡ Ok amount → are_cdrs_full config checked.cdr.operator known.book ≡ false
      → IsSoundAfter (event.Credit checked.cdr amount)
  with_credit checked amount admitted taken room =
      let has = law config checked admitted in
      let found = taken_from config known.period checked.cdr known.book amount taken in
      let original : IsSound config found.0 = original_sound config checked.cdr known.book found.0 sound.each found.1 in
      let same_size : unsigned_abs amount ≡ unsigned_abs found.0.amount = ap unsigned_abs found.2.negated ∙ abs_neg found.0.amount in
      let within : unsigned_abs amount ≤ 10 ^ 12 = subst (λ (n : ℕ). n ≤ 10 ^ 12) (sym same_size) original.3 in
      with_booked config known.book sound (book.Credit checked.cdr amount known.period) (made checked.cdr amount known.period) refl (λ operator. refl) (λ operator. refl)
      ((ap is_some has.has_operator, has.has_provider, has.has_currency, within), room)

  given : (told : Command) → IsAdmitted config told → Gives config known IsSoundAfter told
  given (command.PutTariff tariff) admitted = λ room.
      with_version config known.book sound (book.Tariff tariff) tariff.operator refl (λ operator. refl) (λ operator. refl) room
  given (command.PutToken token) admitted = λ room. unbooked config known.book sound
  given (command.Authorize ask) admitted = λ room covered. unbooked config known.book sound
  given (command.Release release) admitted = λ room. unbooked config known.book sound
  given (command.Post checked) admitted = by checked.cost refl
    where
      by : (cost : Option ℕ) → checked.cost ≡ cost → GivesPost config known IsSoundAfter checked.cdr cost
      by None is = λ amount unknown taken room account. with_credit checked amount admitted taken room
      by (Some cost) is = λ unknown registered room account within. with_cdr checked cost admitted is room
  given (command.Close close) admitted = λ current. unbooked config known.book sound
  given (command.Settle settlement) admitted = λ room. unbooked config known.book sound
  given (command.Exposure ask) admitted = tt
  given (command.Find find) admitted = tt
  given (command.Statement ask) admitted = tt

  pub sound_after : (e : Event) → IsGivenBy config known e → IsSoundAfter e
  sound_after e added = event_has config known IsSoundAfter e added.0 (given added.0 added.1) added.2

pub sound_empty : (config : Config) → AreSound config []
sound_empty config = record { each = tt; room = λ operator. omega arith; versions = λ operator. omega arith }
