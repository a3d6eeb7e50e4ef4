-- Books that are read one after another.
use Rattle.std.proofs.Common.{◌≡◌, ◌≤◌, ◌<◌, ◌+◌, ◌*◌, ◌^◌, ◌&&◌, ℕ, List, [], ◌∷◌, ◌++◌, Bool, true, false, cond, refl, sym, ap, ap₂, ◌∙◌, subst, arith, append_assoc, append-nil, get_or, length, length-append, take, filter, map}
use Rattle.std.specs.Prelude.{All}
use Rattle.std.specs.List.{list_all}
use Rattle.std.proofs.lemmas.List.Concat.{flat_map-append}
use Rattle.std.proofs.lemmas.List.Elements.{All-append, All-head, All-push, All-tail, filter-append}
use Rattle.std.proofs.lemmas.List.{length-take-le, map-append, take_all, take_more}
use Rattle.std.proofs.lemmas.List.Folds.{list_all-append}
use Rattle.std.proofs.lemmas.List.Sums.{sum_by-append}
use Rattle.ocpi_types.specs.declared.config.Config.{Config}
use Rattle.ocpi_types.specs.declared.config.Operator.{Operator}
use Rattle.ocpi_types.specs.declared.party.Party.{Party}
use Rattle.ocpi_types.specs.Config.{has_currency, is_operator, is_provider}
use Rattle.ocpi_types.specs.Party.{same_party}
use Rattle.netting_positions.specs.declared.obligation.Obligation.{Obligation}
use Rattle.netting_positions.specs.Netting.{is_configured, parties, size, total_size}
use Rattle.netting_positions.specs.SameSums.{OweAlike}
use Rattle.operator_book.specs.Due.{due}
use Rattle.operator_book.specs.Together.{owed_by_all}
use Rattle.plain_house.specs.declared.entry.BookEntry.{BookEntry}
use Rattle.plain_house.specs.declared.entry.BookEntry.TheVariants as book
use Rattle.plain_house.specs.Booked.{Booked, booked, booked_in}
use Rattle.plain_house.specs.LegalEntries.{IsLegalBook}
use Rattle.plain_house.specs.LegalLists.{CanBeNetted}
use Rattle.plain_house.specs.Obligations.{is_of_period, obligation_of, obligations}
use Rattle.plain_house.specs.Own.{own_book}
use Rattle.period_order.specs.Dues.{CanBeCollected, dues, sums}
use Rattle.period_order.specs.Kept.{IsConfiguration}
use Rattle.shared_house.specs.Calls.{AreRead, own_books}
use Rattle.shared_house.specs.Inner.Collecting.{CollectingLaws, IsCollected, IsCollecting}

-- ---- one book more

module _ (config : Config) (period : ℕ) (operator : Operator) (book : List BookEntry) where
  abbrev added : List Obligation
  added = owed_by_all operator.party (due operator.party period book) config.currencies config.providers

  sums_push : (operators : List Operator) (books : List (List BookEntry)) → length books ≡ length operators
      → sums config (operators ++ operator ∷ []) period (books ++ book ∷ []) ≡ sums config operators period books ++ added
  sums_push [] [] same = append-nil added
  sums_push [] (b ∷ books) same = absurd (omega (arith, same))
  sums_push (o ∷ operators) [] same = absurd (omega (arith, same))
  sums_push (o ∷ operators) (b ∷ books) same =
      let first = owed_by_all o.party (due o.party period b) config.currencies config.providers in
      ap (λ l. first ++ l) (sums_push operators books (omega (arith, same))) ∙ sym (append_assoc first (sums config operators period books) added)

  pub collecting_push : (operators more : List Operator) (owed now : List Obligation) → more ≡ operators ++ operator ∷ [] → IsCollecting config period operators owed → IsLegalBook config book
      → now ≡ owed ++ added → IsCollecting config period more now
  collecting_push operators more owed now m is legal n = record {
    books = is.books ++ book ∷ [];
    legal = All-push (IsLegalBook config) is.books book is.legal legal;
    one_each = length-append is.books (book ∷ []) ∙ ap (λ k. k + 1) is.one_each ∙ sym (length-append operators (operator ∷ [])) ∙ ap length (sym m);
    sums_are = n ∙ ap (λ l. l ++ added) is.sums_are ∙ sym (sums_push operators is.books is.one_each) ∙ ap (λ l. sums config l period (is.books ++ book ∷ [])) (sym m);
  }

-- the next operator's book, where the configuration is the house's own
pub collecting_next : (config own : Config) → own ≡ config → (period number : ℕ) (some : Operator) (among : List Operator) → among ≡ own.operators
    → number < length config.operators → (book : List BookEntry) (owed now : List Obligation) → IsCollecting config period (take number config.operators) owed → IsLegalBook own book
    → now ≡ owed ++ owed_by_all (get_or among number some).party (due (get_or among number some).party period book) own.currencies own.providers
    → IsCollecting config period (take (number + 1) config.operators) now
collecting_next config own same period number some among a less book owed now is legal n =
    let operator = get_or among number some in
    let there : operator ≡ get_or config.operators number some = ap (λ (l : List Operator). get_or l number some) (a ∙ ap (λ (k : Config). k.operators) same) in
    collecting_push config period operator book (take number config.operators) (take (number + 1) config.operators) owed now
    (take_more config.operators number some less ∙ ap (λ (x : Operator). take number config.operators ++ x ∷ []) (sym there)) is (subst (λ (k : Config). IsLegalBook k book) same legal)
    (n ∙ ap (λ (k : Config). owed ++ owed_by_all operator.party (due operator.party period book) k.currencies k.providers) same)

pub collecting_none : (config : Config) (period : ℕ) (owed : List Obligation) → owed ≡ [] → IsCollecting config period [] owed
collecting_none config period owed none = record {
  books = [];
  legal = λ k d less. absurd (omega (arith, less));
  one_each = refl;
  sums_are = none;
}

-- ---- how much it is

module _ (laws : CollectingLaws) (config : Config) (is_config : IsConfiguration config) (period : ℕ) where
  dues_size : (operators : List Operator) (books : List (List BookEntry)) → All (IsLegalBook config) books → total_size (dues operators period books) ≤ length operators * 10 ^ 17
  dues_size [] books legal = omega arith
  dues_size (o ∷ operators) [] legal = omega arith
  dues_size (o ∷ operators) (b ∷ books) legal =
      omega (
        arith,
        sum_by-append size (due o.party period b) (dues operators period books),
        laws.bounded config o.party period b is_config.cdrs (All-head (IsLegalBook config) b books legal),
        dues_size operators books (All-tail (IsLegalBook config) b books legal),
      )

  sums_size : (operators : List Operator) (books : List (List BookEntry)) → total_size (sums config operators period books) ≤ total_size (dues operators period books)
  sums_size [] books = omega arith
  sums_size (o ∷ operators) [] = omega arith
  sums_size (o ∷ operators) (b ∷ books) =
      omega (
        arith,
        sum_by-append size (due o.party period b) (dues operators period books),
        sum_by-append size (owed_by_all o.party (due o.party period b) config.currencies config.providers) (sums config operators period books),
        laws.no_larger config o.party period b is_config.currencies is_config.distinct.providers,
        sums_size operators books,
      )

  pub collecting_fits : (operators : List Operator) (owed : List Obligation) → IsCollecting config period operators owed → length operators < 64 → total_size owed + 10 ^ 17 < 2 ^ 63
  collecting_fits operators owed is less =
      omega (arith, ap total_size is.sums_are, sums_size operators is.books, dues_size operators is.books is.legal, less)

  -- with as many books read as there are operators before that number
  pub collecting_fits_at : (number : ℕ) (owed : List Obligation) → IsCollecting config period (take number config.operators) owed → number < length config.operators → total_size owed + 10 ^ 17 < 2 ^ 63
  collecting_fits_at number owed is less =
      let most = is_config.operators in
      collecting_fits (take number config.operators) owed is (omega (arith, length-take-le number config.operators (omega arith), less, most))

  -- ---- what holds of what each book obliges to

  both_are : (a b : Bool) → (a && b) ≡ true → (a ≡ true) × (b ≡ true)
  both_are true true h = (refl, refl)
  both_are true false h = absurd (cc)
  both_are false b h = absurd (cc)

  filter_passes : (p q : Obligation → Bool) (os : List Obligation) → list_all p os ≡ true → list_all p (filter q os) ≡ true
  filter_passes p q [] h = refl
  filter_passes p q (o ∷ os) h = let parts = both_are (p o) (list_all p os) h in by (q o) parts.0 (filter_passes p q os parts.1)
    where
      by : (b : Bool) → p o ≡ true → list_all p (filter q os) ≡ true → list_all p (cond b (o ∷ filter q os) (filter q os)) ≡ true
      by true first rest = ap₂ ◌&&◌ first rest
      by false first rest = rest

  dues_pass : (p : Obligation → Bool) → ((entries : List BookEntry) → IsLegalBook config entries → list_all p (obligations period entries) ≡ true)
      → (operators : List Operator) (books : List (List BookEntry)) → All (IsLegalBook config) books → list_all p (dues operators period books) ≡ true
  dues_pass p passes [] books legal = refl
  dues_pass p passes (o ∷ operators) [] legal = refl
  dues_pass p passes (o ∷ operators) (b ∷ books) legal =
      list_all-append p (due o.party period b) (dues operators period books)
      ∙ ap₂ ◌&&◌ (filter_passes p (λ obligation. same_party obligation.operator o.party) (obligations period b) (passes b (All-head (IsLegalBook config) b books legal)))
      (dues_pass p passes operators books (All-tail (IsLegalBook config) b books legal))

  -- what an operator is owed by a legal book can be added
  pub due_configured : (operator : Party) (entries : List BookEntry) → IsLegalBook config entries → (ps : List Party) (cs : List (List ℕ)) → ps ≡ parties config → cs ≡ config.currencies
      → list_all (is_configured ps cs) (due operator period entries) ≡ true
  due_configured operator entries legal ps cs p c =
      ap₂ (λ (l : List Party) (m : List (List ℕ)). list_all (is_configured l m) (due operator period entries)) p c
      ∙ filter_passes (is_configured (parties config) config.currencies) (λ obligation. same_party obligation.operator operator) (obligations period entries)
      ((laws.netted config entries is_config.operators is_config.cdrs legal).configured period)

  pub due_fits : (operator : Party) (entries : List BookEntry) (owed : List Obligation) → IsLegalBook config entries → total_size owed + 10 ^ 17 < 2 ^ 63
      → total_size owed + total_size (due operator period entries) < 2 ^ 63
  due_fits operator entries owed legal fits = let most = laws.bounded config operator period entries is_config.cdrs legal in omega (arith, fits, most)

-- ---- own entries

module _ (operator : Party) (period : ℕ) where
  abbrev is_to : Obligation → Bool
  is_to obligation = same_party obligation.operator operator

  abbrev of_period : List Booked → List Obligation
  of_period found = map obligation_of (filter (is_of_period period) found)

  kept_one : (one : Booked) (rest : List Booked) → same_party one.cdr.operator operator ≡ true → filter is_to (of_period rest) ≡ of_period rest
      → filter is_to (of_period (one ∷ rest)) ≡ of_period (one ∷ rest)
  kept_one one rest its h = by (is_of_period period one)
    where
      by : (b : Bool) → filter is_to (map obligation_of (cond b (one ∷ filter (is_of_period period) rest) (filter (is_of_period period) rest)))
          ≡ map obligation_of (cond b (one ∷ filter (is_of_period period) rest) (filter (is_of_period period) rest))
      by true = ap (λ d. cond d (obligation_of one ∷ filter is_to (of_period rest)) (filter is_to (of_period rest))) its ∙ ap (λ l. obligation_of one ∷ l) h
      by false = h

  -- its own book obliges to nothing but what it is owed
  own_due : (entries : List BookEntry) → due operator period (own_book operator entries) ≡ obligations period (own_book operator entries)
  own_due [] = refl
  own_due (book.Tariff tariff ∷ entries) = by (same_party tariff.operator operator) (own_due entries)
    where
      by : (b : Bool) → due operator period (own_book operator entries) ≡ obligations period (own_book operator entries)
          → due operator period (cond b (book.Tariff tariff ∷ own_book operator entries) (own_book operator entries))
          ≡ obligations period (cond b (book.Tariff tariff ∷ own_book operator entries) (own_book operator entries))
      by true rest = rest
      by false rest = rest
  own_due (book.Cdr cdr cost at ∷ entries) = by (same_party cdr.operator operator) refl (own_due entries)
    where
      by : (b : Bool) → same_party cdr.operator operator ≡ b → due operator period (own_book operator entries) ≡ obligations period (own_book operator entries)
          → due operator period (cond b (book.Cdr cdr cost at ∷ own_book operator entries) (own_book operator entries))
          ≡ obligations period (cond b (book.Cdr cdr cost at ∷ own_book operator entries) (own_book operator entries))
      by true e rest = kept_one _ (booked (own_book operator entries)) e rest
      by false e rest = rest
  own_due (book.Credit cdr amount at ∷ entries) = by (same_party cdr.operator operator) refl (own_due entries)
    where
      by : (b : Bool) → same_party cdr.operator operator ≡ b → due operator period (own_book operator entries) ≡ obligations period (own_book operator entries)
          → due operator period (cond b (book.Credit cdr amount at ∷ own_book operator entries) (own_book operator entries))
          ≡ obligations period (cond b (book.Credit cdr amount at ∷ own_book operator entries) (own_book operator entries))
      by true e rest = kept_one _ (booked (own_book operator entries)) e rest
      by false e rest = rest

obligations-append : (period : ℕ) (xs ys : List BookEntry) → obligations period (xs ++ ys) ≡ obligations period xs ++ obligations period ys
obligations-append period xs ys =
    ap (λ l. map obligation_of (filter (is_of_period period) l)) (flat_map-append booked_in xs ys)
    ∙ ap (map obligation_of) (filter-append (is_of_period period) (booked xs) (booked ys))
    ∙ map-append obligation_of (filter (is_of_period period) (booked xs)) (filter (is_of_period period) (booked ys))

own_dues : CollectingLaws → (period : ℕ) (operators : List Operator) (books : List (List BookEntry)) → obligations period (own_books operators books) ≡ dues operators period books
own_dues laws period [] books = refl
own_dues laws period (o ∷ operators) [] = refl
own_dues laws period (o ∷ operators) (b ∷ books) =
    obligations-append period (own_book o.party b) (own_books operators books)
    ∙ ap₂ (λ (l m : List Obligation). l ++ m) (sym (own_due o.party period b) ∙ laws.own o.party period b) (own_dues laws period operators books)

-- ---- what was read

module _ (laws : CollectingLaws) (config : Config) (is_config : IsConfiguration config) (books : List (List BookEntry)) (legal : All (IsLegalBook config) books) (one_each : length books ≡ length config.operators) where
  abbrev entries : List BookEntry
  entries = own_books config.operators books

  abbrev netted_each : (book : List BookEntry) → IsLegalBook config book → CanBeNetted config book
  netted_each book is = laws.netted config book is_config.operators is_config.cdrs is

  fits : (period : ℕ) → total_size (dues config.operators period books) < 2 ^ 63
  fits period = let size = dues_size laws config is_config period config.operators books legal in let most = is_config.operators in omega (arith, size, most)

  abbrev are_configured : Obligation → Bool
  are_configured obligation = is_configured (parties config) config.currencies obligation

  abbrev are_of_providers : Obligation → Bool
  are_of_providers obligation = is_provider config obligation.provider && has_currency config obligation.currency

  abbrev are_of_operators : Obligation → Bool
  are_of_operators obligation = is_operator config obligation.operator

  -- what holds of what each legal book obliges to holds of all
  all_pass : (p : Obligation → Bool) (period : ℕ) → ((book : List BookEntry) → IsLegalBook config book → list_all p (obligations period book) ≡ true) → list_all p (dues config.operators period books) ≡ true
  all_pass p period passes = dues_pass laws config is_config period p passes config.operators books legal

  netted : CanBeNetted config entries
  netted = record {
    configured = λ period. ap (list_all are_configured) (own_dues laws period config.operators books) ∙ all_pass are_configured period (λ book is. (netted_each book is).configured period);
    fits = λ period. subst (λ l. total_size l < 2 ^ 63) (sym (own_dues laws period config.operators books)) (fits period);
    providers = λ period. ap (list_all are_of_providers) (own_dues laws period config.operators books) ∙ all_pass are_of_providers period (λ book is. (netted_each book is).providers period);
    operators = λ period. ap (list_all are_of_operators) (own_dues laws period config.operators books) ∙ all_pass are_of_operators period (λ book is. (netted_each book is).operators period);
  }

  pub are_read : AreRead config entries
  are_read = record { books = books; legal = legal; one_each = one_each; entries_are = refl; netted = netted }

  can_be : (period : ℕ) → CanBeCollected config (dues config.operators period books)
  can_be period = record {
    known = record {
      providers = all_pass are_of_providers period (λ book is. (netted_each book is).providers period);
      configured = all_pass are_configured period (λ book is. (netted_each book is).configured period);
    };
    fits = fits period;
  }

pub collected : CollectingLaws → (config : Config) → IsConfiguration config → (period : ℕ) (operators : List Operator) (owed : List Obligation) → operators ≡ config.operators
    → IsCollecting config period operators owed → IsCollected config period owed
collected laws config is_config period operators owed all is =
    let one_each : length is.books ≡ length config.operators = is.one_each ∙ ap length all in
    let alike = laws.alike config period is.books is_config.currencies is_config.distinct.providers (can_be laws config is_config is.books is.legal one_each period) in
    record {
      entries = own_books config.operators is.books;
      read = are_read laws config is_config is.books is.legal one_each;
      alike = subst (λ l. OweAlike l (obligations period (own_books config.operators is.books))) (sym (is.sums_are ∙ ap (λ l. sums config l period is.books) all))
          (subst (λ l. OweAlike (sums config config.operators period is.books) l) (sym (own_dues laws period config.operators is.books)) alike);
    }

pub collected_all : CollectingLaws → (config : Config) → IsConfiguration config → (period number : ℕ) (owed : List Obligation) → length config.operators ≤ number
    → IsCollecting config period (take number config.operators) owed → IsCollected config period owed
collected_all laws config is_config period number owed all is = collected laws config is_config period (take number config.operators) owed (take_all number config.operators all) is

-- ---- books without entries

pub none_read : CollectingLaws → (config : Config) → IsConfiguration config → AreRead config []
none_read laws config is_config = subst (AreRead config) (none config.operators) (are_read laws config is_config (empty config.operators) (legal config.operators) (long config.operators))
  where
    empty : List Operator → List (List BookEntry)
    empty [] = []
    empty (o ∷ operators) = [] ∷ empty operators

    legal : (operators : List Operator) → All (IsLegalBook config) (empty operators)
    legal [] = λ k d less. absurd (omega (arith, less))
    legal (o ∷ operators) = All-append (IsLegalBook config) ([] ∷ []) (empty operators) (All-push (IsLegalBook config) [] [] (λ k d less. absurd (omega (arith, less))) (laws.empty config).in_book) (legal operators)

    long : (operators : List Operator) → length (empty operators) ≡ length operators
    long [] = refl
    long (o ∷ operators) = omega (arith, long operators)

    none : (operators : List Operator) → own_books operators (empty operators) ≡ []
    none [] = refl
    none (o ∷ operators) = none operators
