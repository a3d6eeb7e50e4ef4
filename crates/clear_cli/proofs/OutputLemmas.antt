-- Files that are written one after another.
use Rattle.std.proofs.Common.{◌≡◌, ℕ, zero, suc, ◌+◌, ◌-◌, ◌<◌, List, [], ◌∷◌, ◌++◌, length, take, map, get_or, refl, sym, ap, subst, ◌∙◌, arith, append-nil, append_assoc}
use Rattle.std.proofs.lemmas.List.{take_more, map-append}
use Rattle.ocpi_types.specs.declared.party.Party.{Party}
use Rattle.plain_house.specs.declared.event.Event.{Event}
use Rattle.plain_house.specs.Entries.{book_entries}
use Rattle.plain_house.specs.Obligations.{GoesOnFrom, obligations}
use Rattle.clear_cli.specs.declared.schedule_text.WriteFault.{WriteFault}
use Rattle.clear_cli.specs.declared.schedule_text.WriteFault.TheVariants.{NoMemory}
use Rattle.clear_cli.specs.Folder.{AreLeft, AreWritten, FolderWords, IsFileLeft, IsFileWritten, Output}
use Rattle.clear_cli.specs.Outputs.{statement_output, statements}

split_at : {X : Type 0} (xs : List X) (i : ℕ) (d : X) → i < length xs → (later : List X) × (xs ≡ take i xs ++ get_or xs i d ∷ later)
split_at [] i d within = absurd (omega (arith, within))
split_at (x ∷ xs) zero d within = (xs, refl)
split_at {X} (x ∷ xs) (suc i) d within = let rest = split_at xs i d (omega (arith, within)) in (rest.0, ap (λ (l : List X). x ∷ l) rest.1)

module _ {O V : Type 0} (words : FolderWords O V) where
  pub written_more : (xs ys : List Output) (a b c : O) → AreWritten words xs a b → AreWritten words ys b c → AreWritten words (xs ++ ys) a c
  written_more [] ys a b c first second = subst (λ (o : O). AreWritten words ys o c) first second
  written_more (x ∷ xs) ys a b c first second = (first.0, first.1, written_more xs ys first.0 b c first.2 second)

  pub left_behind : (xs ys : List Output) (a b c : O) (fault : WriteFault) → AreWritten words xs a b → AreLeft words ys b c fault → AreLeft words (xs ++ ys) a c fault
  left_behind xs ys a b c fault first left = record {
    before = xs ++ left.before;
    output = left.output;
    later = left.later;
    split = ap (λ (l : List Output). xs ++ l) left.split ∙ sym (append_assoc xs left.before (left.output ∷ left.later));
    between = left.between;
    written = written_more xs left.before a b left.between first left.written;
    left = left.left;
  }

  pub left_in_front : (xs ys : List Output) (a c : O) (fault : WriteFault) → AreLeft words xs a c fault → AreLeft words (xs ++ ys) a c fault
  left_in_front xs ys a c fault left = record {
    before = left.before;
    output = left.output;
    later = left.later ++ ys;
    split = ap (λ (l : List Output). l ++ ys) left.split ∙ append_assoc left.before (left.output ∷ left.later) ys;
    between = left.between;
    written = left.written;
    left = left.left;
  }

  pub left_first : (x : Output) (ys : List Output) (a c : O) (fault : WriteFault) → IsFileLeft words x a c fault → AreLeft words (x ∷ ys) a c fault
  left_first x ys a c fault left = record { before = []; output = x; later = ys; split = refl; between = a; written = refl; left = left }

  -- one file of each of these
  module _ {X : Type 0} (f : X → Output) where
    pub one_more : (xs : List X) (place : ℕ) (d x : X) (a b c : O) → x ≡ get_or xs place d → place < length xs → AreWritten words (map f (take place xs)) a b → IsFileWritten words (f x) b c →
        AreWritten words (map f (take (place + 1) xs)) a c
    one_more xs place d x a b c is within before one =
        let longer : map f (take (place + 1) xs) ≡ map f (take place xs) ++ f x ∷ [] =
        ap (map f) (take_more xs place d within) ∙ map-append f (take place xs) (get_or xs place d ∷ []) ∙ ap (λ (y : X). map f (take place xs) ++ f y ∷ []) (sym is) in
        subst (λ (l : List Output). AreWritten words l a c) (sym longer) (written_more (map f (take place xs)) (f x ∷ []) a b c before (c, one, refl))

    pub left_at : (xs : List X) (place : ℕ) (d x : X) (a b c : O) (fault : WriteFault) → x ≡ get_or xs place d → place < length xs → AreWritten words (map f (take place xs)) a b → IsFileLeft words (f x) b c fault →
        AreLeft words (map f xs) a c fault
    left_at xs place d x a b c fault is within before left =
        let split = split_at xs place d within in
        record {
          before = map f (take place xs);
          output = f x;
          later = map f split.0;
          split = ap (map f) split.1 ∙ map-append f (take place xs) (get_or xs place d ∷ split.0) ∙ ap (λ (y : X). map f (take place xs) ++ f y ∷ map f split.0) (sym is);
          between = b;
          written = before;
          left = left;
        }

-- the first of some files is not begun, where memory is refused
pub none_begun : {O V X : Type 0} (words : FolderWords O V) (f : X → Output) (xs : List X) (folder : O) → (length xs ≡ 0 → ⊥) → AreLeft words (map f xs) folder folder NoMemory
none_begun words f [] folder some = absurd (some refl)
none_begun words f (x ∷ xs) folder some = left_first words (f x) (map f xs) folder folder NoMemory refl

-- ---- periods

pub one_period_more : (events : List Event) (among : List Party) (period : ℕ) → statements events among (period + 1) ≡ statements events among period ++ map (statement_output (obligations period (book_entries events)) period) among
one_period_more events among period = ap (statements events among) (next period) where
  next : (n : ℕ) → n + 1 ≡ suc n
  next n = omega arith

-- where what is owed in the first period of the rest is what is owed in this period of all
pub owed_first : (events rest first : List Event) (period : ℕ) → GoesOnFrom events period rest → obligations 0 (book_entries first) ≡ obligations 0 (book_entries rest) →
    obligations 0 (book_entries first) ≡ obligations period (book_entries events)
owed_first events rest first period from same = same ∙ from 0 ∙ ap (λ n. obligations n (book_entries events)) (none period)
  where
    none : (n : ℕ) → n + 0 ≡ n
    none n = omega arith

pub goes_on : (events rest later : List Event) (period : ℕ) → GoesOnFrom events period rest → GoesOnFrom rest 1 later → GoesOnFrom events (period + 1) later
goes_on events rest later period from next = λ number. next number ∙ from (1 + number) ∙ ap (λ n. obligations n (book_entries events)) (sum period number)
  where
    sum : (m n : ℕ) → m + (1 + n) ≡ (m + 1) + n
    sum m n = omega arith

later_periods : (events : List Event) (among : List Party) (m n : ℕ) → (more : List Output) × (statements events among (n + m) ≡ statements events among m ++ more)
later_periods events among m zero =
    let same : 0 + m ≡ m = omega arith in ([], ap (statements events among) same ∙ sym (append-nil (statements events among m)))
later_periods events among m (suc n) =
    let earlier = later_periods events among m n in
    let last : List Output = map (statement_output (obligations (n + m) (book_entries events)) (n + m)) among in
    let next : suc n + m ≡ suc (n + m) = omega arith in
    (earlier.0 ++ last, ap (statements events among) next ∙ ap (λ (l : List Output). l ++ last) earlier.1 ∙ append_assoc (statements events among m) earlier.0 last)

-- the files of the periods before one are written, and not all of that one
pub left_in_period : {O V : Type 0} (words : FolderWords O V) (events : List Event) (among : List Party) (period periods : ℕ) (a b c : O) (fault : WriteFault) → period < periods →
    AreWritten words (statements events among period) a b → AreLeft words (map (statement_output (obligations period (book_entries events)) period) among) b c fault → AreLeft words (statements events among periods) a c fault
left_in_period {O} {V} words events among period periods a b c fault within before left =
    let n : ℕ = periods - (period + 1) in
    let sum : n + (period + 1) ≡ periods = omega (arith, within) in
    let more = later_periods events among (period + 1) n in
    let whole : statements events among periods ≡ (statements events among period ++ map (statement_output (obligations period (book_entries events)) period) among) ++ more.0 =
    ap (statements events among) (sym sum) ∙ more.1 ∙ ap (λ (l : List Output). l ++ more.0) (one_period_more events among period) in
    subst (λ (l : List Output). AreLeft words l a c fault) (sym whole)
    (left_in_front words (statements events among period ++ map (statement_output (obligations period (book_entries events)) period) among) more.0 a c fault
    (left_behind words (statements events among period) (map (statement_output (obligations period (book_entries events)) period) among) a b c fault before left))
