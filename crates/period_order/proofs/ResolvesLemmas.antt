-- An order that names events one by one, entry after entry.
use Rattle.std.proofs.Common.{◌≡◌, ◌↔◌, ◌⊎◌, inl, inr, ℕ, ◌+◌, ◌-◌, suc, zero, List, [], ◌∷◌, ◌++◌, Bool, true, false, refl, sym, ap, ap₂, ◌∙◌, subst, append_assoc, arith, length, Option, None, Some, option_map, option_and_then, option_to_list, slice_get, if◌then◌else◌}
use Rattle.std.proofs.lemmas.List.{length-append}
use Rattle.plain_house.specs.declared.event.Event.{Event}
use Rattle.plain_house.specs.declared.event.Event.TheVariants as event
use Rattle.plain_house.specs.declared.entry.AccountEntry.{AccountEntry}
use Rattle.plain_house.specs.declared.entry.AccountEntry.TheVariants as account
use Rattle.plain_house.specs.declared.entry.BookEntry.{BookEntry}
use Rattle.plain_house.specs.declared.entry.BookEntry.TheVariants as book
use Rattle.plain_house.specs.Entries.{account_entry, book_entry, period_after, period_of}
use Rattle.plain_house.specs.Entries.{is_close as closes}
use Rattle.period_order.specs.declared.order_entry.OrderEntry.{OrderEntry}
use Rattle.period_order.specs.declared.order_entry.OrderEntry.TheVariants as entry
use Rattle.period_order.specs.Resolved.{account_event, book_event, entry_at, named_event, period_behind, resolved_from}
use Rattle.period_order.specs.Resolves.{FailsAt, Names, Resolves, ResolvingIsUnique, ResolvingIsWhole}
use Rattle.period_order.specs.Inner.Named.{IsNamed}
use Rattle.period_order.proofs.EntriesLemmas.{period_push}

-- ---- lists

nothing : {X : Type 0} (before : List X) (x : X) (later : List X) → [] ≡ before ++ x ∷ later → ⊥
nothing [] x later h = cc
nothing (y ∷ before) x later h = cc

-- an element of a list with one more is the last, or one of the list
last_or_before : {X : Type 0} (xs : List X) (e : X) (before : List X) (x : X) (later : List X) → xs ++ e ∷ [] ≡ before ++ x ∷ later
    → ((before ≡ xs) × (x ≡ e)) ⊎ ((rest : List X) × (xs ≡ before ++ x ∷ rest))
last_or_before [] e [] x later h = inl (refl, let same : x ≡ e = cc in same)
last_or_before [] e (y ∷ before) x later h = absurd (nothing before x later (let same : [] ≡ before ++ x ∷ later = cc in same))
last_or_before {X} (y ∷ xs) e [] x later h = inr (xs, let same : y ∷ xs ≡ x ∷ xs = ap (λ (z : X). z ∷ xs) (let first : y ≡ x = cc in first) in same)
last_or_before {X} (y ∷ xs) e (z ∷ before) x later h =
    let first : y ≡ z = cc in
    let rest : xs ++ e ∷ [] ≡ before ++ x ∷ later = cc in
    step first (last_or_before xs e before x later rest)
  where
    step : y ≡ z → ((before ≡ xs) × (x ≡ e)) ⊎ ((rest : List X) × (xs ≡ before ++ x ∷ rest))
        → ((z ∷ before ≡ y ∷ xs) × (x ≡ e)) ⊎ ((rest : List X) × (y ∷ xs ≡ z ∷ (before ++ x ∷ rest)))
    step first (inl p) = inl (ap₂ (λ (a : X) (l : List X). a ∷ l) (sym first) p.0, p.1)
    step first (inr p) = inr (p.0, ap₂ (λ (a : X) (l : List X). a ∷ l) first p.1)

-- a list of some length and one more has a last element
has_last : {X : Type 0} (n : ℕ) (xs : List X) → length xs ≡ n + 1 → (begin : List X) × (x : X) × (xs ≡ begin ++ x ∷ [])
has_last n [] h = absurd (omega (arith, h))
has_last n (x ∷ []) h = ([], x, refl)
has_last zero (x ∷ y ∷ xs) h = absurd (omega (arith, h))
has_last (suc n) (x ∷ y ∷ xs) h =
    let rest = has_last n (y ∷ xs) (omega (arith, h)) in
    (x ∷ rest.0, rest.1, ap (λ l. x ∷ l) rest.2)

-- the last element of a list stands behind all others
last_splits : {X : Type 0} (xs : List X) (x : X) → slice_get xs (length xs - 1) ≡ Some x → (begin : List X) × (xs ≡ begin ++ x ∷ [])
last_splits [] x h = absurd (cc)
last_splits (y ∷ []) x h = ([], ap (λ z. z ∷ []) (let same : y ≡ x = cc in same))
last_splits (y ∷ z ∷ zs) x h =
    let at : suc (length (z ∷ zs) - 1) ≡ length (y ∷ z ∷ zs) - 1 = omega arith in
    let rest = last_splits (z ∷ zs) x (ap (slice_get (y ∷ z ∷ zs)) at ∙ h) in
    (y ∷ rest.0, ap (λ l. y ∷ l) rest.1)

-- a list as long as two has a beginning as long as the first
has_beginning : {X Y : Type 0} (xs ys : List X) (all : List Y) → length (xs ++ ys) ≡ length all
    → (begin : List Y) × (rest : List Y) × (all ≡ begin ++ rest) × (length xs ≡ length begin)
has_beginning [] ys all h = ([], all, refl, refl)
has_beginning (x ∷ xs) ys [] h = absurd (omega (arith, h))
has_beginning (x ∷ xs) ys (y ∷ all) h =
    let rest = has_beginning xs ys all (omega (arith, h)) in
    (y ∷ rest.0, rest.1, ap (λ l. y ∷ l) rest.2, ap suc rest.3)

-- what stands in two lists behind beginnings of one length
pub seam : {X : Type 0} (xs : List X) (x : X) (ys : List X) → slice_get (xs ++ x ∷ ys) (length xs) ≡ Some x
seam [] x ys = refl
seam (y ∷ xs) x ys = seam xs x ys

pub same_place : {X : Type 0} (xs ys others more : List X) (x y : X) → xs ++ x ∷ ys ≡ others ++ y ∷ more → length xs ≡ length others → x ≡ y
same_place {X} xs ys others more x y same long =
    let both : Some x ≡ Some y =
    sym (seam xs x ys) ∙ ap₂ (λ (l : List X) (n : ℕ). slice_get l n) same long ∙ seam others y more in
    cc

-- ---- what stands at the places of an entry

stands_one : {X : Type 0} (found : Option X) (kept : List X) → option_map (λ x. x ∷ []) found ≡ Some kept → (x : X) × (found ≡ Some x) × (kept ≡ x ∷ [])
stands_one None kept h = absurd (cc)
stands_one (Some x) kept h = (x, refl, let same : kept ≡ x ∷ [] = cc in same)

-- an event with an entry in a book is that entry's, and no close
of_book : (e : Event) (period : ℕ) (kept : BookEntry) → book_entry e period ≡ kept ∷ [] → (book_event kept ≡ e) × (closes e ≡ false)
of_book (event.Tariff tariff) period kept h = (ap book_event (let same : kept ≡ book.Tariff tariff = cc in same), refl)
of_book (event.Token token) period kept h = absurd (cc)
of_book (event.Authorised hold) period kept h = absurd (cc)
of_book (event.Released release) period kept h = absurd (cc)
of_book (event.Cdr cdr cost) period kept h = (ap book_event (let same : kept ≡ book.Cdr cdr cost period = cc in same), refl)
of_book (event.Credit cdr amount) period kept h = (ap book_event (let same : kept ≡ book.Credit cdr amount period = cc in same), refl)
of_book (event.Settled settlement) period kept h = absurd (cc)
of_book (event.Closed closed) period kept h = absurd (cc)

-- and one with an entry in an account alone is that entry's
of_account : (e : Event) (period : ℕ) (kept : AccountEntry) → book_entry e period ≡ [] → account_entry e period ≡ kept ∷ []
    → (account_event kept ≡ Some e) × (closes e ≡ false)
of_account (event.Tariff tariff) period kept b h = absurd (cc)
of_account (event.Token token) period kept b h = (ap account_event (let same : kept ≡ account.Token token = cc in same), refl)
of_account (event.Authorised hold) period kept b h = (ap account_event (let same : kept ≡ account.Hold hold = cc in same), refl)
of_account (event.Released release) period kept b h = (ap account_event (let same : kept ≡ account.Release release = cc in same), refl)
of_account (event.Cdr cdr cost) period kept b h = absurd (cc)
of_account (event.Credit cdr amount) period kept b h = absurd (cc)
of_account (event.Settled settlement) period kept b h = (ap account_event (let same : kept ≡ account.Settlement settlement = cc in same), refl)
of_account (event.Closed closed) period kept b h = absurd (cc)

-- one without entries is a close
of_none : (e : Event) (period : ℕ) → book_entry e period ≡ [] → account_entry e period ≡ [] → closes e ≡ true
of_none (event.Tariff tariff) period b a = absurd (cc)
of_none (event.Token token) period b a = absurd (cc)
of_none (event.Authorised hold) period b a = absurd (cc)
of_none (event.Released release) period b a = absurd (cc)
of_none (event.Cdr cdr cost) period b a = absurd (cc)
of_none (event.Credit cdr amount) period b a = absurd (cc)
of_none (event.Settled settlement) period b a = absurd (cc)
of_none (event.Closed closed) period b a = refl

module _ (books : List (List BookEntry)) (accounts : List (List AccountEntry)) where
  -- the entry names no other event, and is a close where the event is
  pub named_is : (period : ℕ) (kept : OrderEntry) (e : Event) → Names books accounts period kept e
      → (named_event books accounts period kept ≡ Some e) × (period_behind period kept ≡ period_after period e)
  named_is period (entry.InBook place) e names =
      let one = stands_one (entry_at books place) (book_entry e period) names.in_book in
      let is = of_book e period one.0 one.2 in
      (ap (option_map book_event) one.1 ∙ ap Some is.0, ap (λ (b : Bool). if b then period + 1 else period) (sym is.1))
  named_is period (entry.InAccount place) e names =
      let none : book_entry e period ≡ [] = (let same = names.in_book in cc) in
      let one = stands_one (entry_at accounts place) (account_entry e period) names.in_account in
      let is = of_account e period one.0 none one.2 in
      (ap (option_and_then account_event) one.1 ∙ is.0, ap (λ (b : Bool). if b then period + 1 else period) (sym is.1))
  named_is period (entry.InBoth place other) e names =
      let one = stands_one (entry_at books place) (book_entry e period) names.in_book in
      let is = of_book e period one.0 one.2 in
      (ap (option_map book_event) one.1 ∙ ap Some is.0, ap (λ (b : Bool). if b then period + 1 else period) (sym is.1))
  named_is period entry.Close e names =
      let no_book : book_entry e period ≡ [] = (let same = names.in_book in cc) in
      let no_account : account_entry e period ≡ [] = (let same = names.in_account in cc) in
      let is = of_none e period no_book no_account in
      (ap Some (sym (names.closes is)), ap (λ (b : Bool). if b then period + 1 else period) (sym is))

  -- ---- the whole order

  pub resolves_empty : Resolves books accounts [] []
  resolves_empty = record { each = refl; names = λ earlier entry later before named behind same other long. absurd (nothing earlier entry later same) }

  pub resolves_push : (order : List OrderEntry) (events : List Event) (kept : OrderEntry) (e : Event) → Resolves books accounts order events
      → Names books accounts (period_of events) kept e → Resolves books accounts (order ++ kept ∷ []) (events ++ e ∷ [])
  resolves_push order events kept e resolves new = record {
    each = length-append order (kept ∷ []) ∙ ap (λ n. n + 1) resolves.each ∙ sym (length-append events (e ∷ []));
    names = λ earlier entry later before named behind same other long.
        by earlier entry before named long (last_or_before order kept earlier entry later same) (last_or_before events e before named behind other);
  }
    where
      by : (earlier : List OrderEntry) (entry : OrderEntry) (before : List Event) (named : Event) → length earlier ≡ length before
          → ((earlier ≡ order) × (entry ≡ kept)) ⊎ ((rest : List OrderEntry) × (order ≡ earlier ++ entry ∷ rest))
          → ((before ≡ events) × (named ≡ e)) ⊎ ((rest : List Event) × (events ≡ before ++ named ∷ rest))
          → Names books accounts (period_of before) entry named
      by earlier entry before named long (inl p) (inl q) =
          subst (λ (x : OrderEntry). Names books accounts (period_of before) x named) (sym p.1)
          (subst (λ (x : Event). Names books accounts (period_of before) kept x) (sym q.1)
          (subst (λ (l : List Event). Names books accounts (period_of l) kept e) (sym q.0) new))
      by earlier entry before named long (inl p) (inr q) =
          let less : length events ≡ length before + suc (length q.0) = ap length q.1 ∙ length-append before (named ∷ q.0) in
          absurd (omega (arith, long, less, ap length p.0, resolves.each))
      by earlier entry before named long (inr p) (inl q) =
          let less : length order ≡ length earlier + suc (length p.0) = ap length p.1 ∙ length-append earlier (entry ∷ p.0) in
          absurd (omega (arith, long, less, ap length q.0, resolves.each))
      by earlier entry before named long (inr p) (inr q) = resolves.names earlier entry p.0 before named q.0 p.1 q.1 long

  -- an order that resolves does so as far as any of its entries
  resolves_before : (order rest : List OrderEntry) (events others : List Event) → length order ≡ length events
      → Resolves books accounts (order ++ rest) (events ++ others) → Resolves books accounts order events
  resolves_before order rest events others long resolves = record {
    each = long;
    names = λ earlier entry later before named behind same other at.
        resolves.names earlier entry (later ++ rest) before named (behind ++ others)
        (ap (λ (l : List OrderEntry). l ++ rest) same ∙ append_assoc earlier (entry ∷ later) rest)
        (ap (λ (l : List Event). l ++ others) other ∙ append_assoc before (named ∷ behind) others) at;
  }

  named_from : (order : List OrderEntry) (events : List Event) → Resolves books accounts order events
      → (earlier rest : List OrderEntry) (before later : List Event) (period : ℕ) → order ≡ earlier ++ rest → events ≡ before ++ later
      → length earlier ≡ length before → length rest ≡ length later → period ≡ period_of before → resolved_from books accounts period rest ≡ later
  named_from order events resolves earlier [] before [] period same other at long current = refl
  named_from order events resolves earlier [] before (e ∷ later) period same other at long current = absurd (omega (arith, long))
  named_from order events resolves earlier (kept ∷ rest) before [] period same other at long current = absurd (omega (arith, long))
  named_from order events resolves earlier (kept ∷ rest) before (e ∷ later) period same other at long current =
      ap₂ (λ (found : Option Event) (l : List Event). option_to_list found ++ l) is.0
      (named_from order events resolves (earlier ++ kept ∷ []) rest (before ++ e ∷ []) later (period_behind period kept)
      (same ∙ sym (append_assoc earlier (kept ∷ []) rest)) (other ∙ sym (append_assoc before (e ∷ []) later))
      (length-append earlier (kept ∷ []) ∙ ap (λ n. n + 1) at ∙ sym (length-append before (e ∷ []))) (omega (arith, long))
      (is.1 ∙ ap (λ n. period_after n e) current ∙ sym (period_push before e)))
    where
      names : Names books accounts period kept e
      names = subst (λ n. Names books accounts n kept e) (sym current) (resolves.names earlier kept rest before e later same other at)

      is : (named_event books accounts period kept ≡ Some e) × (period_behind period kept ≡ period_after period e)
      is = named_is period kept e names

-- one that is no close leaves the period
pub behind_other : (period : ℕ) (kept : OrderEntry) → (kept ≡ entry.Close → ⊥) → period_behind period kept ≡ period
behind_other period (entry.InBook place) other = refl
behind_other period (entry.InAccount place) other = refl
behind_other period (entry.InBoth place more) other = refl
behind_other period entry.Close other = absurd (other refl)

pub is_unique : ResolvingIsUnique
is_unique books accounts order events resolves = named_from books accounts order events resolves [] order [] events 0 refl refl refl resolves.each refl

-- where the next entry names no event, the order fails there
pub fails_next : (books : List (List BookEntry)) (accounts : List (List AccountEntry)) (before : List OrderEntry) (kept : OrderEntry) (later : List OrderEntry) (events : List Event)
    → Resolves books accounts before events → ((e : Event) → Names books accounts (period_of events) kept e → ⊥)
    → FailsAt books accounts (before ++ kept ∷ later) (length events)
fails_next books accounts before kept later events resolves none = record {
  before = before;
  failing = kept;
  later = later;
  order_is = refl;
  number_is = sym resolves.each;
  events = events;
  resolves = resolves;
  fails = λ others more. no others (has_last (length before) others (sym more.each ∙ length-append before (kept ∷ []))) more;
}
  where
    no : (others : List Event) → ((begin : List Event) × (e : Event) × (others ≡ begin ++ e ∷ [])) → Resolves books accounts (before ++ kept ∷ []) others → ⊥
    no others parts more =
        let begin = parts.0 in
        let e = parts.1 in
        let split : Resolves books accounts (before ++ kept ∷ []) (begin ++ e ∷ []) = subst (Resolves books accounts (before ++ kept ∷ [])) parts.2 more in
        let long : length before ≡ length begin = omega (arith, split.each, length-append before (kept ∷ []), length-append begin (e ∷ [])) in
        let same : begin ≡ events =
        sym (is_unique books accounts before begin (resolves_before books accounts before (kept ∷ []) begin (e ∷ []) long split))
        ∙ is_unique books accounts before events resolves in
        none e (subst (λ (l : List Event). Names books accounts (period_of l) kept e) same
        (split.names before kept [] begin e [] refl refl long))

-- an order that resolves does so at each of its entries
pub is_whole : ResolvingIsWhole
is_whole books accounts order events number resolves at =
    let begin = at.before ++ at.failing ∷ [] in
    let same : order ≡ begin ++ at.later = at.order_is ∙ sym (append_assoc at.before (at.failing ∷ []) at.later) in
    let parts = has_beginning begin at.later events (sym (ap length same) ∙ resolves.each) in
    let whole : Resolves books accounts (begin ++ at.later) (parts.0 ++ parts.1) =
    subst (Resolves books accounts (begin ++ at.later)) parts.2 (subst (λ l. Resolves books accounts l events) same resolves) in
    at.fails parts.0 (resolves_before books accounts begin at.later parts.0 parts.1 parts.3 whole)

-- ---- the last event

-- the last entry names the last event, behind those before it
record IsLast (books : List (List BookEntry)) (accounts : List (List AccountEntry)) (kept : OrderEntry) (events : List Event) : Type 0 where
  pub before : List Event
  pub last : Event
  pub events_are : events ≡ before ++ last ∷ []
  pub names : Names books accounts (period_of before) kept last

last_named : (books : List (List BookEntry)) (accounts : List (List AccountEntry)) (order : List OrderEntry) (events : List Event) (kept : OrderEntry)
    → Resolves books accounts order events → slice_get order (length order - 1) ≡ Some kept → IsLast books accounts kept events
last_named books accounts order events kept resolves at =
    let begin = last_splits order kept at in
    let parts = has_last (length begin.0) events (sym resolves.each ∙ ap length begin.1 ∙ length-append begin.0 (kept ∷ [])) in
    let long : length begin.0 ≡ length parts.0 =
    omega (arith, resolves.each, ap length begin.1, ap length parts.2, length-append begin.0 (kept ∷ []), length-append parts.0 (parts.1 ∷ [])) in
    record {
      before = parts.0;
      last = parts.1;
      events_are = parts.2;
      names = resolves.names begin.0 kept [] parts.0 parts.1 [] begin.1 parts.2 long;
    }

-- the current period behind it
current_behind : (books : List (List BookEntry)) (accounts : List (List AccountEntry)) (kept : OrderEntry) (events : List Event) (is : IsLast books accounts kept events)
    → period_of events ≡ period_behind (period_of is.before) kept
current_behind books accounts kept events is =
    ap period_of is.events_are ∙ period_push is.before is.last ∙ sym (named_is books accounts (period_of is.before) kept is.last is.names).1

-- what an entry names is one event
named_once : (books : List (List BookEntry)) (accounts : List (List AccountEntry)) (period : ℕ) (kept : OrderEntry) (e other : Event)
    → Names books accounts period kept e → Names books accounts period kept other → Some e ≡ Some other
named_once books accounts period kept e other names also = sym (named_is books accounts period kept e names).0 ∙ (named_is books accounts period kept other also).0

last_got : {X : Type 0} (xs begin : List X) (x : X) → xs ≡ begin ++ x ∷ [] → slice_get xs (length xs - 1) ≡ Some x
last_got xs begin x same =
    let n : length xs - 1 ≡ length begin = omega (arith, ap length same, length-append begin (x ∷ [])) in
    ap₂ (λ (l : List _) (n : ℕ). slice_get l n) same n ∙ seam begin x []

-- the period that was current before the last entry: where it closes one, the one before
abbrev pub BehindLast : OrderEntry → ℕ → ℕ → Type 0
BehindLast kept current period = ((kept ≡ entry.Close) × (period ≡ current - 1)) ⊎ ((kept ≡ entry.Close → ⊥) × (period ≡ current))

pub behind_last : (kept : OrderEntry) (current period : ℕ) → (kept ≡ entry.Close → period ≡ current - 1) → ((kept ≡ entry.Close → ⊥) → period ≡ current) → BehindLast kept current period
behind_last (entry.InBook book) current period closed other = let no : (let e : OrderEntry = entry.InBook book in e ≡ entry.Close) → ⊥ = (λ h. cc) in inr (no, other no)
behind_last (entry.InAccount account) current period closed other = let no : (let e : OrderEntry = entry.InAccount account in e ≡ entry.Close) → ⊥ = (λ h. cc) in inr (no, other no)
behind_last (entry.InBoth book account) current period closed other = let no : (let e : OrderEntry = entry.InBoth book account in e ≡ entry.Close) → ⊥ = (λ h. cc) in inr (no, other no)
behind_last entry.Close current period closed other = inl (refl, closed refl)

-- what the last entry names, in the period before it, is the last event
pub last_is : (books : List (List BookEntry)) (accounts : List (List AccountEntry)) (order : List OrderEntry) (events : List Event) (kept : OrderEntry) (current period : ℕ) (e : Event)
    → Resolves books accounts order events → slice_get order (length order - 1) ≡ Some kept → current ≡ period_of events
    → BehindLast kept current period → Names books accounts period kept e ↔ (slice_get events (length events - 1) ≡ Some e)
last_is books accounts order events kept current period e resolves at now which = (
  λ names. last ∙ sym (named_once books accounts (period_of is.before) kept e is.last (subst (λ n. Names books accounts n kept e) (before which) names) is.names),
  λ there. let same : is.last ≡ e = only (sym last ∙ there) in subst (λ n. Names books accounts n kept e) (sym (before which)) (subst (Names books accounts (period_of is.before) kept) same is.names),
)
  where
    is : IsLast books accounts kept events
    is = last_named books accounts order events kept resolves at

    last : slice_get events (length events - 1) ≡ Some is.last
    last = last_got events is.before is.last is.events_are

    only : {a b : Event} → Some a ≡ Some b → a ≡ b
    only h = cc

    behind : current ≡ period_behind (period_of is.before) kept
    behind = now ∙ current_behind books accounts kept events is

    before : BehindLast kept current period → period ≡ period_of is.before
    before (inl p) =
        let closed : period_behind (period_of is.before) kept ≡ period_of is.before + 1 = ap (period_behind (period_of is.before)) p.0 in
        omega (arith, p.1, behind, closed)
    before (inr p) = p.1 ∙ behind ∙ behind_other (period_of is.before) kept p.0

-- and so what is found there
pub last_found : (books : List (List BookEntry)) (accounts : List (List AccountEntry)) (order : List OrderEntry) (events : List Event) (kept : OrderEntry) (current period : ℕ) (found : Option Event)
    → Resolves books accounts order events → slice_get order (length order - 1) ≡ Some kept → current ≡ period_of events
    → BehindLast kept current period → IsNamed books accounts period kept found → found ≡ slice_get events (length events - 1)
last_found books accounts order events kept current period None resolves at now which none =
    let is = last_named books accounts order events kept resolves at in
    let there : slice_get events (length events - 1) ≡ Some is.last = last_got events is.before is.last is.events_are in
    absurd (none is.last ((last_is books accounts order events kept current period is.last resolves at now which).1 there))
last_found books accounts order events kept current period (Some e) resolves at now which names =
    sym ((last_is books accounts order events kept current period e resolves at now which).0 names)
