-- The obligations of the events up to the first close, and of those behind it.
use Rattle.std.proofs.Common.{◌≡◌, ◌<◌, ◌≤◌, ◌+◌, ◌⊎◌, inl, inr, eqb-true, ◌==◌, ℕ, suc, pos, List, [], ◌∷◌, ◌++◌, Bool, true, false, cond, not, if◌then◌else◌, refl, sym, ap, ap₂, ◌∙◌, arith, map, subst, nat_lt, length, position, Option, Some, None, take, drop}
use Rattle.std.specs.List.{position_or_len}
use Rattle.std.proofs.Math.Dec.{eqb-suc-suc}
use Rattle.std.proofs.lemmas.Bool.{ltb-false}
use Rattle.std.proofs.Math.Seq.{drop-length, take-length}
use Rattle.std.proofs.lemmas.List.{drop_all, take_all}
use Rattle.netting_positions.specs.declared.obligation.Obligation.{Obligation}
use Rattle.plain_house.specs.declared.event.Event.{Event}
use Rattle.plain_house.specs.declared.event.Event.TheVariants as event
use Rattle.plain_house.specs.Booked.{Booked}
use Rattle.plain_house.specs.Entries.{book_entries, book_entries_from, book_entry, is_close, period_after}
use Rattle.plain_house.specs.Obligations.{GoesOnFrom, obligation_of, obligations}
use Rattle.plain_house.proofs.ObligationLemmas.{next_obligations}

-- ---- one event

-- an event owes nothing in another period
of_another : (period n : ℕ) (e : Event) → (n == period) ≡ false → obligations period (book_entry e n) ≡ []
of_another period n (event.Tariff tariff) other = refl
of_another period n (event.Token token) other = refl
of_another period n (event.Authorised hold) other = refl
of_another period n (event.Released release) other = refl
of_another period n (event.Cdr cdr cost) other = ap (λ (b : Bool). map obligation_of (cond b (record { cdr = cdr; amount = pos cost; period = n } ∷ []) [])) other
of_another period n (event.Credit cdr amount) other = ap (λ (b : Bool). map obligation_of (cond b (record { cdr = cdr; amount = amount; period = n } ∷ []) [])) other
of_another period n (event.Settled settlement) other = refl
of_another period n (event.Closed closed) other = refl

one_owed : (b : Bool) (x y : Booked) → obligation_of x ≡ obligation_of y → map obligation_of (cond b (x ∷ []) []) ≡ map obligation_of (cond b (y ∷ []) [])
one_owed true x y same = ap (λ o. o ∷ []) same
one_owed false x y same = refl

-- what an event owes in its period, it owes in the next one where it stands there
of_next : (period n : ℕ) (e : Event) → obligations (suc period) (book_entry e (suc n)) ≡ obligations period (book_entry e n)
of_next period n (event.Tariff tariff) = refl
of_next period n (event.Token token) = refl
of_next period n (event.Authorised hold) = refl
of_next period n (event.Released release) = refl
of_next period n (event.Cdr cdr cost) =
    ap (λ (b : Bool). map obligation_of (cond b (record { cdr = cdr; amount = pos cost; period = suc n } ∷ []) [])) (eqb-suc-suc n period)
    ∙ one_owed (n == period) (record { cdr = cdr; amount = pos cost; period = suc n }) (record { cdr = cdr; amount = pos cost; period = n }) refl
of_next period n (event.Credit cdr amount) =
    ap (λ (b : Bool). map obligation_of (cond b (record { cdr = cdr; amount = amount; period = suc n } ∷ []) [])) (eqb-suc-suc n period)
    ∙ one_owed (n == period) (record { cdr = cdr; amount = amount; period = suc n }) (record { cdr = cdr; amount = amount; period = n }) refl
of_next period n (event.Settled settlement) = refl
of_next period n (event.Closed closed) = refl

-- ---- lists

abbrev owed : ℕ → ℕ → List Event → List Obligation
owed period n es = obligations period (book_entries_from n es)

unequal : (a b : ℕ) → (a ≡ b → ⊥) → (a == b) ≡ false
unequal a b other = by (a == b) refl
  where
    by : (c : Bool) → (a == b) ≡ c → c ≡ false
    by false is = refl
    by true is = absurd (other (eqb-true a b is))

after_close : (n : ℕ) (e : Event) → is_close e ≡ true → period_after n e ≡ suc n
after_close n e closes = ap (λ (b : Bool). if b then n + 1 else n) closes ∙ omega arith

after_other : (n : ℕ) (e : Event) → is_close e ≡ false → period_after n e ≡ n
after_other n e stays = ap (λ (b : Bool). if b then n + 1 else n) stays

-- events of later periods owe nothing in an earlier one
none_before : (period n : ℕ) (es : List Event) → period < n → owed period n es ≡ []
none_before period n [] less = refl
none_before period n (e ∷ es) less =
    next_obligations period n e es
    ∙ ap₂ (λ xs ys. xs ++ ys) (of_another period n e (unequal n period (λ same. omega (arith, less, same)))) (none_before period (period_after n e) es (later (is_close e)))
  where
    later : (b : Bool) → period < (if b then n + 1 else n)
    later true = omega (arith, less)
    later false = less

-- each period is the next one where the first is
shifted : (period n : ℕ) (es : List Event) → owed (suc period) (suc n) es ≡ owed period n es
shifted period n [] = refl
shifted period n (e ∷ es) =
    next_obligations (suc period) (suc n) e es
    ∙ ap₂ (λ xs ys. xs ++ ys) (of_next period n e) (ap (λ m. owed (suc period) m es) (later (is_close e)) ∙ shifted period (period_after n e) es)
    ∙ sym (next_obligations period n e es)
  where
    later : (b : Bool) → (if b then suc n + 1 else suc n) ≡ suc (if b then n + 1 else n)
    later true = omega arith
    later false = refl

-- ---- the first close

-- the events up to the first close, that among them, and the events behind it
abbrev pub upto : List Event → List Event
upto [] = []
upto (e ∷ es) = e ∷ cond (is_close e) [] (upto es)

abbrev pub behind : List Event → List Event
behind [] = []
behind (e ∷ es) = cond (is_close e) es (behind es)

plus_one : (n : ℕ) → n + 1 ≡ suc n
plus_one n = omega arith

one_more : (n : ℕ) → (1 + n) + 1 ≡ suc (n + 1)
one_more n = omega arith

pub is_upto : (es : List Event) → take (position_or_len is_close es + 1) es ≡ upto es
is_upto [] = refl
is_upto (e ∷ es) = by (is_close e) (is_upto es)
  where
    by : (b : Bool) → take (position_or_len is_close es + 1) es ≡ upto es
        → take (cond (not b) (1 + position_or_len is_close es) 0 + 1) (e ∷ es) ≡ e ∷ cond b [] (upto es)
    by true later = refl
    by false later = ap (λ n. take n (e ∷ es)) (one_more (position_or_len is_close es)) ∙ ap (λ l. e ∷ l) later

pub is_behind : (es : List Event) → drop (position_or_len is_close es + 1) es ≡ behind es
is_behind [] = refl
is_behind (e ∷ es) = by (is_close e) (is_behind es)
  where
    by : (b : Bool) → drop (position_or_len is_close es + 1) es ≡ behind es
        → drop (cond (not b) (1 + position_or_len is_close es) 0 + 1) (e ∷ es) ≡ cond b es (behind es)
    by true later = refl
    by false later = ap (λ n. drop n (e ∷ es)) (one_more (position_or_len is_close es)) ∙ later

-- the events up to the first close owe what all owe in their first period
first_owed : (n : ℕ) (es : List Event) → owed n n (upto es) ≡ owed n n es
first_owed n [] = refl
first_owed n (e ∷ es) = ap (λ b. owed n n (e ∷ cond b [] (upto es))) refl ∙ by (is_close e) refl (first_owed n es)
  where
    by : (b : Bool) → is_close e ≡ b → owed n n (upto es) ≡ owed n n es → owed n n (e ∷ cond b [] (upto es)) ≡ owed n n (e ∷ es)
    by true closes later =
        let next : n < period_after n e = omega (arith, after_close n e closes) in
        next_obligations n n e [] ∙ ap (λ ys. obligations n (book_entry e n) ++ ys) (sym (none_before n (period_after n e) es next))
        ∙ sym (next_obligations n n e es)
    by false stays later =
        next_obligations n n e (upto es)
        ∙ ap (λ ys. obligations n (book_entry e n) ++ ys) (ap (λ m. owed n m (upto es)) (after_other n e stays) ∙ later ∙ ap (λ m. owed n m es) (sym (after_other n e stays)))
        ∙ sym (next_obligations n n e es)

-- and those behind it owe what all owe in each later one
later_owed : (period n : ℕ) (es : List Event) → (n == period) ≡ false → owed period (suc n) (behind es) ≡ owed period n es
later_owed period n [] other = refl
later_owed period n (e ∷ es) other = by (is_close e) refl (later_owed period n es other)
  where
    by : (b : Bool) → is_close e ≡ b → owed period (suc n) (behind es) ≡ owed period n es → owed period (suc n) (cond b es (behind es)) ≡ owed period n (e ∷ es)
    by true closes later =
        ap₂ (λ (xs : List Obligation) (m : ℕ). xs ++ owed period m es) (sym (of_another period n e other)) (sym (after_close n e closes))
        ∙ sym (next_obligations period n e es)
    by false stays later =
        later ∙ ap₂ (λ (xs : List Obligation) (m : ℕ). xs ++ owed period m es) (sym (of_another period n e other)) (sym (after_other n e stays))
        ∙ sym (next_obligations period n e es)

-- ---- where the list is cut

-- the list is cut into the events up to the first close and those behind it
record IsCut (es : List Event) (n : ℕ) : Type 0 where
  pub front : take n es ≡ upto es
  pub back : drop n es ≡ behind es

cut_at_close : (es : List Event) (place : ℕ) → Some place ≡ position is_close es → IsCut es (place + 1)
cut_at_close es place found = by (nat_lt (position_or_len is_close es) (length es)) found
  where
    by : (b : Bool) → Some place ≡ cond b (Some (position_or_len is_close es)) None → IsCut es (place + 1)
    by true is =
        let same : place ≡ position_or_len is_close es = cc in
        record { front = ap (λ k. take (k + 1) es) same ∙ is_upto es; back = ap (λ k. drop (k + 1) es) same ∙ is_behind es }
    by false is = absurd (cc)

cut_nowhere : (es : List Event) → None ≡ position is_close es → IsCut es (length es)
cut_nowhere es none = by (nat_lt (position_or_len is_close es) (length es)) refl none
  where
    by : (b : Bool) → nat_lt (position_or_len is_close es) (length es) ≡ b → None ≡ cond b (Some (position_or_len is_close es)) None → IsCut es (length es)
    by true less is = absurd (cc)
    by false less is =
        let long : length es ≤ position_or_len is_close es + 1 = omega (arith, ltb-false (position_or_len is_close es) (length es) less) in
        record {
          front = take-length es ∙ sym (take_all (position_or_len is_close es + 1) es long) ∙ is_upto es;
          back = drop-length es ∙ sym (drop_all (position_or_len is_close es + 1) es long) ∙ is_behind es;
        }

behind_of : (es : List Event) → GoesOnFrom es 1 (behind es)
behind_of es number = sym (shifted number 0 (behind es)) ∙ later_owed (suc number) 0 es (unequal 0 (suc number) (λ same. omega (arith, same))) ∙ ap (λ k. obligations k (book_entries es)) (next number)
  where
    next : (k : ℕ) → suc k ≡ 1 + k
    next k = omega arith

module _ (es front back : List Event) (found : Option ℕ) (n : ℕ) (position_is : found ≡ position is_close es) (is : ((place : ℕ) × (found ≡ Some place) × (n ≡ place + 1)) ⊎ ((found ≡ None) × (n ≡ length es)))
    (front_is : front ≡ take n es) (back_is : back ≡ drop n es) where
  cut : IsCut es n
  cut = by is
    where
      by : ((place : ℕ) × (found ≡ Some place) × (n ≡ place + 1)) ⊎ ((found ≡ None) × (n ≡ length es)) → IsCut es n
      by (inl at) = subst (IsCut es) (sym at.2) (cut_at_close es at.0 (sym at.1 ∙ position_is))
      by (inr at) = subst (IsCut es) (sym at.1) (cut_nowhere es (sym at.0 ∙ position_is))

  pub first_of : obligations 0 (book_entries front) ≡ obligations 0 (book_entries es)
  first_of = ap (λ l. obligations 0 (book_entries l)) (front_is ∙ cut.front) ∙ first_owed 0 es

  pub later_of : GoesOnFrom es 1 back
  later_of number = ap (λ l. obligations number (book_entries l)) (back_is ∙ cut.back) ∙ behind_of es number
