-- Turns gone through in the order of their points.
use Rattle.std.proofs.Common.{◌≡◌, ◌≢◌, ◌⊎◌, inl, inr, ℕ, ◌+◌, ◌<◌, ◌≤◌, ◌==◌, ◌&&◌, suc, List, [], ◌∷◌, ◌++◌, Bool, true, false, refl, sym, ap, ap₂, ◌∙◌, subst, arith, length, cond, ltb, get_or, take, count_by, Contains, length-append, eqb-true}
use Rattle.std.proofs.lemmas.Bool.{eqb-false, ltb-true, ltb-false}
use Rattle.std.proofs.lemmas.List.{get_or_append_left, get_or-append-add, get_or_at, take_all}
use Rattle.std.proofs.lemmas.List.Elements.{Contains-append_cases, Contains-append_right, Contains-push_cases}
use Rattle.std.proofs.lemmas.List.Sums.{sum_by-append, sum_by-cons, sum_by_push}
use Rattle.std.specs.List.Sorted.{IsNonDecreasingBy}
use Rattle.ocpi_types.specs.declared.config.Config.{Config}
use Rattle.plain_house.specs.Laws.{adds_event}
use Rattle.plain_house.specs.declared.event.Event.{Event}
use Rattle.plain_house.specs.Legal.{IsLegal}
use Rattle.shared_house.specs.declared.call.Call.{Call}
use Rattle.shared_house.specs.Points.{HaveMade, front_behind, owners, point_of_reply}
use Rattle.shared_house.specs.History.{Breaks, BreaksFirst, CallBreaks, EventBreaks, IsOneHistory, Stands}
use Rattle.shared_house.specs.Inner.Turns.{AreFit, IsFit, Tears, PlainTurn, added_at, owns_at, point_at, rank, turns_of}
use Rattle.shared_house.proofs.TurnLemmas.{Came, contains_cases, contains_first, contains_later, contains_none, owned_by_turns, turn_behind, turn_came, turn_found}

-- ---- in the order of their points

-- a list in order, cut at a turn
pub record IsCut (turns before : List PlainTurn) (turn : PlainTurn) (rest : List PlainTurn) : Type 0 where
  pub in_order : IsNonDecreasingBy rank turns
  pub turns_are : turns ≡ before ++ turn ∷ rest

module _ (turns before : List PlainTurn) (turn : PlainTurn) (rest : List PlainTurn) (cut : IsCut turns before turn rest) where
  up : IsNonDecreasingBy rank (before ++ turn ∷ rest)
  up = subst (IsNonDecreasingBy rank) cut.turns_are cut.in_order

  long : length (before ++ turn ∷ rest) ≡ length before + suc (length rest)
  long = length-append before (turn ∷ rest)

  rank_before : (other : PlainTurn) → Contains before other → rank other ≤ rank turn
  rank_before other c =
      let h = up c.0 (length before) other (omega (arith, c.1)) (omega (arith, long)) in
      let first : get_or (before ++ turn ∷ rest) c.0 other ≡ other = get_or_append_left before (turn ∷ rest) other c.0 c.1 ∙ c.2 in
      let second : get_or (before ++ turn ∷ rest) (length before) other ≡ turn = get_or_at before turn rest other (length before) refl in
      subst (λ (x : PlainTurn). rank x ≤ rank turn) first (subst (λ (x : PlainTurn). rank (get_or (before ++ turn ∷ rest) c.0 other) ≤ rank x) second h)

  rank_behind : (other : PlainTurn) → Contains rest other → rank turn ≤ rank other
  rank_behind other c =
      let h = up (length before) (length before + suc c.0) other (omega arith) (omega (arith, long, c.1)) in
      let first : get_or (before ++ turn ∷ rest) (length before) other ≡ turn = get_or_at before turn rest other (length before) refl in
      let second : get_or (before ++ turn ∷ rest) (length before + suc c.0) other ≡ other = get_or-append-add before (turn ∷ rest) (suc c.0) other ∙ c.2 in
      subst (λ (x : PlainTurn). rank x ≤ rank other) first (subst (λ (x : PlainTurn). rank (get_or (before ++ turn ∷ rest) (length before) other) ≤ rank x) second h)

added_most : (turn : PlainTurn) → added_at turn ≤ 1
added_most turn = by (adds_event turn.call.reply)
  where
    by : (b : Bool) → cond {A = ℕ} b 1 0 ≤ 1
    by true = omega arith
    by false = omega arith

-- a lower rank is of no later point, and of one point that adds no more
rank_point : (first second : PlainTurn) → rank first ≤ rank second → point_at first ≤ point_at second
rank_point first second h = omega (arith, h, added_most first, added_most second)

rank_added : (first second : PlainTurn) → rank first ≤ rank second → point_at first ≡ point_at second → added_at first ≤ added_at second
rank_added first second h same = omega (arith, h, same)

-- ---- whose events are

abbrev below : ℕ → ℕ → ℕ
below number count = cond (ltb number count) 1 0

below_yes : (number count : ℕ) → number < count → below number count ≡ 1
below_yes number count l = by (ltb number count) refl
  where
    by : (b : Bool) → ltb number count ≡ b → cond {A = ℕ} b 1 0 ≡ 1
    by true e = refl
    by false e = absurd (omega (arith, ltb-false number count e, l))

below_no : (number count : ℕ) → count ≤ number → below number count ≡ 0
below_no number count l = by (ltb number count) refl
  where
    by : (b : Bool) → ltb number count ≡ b → cond {A = ℕ} b 1 0 ≡ 0
    by true e = absurd (omega (arith, ltb-true number count e, l))
    by false e = refl

-- a turn owns an event only at its point, where it adds one
own_here : (number : ℕ) (turn : PlainTurn) → point_at turn ≡ number → cond {A = ℕ} (owns_at number turn) 1 0 ≡ added_at turn
own_here number turn h = by (adds_event turn.call.reply) (point_at turn == number) refl
  where
    by : (a b : Bool) → (point_at turn == number) ≡ b → cond {A = ℕ} (a && b) 1 0 ≡ cond a 1 0
    by true true e = refl
    by true false e = absurd (eqb-false (point_at turn) number e h)
    by false b e = refl

own_not : (number : ℕ) (turn : PlainTurn) → point_at turn ≢ number → cond {A = ℕ} (owns_at number turn) 1 0 ≡ 0
own_not number turn h = by (adds_event turn.call.reply) (point_at turn == number) refl
  where
    by : (a b : Bool) → (point_at turn == number) ≡ b → cond {A = ℕ} (a && b) 1 0 ≡ 0
    by true true e = absurd (h (eqb-true (point_at turn) number e))
    by true false e = refl
    by false b e = refl

-- later turns own no earlier event
none_owned : (number : ℕ) (turns : List PlainTurn) → ((turn : PlainTurn) → Contains turns turn → number < point_at turn) → count_by (owns_at number) turns ≡ 0
none_owned number [] far = refl
none_owned number (turn ∷ turns) far =
    sum_by-cons (λ x. cond (owns_at number x) 1 0) turn turns
    ∙ ap₂ (λ m n. m + n) (own_not number turn (let away : point_at turn ≢ number = omega (arith, far turn (contains_first turn turns)) in away))
    (none_owned number turns (λ x c. far x (contains_later turn turns x c)))
    ∙ omega arith

-- ---- one turn more

-- behind a turn at its point the events so far have one owner each
owned_more : (number count : ℕ) (turn : PlainTurn) → point_at turn ≡ count → below number count + cond {A = ℕ} (owns_at number turn) 1 0 ≡ below number (count + added_at turn)
owned_more number count turn at = by (ltb number count) refl (ltb count number) refl
  where
    least : added_at turn ≤ 1
    least = added_most turn

    away : point_at turn ≢ number → below number count + cond {A = ℕ} (owns_at number turn) 1 0 ≡ below number count
    away h = ap (λ n. below number count + n) (own_not number turn h) ∙ omega arith

    here : (a : Bool) → count ≡ number → 0 + cond {A = ℕ} a 1 0 ≡ below number (count + cond {A = ℕ} a 1 0)
    here true same = omega arith ∙ sym (below_yes number (count + 1) (omega (arith, same)))
    here false same = omega arith ∙ sym (below_no number (count + 0) (omega (arith, same)))

    by : (a : Bool) → ltb number count ≡ a → (b : Bool) → ltb count number ≡ b
        → below number count + cond {A = ℕ} (owns_at number turn) 1 0 ≡ below number (count + added_at turn)
    by true e b f =
        let less : number < count = ltb-true number count e in
        away (let far : point_at turn ≢ number = omega (arith, at, less) in far)
        ∙ below_yes number count less ∙ sym (below_yes number (count + added_at turn) (omega (arith, less)))
    by false e true f =
        let more : count < number = ltb-true count number f in
        away (let far : point_at turn ≢ number = omega (arith, at, more) in far)
        ∙ below_no number count (omega (arith, more)) ∙ sym (below_no number (count + added_at turn) (omega (arith, more, least)))
    by false e false f =
        let same : count ≡ number = omega (arith, ltb-false number count e, ltb-false count number f) in
        ap₂ (λ m n. m + n) (below_no number count (omega (arith, same))) (own_here number turn (at ∙ same))
        ∙ here (adds_event turn.call.reply) same

module _ (config : Config) (events : List Event) where
  pub none_fit : IsLegal config (take 0 events) → AreFit config events [] 0
  none_fit legal = record {
    within = omega arith;
    legal = legal;
    each = λ turn c. absurd (contains_none turn c);
    owned = λ number. sym (below_no number 0 (omega arith));
  }

  pub fit_more : (turns : List PlainTurn) (count next : ℕ) (turn : PlainTurn) → AreFit config events turns count → IsFit config events turn → point_at turn ≡ count
      → next ≡ count + added_at turn → next ≤ length events → IsLegal config (take next events) → AreFit config events (turns ++ turn ∷ []) next
  fit_more turns count next turn fit is at next_is within legal = record {
    within = within;
    legal = legal;
    each = λ other c. by other (Contains-push_cases turns turn other c);
    owned = λ number.
        sum_by_push (λ x. cond (owns_at number x) 1 0) turns turn
        ∙ ap (λ n. n + cond {A = ℕ} (owns_at number turn) 1 0) (fit.owned number)
        ∙ owned_more number count turn at ∙ ap (below number) (sym next_is);
  }
    where
      by : (other : PlainTurn) → Contains turns other ⊎ (turn ≡ other) → IsFit config events other × (point_at other + added_at other ≤ next)
      by other (inl c) = ((fit.each other c).0, omega (arith, (fit.each other c).1, next_is))
      by other (inr same) =
          subst (λ (x : PlainTurn). IsFit config events x × (point_at x + added_at x ≤ next)) same (is, omega (arith, at, next_is))

-- ---- where the history breaks

module _ (config : Config) (events : List Event) (passes : List (List Call)) (before rest turns : List PlainTurn) (count : ℕ) where
  -- the turns are those of the passes, and those before the rest are fit
  pub record AreSoFar : Type 0 where
    pub fit : AreFit config events before count
    pub turns_are : turns ≡ before ++ rest
    pub each : (turn : PlainTurn) → Contains (turns_of passes) turn → Contains turns turn
    pub came : (turn : PlainTurn) → Contains turns turn → Contains (turns_of passes) turn
    pub owned : (number : ℕ) → count_by (owns_at number) turns ≡ count_by (owns_at number) (turns_of passes)

  module _ (so_far : AreSoFar) where
    owners_so_far : (number : ℕ) → ((turn : PlainTurn) → Contains rest turn → number < point_at turn) → owners passes number ≡ below number count
    owners_so_far number far =
        owned_by_turns passes number ∙ sym (so_far.owned number) ∙ ap (λ (l : List PlainTurn). count_by (owns_at number) l) so_far.turns_are
        ∙ sum_by-append (λ x. cond (owns_at number x) 1 0) before rest
        ∙ ap₂ (λ m n. m + n) (so_far.fit.owned number) (none_owned number rest far) ∙ omega arith

    -- a call whose turn is among those is fit
    call_fits : (number : ℕ) → ((turn : PlainTurn) → Contains rest turn → number < point_at turn) → (earlier : List Call) (call : Call) → HaveMade passes earlier call
        → point_of_reply call.reply ≡ number → IsFit config events (turn_behind 0 earlier call)
    call_fits number far earlier call is at =
        by (Contains-append_cases before rest turn (subst (λ (l : List PlainTurn). Contains l turn) so_far.turns_are (so_far.each turn (turn_found passes earlier call is))))
      where
        turn : PlainTurn
        turn = turn_behind 0 earlier call

        by : Contains before turn ⊎ Contains rest turn → IsFit config events turn
        by (inl c) = (so_far.fit.each turn c).0
        by (inr c) = absurd (omega (arith, far turn c, at))

    -- nothing breaks before the points of the rest, as far as the events so far go
    pub none_breaks : (number : ℕ) → ((turn : PlainTurn) → Contains rest turn → number < point_at turn) → (number < length events → number < count)
        → Breaks config events passes number → ⊥
    none_breaks number far less (inl broken) = by broken.breaks
      where
        fit : IsFit config events (turn_behind 0 broken.earlier broken.call)
        fit = call_fits number far broken.earlier broken.call broken.is_call broken.point_is

        by : (Stands config events broken.call → ⊥) ⊎ (point_of_reply broken.call.reply < front_behind broken.earlier) → ⊥
        by (inl not) = not fit.stands
        by (inr early) = absurd (omega (arith, early, fit.in_turn))
    none_breaks number far less (inr event) =
        event.breaks (owners_so_far number far ∙ below_yes number count (less event.is_there))

    -- an event that is of no turn so far, and before the points of the rest, is of no call
    pub event_left : (number : ℕ) → ((turn : PlainTurn) → Contains rest turn → number < point_at turn) → count ≤ number → number < length events → EventBreaks events passes number
    event_left number far less there = record {
      is_there = there;
      breaks = λ one. absurd (omega (arith, one, owners_so_far number far ∙ below_no number count less));
    }

-- ---- an owner

pub record HasOwner (number : ℕ) (turns : List PlainTurn) : Type 0 where
  pub owner : PlainTurn
  pub contained : Contains turns owner
  pub adds : added_at owner ≡ 1
  pub point_is : point_at owner ≡ number

owner_of : (number : ℕ) (turns : List PlainTurn) → count_by (owns_at number) turns ≡ 1 → HasOwner number turns
owner_of number [] h = absurd (omega (arith, h))
owner_of number (turn ∷ turns) h = by (λ r. owner_of number turns r) (adds_event turn.call.reply) refl (point_at turn == number) refl
  where
    later : HasOwner number turns → HasOwner number (turn ∷ turns)
    later has = record {
      owner = has.owner;
      contained = contains_later turn turns has.owner has.contained;
      adds = has.adds;
      point_is = has.point_is;
    }

    rest : (b : Bool) → owns_at number turn ≡ b → cond {A = ℕ} b 1 0 + count_by (owns_at number) turns ≡ 1
    rest b e =
        ap (λ (b : Bool). cond {A = ℕ} b 1 0 + count_by (owns_at number) turns) (sym e)
        ∙ sym (sum_by-cons (λ x. cond (owns_at number x) 1 0) turn turns) ∙ h

    by : (count_by (owns_at number) turns ≡ 1 → HasOwner number turns) → (a : Bool) → adds_event turn.call.reply ≡ a → (b : Bool) → (point_at turn == number) ≡ b → HasOwner number (turn ∷ turns)
    by more true e true f = record {
      owner = turn;
      contained = contains_first turn turns;
      adds = ap (λ (a : Bool). cond {A = ℕ} a 1 0) e;
      point_is = eqb-true (point_at turn) number f;
    }
    by more true e false f = later (more (let r : 0 + count_by (owns_at number) turns ≡ 1 = rest false (ap₂ ◌&&◌ e f) in omega (arith, r)))
    by more false e b f = later (more (let r : 0 + count_by (owns_at number) turns ≡ 1 = rest false (ap₂ ◌&&◌ e f) in omega (arith, r)))

-- ---- where the next turn breaks it

module _ (config : Config) (events : List Event) (passes : List (List Call)) (before rest turns : List PlainTurn) (turn : PlainTurn) (count : ℕ) (so_far : AreSoFar config events passes before (turn ∷ rest) turns count) (in_order : IsNonDecreasingBy rank turns) where
  cut : IsCut turns before turn rest
  cut = record { in_order = in_order; turns_are = so_far.turns_are }

  -- from its point on
  behind : (other : PlainTurn) → Contains (turn ∷ rest) other → point_at turn ≤ point_at other
  behind other c = by (contains_cases turn rest other c)
    where
      by : (turn ≡ other) ⊎ Contains rest other → point_at turn ≤ point_at other
      by (inl same) = omega (arith, ap point_at same)
      by (inr c) = rank_point turn other (rank_behind turns before turn rest cut other c)

  far : (number : ℕ) → number < point_at turn → (other : PlainTurn) → Contains (turn ∷ rest) other → number < point_at other
  far number less other c = omega (arith, less, behind other c)

  -- an event that is owned already has a second owner
  owned_twice : point_at turn < count → EventBreaks events passes (point_at turn)
  owned_twice less = record {
    is_there = omega (arith, less, so_far.fit.within);
    breaks = λ one. absurd (omega (arith, one, both, once, own_here (point_at turn) turn refl, adds));
  }
    where
      once : count_by (owns_at (point_at turn)) before ≡ 1
      once = so_far.fit.owned (point_at turn) ∙ below_yes (point_at turn) count less

      has : HasOwner (point_at turn) before
      has = owner_of (point_at turn) before once

      adds : 1 ≤ added_at turn
      adds =
          omega (
            arith,
            has.adds,
            rank_added has.owner turn (rank_before turns before turn rest cut has.owner has.contained) has.point_is,
          )

      both : owners passes (point_at turn) ≡ count_by (owns_at (point_at turn)) before + (cond {A = ℕ} (owns_at (point_at turn) turn) 1 0 + count_by (owns_at (point_at turn)) rest)
      both =
          owned_by_turns passes (point_at turn) ∙ sym (so_far.owned (point_at turn))
          ∙ ap (λ (l : List PlainTurn). count_by (owns_at (point_at turn)) l) so_far.turns_are
          ∙ sum_by-append (λ x. cond (owns_at (point_at turn) x) 1 0) before (turn ∷ rest)
          ∙ ap (λ n. count_by (owns_at (point_at turn)) before + n) (sum_by-cons (λ x. cond (owns_at (point_at turn) x) 1 0) turn rest)

  call_breaks : (IsFit config events turn → ⊥) → CallBreaks config events passes (point_at turn)
  call_breaks unfit = record {
    earlier = from.earlier;
    call = turn.call;
    is_call = from.is_call;
    point_is = refl;
    breaks = by (ltb (point_at turn) turn.front) refl;
  }
    where
      from : Came passes turn
      from =
          turn_came passes turn (so_far.came turn
          (subst (λ (l : List PlainTurn). Contains l turn) (sym so_far.turns_are) (Contains-append_right before (turn ∷ rest) turn (contains_first turn rest))))

      by : (b : Bool) → ltb (point_at turn) turn.front ≡ b → (Stands config events turn.call → ⊥) ⊎ (point_at turn < front_behind from.earlier)
      by true e = inr (omega (arith, ltb-true (point_at turn) turn.front e, from.front_is))
      by false e = inl (λ stands. unfit (record { stands = stands; in_turn = ltb-false (point_at turn) turn.front e }))

  torn_there : (point_at turn ≤ count) ⊎ (length events ≤ count) → (point_at turn < count) ⊎ (IsFit config events turn → ⊥) → BreaksFirst config events passes (point_at turn)
  torn_there reached why = record {
    breaks = which why;
    none_before = λ smaller less.
        none_breaks config events passes before (turn ∷ rest) turns count so_far smaller (far smaller less)
        (λ there. bound smaller less there reached);
  }
    where
      bound : (smaller : ℕ) → smaller < point_at turn → smaller < length events → (point_at turn ≤ count) ⊎ (length events ≤ count) → smaller < count
      bound smaller less there (inl h) = omega (arith, less, h)
      bound smaller less there (inr h) = omega (arith, there, h)

      which : (point_at turn < count) ⊎ (IsFit config events turn → ⊥) → Breaks config events passes (point_at turn)
      which (inl less) = inr (owned_twice less)
      which (inr unfit) = inl (call_breaks unfit)

  torn_before : count < point_at turn → count < length events → BreaksFirst config events passes count
  torn_before less there = record {
    breaks = inr (event_left config events passes before (turn ∷ rest) turns count so_far count (far count less) (omega arith) there);
    none_before = λ smaller under.
        none_breaks config events passes before (turn ∷ rest) turns count so_far smaller (far smaller (omega (arith, under, less))) (λ _. under);
  }

  pub tears_first : (number : ℕ) → Tears config events count turn number → BreaksFirst config events passes number
  tears_first number (inl h) = subst (BreaksFirst config events passes) (sym h.2) (torn_before h.0 h.1)
  tears_first number (inr h) = subst (BreaksFirst config events passes) (sym h.0) (torn_there h.1 h.2)

-- ---- where no turn is left

module _ (config : Config) (events : List Event) (passes : List (List Call)) (turns : List PlainTurn) (count : ℕ) (so_far : AreSoFar config events passes turns [] turns count) where
  away : (number : ℕ) (turn : PlainTurn) → Contains {X = PlainTurn} [] turn → number < point_at turn
  away number turn c = absurd (contains_none turn c)

  pub left_first : count < length events → BreaksFirst config events passes count
  left_first there = record {
    breaks = inr (event_left config events passes turns [] turns count so_far count (away count) (omega arith) there);
    none_before = λ smaller under.
        none_breaks config events passes turns [] turns count so_far smaller (away smaller) (λ _. under);
  }

  pub one_history : length events ≤ count → IsOneHistory config events passes
  one_history all = record {
    legal = subst (IsLegal config) (take_all count events all) so_far.fit.legal;
    stands = λ earlier call is. (fits earlier call is).stands;
    owned = λ number there.
        owners_so_far config events passes turns [] turns count so_far number (away number)
        ∙ below_yes number count (omega (arith, there, all));
    in_turn = λ earlier call is. (fits earlier call is).in_turn;
  }
    where
      fits : (earlier : List Call) (call : Call) → HaveMade passes earlier call → IsFit config events (turn_behind 0 earlier call)
      fits earlier call is =
          call_fits config events passes turns [] turns count so_far (point_of_reply call.reply) (away (point_of_reply call.reply)) earlier call is refl
