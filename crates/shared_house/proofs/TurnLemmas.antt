-- The turns of passes are their calls that found memory, each with its pass's front.
use Rattle.std.proofs.Common.{◌≡◌, ◌⊎◌, inl, inr, ℕ, ◌+◌, ◌<◌, ◌==◌, ◌&&◌, zero, suc, List, [], ◌∷◌, ◌++◌, Bool, true, false, refl, sym, ap, ap₂, ◌∙◌, subst, arith, length, cond, fold, get_or, count_by, Contains}
use Rattle.std.proofs.lemmas.List.Elements.{Contains-append_cases, Contains-append_left, Contains-append_right}
use Rattle.std.proofs.lemmas.List.Sums.{sum_by-append, sum_by-cons}
use Rattle.shared_house.specs.declared.call.Call.{Call}
use Rattle.shared_house.specs.Points.{HaveMade, front_behind, owners, owns, point_of_reply, seen_behind}
use Rattle.shared_house.specs.Inner.Turns.{PlainTurn, owns_at, turns_from, turns_of}
use Rattle.plain_house.specs.Replies.{is_no_memory}
use Rattle.shared_house.proofs.PointLemmas.{quiet}

-- ---- membership

pub contains_first : {X : Type 0} (x : X) (xs : List X) → Contains (x ∷ xs) x
contains_first x xs = (0, omega arith, refl)

pub contains_later : {X : Type 0} (x : X) (xs : List X) (y : X) → Contains xs y → Contains (x ∷ xs) y
contains_later x xs y h = (suc h.0, omega (arith, h.1), h.2)

pub contains_cases : {X : Type 0} (x : X) (xs : List X) (y : X) → Contains (x ∷ xs) y → (x ≡ y) ⊎ Contains xs y
contains_cases {X} x xs y h = by h.0 h.1 h.2
  where
    by : (k : ℕ) → k < length (x ∷ xs) → get_or (x ∷ xs) k y ≡ y → (x ≡ y) ⊎ Contains xs y
    by zero l e = inl e
    by (suc k) l e = inr (k, omega (arith, l), e)

pub contains_none : {X : Type 0} (x : X) → Contains [] x → ⊥
contains_none x h = absurd (omega (arith, h.1))

-- ---- the turns of one pass

abbrev pub turn_behind : ℕ → List Call → Call → PlainTurn
turn_behind front earlier call = record { front = fold seen_behind front earlier; call = call }

found_from : (front : ℕ) (earlier : List Call) (call : Call) (later : List Call) → is_no_memory call.reply ≡ false
    → Contains (turns_from front (earlier ++ call ∷ later)) (turn_behind front earlier call)
found_from front [] call later h =
    let more : List PlainTurn = turns_from (seen_behind front call) later in
    let turn : PlainTurn = record { front = front; call = call } in
    subst (λ (b : Bool). Contains (cond b more (turn ∷ more)) turn) (sym h) (contains_first turn more)
found_from front (first ∷ earlier) call later h =
    by (is_no_memory first.reply) (found_from (seen_behind front first) earlier call later h)
  where
    more : List PlainTurn
    more = turns_from (seen_behind front first) (earlier ++ call ∷ later)

    turn : PlainTurn
    turn = turn_behind (seen_behind front first) earlier call

    by : (b : Bool) → Contains more turn → Contains (cond b more (record { front = front; call = first } ∷ more)) turn
    by true c = c
    by false c = contains_later (record { front = front; call = first }) more turn c

-- a turn is that of a call
pub record IsOf (front : ℕ) (calls : List Call) (turn : PlainTurn) : Type 0 where
  pub earlier : List Call
  pub later : List Call
  pub calls_are : calls ≡ earlier ++ turn.call ∷ later
  pub found_memory : is_no_memory turn.call.reply ≡ false
  pub front_is : turn.front ≡ fold seen_behind front earlier

is_later : (front : ℕ) (first : Call) (calls : List Call) (turn : PlainTurn) → IsOf (seen_behind front first) calls turn → IsOf front (first ∷ calls) turn
is_later front first calls turn is = record {
  earlier = first ∷ is.earlier;
  later = is.later;
  calls_are = ap (λ (l : List Call). first ∷ l) is.calls_are;
  found_memory = is.found_memory;
  front_is = is.front_is;
}

came_from : (front : ℕ) (calls : List Call) (turn : PlainTurn) → Contains (turns_from front calls) turn → IsOf front calls turn
came_from front [] turn h = absurd (contains_none turn h)
came_from front (first ∷ calls) turn h =
    by (λ c. came_from (seen_behind front first) calls turn c) (is_no_memory first.reply) refl h
  where
    more : List PlainTurn
    more = turns_from (seen_behind front first) calls

    this : PlainTurn
    this = record { front = front; call = first }

    either : (Contains more turn → IsOf (seen_behind front first) calls turn) → is_no_memory first.reply ≡ false → (this ≡ turn) ⊎ Contains more turn
        → IsOf front (first ∷ calls) turn
    either later e (inl same) = subst (IsOf front (first ∷ calls)) same (record {
      earlier = [];
      later = calls;
      calls_are = refl;
      found_memory = e;
      front_is = refl;
    })
    either later e (inr c) = is_later front first calls turn (later c)

    by : (Contains more turn → IsOf (seen_behind front first) calls turn) → (b : Bool) → is_no_memory first.reply ≡ b → Contains (cond b more (this ∷ more)) turn
        → IsOf front (first ∷ calls) turn
    by later true e c = is_later front first calls turn (later c)
    by later false e c = either later e (contains_cases this more turn c)

-- ---- the turns of all passes

found_in : (passes : List (List Call)) (calls : List Call) (turn : PlainTurn) → Contains passes calls → Contains (turns_from 0 calls) turn → Contains (turns_of passes) turn
found_in [] calls turn p c = absurd (contains_none calls p)
found_in (first ∷ passes) calls turn p c = by (λ q. found_in passes calls turn q c) (contains_cases first passes calls p)
  where
    by : (Contains passes calls → Contains (turns_of passes) turn) → (first ≡ calls) ⊎ Contains passes calls → Contains (turns_from 0 first ++ turns_of passes) turn
    by later (inl same) =
        Contains-append_left (turns_from 0 first) (turns_of passes) turn
        (subst (λ (l : List Call). Contains (turns_from 0 l) turn) (sym same) c)
    by later (inr q) = Contains-append_right (turns_from 0 first) (turns_of passes) turn (later q)

came_in : (passes : List (List Call)) (turn : PlainTurn) → Contains (turns_of passes) turn → (calls : List Call) × Contains passes calls × Contains (turns_from 0 calls) turn
came_in [] turn c = absurd (contains_none turn c)
came_in (first ∷ passes) turn c = by (λ d. came_in passes turn d) (Contains-append_cases (turns_from 0 first) (turns_of passes) turn c)
  where
    more : (calls : List Call) × Contains passes calls × Contains (turns_from 0 calls) turn → (calls : List Call) × Contains (first ∷ passes) calls × Contains (turns_from 0 calls) turn
    more p = (p.0, contains_later first passes p.0 p.1, p.2)

    by : (Contains (turns_of passes) turn → (calls : List Call) × Contains passes calls × Contains (turns_from 0 calls) turn) → Contains (turns_from 0 first) turn ⊎ Contains (turns_of passes) turn
        → (calls : List Call) × Contains (first ∷ passes) calls × Contains (turns_from 0 calls) turn
    by later (inl d) = (first, contains_first first passes, d)
    by later (inr d) = more (later d)

-- each call has its turn
pub turn_found : (passes : List (List Call)) (earlier : List Call) (call : Call) → HaveMade passes earlier call → Contains (turns_of passes) (turn_behind 0 earlier call)
turn_found passes earlier call is =
    found_in passes (earlier ++ call ∷ is.later) (turn_behind 0 earlier call) is.in_pass
    (found_from 0 earlier call is.later is.found_memory)

-- each turn is that of a call
pub record Came (passes : List (List Call)) (turn : PlainTurn) : Type 0 where
  pub earlier : List Call
  pub is_call : HaveMade passes earlier turn.call
  pub front_is : turn.front ≡ front_behind earlier

pub turn_came : (passes : List (List Call)) (turn : PlainTurn) → Contains (turns_of passes) turn → Came passes turn
turn_came passes turn c =
    let p = came_in passes turn c in
    let is = came_from 0 p.0 turn p.2 in
    record {
      earlier = is.earlier;
      is_call = record {
        later = is.later;
        in_pass = subst (Contains passes) is.calls_are p.1;
        found_memory = is.found_memory;
      };
      front_is = is.front_is;
    }

-- ---- whose an event is

owned_from : (number front : ℕ) (calls : List Call) → count_by (owns number) calls ≡ count_by (owns_at number) (turns_from front calls)
owned_from number front [] = refl
owned_from number front (first ∷ calls) =
    sum_by-cons (λ call. cond (owns number call) 1 0) first calls
    ∙ ap (λ n. cond {A = ℕ} (owns number first) 1 0 + n) (owned_from number (seen_behind front first) calls)
    ∙ by (is_no_memory first.reply) refl
  where
    more : List PlainTurn
    more = turns_from (seen_behind front first) calls

    this : PlainTurn
    this = record { front = front; call = first }

    by : (b : Bool) → is_no_memory first.reply ≡ b
        → cond {A = ℕ} (owns number first) 1 0 + count_by (owns_at number) more ≡ count_by (owns_at number) (cond b more (this ∷ more))
    by true e =
        ap (λ (b : Bool). cond {A = ℕ} (b && (point_of_reply first.reply == number)) 1 0 + count_by (owns_at number) more) (quiet first.reply e)
        ∙ omega arith
    by false e = sym (sum_by-cons (λ turn. cond (owns_at number turn) 1 0) this more)

pub owned_by_turns : (passes : List (List Call)) (number : ℕ) → owners passes number ≡ count_by (owns_at number) (turns_of passes)
owned_by_turns [] number = refl
owned_by_turns (first ∷ passes) number =
    sum_by-cons (λ calls. count_by (owns number) calls) first passes
    ∙ ap₂ (λ m n. m + n) (owned_from number 0 first) (owned_by_turns passes number)
    ∙ sym (sum_by-append (λ turn. cond (owns_at number turn) 1 0) (turns_from 0 first) (turns_of passes))
