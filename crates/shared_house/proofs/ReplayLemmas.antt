-- The next turn of a list that is gone through in order.
use Rattle.std.proofs.Common.{◌≡◌, ℕ, ◌+◌, ◌<◌, ◌≤◌, List, [], ◌∷◌, ◌++◌, Bool, refl, sym, ap, ◌∙◌, subst, arith, length, cond, get_or, take, drop, map, Contains, append_assoc}
use Rattle.std.proofs.lemmas.List.{append-nil, get_or-map, length-map, take-append-drop, take_all, take_more}
use Rattle.std.proofs.lemmas.List.Elements.{All-contains, Contains-append_right}
use Rattle.std.proofs.lemmas.List.Sorted.{Contains-permutation, IsPermutation-sym, sum_by-IsPermutation}
use Rattle.std.specs.List.Sorted.{IsNonDecreasingBy}
use Rattle.ocpi_types.specs.declared.config.Config.{Config}
use Rattle.cdr_checks.specs.Admission.{IsAdmitted}
use Rattle.plain_house.specs.declared.event.Event.{Event}
use Rattle.plain_house.specs.House.{events_after}
use Rattle.plain_house.specs.Laws.{RepliesTellEvents, adds_event}
use Rattle.plain_house.specs.Legal.{CommandsKeepListsLegal, IsLegal}
use Rattle.shared_house.specs.declared.certifying.turn.Turn.{Turn}
use Rattle.shared_house.specs.declared.call.Call.{Call}
use Rattle.shared_house.specs.Points.{AreAdmitted, AreAllAdmitted}
use Rattle.shared_house.specs.History.{BreaksFirst, IsOneHistory}
use Rattle.shared_house.specs.Inner.Turns.{AreFit, AreTurns, IsNext, PlainTurn, Tears, added_at, owns_at, plain_turn, turns_of}
use Rattle.shared_house.proofs.FitLemmas.{AreSoFar, fit_more, left_first, one_history, tears_first}
use Rattle.shared_house.proofs.StandLemmas.{Follows, follows}
use Rattle.shared_house.proofs.TurnLemmas.{contains_first, turn_came}

-- ---- turns as plain turns

pub in_order_map : {X Y : Type 0} (f : X → Y) (n : Y → ℕ) (xs : List X) → IsNonDecreasingBy (λ x. n (f x)) xs → IsNonDecreasingBy n (map f xs)
in_order_map f n [] up i j d upto within = absurd (omega (arith, within))
in_order_map f n (x ∷ xs) up i j d upto within =
    let long : length (map f (x ∷ xs)) ≡ length (x ∷ xs) = length-map (x ∷ xs) f in
    let first : j < length (x ∷ xs) = omega (arith, within, long) in
    subst (λ (y : _). n y ≤ n (get_or (map f (x ∷ xs)) j d)) (sym (get_or-map f (x ∷ xs) i x d (omega (arith, first, upto))))
    (subst (λ (y : _). n (f (get_or (x ∷ xs) i x)) ≤ n y) (sym (get_or-map f (x ∷ xs) j x d first)) (up i j x upto first))

pub plain_at : (xs : List Turn) (i : ℕ) (x : Turn) → i < length xs → x ≡ get_or xs i x → plain_turn x ≡ get_or (map plain_turn xs) i (plain_turn x)
plain_at xs i x within is = ap plain_turn is ∙ sym (get_or-map plain_turn xs i x (plain_turn x) within)

-- ---- one turn more

module _ (config : Config) (events : List Event) (turns : List PlainTurn) (i : ℕ) (turn : PlainTurn) (within : i < length turns) (is : turn ≡ get_or turns i turn) where
  pub record Done (count : ℕ) (now : List Event) : Type 0 where
    pub fit : AreFit config events (take (i + 1) turns) (count + added_at turn)
    pub now_is : now ≡ take (count + added_at turn) events

  pub turn_fit : RepliesTellEvents → CommandsKeepListsLegal → IsAdmitted config turn.call.command → (count : ℕ) (now : List Event) → AreFit config events (take i turns) count
      → IsNext config events count turn now → Done count now
  turn_fit tells keep admitted count now fit next = record {
    fit = subst (λ (l : List PlainTurn). AreFit config events l (count + added_at turn)) (sym one_more)
        (fit_more config events (take i turns) count (count + added_at turn) turn fit next.fit next.point_is refl within_events
        (subst (IsLegal config) after (keep config (take count events) turn.call.command fit.legal admitted)));
    now_is = next.now_is ∙ after;
  }
    where
      behind : Follows tells config events turn.call
      behind = follows tells config events turn.call next.fit.stands

      one_more : take (i + 1) turns ≡ take i turns ++ turn ∷ []
      one_more = take_more turns i turn within ∙ ap (λ (t : PlainTurn). take i turns ++ t ∷ []) (sym is)

      within_events : count + added_at turn ≤ length events
      within_events = omega (arith, next.point_is, behind.within)

      after : events_after config (take count events) turn.call.command ≡ take (count + added_at turn) events
      after =
          ap (λ n. events_after config (take n events) turn.call.command) (sym next.point_is) ∙ behind.after_is
          ∙ ap (λ n. take (n + added_at turn) events) next.point_is

-- ---- the turns of all passes, of which so many are done

split_at : (turns : List PlainTurn) (i : ℕ) (turn : PlainTurn) → i < length turns → turn ≡ get_or turns i turn → turns ≡ take i turns ++ turn ∷ drop (i + 1) turns
split_at turns i turn within is =
    sym (take-append-drop (i + 1) turns)
    ∙ ap (λ (l : List PlainTurn). l ++ drop (i + 1) turns) (take_more turns i turn within)
    ∙ append_assoc (take i turns) (get_or turns i turn ∷ []) (drop (i + 1) turns)
    ∙ ap (λ (t : PlainTurn). take i turns ++ t ∷ drop (i + 1) turns) (sym is)

module _ (config : Config) (events : List Event) (passes : List (List Call)) (turns : List PlainTurn) (are : AreTurns passes turns) where
  so_far : (before rest : List PlainTurn) (count : ℕ) → AreFit config events before count → turns ≡ before ++ rest → AreSoFar config events passes before rest turns count
  so_far before rest count fit same = record {
    fit = fit;
    turns_are = same;
    each = λ turn c. Contains-permutation (turns_of passes) turns turn are.same c;
    came = λ turn c. Contains-permutation turns (turns_of passes) turn (IsPermutation-sym (turns_of passes) turns are.same) c;
    owned = λ number. sum_by-IsPermutation (λ x. cond (owns_at number x) 1 0) (turns_of passes) turns are.same;
  }

  -- no turn is left
  pub none_left : (count : ℕ) → AreFit config events turns count → count < length events → BreaksFirst config events passes count
  none_left count fit less = left_first config events passes turns count (so_far turns [] count fit (sym (append-nil turns))) less

  pub all_done : (count : ℕ) → AreFit config events turns count → length events ≤ count → IsOneHistory config events passes
  all_done count fit all = one_history config events passes turns count (so_far turns [] count fit (sym (append-nil turns))) all

  module _ (i : ℕ) (turn : PlainTurn) (within : i < length turns) (is : turn ≡ get_or turns i turn) where
    -- its command is admitted
    pub turn_admitted : AreAllAdmitted config passes → IsAdmitted config turn.call.command
    turn_admitted admitted =
        let here : Contains turns turn =
        subst (λ (l : List PlainTurn). Contains l turn) (sym (split_at turns i turn within is))
        (Contains-append_right (take i turns) (turn ∷ drop (i + 1) turns) turn (contains_first turn (drop (i + 1) turns))) in
        let from = turn_came passes turn (Contains-permutation turns (turns_of passes) turn (IsPermutation-sym (turns_of passes) turns are.same) here) in
        let calls : List Call = from.earlier ++ turn.call ∷ from.is_call.later in
        All-contains (λ (call : Call). IsAdmitted config call.command) calls turn.call
        (All-contains (AreAdmitted config) passes calls admitted from.is_call.in_pass)
        (Contains-append_right from.earlier (turn.call ∷ from.is_call.later) turn.call (contains_first turn.call from.is_call.later))

    -- where it breaks is the first break
    pub turn_breaks : (count number : ℕ) → AreFit config events (take i turns) count → Tears config events count turn number → BreaksFirst config events passes number
    turn_breaks count number fit tears =
        tears_first config events passes (take i turns) (drop (i + 1) turns) turns turn count
        (so_far (take i turns) (turn ∷ drop (i + 1) turns) count fit (split_at turns i turn within is)) are.in_order number tears

-- ---- the turns of a list of the program

pub within_plain : (xs : List Turn) (i : ℕ) → i < length xs → i < length (map plain_turn xs)
within_plain xs i within = omega (arith, within, length-map xs plain_turn)

pub all_plain : (xs : List Turn) (i : ℕ) → length xs ≤ i → take i (map plain_turn xs) ≡ map plain_turn xs
all_plain xs i all = take_all i (map plain_turn xs) (omega (arith, all, length-map xs plain_turn))

-- one more where an event is added
pub counted : (count next : ℕ) (turn : PlainTurn) (adds : Bool) → adds ≡ adds_event turn.call.reply → next ≡ count + cond {A = ℕ} adds 1 0 → next ≡ count + added_at turn
counted count next turn adds is next_is = next_is ∙ ap (λ (b : Bool). count + cond {A = ℕ} b 1 0) is
