-- No two calls claim one event.
use Rattle.std.proofs.Common.{◌≡◌, ◌<◌, ℕ, zero, suc, List, [], ◌∷◌, ◌++◌, refl, sym, ap, subst, ◌∙◌, length, map, append_assoc, Option, None, Some, option_map, option_to_list, drop, take, slice_get, length-append, arith}
use Rattle.std.specs.List.{AllByRecursion}
use Rattle.std.proofs.lemmas.List.{take_at}
use Rattle.std.proofs.lemmas.Option.{none-some, same_Some, slice_get-map}
use Rattle.ocpi_types.specs.declared.config.Config.{Config}
use Rattle.cdr_checks.specs.declared.request.Command.{Command}
use Rattle.cdr_checks.specs.Admission.{IsAdmitted}
use Rattle.plain_house.specs.declared.event.Event.{Event}
use Rattle.plain_house.specs.House.{events_after, verdict}
use Rattle.plain_house.specs.Known.{known}
use Rattle.plain_house.specs.Legal.{EmptyListsAreLegal}
use Rattle.plain_house.specs.Replies.{with_event}
use Rattle.house_core.specs.declared.finished.Finished.{Finished}
use Rattle.house_core.specs.declared.step.Action.TheVariants as action
use Rattle.house_core.specs.declared.step.Step.{Step}
use Rattle.house_core.specs.Events.{events_of}
use Rattle.house_core.specs.Inner.HouseLaws.{HouseLaws}
use Rattle.period_order.specs.Kept.{IsConfiguration}
use Rattle.house_core.specs.Laws.{Claims}
use Rattle.house_core.specs.OneHouse.{HasPlace, IsPlaced, after, events_behind, finished}
use Rattle.house_core.specs.Start.{start}
use Rattle.house_core.specs.Steps.{orders, step}
use Rattle.house_core.specs.World.{PlainWorld}
use Rattle.house_core.proofs.Folds.{behind-append, behind_longer, ordered_commands, with_event-append}
use Rattle.house_core.proofs.OneHouseLemmas.{found, holds_after}
use Rattle.house_core.proofs.OwnPlaces.{ended_once}
use Rattle.house_core.proofs.PlacedLemmas.{one_house}

-- ---- lists

-- of two places in a list, one is before the other, or both hold the same
two_places : {X : Type 0} (P : Type 0) (a b c d : List X) (x y : X) → a ++ x ∷ b ≡ c ++ y ∷ d
    → (x ≡ y → P) → ((between : List X) → c ≡ a ++ x ∷ between → P) → ((between : List X) → a ≡ c ++ y ∷ between → P) → P
two_places P [] b [] d x y h same first second = same (same_Some x y (ap (λ l. slice_get l 0) h))
two_places P [] b (z ∷ c) d x y h same first second = first c (ap (λ w. w ∷ c) (sym (same_Some x z (ap (λ l. slice_get l 0) h))))
two_places P (z ∷ a) b [] d x y h same first second = second a (ap (λ w. w ∷ a) (same_Some z y (ap (λ l. slice_get l 0) h)))
two_places P (z ∷ a) b (w ∷ c) d x y h same first second =
    let head : z ≡ w = same_Some z w (ap (λ l. slice_get l 0) h) in
    two_places P a b c d x y (ap (drop 1) h) same
    (λ between e. first between (ap (λ v. v ∷ c) (sym head) ∙ ap (λ l. z ∷ l) e))
    (λ between e. second between (ap (λ v. v ∷ a) head ∙ ap (λ l. w ∷ l) e))

same_front : {X : Type 0} (xs ys some more : List X) → xs ++ some ≡ ys ++ more → length xs ≡ length ys → xs ≡ ys
same_front xs ys some more h long = sym (take_at xs some (length xs) refl) ∙ ap (take (length xs)) h ∙ take_at ys more (length xs) (sym long)

each_at : {X : Type 0} (P : X → Type 0) (xs : List X) (i : ℕ) (x : X) → AllByRecursion P xs → slice_get xs i ≡ Some x → P x
each_at P [] i x all h = absurd (none-some x h)
each_at P (y ∷ xs) zero x all h = subst P (same_Some y x h) all.0
each_at P (y ∷ xs) (suc i) x all h = each_at P xs i x all.1 h

-- ---- the commands of a list of steps

ordered-append : (world : PlainWorld) (some more : List Step) → ordered_commands world (some ++ more) ≡ ordered_commands world some ++ ordered_commands (after world some) more
ordered-append world [] more = refl
ordered-append world (one ∷ some) more =
    ap (λ (l : List Command). option_to_list (orders world one) ++ l) (ordered-append (step world one) some more)
    ∙ sym (append_assoc (option_to_list (orders world one)) (ordered_commands (step world one) some) (ordered_commands (after (step world one) some) more))

module _ (config : Config) (commands : List Command) (laws : HouseLaws) (is_config : IsConfiguration config) (empty : EmptyListsAreLegal)
    (admitted : (n : ℕ) (own : Command) → slice_get commands n ≡ Some own → IsAdmitted config own) where
  abbrev first : PlainWorld
  first = start config commands

  abbrev events_at : List Step → List Event
  events_at steps = events_of (after first steps)

  abbrev order_of : ℕ → Step
  order_of number = record { call = number; action = action.Order }

  are_behind : (steps : List Step) → events_at steps ≡ events_behind config [] (ordered_commands first steps)
  are_behind steps =
      sym (found config commands laws is_config (events_behind config [] (ordered_commands first steps)) (after first steps) (holds_after config commands laws is_config empty admitted steps))

  go_on : (some more : List Step) → events_at (some ++ more) ≡ events_behind config (events_at some) (ordered_commands (after first some) more)
  go_on some more =
      are_behind (some ++ more)
      ∙ ap (events_behind config []) (ordered-append first some more)
      ∙ behind-append config [] (ordered_commands first some) (ordered_commands (after first some) more)
      ∙ ap (λ (l : List Event). events_behind config l (ordered_commands (after first some) more)) (sym (are_behind some))

  longer : (some more : List Step) → (rest : List Event) × (events_at (some ++ more) ≡ events_at some ++ rest)
  longer some more =
      let rest = behind_longer config (events_at some) (ordered_commands (after first some) more) in
      (rest.0, go_on some more ∙ rest.1)

  -- the event that a command adds in its place
  abbrev Adds : List Step → Command → Event → Type 0
  Adds earlier own event = (verdict config (known (events_at earlier)) own).event ≡ Some event

  -- after a call that adds an event there are more events
  more_after : (earlier later : List Step) (number : ℕ) (own : Command) (event : Event) → orders (after first earlier) (order_of number) ≡ Some own → Adds earlier own event
      → length (events_at earlier) < length (events_at (earlier ++ order_of number ∷ later))
  more_after earlier later number own event placed adds =
      let now : List Event = events_at earlier in
      let rest : List Command = ordered_commands (step (after first earlier) (order_of number)) later in
      let behind = behind_longer config (events_after config now own) rest in
      let whole : events_at (earlier ++ order_of number ∷ later) ≡ (now ++ event ∷ []) ++ behind.0 =
      go_on earlier (order_of number ∷ later)
      ∙ ap (λ (o : Option Command). events_behind config now (option_to_list o ++ rest)) placed
      ∙ behind.1
      ∙ ap (λ (e : Option Event). with_event now e ++ behind.0) adds in
      let long = ap length whole in
      let parts = length-append (now ++ event ∷ []) behind.0 in
      let front = length-append now (event ∷ []) in
      omega (arith, long, parts, front)

  module _ (steps : List Step) where
    -- the place of a call that claims an event, and the event that it adds there
    adds_there : (call : Finished) (point : ℕ) (claims : Claims config commands (events_at steps) call point) (place : IsPlaced config commands steps call.call point)
        → Adds place.earlier place.command claims.event
    adds_there call point claims place =
        let rest = longer place.earlier (order_of call.call ∷ place.later) in
        let split : events_at place.earlier ++ rest.0 ≡ claims.before ++ claims.event ∷ claims.later =
        sym rest.1 ∙ ap events_at (sym place.split) ∙ claims.split in
        let same : claims.before ≡ events_at place.earlier =
        sym (same_front (events_at place.earlier) claims.before rest.0 (claims.event ∷ claims.later) split (sym place.at ∙ sym claims.at)) in
        let own : claims.command ≡ place.command = same_Some claims.command place.command (sym claims.of_call ∙ place.of_call) in
        sym (ap (λ (l : List Event). (verdict config (known l) place.command).event) same)
        ∙ sym (ap (λ (c : Command). (verdict config (known claims.before) c).event) own)
        ∙ claims.adds

    -- the later of two places has more events before it
    not_before : (call : Finished) (point : ℕ) (claims : Claims config commands (events_at steps) call point) (place : IsPlaced config commands steps call.call point)
        (others : List Step) (between : List Step) → others ≡ place.earlier ++ order_of call.call ∷ between → point ≡ length (events_at others) → ⊥
    not_before call point claims place others between is at =
        let more = more_after place.earlier between call.call place.command claims.event place.placed (adds_there call point claims place) in
        let long = ap (λ (l : List Step). length (events_at l)) is in
        let mine = place.at in
        omega (arith, more, long, mine, at)

    one_call : (point : ℕ) (call other : Finished) → Claims config commands (events_at steps) call point → Claims config commands (events_at steps) other point
        → IsPlaced config commands steps call.call point → IsPlaced config commands steps other.call point → call.call ≡ other.call
    one_call point call other claims also place second =
        two_places (call.call ≡ other.call) place.earlier place.later second.earlier second.later (order_of call.call) (order_of other.call) (sym place.split ∙ second.split)
        (λ same. ap (λ (s : Step). s.call) same)
        (λ between is. absurd (not_before call point claims place second.earlier between is second.at))
        (λ between is. absurd (not_before other point also second place.earlier between is place.at))

    pub claimed_once : (one another point : ℕ) (call other : Finished)
        → slice_get (finished first steps) one ≡ Some call → slice_get (finished first steps) another ≡ Some other
        → Claims config commands (events_at steps) call point → Claims config commands (events_at steps) other point → one ≡ another
    claimed_once one another point call other here there claims also =
        let ended : List Finished = finished first steps in
        let places = (one_house config commands laws is_config empty admitted steps).placed.places in
        let place : IsPlaced config commands steps call.call point =
        subst (HasPlace config commands steps call.call) claims.answered (each_at (λ (f : Finished). HasPlace config commands steps f.call f.done) ended one call places here) in
        let second : IsPlaced config commands steps other.call point =
        subst (HasPlace config commands steps other.call) also.answered (each_at (λ (f : Finished). HasPlace config commands steps f.call f.done) ended another other places there) in
        let named : slice_get (map (λ (f : Finished). f.call) ended) one ≡ Some call.call = slice_get-map (λ (f : Finished). f.call) ended one ∙ ap (option_map (λ (f : Finished). f.call)) here in
        let named_also : slice_get (map (λ (f : Finished). f.call) ended) another ≡ Some other.call = slice_get-map (λ (f : Finished). f.call) ended another ∙ ap (option_map (λ (f : Finished). f.call)) there in
        ended_once first steps one another call.call named (named_also ∙ ap (λ (n : ℕ). Some n) (sym (one_call point call other claims also place second)))
