-- The event that a step adds is that of its call.
use Rattle.std.proofs.Common.{◌≡◌, ◌<◌, ◌&&◌, ℕ, List, [], ◌∷◌, ◌++◌, refl, sym, ap, subst, ◌∙◌, length, Option, None, Some, option_map, option_to_list, slice_get, length-append, arith}
use Rattle.std.specs.Option.{option_and_then}
use Rattle.std.proofs.lemmas.Bool.{and_parts}
use Rattle.std.proofs.lemmas.Option.{none-some, same_Some}
use Rattle.ocpi_types.specs.declared.config.Config.{Config}
use Rattle.cdr_checks.specs.declared.request.Command.{Command}
use Rattle.plain_house.specs.declared.event.Event.{Event}
use Rattle.plain_house.specs.House.{verdict}
use Rattle.plain_house.specs.Known.{Known, known}
use Rattle.plain_house.specs.Legal.{EmptyListsAreLegal}
use Rattle.plain_house.specs.Replies.{with_event}
use Rattle.period_order.specs.declared.decided.Outcome.{Outcome}
use Rattle.period_order.specs.declared.decided.Outcome.TheVariants as outcome
use Rattle.period_order.specs.Decided.{event_of, outcome_of}
use Rattle.house_core.specs.declared.running_call.RunningCall.{RunningCall}
use Rattle.house_core.specs.declared.stage.Stage.{Stage}
use Rattle.house_core.specs.declared.stage.Stage.TheVariants as stage
use Rattle.house_core.specs.declared.step.Action.{Action}
use Rattle.house_core.specs.declared.step.Action.TheVariants as action
use Rattle.house_core.specs.declared.step.Step.{Step}
use Rattle.house_core.specs.Calls.{begun, has_its_account, has_its_book, ready}
use Rattle.house_core.specs.Events.{events_of}
use Rattle.house_core.specs.Inner.Sound.{Holds, IsRunningCall}
use Rattle.house_core.specs.Inner.Steps.{EventsGo, Kept, StepsKeep, event_added, event_of_stage}
use Rattle.period_order.specs.Kept.{IsConfiguration}
use Rattle.house_core.specs.OneHouse.{events_behind}
use Rattle.house_core.specs.Steps.{changed, known_to, order, ordered_by, orders, stage_after, step}
use Rattle.house_core.specs.World.{PlainWorld}
use Rattle.house_core.specs.Inner.HouseLaws.{HouseLaws}
use Rattle.house_core.proofs.OneHouseLemmas.{at_point, found, keeps, starts}
use Rattle.house_core.proofs.Placing.{is_placed}
use Rattle.house_core.proofs.PutLemmas.{met}
use Rattle.house_core.proofs.StepLemmas.{stepped}
use Rattle.house_core.proofs.Wholes.{get-set_same}

begun_is : (s : Stage) (own : Command) → begun s ≡ Some own → s ≡ stage.Begun own
begun_is (stage.Waiting c) own h = absurd (none-some own h)
begun_is (stage.Begun c) own h = ap stage.Begun (same_Some c own h)
begun_is (stage.Ordered carried) own h = absurd (none-some own h)
begun_is (stage.Netting netting) own h = absurd (none-some own h)
begun_is (stage.Stating stating) own h = absurd (none-some own h)
begun_is stage.Ended own h = absurd (none-some own h)

-- behind the order a call carries the event of what it came to
carries_event : (config : Config) (known : Known) (o : Outcome) → event_of_stage (stage_after config known o) ≡ event_of o
carries_event config known (outcome.Replied reply event) = refl
carries_event config known (outcome.Closed period) = refl
carries_event config known (outcome.Stated ask) = refl

-- a step that orders a command is an Order step of a ready call
ordered_is : (call : RunningCall) (a : Action) (own : Command) → ordered_by call a ≡ Some own → (a ≡ action.Order) × (ready call ≡ Some own)
ordered_is call action.Begin own h = absurd (none-some own h)
ordered_is call action.TakeBook own h = absurd (none-some own h)
ordered_is call action.TakeAccount own h = absurd (none-some own h)
ordered_is call action.Order own h = (refl, h)
ordered_is call action.PutAccount own h = absurd (none-some own h)
ordered_is call action.PutBook own h = absurd (none-some own h)
ordered_is call (action.Collect operator) own h = absurd (none-some own h)
ordered_is call action.Abandon own h = absurd (none-some own h)
ordered_is call action.End own h = absurd (none-some own h)

pub orders_is : (o : Option RunningCall) (a : Action) (own : Command) → option_and_then (λ (call : RunningCall). ordered_by call a) o ≡ Some own → (call : RunningCall) × (o ≡ Some call) × (a ≡ action.Order) × (ready call ≡ Some own)
orders_is None a own h = absurd (none-some own h)
orders_is (Some call) a own h = let both = ordered_is call a own h in (call, refl, both.0, both.1)

module _ (laws : HouseLaws) (config : Config) (is_config : IsConfiguration config) (commands : List Command) (events : List Event) (world : PlainWorld) (holds : Holds config commands events world) where
  added_by_order : (number : ℕ) (call : RunningCall) (own : Command) → slice_get world.calls number ≡ Some call → ready call ≡ Some own
      → event_added (step world (record { call = number; action = action.Order })) number ≡ (verdict config (known events) own).event
  added_by_order number call own there is_ready =
      let both = met (has_its_book call && has_its_account call) (begun call.stage) own is_ready in
      let parts = and_parts (has_its_book call) (has_its_account call) both.0 in
      let same : call ≡ record call { stage = stage.Begun own } = λ i. record call { stage = begun_is call.stage own both.1 i } in
      let at : RunningCall = record call { stage = stage.Begun own } in
      let is : slice_get world.calls number ≡ Some at = there ∙ ap (λ (c : RunningCall). Some c) same in
      let one = holds.calls number at is in
      let own_is : own ≡ one.0 = one.2.at.0 in
      let placed =
      is_placed laws config is_config commands events world holds number call.book call.account call.has_book call.has_account call.begin own is
      (one.1 ∙ ap (λ (c : Command). Some c) (sym own_is)) (subst (λ (c : Command). IsRunningCall config events c at) (sym own_is) one.2) parts.0 parts.1 in
      let seen : Known = known_to world at in
      let o : Outcome = outcome_of own (verdict world.config seen own) in
      ap (λ (w : PlainWorld). event_added w number)
      (stepped world number at action.Order is ∙ ap (λ x. changed world number (option_map (order world.config seen at) x)) (sym (ap ready same) ∙ is_ready))
      ∙ ap (option_and_then (λ (c : RunningCall). event_of_stage c.stage)) (get-set_same world.calls number (record at { stage = stage_after world.config seen o }) at is)
      ∙ carries_event world.config seen o
      ∙ ap (λ (c : Config). event_of (outcome_of own (verdict c seen own))) holds.config_is
      ∙ placed.event

  module _ (one : Step) where
    abbrev then : List Event
    then = events_behind config events (option_to_list (orders world one))

    holds_then : Holds config commands then (step world one)
    holds_then = keeps config commands laws is_config events world one holds

    point_before : length world.order ≡ length events
    point_before = at_point config commands laws is_config events world holds

    point_then : length (step world one).order ≡ length then
    point_then = at_point config commands laws is_config then (step world one) holds_then

    found_before : events ≡ events_of world
    found_before = found config commands laws is_config events world holds

    found_then : then ≡ events_of (step world one)
    found_then = found config commands laws is_config then (step world one) holds_then

    -- by the event that comes
    goes_by : (e : Option Event) → then ≡ with_event events e → ((x : Event) → e ≡ Some x → event_added (step world one) one.call ≡ Some x) → EventsGo world (step world one) one.call
    goes_by None is its = record {
      longer = λ more. let long = ap length is in absurd (no_more (omega (arith, more, long, point_before, point_then)));
      same = λ h. sym found_then ∙ is ∙ found_before;
    }
      where
        no_more : 1 < 1 → ⊥
        no_more h = omega (arith, h)
    goes_by (Some x) is its = record {
      longer = λ more. sym found_then ∙ is ∙ sym (ap (with_event (events_of world)) (its x refl) ∙ ap (λ (l : List Event). l ++ x ∷ []) (sym found_before));
      same = λ h. let long = ap length is ∙ length-append events (x ∷ []) in absurd (no_more (omega (arith, h, long, point_before, point_then)));
    }
      where
        no_more : 1 < 1 → ⊥
        no_more h = omega (arith, h)

    goes : (x : Option Command) → orders world one ≡ x → EventsGo world (step world one) one.call
    goes None e = goes_by None (ap (λ (o : Option Command). events_behind config events (option_to_list o)) e) (λ x h. absurd (none-some x h))
    goes (Some own) e =
        let it = orders_is (slice_get world.calls one.call) one.action own e in
        let added : event_added (step world one) one.call ≡ (verdict config (known events) own).event =
        ap (λ (a : Action). event_added (step world (record { call = one.call; action = a })) one.call) it.2 ∙ added_by_order one.call it.0 own it.1 it.3 in
        goes_by (verdict config (known events) own).event (ap (λ (o : Option Command). events_behind config events (option_to_list o)) e) (λ x h. added ∙ h)

    pub kept : Kept config commands world one
    kept = record { events = then; holds = holds_then; goes = goes (orders world one) refl }

pub steps_keep : HouseLaws → EmptyListsAreLegal → StepsKeep
steps_keep laws empty = record {
  starts = λ config commands is_config admitted. starts config commands laws is_config empty admitted;
  keeps = λ config commands events world one is_config holds. kept laws config is_config commands events world holds one;
}
