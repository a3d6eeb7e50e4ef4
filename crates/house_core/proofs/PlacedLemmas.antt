-- Behind every list of steps the calls are answered as one house, each at its own place.
use Rattle.std.proofs.Common.{◌≡◌, ℕ, List, [], ◌∷◌, refl, sym, ap, subst, ◌∙◌, length, Option, None, Some, option_map, option_to_list, slice_get}
use Rattle.std.specs.List.{AllByRecursion}
use Rattle.std.proofs.lemmas.Option.{none-some, same_Some}
use Rattle.ocpi_types.specs.declared.config.Config.{Config}
use Rattle.cdr_checks.specs.declared.request.Command.{Command}
use Rattle.cdr_checks.specs.Admission.{IsAdmitted}
use Rattle.plain_house.specs.declared.event.Event.{Event}
use Rattle.plain_house.specs.Legal.{EmptyListsAreLegal, IsLegal}
use Rattle.house_core.specs.declared.running_call.RunningCall.{RunningCall}
use Rattle.house_core.specs.declared.finished.Done.{Done}
use Rattle.house_core.specs.declared.finished.Done.TheVariants as done
use Rattle.house_core.specs.declared.finished.Finished.{Finished}
use Rattle.house_core.specs.declared.stage.Stage.{Stage}
use Rattle.house_core.specs.declared.stage.Stage.TheVariants as stage
use Rattle.house_core.specs.declared.step.Action.TheVariants as action
use Rattle.house_core.specs.declared.step.Step.{Step}
use Rattle.house_core.specs.Calls.{begun, waiting}
use Rattle.house_core.specs.Events.{events_of}
use Rattle.house_core.specs.Inner.HouseLaws.{HouseLaws}
use Rattle.house_core.specs.Inner.Sound.{Holds, IsAt}
use Rattle.period_order.specs.Kept.{IsConfiguration}
use Rattle.house_core.specs.OneHouse.{AnsweredAsOne, ArePlaced, HasPlace, HoldsEvents, IsFinished, IsTimed, Ordered, after, events_behind, finished, in_order, ordered_at}
use Rattle.house_core.specs.Start.{start}
use Rattle.house_core.specs.Steps.{orders, step}
use Rattle.house_core.specs.World.{PlainWorld}
use Rattle.house_core.proofs.EventLemmas.{orders_is}
use Rattle.house_core.proofs.Folds.{all_done, commands_are, each-append, ordered_commands}
use Rattle.house_core.proofs.HeldEvents.{holds_events}
use Rattle.house_core.proofs.OneHouseLemmas.{at_point, finishes_well, found, holds_after, keeps, starts, waiting_at}
use Rattle.house_core.proofs.OwnPlaces.{AllStand, StandsAt, StandsDone, each_stands, ended_once, placed_once}
use Rattle.house_core.proofs.PutLemmas.{met}
use Rattle.house_core.proofs.TimedLemmas.{AllBegun, TimedAt, each_timed}
use Rattle.house_core.proofs.TimeLemmas.{each_then}

pub begun_at : (config : Config) (events : List Event) (command : Command) (begin : ℕ) (s : Stage) (own : Command) → begun s ≡ Some own → IsAt config events command begin s → own ≡ command
begun_at config events command begin (stage.Waiting c) own h at = absurd (none-some own h)
begun_at config events command begin (stage.Begun c) own h at = sym (same_Some c own h) ∙ at.0
begun_at config events command begin (stage.Ordered c) own h at = absurd (none-some own h)
begun_at config events command begin (stage.Netting c) own h at = absurd (none-some own h)
begun_at config events command begin (stage.Stating c) own h at = absurd (none-some own h)
begun_at config events command begin stage.Ended own h at = absurd (none-some own h)

module _ (config : Config) (commands : List Command) (laws : HouseLaws) (is_config : IsConfiguration config) where
  -- the command that a step gives its place is that of the step's call
  named_by : (events : List Event) (world : PlainWorld) (one : Step) (own : Command) → Holds config commands events world → orders world one ≡ Some own → slice_get commands one.call ≡ Some own
  named_by events world one own holds h =
      let it = orders_is (slice_get world.calls one.call) one.action own h in
      let call : RunningCall = it.0 in
      let known = holds.calls one.call call it.1 in
      known.1 ∙ ap (λ (c : Command). Some c) (sym (begun_at config events known.0 call.begin call.stage own (met _ (begun call.stage) own it.3).1 known.2.at))

  all_named : (events : List Event) (world : PlainWorld) (steps : List Step) → Holds config commands events world
      → AllByRecursion (λ (o : Ordered). slice_get commands o.call ≡ Some o.command) (in_order world steps)
  all_named events world [] holds = tt
  all_named events world (one ∷ later) holds =
      each-append (λ (o : Ordered). slice_get commands o.call ≡ Some o.command) (option_to_list (ordered_at world one)) (in_order (step world one) later)
      (here (orders world one) refl) (all_named (events_behind config events (option_to_list (orders world one))) (step world one) later (keeps config commands laws is_config events world one holds))
    where
      here : (o : Option Command) → orders world one ≡ o
          → AllByRecursion (λ (o : Ordered). slice_get commands o.call ≡ Some o.command) (option_to_list (option_map {U = Ordered} (λ (own : Command). record { call = one.call; command = own }) o))
      here None e = tt
      here (Some own) e = (named_by events world one own holds e, tt)

  module _ (empty : EmptyListsAreLegal) (admitted : (n : ℕ) (own : Command) → slice_get commands n ≡ Some own → IsAdmitted config own) where
    abbrev first : PlainWorld
    first = start config commands

    stand_first : AllStand first []
    stand_first n call is =
        let one = waiting_at config commands laws is_config empty admitted commands n call is in
        subst (λ (c : RunningCall). StandsAt first [] n c.stage) one.2 tt

    -- the order has an entry for each event
    counted : (steps : List Step) → length (after first steps).order ≡ length (events_of (after first steps))
    counted steps =
        let last = holds_after config commands laws is_config empty admitted steps in
        let events : List Event = events_behind config [] (ordered_commands first steps) in
        at_point config commands laws is_config events (after first steps) last ∙ ap length (found config commands laws is_config events (after first steps) last)

    place_of : (steps : List Step) (n : ℕ) (d : Done) → StandsDone first steps n d → HasPlace config commands steps n d
    place_of steps n (done.Answered point reply) is =
        let last = holds_after config commands laws is_config empty admitted is.earlier in
        let world : PlainWorld = after first is.earlier in
        let events : List Event = events_behind config [] (ordered_commands first is.earlier) in
        record {
          earlier = is.earlier;
          later = is.later;
          command = is.command;
          split = is.split;
          of_call = named_by events world (record { call = n; action = action.Order }) is.command last is.placed;
          placed = is.placed;
          at = is.at ∙ counted is.earlier;
        }
    place_of steps n done.Abandoned is = is

    placed : (steps : List Step) → ArePlaced config commands steps (finished first steps)
    placed steps = record {
      own_commands = all_named [] first steps (starts config commands laws is_config empty admitted);
      placed_once = placed_once first steps;
      ended_once = ended_once first steps;
      places =
          each_then (λ (f : Finished). StandsDone first steps f.call f.done) (λ (f : Finished). HasPlace config commands steps f.call f.done) (finished first steps)
          (λ f is. place_of steps f.call f.done is) (each_stands first steps stand_first);
    }

    pub one_house : (steps : List Step) → AnsweredAsOne config commands steps (finished first steps) (events_of (after first steps))
    one_house steps =
        let all : List Event = events_behind config [] (ordered_commands first steps) in
        let last : Holds config commands all (after first steps) = holds_after config commands laws is_config empty admitted steps in
        let same : all ≡ events_of (after first steps) = found config commands laws is_config all (after first steps) last in
        record {
          calls = refl;
          found = refl;
          held =
              subst (λ (l : List Event). HoldsEvents config l (after first steps)) same
              (holds_events config commands all (after first steps) last laws.resolve);
          history = sym (ap (events_behind config []) (commands_are first steps) ∙ same);
          answers =
              subst (λ (l : List Event). AllByRecursion (IsFinished config commands l) (finished first steps)) same
              (all_done config commands (Holds config commands) (keeps config commands laws is_config) (finishes_well config commands laws is_config) [] first steps
              (starts config commands laws is_config empty admitted));
          placed = placed steps;
          legal = subst (IsLegal config) same last.kept.legal;
        }

    -- ---- the steps at which calls begin and end

    begun_first : AllBegun first []
    begun_first n call there begun =
        let one = waiting_at config commands laws is_config empty admitted commands n call there in
        absurd (none-some one.0 (sym begun ∙ ap (λ (c : RunningCall). waiting c.stage) (sym one.2)))

    timed_of : (steps : List Step) (f : Finished) → TimedAt first steps f → IsTimed config commands steps f
    timed_of steps f is = record {
      earlier = is.earlier;
      last = is.last;
      later = is.later;
      split = is.split;
      taken = is.taken;
      begun = record {
        earlier = is.begun.earlier;
        later = is.begun.later;
        command = is.begun.command;
        split = is.begun.split;
        taken = is.begun.taken;
        at = is.begun.at ∙ counted is.begun.earlier;
      };
      at = is.at ∙ counted is.earlier;
    }

    pub are_timed : (steps : List Step) → AllByRecursion (IsTimed config commands steps) (finished first steps)
    are_timed steps = each_then (TimedAt first steps) (IsTimed config commands steps) (finished first steps) (timed_of steps) (each_timed first steps begun_first)
