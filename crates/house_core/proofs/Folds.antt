-- From one step to a list of steps.
use Rattle.std.proofs.Common.{◌≡◌, ℕ, List, [], ◌∷◌, ◌++◌, refl, sym, ap, subst, ◌∙◌, append_assoc, append-nil, map, Option, None, Some, option_map, option_to_list}
use Rattle.std.specs.List.{AllByRecursion}
use Rattle.ocpi_types.specs.declared.config.Config.{Config}
use Rattle.cdr_checks.specs.declared.request.Command.{Command}
use Rattle.plain_house.specs.declared.event.Event.{Event}
use Rattle.plain_house.specs.House.{events_after, verdict}
use Rattle.plain_house.specs.Known.{known}
use Rattle.plain_house.specs.Replies.{with_event}
use Rattle.house_core.specs.declared.finished.Done.{Done}
use Rattle.house_core.specs.declared.finished.Done.TheVariants as done
use Rattle.house_core.specs.declared.finished.Finished.{Finished}
use Rattle.house_core.specs.declared.step.Step.{Step}
use Rattle.house_core.specs.OneHouse.{IsDone, IsFinished, Ordered, after, events_behind, finished, in_order}
use Rattle.house_core.specs.Steps.{finishes, orders, step}
use Rattle.house_core.specs.World.{PlainWorld}

-- the commands that steps give their places
abbrev pub ordered_commands : PlainWorld → List Step → List Command
ordered_commands world [] = []
ordered_commands world (one ∷ later) = option_to_list (orders world one) ++ ordered_commands (step world one) later

pub commands_are : (world : PlainWorld) (steps : List Step) → map (λ (o : Ordered). o.command) (in_order world steps) ≡ ordered_commands world steps
commands_are world [] = refl
commands_are world (one ∷ later) = by (orders world one) (commands_are (step world one) later)
  where
    by : (o : Option Command) → map (λ (o : Ordered). o.command) (in_order (step world one) later) ≡ ordered_commands (step world one) later
        → map (λ (o : Ordered). o.command) (option_to_list (option_map {U = Ordered} (λ (own : Command). record { call = one.call; command = own }) o) ++ in_order (step world one) later)
        ≡ option_to_list o ++ ordered_commands (step world one) later
    by None rest = rest
    by (Some own) rest = ap (λ (l : List Command). own ∷ l) rest

pub with_event-append : (events : List Event) (event : Option Event) → with_event events event ≡ events ++ option_to_list event
with_event-append events None = sym (append-nil events)
with_event-append events (Some event) = refl

-- events stay, and more come
pub behind_longer : (config : Config) (events : List Event) (commands : List Command) → (more : List Event) × (events_behind config events commands ≡ events ++ more)
behind_longer config events [] = ([], sym (append-nil events))
behind_longer config events (command ∷ later) =
    let added : List Event = option_to_list (verdict config (known events) command).event in
    let rest = behind_longer config (events_after config events command) later in
    (added ++ rest.0, rest.1 ∙ ap (λ (l : List Event). l ++ rest.0) (with_event-append events (verdict config (known events) command).event) ∙ append_assoc events added rest.0)

pub behind-append : (config : Config) (events : List Event) (some others : List Command) → events_behind config events (some ++ others) ≡ events_behind config (events_behind config events some) others
behind-append config events [] others = refl
behind-append config events (command ∷ some) others = behind-append config (events_after config events command) some others

-- what is said of a call that has ended stays so
done_longer : (config : Config) (events more : List Event) (command : Command) (begin end : ℕ) (how : Done) → IsDone config events command begin end how → IsDone config (events ++ more) command begin end how
done_longer config events more command begin end (done.Answered point reply) is = record {
  before = is.before;
  later = is.later ++ more;
  split = ap (λ (l : List Event). l ++ more) is.split
      ∙ append_assoc is.before (option_to_list (verdict config (known is.before) command).event ++ is.later) more
      ∙ ap (λ (l : List Event). is.before ++ l) (append_assoc (option_to_list (verdict config (known is.before) command).event) is.later more);
  at = is.at;
  replied = is.replied;
  begun = is.begun;
  ended = is.ended;
}
done_longer config events more command begin end done.Abandoned is = is

finished_longer : (config : Config) (commands : List Command) (events more : List Event) (call : Finished) → IsFinished config commands events call → IsFinished config commands (events ++ more) call
finished_longer config commands events more call is = record {
  command = is.command;
  of_call = is.of_call;
  done = done_longer config events more is.command call.begin call.end call.done is.done;
}

all_longer : (config : Config) (commands : List Command) (events more : List Event) (calls : List Finished) → AllByRecursion (IsFinished config commands events) calls → AllByRecursion (IsFinished config commands (events ++ more)) calls
all_longer config commands events more [] h = tt
all_longer config commands events more (call ∷ calls) h = (finished_longer config commands events more call h.0, all_longer config commands events more calls h.1)

pub each-append : {X : Type 0} (P : X → Type 0) (xs ys : List X) → AllByRecursion P xs → AllByRecursion P ys → AllByRecursion P (xs ++ ys)
each-append P [] ys h g = g
each-append P (x ∷ xs) ys h g = (h.0, each-append P xs ys h.1 g)

-- what holds between steps, at the events so far; and what a step keeps and ends
module _ (config : Config) (commands : List Command) (Holds : List Event → PlainWorld → Type 0)
    (keeps : (events : List Event) (world : PlainWorld) (one : Step) → Holds events world → Holds (events_behind config events (option_to_list (orders world one))) (step world one))
    (ends : (events : List Event) (world : PlainWorld) (one : Step) → Holds events world → AllByRecursion (IsFinished config commands events) (option_to_list (finishes world one))) where
  pub all_kept : (events : List Event) (world : PlainWorld) (steps : List Step) → Holds events world → Holds (events_behind config events (ordered_commands world steps)) (after world steps)
  all_kept events world [] holds = holds
  all_kept events world (one ∷ later) holds =
      let now : List Event = events_behind config events (option_to_list (orders world one)) in
      subst (λ (l : List Event). Holds l (after (step world one) later)) (sym (behind-append config events (option_to_list (orders world one)) (ordered_commands (step world one) later)))
      (all_kept now (step world one) later (keeps events world one holds))

  pub all_done : (events : List Event) (world : PlainWorld) (steps : List Step) → Holds events world → AllByRecursion (IsFinished config commands (events_behind config events (ordered_commands world steps))) (finished world steps)
  all_done events world [] holds = tt
  all_done events world (one ∷ later) holds =
      let now : List Event = events_behind config events (option_to_list (orders world one)) in
      let whole : List Event = events_behind config events (ordered_commands world (one ∷ later)) in
      let longer = behind_longer config events (ordered_commands world (one ∷ later)) in
      each-append (IsFinished config commands whole) (option_to_list (finishes world one)) (finished (step world one) later)
      (subst (λ (l : List Event). AllByRecursion (IsFinished config commands l) (option_to_list (finishes world one))) (sym longer.1)
      (all_longer config commands events longer.0 (option_to_list (finishes world one)) (ends events world one holds)))
      (subst (λ (l : List Event). AllByRecursion (IsFinished config commands l) (finished (step world one) later)) (sym (behind-append config events (option_to_list (orders world one)) (ordered_commands (step world one) later)))
      (all_done now (step world one) later (keeps events world one holds)))
