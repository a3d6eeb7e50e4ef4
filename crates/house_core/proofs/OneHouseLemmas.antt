-- What holds between steps, over whole lists of steps.
use Rattle.std.proofs.Common.{◌≡◌, ◌≤◌, ◌||◌, ◌&&◌, ℕ, zero, suc, List, [], ◌∷◌, Bool, true, false, if◌then◌else◌, refl, sym, ap, ap₂, subst, ◌∙◌, length, map, Option, None, Some, Result, Ok, is_none, option_map, option_to_list, slice_get, arith}
use Rattle.std.specs.Option.{option_and_then}
use Rattle.std.proofs.lemmas.Bool.{and_parts}
use Rattle.std.proofs.lemmas.Option.{none-some, same_Some}
use Rattle.ocpi_types.specs.declared.config.Config.{Config}
use Rattle.ocpi_types.specs.declared.config.Operator.{Operator}
use Rattle.ocpi_types.specs.declared.config.Provider.{Provider}
use Rattle.ocpi_types.specs.declared.refusal.Refusal.{Refusal}
use Rattle.cdr_checks.specs.declared.request.Command.{Command}
use Rattle.cdr_checks.specs.Admission.{IsAdmitted}
use Rattle.netting_positions.specs.Netting.{net_positions, parties}
use Rattle.netting_positions.specs.Statement.{statement_rows}
use Rattle.plain_house.specs.declared.answer.Answer.{Answer}
use Rattle.plain_house.specs.declared.answer.Answer.TheVariants as answer
use Rattle.plain_house.specs.declared.entry.AccountEntry.{AccountEntry}
use Rattle.plain_house.specs.declared.entry.BookEntry.{BookEntry}
use Rattle.plain_house.specs.declared.event.Event.{Event}
use Rattle.plain_house.specs.Entries.{book_entries}
use Rattle.plain_house.specs.House.{positions_in}
use Rattle.plain_house.specs.Legal.{EmptyListsAreLegal}
use Rattle.plain_house.specs.Own.{own_account, own_book}
use Rattle.plain_house.specs.Replies.{stamped}
use Rattle.period_order.specs.Resolved.{resolved}
use Rattle.house_core.specs.declared.running_call.RunningCall.{RunningCall}
use Rattle.house_core.specs.declared.running_call.ReplyDue.{ReplyDue}
use Rattle.house_core.specs.declared.finished.Done.TheVariants as done
use Rattle.house_core.specs.declared.finished.Finished.{Finished}
use Rattle.house_core.specs.declared.stage.Netting.{Netting}
use Rattle.house_core.specs.declared.stage.Stage.{Stage}
use Rattle.house_core.specs.declared.stage.Stage.TheVariants as stage
use Rattle.house_core.specs.declared.stage.Stating.{Stating}
use Rattle.house_core.specs.declared.step.Action.{Action}
use Rattle.house_core.specs.declared.step.Action.TheVariants as action
use Rattle.house_core.specs.declared.step.Step.{Step}
use Rattle.house_core.specs.Calls.{begun, has_its_account, has_its_book, held_account, held_book, reply_due_at}
use Rattle.house_core.specs.Collections.{is_complete}
use Rattle.std.specs.List.{AllByRecursion}
use Rattle.house_core.specs.Events.{events_of, whole_account, whole_book}
use Rattle.house_core.specs.Inner.Collecting.{IsNetting, IsStating, owed_in}
use Rattle.house_core.specs.Holders.{holder_at}
use Rattle.house_core.specs.Inner.Sound.{Holds, IsRunningCall}
use Rattle.period_order.specs.Kept.{IsConfiguration}
use Rattle.house_core.specs.OneHouse.{IsAnswered, IsFinished, after, events_behind}
use Rattle.house_core.specs.Start.{call_of, start}
use Rattle.house_core.specs.Steps.{change_by, changed, collect_at, ended_by, finishes, known_to, order, ordered_by, orders, step}
use Rattle.house_core.specs.World.{PlainWorld}
use Rattle.house_core.proofs.Abandoning.{abandons_begun}
use Rattle.house_core.proofs.CollectSteps.{collects_book}
use Rattle.house_core.proofs.CollectingLemmas.{whole_done}
use Rattle.house_core.proofs.EachStep.{begins, ends, puts_account, puts_book, takes_account, takes_book}
use Rattle.house_core.proofs.Folds.{all_kept, ordered_commands}
use Rattle.house_core.specs.Inner.HouseLaws.{HouseLaws}
use Rattle.house_core.proofs.Placing.{is_placed}

module _ (config : Config) (commands : List Command) (laws : HouseLaws) (is_config : IsConfiguration config) where
  abbrev pub HoldsAt : List Event → PlainWorld → Type 0
  HoldsAt events world = Holds config commands events world

  -- the events are those that the world stands for
  pub found : (events : List Event) (world : PlainWorld) → HoldsAt events world → events ≡ events_of world
  found events world holds =
      sym (laws.resolved config events holds.kept.legal)
      ∙ sym (λ i. resolved (holds.kept.books_are i) (holds.kept.accounts_are i) (holds.kept.order_is i))

  module _ (events : List Event) (world : PlainWorld) (holds : HoldsAt events world) where
    pub at_point : length world.order ≡ length events
    at_point = ap length holds.kept.order_is ∙ (laws.counted config events).entries

  -- ---- each step

  module _ (events : List Event) (world : PlainWorld) (holds : HoldsAt events world) (number : ℕ) where
    ordering : (b : Bool) (book account : Option ℕ) (has_book has_account : Bool) (start : ℕ) (s : Stage)
        → ((is_none book || has_book) && (is_none account || has_account)) ≡ b
        → slice_get world.calls number ≡ Some (record { book = book; account = account; has_book = has_book; has_account = has_account; begin = start; stage = s })
        → HoldsAt (events_behind config events (option_to_list (if b then begun s else None)))
        (changed world number (option_map (order world.config (known_to world (record { book = book; account = account; has_book = has_book; has_account = has_account; begin = start; stage = s }))
        (record { book = book; account = account; has_book = has_book; has_account = has_account; begin = start; stage = s })) (if b then begun s else None)))
    ordering false book account has_book has_account start s e is = holds
    ordering true book account has_book has_account start (stage.Waiting own) e is = holds
    ordering true book account has_book has_account start (stage.Begun own) e is =
        let parts = and_parts (is_none book || has_book) (is_none account || has_account) e in
        let call : RunningCall = record { book = book; account = account; has_book = has_book; has_account = has_account; begin = start; stage = stage.Begun own } in
        let one = holds.calls number call is in
        let own_is : own ≡ one.0 = one.2.at.0 in
        (is_placed laws config is_config commands events world holds number book account has_book has_account start own is
        (one.1 ∙ ap (λ x. Some x) (sym own_is)) (subst (λ c. IsRunningCall config events c call) (sym own_is) one.2) parts.0 parts.1).holds_then
    ordering true book account has_book has_account start (stage.Ordered carried) e is = holds
    ordering true book account has_book has_account start (stage.Netting netting) e is = holds
    ordering true book account has_book has_account start (stage.Stating stating) e is = holds
    ordering true book account has_book has_account start stage.Ended e is = holds

    abandoning : (book account : Option ℕ) (has_book has_account : Bool) (start : ℕ) (s : Stage)
        → slice_get world.calls number ≡ Some (record { book = book; account = account; has_book = has_book; has_account = has_account; begin = start; stage = s })
        → HoldsAt events (changed world number (change_by world number (record { book = book; account = account; has_book = has_book; has_account = has_account; begin = start; stage = s }) action.Abandon))
    abandoning book account has_book has_account start (stage.Waiting own) is = holds
    abandoning book account has_book has_account start (stage.Begun own) is = abandons_begun config commands events number start own world holds book account has_book has_account is
    abandoning book account has_book has_account start (stage.Ordered carried) is = holds
    abandoning book account has_book has_account start (stage.Netting netting) is = holds
    abandoning book account has_book has_account start (stage.Stating stating) is = holds
    abandoning book account has_book has_account start stage.Ended is = holds

    collecting : (at : ℕ) (call : RunningCall) → slice_get world.calls number ≡ Some call → HoldsAt events (changed world number (change_by world number call (action.Collect at)))
    collecting at call is =
        subst (λ c. HoldsAt events (changed world number (collect_at c at call (slice_get c.operators at) (slice_get world.books at)))) (sym holds.config_is)
        (collects_book laws.own_dues laws.no_larger config is_config commands events world holds number call.book call.account call.has_book call.has_account call.begin at call.stage is
        (slice_get config.operators at) refl (slice_get world.books at) refl)

    keeps_by : (call : RunningCall) (a : Action) → slice_get world.calls number ≡ Some call
        → HoldsAt (events_behind config events (option_to_list (ordered_by call a))) (changed world number (change_by world number call a))
    keeps_by call action.Begin is =
        let point : length world.order ≡ length events = at_point events world holds in
        begins config commands events world holds number (length world.order) (omega (arith, point)) call.book call.account call.has_book call.has_account call.begin call.stage is
    keeps_by call action.TakeBook is = takes_book config commands events world holds number call.account call.has_account call.begin call.has_book call.book call.stage is
    keeps_by call action.TakeAccount is = takes_account config commands events world holds number call.book call.has_book call.begin call.has_account call.account call.stage is
    keeps_by call action.Order is = ordering (has_its_book call && has_its_account call) call.book call.account call.has_book call.has_account call.begin call.stage refl is
    keeps_by call action.PutAccount is = puts_account config commands events world holds number call.book call.has_book call.begin call.has_account call.account call.stage is
    keeps_by call action.PutBook is = puts_book config commands events world holds number call.account call.begin call.has_book call.has_account call.book call.stage is
    keeps_by call (action.Collect operator) is = collecting operator call is
    keeps_by call action.Abandon is = abandoning call.book call.account call.has_book call.has_account call.begin call.stage is
    keeps_by call action.End is = ends config commands events world holds number call.book call.account call.begin call.has_book call.has_account call.stage is

  pub keeps : (events : List Event) (world : PlainWorld) (one : Step) → HoldsAt events world → HoldsAt (events_behind config events (option_to_list (orders world one))) (step world one)
  keeps events world one holds = by (slice_get world.calls one.call) refl
    where
      by : (o : Option RunningCall) → slice_get world.calls one.call ≡ o
          → HoldsAt (events_behind config events (option_to_list (option_and_then (λ (call : RunningCall). ordered_by call one.action) o)))
          (changed world one.call (option_and_then (λ (call : RunningCall). change_by world one.call call one.action) o))
      by None e = holds
      by (Some call) e = keeps_by events world holds one.call call one.action e

  -- ---- calls that end

  module _ (events : List Event) (world : PlainWorld) (holds : HoldsAt events world) (number : ℕ) where
    abbrev call_at : Option ℕ → Option ℕ → Bool → Bool → ℕ → Stage → RunningCall
    call_at book account has_book has_account start s = record { book = book; account = account; has_book = has_book; has_account = has_account; begin = start; stage = s }

    -- what such a reply ends
    abbrev ended_with : ℕ → Option ReplyDue → List Finished
    ended_with start due =
        option_to_list (option_map (λ (t : ReplyDue). record { call = number; begin = start; end = length world.order; done = done.Answered t.point (stamped t.point t.reply) }) due)

    abbrev AllFinished : List Finished → Type 0
    AllFinished calls = AllByRecursion (IsFinished config commands events) calls

    one_finished : (start point : ℕ) (reply : Result Answer Refusal) (own : Command) → slice_get commands number ≡ Some own
        → IsAnswered config events own start (length events) point (stamped point reply) → AllFinished (ended_with start (Some (record { point = point; reply = reply })))
    one_finished start point reply own named is = (
      record {
        command = own;
        of_call = named;
        done = subst (λ (n : ℕ). IsAnswered config events own start n point (stamped point reply)) (sym (at_point events world holds)) is;
      },
      tt,
    )

    -- the net positions of what is collected are those of what is owed
    netted : (book account : Option ℕ) (has_book has_account : Bool) (start : ℕ) (n : Netting) → slice_get world.calls number ≡ Some (call_at book account has_book has_account start (stage.Netting n))
        → (complete : Bool) → is_complete n.collection.collected ≡ complete
        → AllFinished (ended_with start (if complete then Some (record {
          point = n.point;
          reply = Ok (answer.Closed n.period (net_positions n.collection.table.parties n.collection.table.currencies n.collection.table.obligations));
        }) else None))
    netted book account has_book has_account start n is false e = tt
    netted book account has_book has_account start n is true e =
        let one = holds.calls number (call_at book account has_book has_account start (stage.Netting n)) is in
        let at : IsNetting config events one.0 start n = one.2.at in
        let same : positions_in config (book_entries events) n.period ≡ net_positions n.collection.table.parties n.collection.table.currencies n.collection.table.obligations =
        sym (laws.net (parties config) config.currencies n.collection.table.obligations (owed_in n.period events)
        (whole_done config (owed_in n.period events) n.collection.collected n.collection.table.obligations at.collected e))
        ∙ sym (ap₂ (λ ps cs. net_positions ps cs n.collection.table.obligations) at.parties_are at.currencies_are) in
        one_finished start n.point (Ok (answer.Closed n.period (net_positions n.collection.table.parties n.collection.table.currencies n.collection.table.obligations))) one.0 one.1
        (subst (λ rows. IsAnswered config events one.0 start (length events) n.point (stamped n.point (Ok (answer.Closed n.period rows)))) same at.answered)

    stated : (book account : Option ℕ) (has_book has_account : Bool) (start : ℕ) (n : Stating) → slice_get world.calls number ≡ Some (call_at book account has_book has_account start (stage.Stating n))
        → (complete : Bool) → is_complete n.collection.collected ≡ complete
        → AllFinished (ended_with start (if complete then Some (record {
          point = n.point;
          reply = Ok (answer.Statement (statement_rows n.collection.table.party n.collection.table.obligations));
        }) else None))
    stated book account has_book has_account start n is false e = tt
    stated book account has_book has_account start n is true e =
        let one = holds.calls number (call_at book account has_book has_account start (stage.Stating n)) is in
        let at : IsStating config events one.0 start n = one.2.at in
        let same : statement_rows n.collection.table.party (owed_in n.period events) ≡ statement_rows n.collection.table.party n.collection.table.obligations =
        sym (laws.stated n.collection.table.party n.collection.table.obligations (owed_in n.period events)
        (whole_done config (owed_in n.period events) n.collection.collected n.collection.table.obligations at.collected e)) in
        one_finished start n.point (Ok (answer.Statement (statement_rows n.collection.table.party n.collection.table.obligations))) one.0 one.1
        (subst (λ rows. IsAnswered config events one.0 start (length events) n.point (stamped n.point (Ok (answer.Statement rows)))) same at.answered)

    answered : (book account : Option ℕ) (start : ℕ) (has_lock : Bool) (has_book has_account : Bool) (s : Stage)
        → slice_get world.calls number ≡ Some (call_at book account has_book has_account start s) → AllFinished (ended_with start (reply_due_at has_lock s))
    answered book account start has_lock has_book has_account (stage.Waiting own) is = tt
    answered book account start has_lock has_book has_account (stage.Begun own) is = tt
    answered book account start true has_book has_account (stage.Ordered carried) is = tt
    answered book account start false has_book has_account (stage.Ordered carried) is =
        let one = holds.calls number (call_at book account has_book has_account start (stage.Ordered carried)) is in
        one_finished start carried.point carried.reply one.0 one.1 one.2.at
    answered book account start has_lock has_book has_account (stage.Netting n) is = netted book account has_book has_account start n is (is_complete n.collection.collected) refl
    answered book account start has_lock has_book has_account (stage.Stating n) is = stated book account has_book has_account start n is (is_complete n.collection.collected) refl
    answered book account start has_lock has_book has_account stage.Ended is = tt

    abandoned : (book account : Option ℕ) (has_book has_account : Bool) (start : ℕ) (s : Stage)
        → slice_get world.calls number ≡ Some (record { book = book; account = account; has_book = has_book; has_account = has_account; begin = start; stage = s })
        → AllByRecursion (IsFinished config commands events)
        (option_to_list (option_map (λ (own : Command). record { call = number; begin = start; end = length world.order; done = done.Abandoned }) (begun s)))
    abandoned book account has_book has_account start (stage.Waiting own) is = tt
    abandoned book account has_book has_account start (stage.Begun own) is =
        let one = holds.calls number (record { book = book; account = account; has_book = has_book; has_account = has_account; begin = start; stage = stage.Begun own }) is in
        let point : length world.order ≡ length events = at_point events world holds in
        let within : start ≤ length events = one.2.at.1 in
        (record { command = one.0; of_call = one.1; done = omega (arith, point, within) }, tt)
    abandoned book account has_book has_account start (stage.Ordered carried) is = tt
    abandoned book account has_book has_account start (stage.Netting netting) is = tt
    abandoned book account has_book has_account start (stage.Stating stating) is = tt
    abandoned book account has_book has_account start stage.Ended is = tt

    done_by : (call : RunningCall) (a : Action) → slice_get world.calls number ≡ Some call → AllByRecursion (IsFinished config commands events) (option_to_list (ended_by world number call a))
    done_by call action.Begin is = tt
    done_by call action.TakeBook is = tt
    done_by call action.TakeAccount is = tt
    done_by call action.Order is = tt
    done_by call action.PutAccount is = tt
    done_by call action.PutBook is = tt
    done_by call (action.Collect operator) is = tt
    done_by call action.Abandon is = abandoned call.book call.account call.has_book call.has_account call.begin call.stage is
    done_by call action.End is = answered call.book call.account call.begin (call.has_book || call.has_account) call.has_book call.has_account call.stage is

  pub finishes_well : (events : List Event) (world : PlainWorld) (one : Step) → HoldsAt events world → AllByRecursion (IsFinished config commands events) (option_to_list (finishes world one))
  finishes_well events world one holds = by (slice_get world.calls one.call) refl
    where
      by : (o : Option RunningCall) → slice_get world.calls one.call ≡ o
          → AllByRecursion (IsFinished config commands events) (option_to_list (option_and_then (λ (call : RunningCall). ended_by world one.call call one.action) o))
      by None e = tt
      by (Some call) e = done_by events world holds one.call call one.action e

  -- ---- before any step

  module _ (empty : EmptyListsAreLegal) (admitted : (n : ℕ) (own : Command) → slice_get commands n ≡ Some own → IsAdmitted config own) where
    pub waiting_at : (own : List Command) (n : ℕ) (call : RunningCall) → slice_get (map (call_of config) own) n ≡ Some call
        → (one : Command) × (slice_get own n ≡ Some one) × (call_of config one ≡ call)
    waiting_at [] n call h = absurd (none-some call h)
    waiting_at (x ∷ xs) zero call h = (x, refl, same_Some (call_of config x) call h)
    waiting_at (x ∷ xs) (suc n) call h = waiting_at xs n call h

    abbrev calls_at : List RunningCall
    calls_at = map (call_of config) commands

    empty_books : (ops : List Operator) → map (whole_book calls_at) (map (λ operator. record { holder = None; entries = [] }) ops) ≡ map (λ operator. own_book operator.party (book_entries [])) ops
    empty_books [] = refl
    empty_books (x ∷ xs) = ap (λ l. [] ∷ l) (empty_books xs)

    empty_accounts : (ps : List Provider) → map (whole_account calls_at) (map (λ provider. record { holder = None; entries = [] }) ps) ≡ map (λ provider. own_account provider.party []) ps
    empty_accounts [] = refl
    empty_accounts (x ∷ xs) = ap (λ l. [] ∷ l) (empty_accounts xs)

    no_holder : {X : Type 0} (E : Type 0) (xs : List X) (n c : ℕ) → holder_at {E = E} (map (λ x. record { holder = None; entries = [] }) xs) n ≡ Some c → ⊥
    no_holder E [] n c h = none-some c h
    no_holder E (x ∷ xs) zero c h = none-some c h
    no_holder E (x ∷ xs) (suc n) c h = no_holder E xs n c h

    pub starts : HoldsAt [] (start config commands)
    starts = record {
      config_is = refl;
      kept = record { legal = empty config; books_are = empty_books config.operators; accounts_are = empty_accounts config.providers; order_is = refl };
      books = record {
        holding = λ n call lock is h. let one = waiting_at commands n call is in absurd (none-some lock (ap held_book one.2 ∙ h));
        holder = λ lock n h. absurd (no_holder BookEntry config.operators lock n h);
      };
      accounts = record {
        holding = λ n call lock is h. let one = waiting_at commands n call is in absurd (none-some lock (ap held_account one.2 ∙ h));
        holder = λ lock n h. absurd (no_holder AccountEntry config.providers lock n h);
      };
      calls = λ n call is.
          let one = waiting_at commands n call is in (
            one.0,
            one.1,
            subst (IsRunningCall config [] one.0) one.2 (record {
              admitted = admitted n one.0 one.1;
              book = refl;
              account = refl;
              bookless = λ e. refl;
              accountless = λ e. refl;
              at = refl;
            }),
          );
    }

    -- ---- whole lists of steps

    pub holds_after : (steps : List Step) → HoldsAt (events_behind config [] (ordered_commands (start config commands) steps)) (after (start config commands) steps)
    holds_after steps = all_kept config commands HoldsAt keeps finishes_well [] (start config commands) steps starts
