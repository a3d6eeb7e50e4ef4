-- A call that has ended holds no lock.
use Rattle.std.proofs.Common.{◌≡◌, ◌≢◌, ◌≤◌, ◌||◌, ℕ, List, [], ◌∷◌, Bool, true, false, if◌then◌else◌, refl, sym, ap, subst, ◌∙◌, length, Option, None, Some, Ok, Err, Result, is_none, option_map, option_to_list, slice_get, slice_set, arith, ⊎_elim}
use Rattle.std.specs.List.{AllByRecursion}
use Rattle.std.specs.Option.{option_and_then}
use Rattle.std.proofs.lemmas.Bool.{cases_eq}
use Rattle.std.proofs.lemmas.Option.{none-some, same_Some}
use Rattle.ocpi_types.specs.declared.config.Config.{Config}
use Rattle.ocpi_types.specs.declared.config.Operator.{Operator}
use Rattle.ocpi_types.specs.declared.refusal.Refusal.{Refusal}
use Rattle.cdr_checks.specs.declared.request.Command.{Command}
use Rattle.cdr_checks.specs.declared.request.Command.TheVariants as command
use Rattle.cdr_checks.specs.declared.request.StatementOf.{StatementOf}
use Rattle.cdr_checks.specs.Admission.{IsAdmitted}
use Rattle.cdr_checks.specs.Parties.{operator_of_command, provider_of_command}
use Rattle.plain_house.specs.declared.answer.Answer.{Answer}
use Rattle.plain_house.specs.declared.entry.BookEntry.{BookEntry}
use Rattle.plain_house.specs.declared.event.Event.{Event}
use Rattle.plain_house.specs.House.{verdict}
use Rattle.plain_house.specs.Known.{Known}
use Rattle.plain_house.specs.Legal.{EmptyListsAreLegal}
use Rattle.plain_house.specs.Verdict.{Verdict}
use Rattle.period_order.specs.Decided.{closed_by, outcome_of, stated_by}
use Rattle.period_order.specs.Kept.{IsConfiguration}
use Rattle.period_order.specs.Places.{operator_number, provider_number}
use Rattle.house_core.specs.declared.finished.Finished.{Finished}
use Rattle.house_core.specs.declared.running_call.ReplyDue.{ReplyDue}
use Rattle.house_core.specs.declared.running_call.RunningCall.{RunningCall}
use Rattle.house_core.specs.declared.stage.Carried.{Carried}
use Rattle.house_core.specs.declared.stage.Stage.{Stage}
use Rattle.house_core.specs.declared.stage.Stage.TheVariants as stage
use Rattle.house_core.specs.declared.step.Action.{Action}
use Rattle.house_core.specs.declared.step.Action.TheVariants as action
use Rattle.house_core.specs.declared.step.Step.{Step}
use Rattle.house_core.specs.Calls.{begun, for_account, for_book, held_account, held_book, ordered, ready, reply_due, reply_due_at, waiting, wanted_account, wanted_book}
use Rattle.house_core.specs.Holders.{HasNoLock}
use Rattle.house_core.specs.Inner.HouseLaws.{HouseLaws}
use Rattle.house_core.specs.Inner.Sound.{Holds}
use Rattle.house_core.specs.Locks.{Lock, held, lock_at}
use Rattle.house_core.specs.OneHouse.{after, events_behind, finished}
use Rattle.house_core.specs.Start.{start}
use Rattle.house_core.specs.Steps.{Change, abandon, change_by, changed, collect_at, collected, end, finishes, known_to, of_account, of_book, of_call, order, orders, put_account, put_book, stage_after, step, take_account, take_book}
use Rattle.house_core.specs.World.{PlainWorld}
use Rattle.house_core.proofs.Folds.{all_kept, each-append, ordered_commands}
use Rattle.house_core.proofs.OneHouseLemmas.{finishes_well, keeps, starts, waiting_at}
use Rattle.house_core.proofs.PlacedLemmas.{begun_at}
use Rattle.house_core.proofs.PutLemmas.{begun_wants_account, begun_wants_book, some_there}
use Rattle.house_core.proofs.RankLemmas.{end_rank, only_when, rank, rank_at, rank_is, step_rank}
use Rattle.house_core.proofs.TimeLemmas.{each_then, made, made_then, only_if, where_free}
use Rattle.house_core.proofs.Wholes.{get-set_other, get-set_same}

-- ---- a call that collects books, and one that has ended, has no lock

abbrev AreFreed : Bool → Bool → Type 0
AreFreed has_book has_account = (has_book ≡ false) × (has_account ≡ false)

abbrev FreedAt : Stage → Bool → Bool → Type 0
FreedAt (stage.Waiting command) has_book has_account = Unit {0}
FreedAt (stage.Begun command) has_book has_account = Unit {0}
FreedAt (stage.Ordered carried) has_book has_account = Unit {0}
FreedAt (stage.Netting netting) has_book has_account = AreFreed has_book has_account
FreedAt (stage.Stating stating) has_book has_account = AreFreed has_book has_account
FreedAt stage.Ended has_book has_account = AreFreed has_book has_account

abbrev IsFreed : RunningCall → Type 0
IsFreed call = FreedAt call.stage call.has_book call.has_account

begun_freed : (s : Stage) (own : Command) (book account : Bool) → begun s ≡ Some own → FreedAt s book account
begun_freed (stage.Waiting c) own book account h = tt
begun_freed (stage.Begun c) own book account h = tt
begun_freed (stage.Ordered c) own book account h = tt
begun_freed (stage.Netting c) own book account h = absurd (none-some own h)
begun_freed (stage.Stating c) own book account h = absurd (none-some own h)
begun_freed stage.Ended own book account h = absurd (none-some own h)

ordered_freed : (s : Stage) (own : Carried) (book account : Bool) → ordered s ≡ Some own → FreedAt s book account
ordered_freed (stage.Waiting c) own book account h = tt
ordered_freed (stage.Begun c) own book account h = tt
ordered_freed (stage.Ordered c) own book account h = tt
ordered_freed (stage.Netting c) own book account h = absurd (none-some own h)
ordered_freed (stage.Stating c) own book account h = absurd (none-some own h)
ordered_freed stage.Ended own book account h = absurd (none-some own h)

collected_freed : (config : Config) (n : ℕ) (operator : Operator) (entries : List BookEntry) (s next : Stage) (book account : Bool) → collected config n operator entries s ≡ Some next
    → FreedAt s book account → FreedAt next book account
collected_freed config n operator entries (stage.Waiting c) next book account h is = absurd (none-some next h)
collected_freed config n operator entries (stage.Begun c) next book account h is = absurd (none-some next h)
collected_freed config n operator entries (stage.Ordered c) next book account h is = absurd (none-some next h)
collected_freed config n operator entries (stage.Netting c) next book account h is = subst (λ (s : Stage). FreedAt s book account) (only_when _ _ next h) is
collected_freed config n operator entries (stage.Stating c) next book account h is = subst (λ (s : Stage). FreedAt s book account) (only_when _ _ next h) is
collected_freed config n operator entries stage.Ended next book account h is = absurd (none-some next h)

-- a call with a reply due
due_freed : (s : Stage) (due : ReplyDue) (book account : Bool) → reply_due_at (book || account) s ≡ Some due → FreedAt s book account → AreFreed book account
due_freed (stage.Waiting c) due book account h is = absurd (none-some due h)
due_freed (stage.Begun c) due book account h is = absurd (none-some due h)
due_freed (stage.Ordered c) due false false h is = (refl, refl)
due_freed (stage.Ordered c) due false true h is = absurd (none-some due h)
due_freed (stage.Ordered c) due true account h is = absurd (none-some due h)
due_freed (stage.Netting c) due book account h is = is
due_freed (stage.Stating c) due book account h is = is
due_freed stage.Ended due book account h is = absurd (none-some due h)

-- a command that collects all books needs no lock
close_freed : (config : Config) (known : Known) (period : ℕ) (reply : Result Answer Refusal) (book account : Bool) → AreFreed book account → FreedAt (stage_after config known (closed_by period reply)) book account
close_freed config known period (Ok answer) book account is = is
close_freed config known period (Err refusal) book account is = tt

statement_freed : (config : Config) (known : Known) (ask : StatementOf) (reply : Result Answer Refusal) (book account : Bool) → AreFreed book account → FreedAt (stage_after config known (stated_by ask reply)) book account
statement_freed config known ask (Ok answer) book account is = is
statement_freed config known ask (Err refusal) book account is = tt

after_freed : (config : Config) (known : Known) (own : Command) (v : Verdict) (book account : Bool)
    → (operator_of_command own ≡ None → provider_of_command own ≡ None → AreFreed book account) → FreedAt (stage_after config known (outcome_of own v)) book account
after_freed config known (command.PutTariff tariff) v book account all = tt
after_freed config known (command.PutToken token) v book account all = tt
after_freed config known (command.Authorize ask) v book account all = tt
after_freed config known (command.Release release) v book account all = tt
after_freed config known (command.Post checked) v book account all = tt
after_freed config known (command.Close close) v book account all = close_freed config known close.period v.reply book account (all refl refl)
after_freed config known (command.Settle settlement) v book account all = tt
after_freed config known (command.Exposure ask) v book account all = tt
after_freed config known (command.Find find) v book account all = tt
after_freed config known (command.Statement ask) v book account all = statement_freed config known ask v.reply book account (all refl refl)

-- ---- each step

module _ (config : Config) (commands : List Command) (events : List Event) (world : PlainWorld) (holds : Holds config commands events world)
    (number : ℕ) (call : RunningCall) (is : slice_get world.calls number ≡ Some call) (freed : IsFreed call) where
  abbrev ChangesFreed : Change → Type 0
  ChangesFreed change = IsFreed change.call

  -- without a book and an account there is no lock
  needs_none : (own : Command) → begun call.stage ≡ Some own → operator_of_command own ≡ None → provider_of_command own ≡ None → AreFreed call.has_book call.has_account
  needs_none own e no_operator no_provider =
      let known = holds.calls number call is in
      let own_is : own ≡ known.0 = begun_at config events known.0 call.begin call.stage own e known.2.at in
      let no_book : call.book ≡ None =
      known.2.book ∙ ap (λ (c : Command). option_map (operator_number config) (operator_of_command c)) (sym own_is) ∙ ap (option_map (operator_number config)) no_operator in
      let no_account : call.account ≡ None =
      known.2.account ∙ ap (λ (c : Command). option_map (provider_number config) (provider_of_command c)) (sym own_is) ∙ ap (option_map (provider_number config)) no_provider in
      (known.2.bookless no_book, known.2.accountless no_account)

  change_freed : (a : Action) (change : Change) → change_by world number call a ≡ Some change → ChangesFreed change
  change_freed action.Begin change h =
      made (λ (own : Command). of_call (record call { begin = length world.order; stage = stage.Begun own })) (waiting call.stage) change ChangesFreed (λ own e. tt) h
  change_freed action.TakeBook change h = by (wanted_book call) refl h
    where
      by : (o : Option ℕ) → wanted_book call ≡ o → option_and_then (take_book number call) (lock_at world.books o) ≡ Some change → ChangesFreed change
      by None e g = absurd (none-some change g)
      by (Some at) e g =
          let one = some_there (begun call.stage) (begun_wants_book call at e) in
          made_then (take_book number call) (slice_get world.books at) change ChangesFreed
          (λ lock e g. where_free (is_none lock.holder) (of_book (record call { has_book = true }) (held number lock)) change ChangesFreed (begun_freed call.stage one.0 true call.has_account one.1) g) g
  change_freed action.TakeAccount change h = by (wanted_account call) refl h
    where
      by : (o : Option ℕ) → wanted_account call ≡ o → option_and_then (take_account number call) (lock_at world.accounts o) ≡ Some change → ChangesFreed change
      by None e g = absurd (none-some change g)
      by (Some at) e g =
          let one = some_there (begun call.stage) (begun_wants_account call at e) in
          made_then (take_account number call) (slice_get world.accounts at) change ChangesFreed
          (λ lock e g. where_free (is_none lock.holder) (of_account (record call { has_account = true }) (held number lock)) change ChangesFreed (begun_freed call.stage one.0 call.has_book true one.1) g) g
  change_freed action.Order change h =
      made (order world.config (known_to world call) call) (ready call) change ChangesFreed
      (λ own e. after_freed world.config (known_to world call) own (verdict world.config (known_to world call) own) call.has_book call.has_account
      (needs_none own (only_if _ (begun call.stage) own e))) h
  change_freed action.PutAccount change h =
      made_then (λ (c : Carried). option_map (put_account call c) (lock_at world.accounts call.account)) (for_account call) change ChangesFreed
      (λ c e g. made (put_account call c) (lock_at world.accounts call.account) change ChangesFreed
      (λ lock f. ordered_freed call.stage c call.has_book false (only_if _ (ordered call.stage) c e)) g) h
  change_freed action.PutBook change h =
      made_then (λ (c : Carried). option_map (put_book call c) (lock_at world.books call.book)) (for_book call) change ChangesFreed
      (λ c e g. made (put_book call c) (lock_at world.books call.book) change ChangesFreed (λ lock f. tt) g) h
  change_freed (action.Collect operator) change h = by (slice_get world.config.operators operator) (slice_get world.books operator) h
    where
      free : (b : Bool) (party : Operator) (entries : List BookEntry)
          → (if b then option_map (λ (s : Stage). of_call (record call { stage = s })) (collected world.config operator party entries call.stage) else None) ≡ Some change → ChangesFreed change
      free true party entries g =
          made (λ (s : Stage). of_call (record call { stage = s })) (collected world.config operator party entries call.stage) change ChangesFreed
          (λ s e. collected_freed world.config operator party entries call.stage s call.has_book call.has_account e freed) g
      free false party entries g = absurd (none-some change g)

      by : (party : Option Operator) (lock : Option (Lock BookEntry)) → collect_at world.config operator call party lock ≡ Some change → ChangesFreed change
      by None lock g = absurd (none-some change g)
      by (Some party) None g = absurd (none-some change g)
      by (Some party) (Some lock) g = free (is_none lock.holder) party lock.entries g
  change_freed action.Abandon change h =
      made (λ (own : Command). abandon call (lock_at world.books (held_book call)) (lock_at world.accounts (held_account call))) (begun call.stage) change ChangesFreed
      (λ own e. (refl, refl)) h
  change_freed action.End change h =
      made (λ (t : ReplyDue). end call) (reply_due call) change ChangesFreed (λ t e. due_freed call.stage t call.has_book call.has_account e freed) h

abbrev AllFreed : PlainWorld → Type 0
AllFreed world = (n : ℕ) (call : RunningCall) → slice_get world.calls n ≡ Some call → IsFreed call

module _ (config : Config) (commands : List Command) (laws : HouseLaws) (is_config : IsConfiguration config) where
  step_freed : (events : List Event) (world : PlainWorld) (one : Step) → Holds config commands events world → AllFreed world → AllFreed (step world one)
  step_freed events world one holds all = by (slice_get world.calls one.call) refl
    where
      put : (call : RunningCall) → slice_get world.calls one.call ≡ Some call → (o : Option Change) → change_by world one.call call one.action ≡ o → AllFreed (changed world one.call o)
      put call is None e n other there = all n other there
      put call is (Some change) e n other there = ⊎_elim
          (λ (same : n ≡ one.call).
          subst IsFreed (same_Some change.call other (sym (get-set_same world.calls one.call change.call call is) ∙ ap (slice_get (slice_set world.calls one.call change.call)) (sym same) ∙ there))
          (change_freed config commands events world holds one.call call is (all one.call call is) one.action change e))
          (λ (apart : n ≢ one.call). all n other (sym (get-set_other world.calls one.call n change.call apart) ∙ there))
          (cases_eq n one.call)

      by : (o : Option RunningCall) → slice_get world.calls one.call ≡ o → AllFreed (changed world one.call (option_and_then (λ (call : RunningCall). change_by world one.call call one.action) o))
      by None e = all
      by (Some call) e = put call e (change_by world one.call call one.action) refl

  -- what holds between steps, and that
  abbrev Both : List Event → PlainWorld → Type 0
  Both events world = Holds config commands events world × AllFreed world

  both_kept : (events : List Event) (world : PlainWorld) (one : Step) → Both events world → Both (events_behind config events (option_to_list (orders world one))) (step world one)
  both_kept events world one both = (keeps config commands laws is_config events world one both.0, step_freed events world one both.0 both.1)

  module _ (empty : EmptyListsAreLegal) (admitted : (n : ℕ) (own : Command) → slice_get commands n ≡ Some own → IsAdmitted config own) where
    abbrev first : PlainWorld
    first = start config commands

    both_after : (steps : List Step) → Both (events_behind config [] (ordered_commands first steps)) (after first steps)
    both_after steps =
        all_kept config commands Both both_kept (λ events world one both. finishes_well config commands laws is_config events world one both.0) [] first steps (
          starts config commands laws is_config empty admitted,
          (λ n call there. let one = waiting_at config commands laws is_config empty admitted commands n call there in subst IsFreed one.2 tt),
        )

    -- ---- calls that ended

    after_rank : (world : PlainWorld) (steps : List Step) (n : ℕ) → rank_at world n ≤ rank_at (after world steps) n
    after_rank world [] n = omega arith
    after_rank world (one ∷ later) n =
        let here = step_rank world one n in
        let rest = after_rank (step world one) later n in
        omega (arith, here, rest)

    have_ended : (world : PlainWorld) (steps : List Step) → AllByRecursion (λ (f : Finished). 3 ≤ rank_at (after world steps) f.call) (finished world steps)
    have_ended world [] = tt
    have_ended world (one ∷ later) =
        each-append (λ (f : Finished). 3 ≤ rank_at (after (step world one) later) f.call) (option_to_list (finishes world one)) (finished (step world one) later)
        (here (finishes world one) refl) (have_ended (step world one) later)
      where
        here : (o : Option Finished) → finishes world one ≡ o → AllByRecursion (λ (f : Finished). 3 ≤ rank_at (after (step world one) later) f.call) (option_to_list o)
        here None e = tt
        here (Some f) e =
            let far = (end_rank world one f e).2 in
            let rest = after_rank (step world one) later f.call in
            (omega (arith, far, rest), tt)

    far_freed : (s : Stage) (book account : Bool) → 3 ≤ rank s → FreedAt s book account → AreFreed book account
    far_freed (stage.Waiting c) book account far is = absurd (omega (arith, far))
    far_freed (stage.Begun c) book account far is = absurd (omega (arith, far))
    far_freed (stage.Ordered c) book account far is = absurd (omega (arith, far))
    far_freed (stage.Netting c) book account far is = is
    far_freed (stage.Stating c) book account far is = is
    far_freed stage.Ended book account far is = is

    none_held : (has : Bool) (lock : Option ℕ) (n : ℕ) → has ≡ false → (if has then lock else None) ≡ Some n → ⊥
    none_held has lock n without h = none-some n (sym (ap (λ (b : Bool). if b then lock else None) without) ∙ h)

    module _ (steps : List Step) where
      ended_freed : (f : Finished) → 3 ≤ rank_at (after first steps) f.call → HasNoLock (after first steps) f.call
      ended_freed f far = record {
        book = λ n e.
            let it = (both_after steps).0.books.holder n f.call e in
            none_held it.0.has_book it.0.book n (freed it.0 it.1).0 it.2;
        account = λ n e.
            let it = (both_after steps).0.accounts.holder n f.call e in
            none_held it.0.has_account it.0.account n (freed it.0 it.1).1 it.2;
      }
        where
          freed : (call : RunningCall) → slice_get (after first steps).calls f.call ≡ Some call → AreFreed call.has_book call.has_account
          freed call is =
              let same : rank_at (after first steps) f.call ≡ rank call.stage = rank_is (after first steps) f.call call is in
              far_freed call.stage call.has_book call.has_account (omega (arith, far, same)) ((both_after steps).1 f.call call is)

      pub are_freed : AllByRecursion (λ (f : Finished). HasNoLock (after first steps) f.call) (finished first steps)
      are_freed =
          each_then (λ (f : Finished). 3 ≤ rank_at (after first steps) f.call) (λ (f : Finished). HasNoLock (after first steps) f.call) (finished first steps) ended_freed (have_ended first steps)
