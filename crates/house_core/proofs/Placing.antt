-- Each command gets its place in the order: with its reply and its event, or with all books still to be collected.
use Rattle.std.proofs.Common.{◌≡◌, ◌<◌, ◌+◌, ◌||◌, ◌==◌, ℕ, Bool, true, false, if◌then◌else◌, cond, List, [], ◌∷◌, ◌++◌, refl, sym, ap, ap₂, subst, ◌∙◌, length, count_by, replicate, Option, None, Some, Ok, Err, is_none, option_map, option_to_list, slice_get, slice_set, append-nil, nat_lt, arith}
use Rattle.std.proofs.lemmas.Bool.Decides.{nat_tests}
use Rattle.std.proofs.lemmas.List.Sums.{sum_by-append}
use Rattle.ocpi_types.specs.declared.config.Config.{Config}
use Rattle.ocpi_types.specs.declared.refusal.Refusal.{Refusal}
use Rattle.ocpi_types.specs.declared.refusal.Refusal.TheVariants as refusal
use Rattle.ocpi_types.specs.declared.refusal.Store.{Store}
use Rattle.ocpi_types.specs.declared.refusal.Store.TheVariants as store
use Rattle.cdr_checks.specs.declared.request.Close.{Close}
use Rattle.cdr_checks.specs.declared.request.Command.{Command}
use Rattle.cdr_checks.specs.declared.request.Command.TheVariants as command
use Rattle.cdr_checks.specs.declared.request.StatementOf.{StatementOf}
use Rattle.netting_positions.specs.Statement.{statement_rows}
use Rattle.plain_house.specs.declared.answer.Answer.TheVariants as answer
use Rattle.plain_house.specs.declared.entry.AccountEntry.{AccountEntry}
use Rattle.plain_house.specs.declared.entry.BookEntry.{BookEntry}
use Rattle.plain_house.specs.declared.event.Event.{Event}
use Rattle.plain_house.specs.declared.event.Event.TheVariants as event
use Rattle.plain_house.specs.Entries.{book_entries, is_close, period_of}
use Rattle.plain_house.specs.Full.{are_periods_full, first_full, is_order_full}
use Rattle.plain_house.specs.House.{events_after, positions_in, verdict}
use Rattle.plain_house.specs.Known.{Known, known}
use Rattle.plain_house.specs.Obligations.{obligations}
use Rattle.plain_house.specs.Replies.{stamped, with_event}
use Rattle.plain_house.specs.Verdict.{Verdict, accepts, refused_at, replies, unless}
use Rattle.period_order.specs.declared.decided.Outcome.{Outcome}
use Rattle.period_order.specs.declared.decided.Outcome.TheVariants as outcome
use Rattle.period_order.specs.Decided.{closed_by, event_of, outcome_of, replied_by, stated_by}
use Rattle.period_order.specs.Order.{is_close_entry}
use Rattle.period_order.specs.Places.{order_entry}
use Rattle.house_core.specs.declared.running_call.RunningCall.{RunningCall}
use Rattle.house_core.specs.declared.stage.Stage.{Stage}
use Rattle.house_core.specs.declared.stage.Stage.TheVariants as stage
use Rattle.house_core.specs.Calls.{collects, due_in_account, due_in_book}
use Rattle.house_core.specs.Inner.Collecting.{Fits, IsWhole}
use Rattle.house_core.specs.Inner.Sound.{Holds, IsAt, IsRunningCall}
use Rattle.period_order.specs.Kept.{IsConfiguration}
use Rattle.house_core.specs.Locks.{Lock, entries_at}
use Rattle.house_core.specs.OneHouse.{IsAnswered}
use Rattle.house_core.specs.Steps.{changed, known_to, order, stage_after}
use Rattle.house_core.specs.World.{PlainWorld}
use Rattle.house_core.proofs.CollectingLemmas.{fits_first, whole_first}
use Rattle.house_core.specs.Inner.HouseLaws.{HouseLaws}
use Rattle.house_core.proofs.Ordering.{answered_last, at_point, decided_alike, holds_with, in_account_of, in_book_of, in_period}
use Rattle.house_core.proofs.StepLemmas.{no_lock}

-- the outcome of a command that collects no books is its verdict
pub outcome_is : (config : Config) (known : Known) (own : Command) → collects own ≡ false → outcome_of own (verdict config known own) ≡ replied_by (verdict config known own)
outcome_is config known (command.PutTariff tariff) e = refl
outcome_is config known (command.PutToken token) e = refl
outcome_is config known (command.Authorize ask) e = refl
outcome_is config known (command.Release release) e = refl
outcome_is config known (command.Post checked) e = refl
outcome_is config known (command.Close close) e = absurd (cc)
outcome_is config known (command.Settle settlement) e = refl
outcome_is config known (command.Exposure ask) e = refl
outcome_is config known (command.Find find) e = refl
outcome_is config known (command.Statement ask) e = absurd (cc)

same_number : (a b : ℕ) → (a == b) ≡ true → a ≡ b
same_number a b e = grind (arith, nat_tests)

pub is_less : (a b : ℕ) → nat_lt a b ≡ true → a < b
is_less a b e = grind (arith, nat_tests)

module _ (laws : HouseLaws) (config : Config) (is_config : IsConfiguration config) (commands : List Command) (events : List Event) (world : PlainWorld)
    (holds : Holds config commands events world) (number : ℕ) (book account : Option ℕ) (has_book has_account : Bool) (begin : ℕ) where
  abbrev call_at : Stage → RunningCall
  call_at s = record { book = book; account = account; has_book = has_book; has_account = has_account; begin = begin; stage = s }

  -- what holds, holds with its event; and this is the event of what it comes to
  pub record Placed (own : Command) : Type 0 where
    pub holds_then : Holds config commands (events_after config events own) (changed world number (Some (order world.config (known_to world (call_at (stage.Begun own))) (call_at (stage.Begun own)) own)))
    pub event : event_of (outcome_of own (verdict config (known_to world (call_at (stage.Begun own))) own)) ≡ (verdict config (known events) own).event

  module _ (own : Command) (is : slice_get world.calls number ≡ Some (call_at (stage.Begun own))) (named : slice_get commands number ≡ Some own)
      (mine : IsRunningCall config events own (call_at (stage.Begun own)))
      (its_book : (is_none book || has_book) ≡ true) (its_account : (is_none account || has_account) ≡ true) where
    abbrev seen : Known
    seen = known_to world (call_at (stage.Begun own))

    -- the world behind such an outcome
    abbrev world_as : List (Lock BookEntry) → List (Lock AccountEntry) → Outcome → PlainWorld
    world_as books accounts outcome = record {
      config = world.config;
      books = books;
      accounts = accounts;
      order = world.order ++ option_to_list (option_map (order_entry config (length (entries_at world.books book)) (length (entries_at world.accounts account))) (event_of outcome));
      calls = slice_set world.calls number (call_at (stage_after config seen outcome));
    }

    -- by the outcome of what is known to the call, and the verdict of all events
    placed : (o : Outcome) (judged : Verdict) → outcome_of own (verdict config seen own) ≡ o → verdict config (known events) own ≡ judged → event_of o ≡ judged.event
        → due_in_book (call_at (stage_after config seen o)) ≡ (if has_book then in_book_of config commands events world holds number book account has_book has_account begin own is named mine its_book its_account laws is_config.distinct (event_of o) else [])
        → due_in_account (call_at (stage_after config seen o)) ≡ (if has_account then in_account_of config commands events world holds number book account has_book has_account begin own is named mine its_book its_account laws is_config.distinct (event_of o) else [])
        → IsAt config (with_event events (event_of o)) own begin (stage_after config seen o) → Placed own
    placed o judged is_o is_judged event_is for_book for_account at =
        let given : (verdict config (known events) own).event ≡ event_of o = ap (λ (v : Verdict). v.event) is_judged ∙ sym event_is in
        let kept : Holds config commands (with_event events (event_of o)) (world_as world.books world.accounts o) =
        holds_with config commands events world holds number book account has_book has_account begin own is named mine its_book its_account laws is_config.distinct (stage_after config seen o) (event_of o) given for_book for_account at in
        let same : world_as world.books world.accounts o ≡ changed world number (Some (order world.config seen (call_at (stage.Begun own)) own)) =
        (λ i. world_as (sym (no_lock world.books book) i) (sym (no_lock world.accounts account) i) (sym is_o i))
        ∙ ap (λ c. changed world number (Some (order c seen (call_at (stage.Begun own)) own))) (sym holds.config_is) in
        record {
          holds_then =
              subst (λ w. Holds config commands (events_after config events own) w) same
              (subst (λ (e : Option Event). Holds config commands (with_event events e) (world_as world.books world.accounts o)) (sym given) kept);
          event = ap event_of is_o ∙ sym given;
        }

    point_is : length world.order ≡ length events
    point_is = at_point config commands events world holds number book account has_book has_account begin own is named mine its_book its_account laws is_config.distinct

    period_is : count_by is_close_entry world.order ≡ period_of events
    period_is = in_period config commands events world holds number book account has_book has_account begin own is named mine its_book its_account laws is_config.distinct

    answered : (judged : Verdict) → verdict config (known events) own ≡ judged
        → IsAnswered config (with_event events judged.event) own begin (length (with_event events judged.event)) (length world.order) (stamped (length world.order) judged.reply)
    answered judged is_judged =
        subst (λ (n : ℕ). IsAnswered config (with_event events judged.event) own begin (length (with_event events judged.event)) n (stamped n judged.reply)) (sym point_is)
        (answered_last config commands events world holds number book account has_book has_account begin own is named mine its_book its_account laws is_config.distinct judged is_judged)

    entry_placed : collects own ≡ false → Placed own
    entry_placed entry =
        let judged : Verdict = verdict config seen own in
        let alike : verdict config (known events) own ≡ judged =
        sym (decided_alike config commands events world holds number book account has_book has_account begin own is named mine its_book its_account laws is_config.distinct entry) in
        placed (replied_by judged) judged (outcome_is config seen own entry) alike refl refl refl (answered judged alike)

    refused_placed : (reason : Refusal) → outcome_of own (verdict config seen own) ≡ outcome.Replied (Err reason) None → verdict config (known events) own ≡ replies (Err reason) → Placed own
    refused_placed reason is_o is_judged = placed (outcome.Replied (Err reason) None) (replies (Err reason)) is_o is_judged refl refl refl (answered (replies (Err reason)) is_judged)

  -- ---- a close

  module _ (close : Close) (is : slice_get world.calls number ≡ Some (call_at (stage.Begun (command.Close close)))) (named : slice_get commands number ≡ Some (command.Close close))
      (mine : IsRunningCall config events (command.Close close) (call_at (stage.Begun (command.Close close))))
      (its_book : (is_none book || has_book) ≡ true) (its_account : (is_none account || has_account) ≡ true) where
    abbrev close_seen : Known
    close_seen = known_to world (call_at (stage.Begun (command.Close close)))

    abbrev full_at : ℕ → ℕ → Option Store
    full_at point period = first_full ((store.Order, is_order_full config point) ∷ (store.Periods, are_periods_full config period) ∷ [])

    abbrev judged_by : List BookEntry → ℕ → Bool → Option Store → Verdict
    judged_by entries period is_current full =
        unless ((if is_current then None else Some (Err (refusal.NotCurrent period))) ∷ refused_at full ∷ [])
        (accepts (answer.Closed close.period (positions_in config entries close.period)) (event.Closed close.period))

    outcome_by : (is_current : Bool) (full : Option Store) → (close.period == period_of events) ≡ is_current → full_at (length events) (period_of events) ≡ full
        → outcome_of (command.Close close) (verdict config close_seen (command.Close close)) ≡ closed_by close.period (judged_by close_seen.book (period_of events) is_current full).reply
    outcome_by is_current full e f =
        ap₂ (λ (point period : ℕ). closed_by close.period (judged_by close_seen.book period (close.period == period) (full_at point period)).reply)
        (point_is (command.Close close) is named mine its_book its_account) (period_is (command.Close close) is named mine its_book its_account)
        ∙ ap₂ (λ (b : Bool) (o : Option Store). closed_by close.period (judged_by close_seen.book (period_of events) b o).reply) e f

    verdict_by : (is_current : Bool) (full : Option Store) → (close.period == period_of events) ≡ is_current → full_at (length events) (period_of events) ≡ full
        → verdict config (known events) (command.Close close) ≡ judged_by (book_entries events) (period_of events) is_current full
    verdict_by is_current full e f = ap₂ (λ (b : Bool) (o : Option Store). judged_by (book_entries events) (period_of events) b o) e f

    abbrev closed_now : List Event
    closed_now = events ++ event.Closed close.period ∷ []

    same_entries : book_entries closed_now ≡ book_entries events
    same_entries = (laws.dated events (event.Closed close.period) []).in_books ∙ append-nil (book_entries events)

    close_at : (close.period == period_of events) ≡ true → full_at (length events) (period_of events) ≡ None
        → IsAt config closed_now (command.Close close) begin (stage_after config close_seen (outcome.Closed close.period))
    close_at e f =
        let last : period_of closed_now ≡ period_of events + 1 = sum_by-append (λ x. cond (is_close x) 1 0) events (event.Closed close.period ∷ []) in
        let current : close.period ≡ period_of events = same_number close.period (period_of events) e in
        record {
          answered =
              subst (λ (entries : List BookEntry). IsAnswered config closed_now (command.Close close) begin (length closed_now) (length world.order) (stamped (length world.order) (Ok (answer.Closed close.period (positions_in config entries close.period)))))
              (sym same_entries)
              (answered (command.Close close) is named mine its_book its_account (judged_by (book_entries events) (period_of events) true None) (verdict_by true None e f));
          closed = omega (arith, last, current);
          parties_are = refl;
          currencies_are = refl;
          collected =
              subst (λ (entries : List BookEntry). IsWhole config (obligations close.period entries) (replicate (length config.operators) false) []) (sym same_entries)
              (whole_first laws config is_config close.period events holds.kept.legal);
          fits =
              subst (λ (entries : List BookEntry). Fits config (obligations close.period entries) (replicate (length config.operators) false) []) (sym same_entries)
              (fits_first laws config is_config close.period events holds.kept.legal);
        }

    closing : (is_current : Bool) (full : Option Store) → (close.period == period_of events) ≡ is_current → full_at (length events) (period_of events) ≡ full → Placed (command.Close close)
    closing true None e f =
        placed (command.Close close) is named mine its_book its_account (outcome.Closed close.period) (judged_by (book_entries events) (period_of events) true None)
        (outcome_by true None e f) (verdict_by true None e f) refl refl refl (close_at e f)
    closing true (Some what) e f =
        refused_placed (command.Close close) is named mine its_book its_account (refusal.Full what) (outcome_by true (Some what) e f) (verdict_by true (Some what) e f)
    closing false full e f =
        refused_placed (command.Close close) is named mine its_book its_account (refusal.NotCurrent (period_of events)) (outcome_by false full e f) (verdict_by false full e f)

    close_placed : Placed (command.Close close)
    close_placed = closing (close.period == period_of events) (full_at (length events) (period_of events)) refl refl

  -- ---- a statement

  module _ (ask : StatementOf) (is : slice_get world.calls number ≡ Some (call_at (stage.Begun (command.Statement ask)))) (named : slice_get commands number ≡ Some (command.Statement ask))
      (mine : IsRunningCall config events (command.Statement ask) (call_at (stage.Begun (command.Statement ask))))
      (its_book : (is_none book || has_book) ≡ true) (its_account : (is_none account || has_account) ≡ true) where
    abbrev ask_seen : Known
    ask_seen = known_to world (call_at (stage.Begun (command.Statement ask)))

    abbrev stated_by_rows : List BookEntry → Bool → Verdict
    stated_by_rows entries is_closed =
        unless ((if is_closed then None else Some (Err refusal.PeriodOpen)) ∷ []) (replies (Ok (answer.Statement (statement_rows ask.party (obligations ask.period entries)))))

    state_outcome : (is_closed : Bool) → nat_lt ask.period (period_of events) ≡ is_closed
        → outcome_of (command.Statement ask) (verdict config ask_seen (command.Statement ask)) ≡ stated_by ask (stated_by_rows ask_seen.book is_closed).reply
    state_outcome is_closed e =
        ap (λ (period : ℕ). stated_by ask (stated_by_rows ask_seen.book (nat_lt ask.period period)).reply) (period_is (command.Statement ask) is named mine its_book its_account)
        ∙ ap (λ (b : Bool). stated_by ask (stated_by_rows ask_seen.book b).reply) e

    state_verdict : (is_closed : Bool) → nat_lt ask.period (period_of events) ≡ is_closed
        → verdict config (known events) (command.Statement ask) ≡ stated_by_rows (book_entries events) is_closed
    state_verdict is_closed e = ap (λ (b : Bool). stated_by_rows (book_entries events) b) e

    stating : (is_closed : Bool) → nat_lt ask.period (period_of events) ≡ is_closed → Placed (command.Statement ask)
    stating true e =
        let judged : Verdict = stated_by_rows (book_entries events) true in
        placed (command.Statement ask) is named mine its_book its_account (outcome.Stated ask) judged (state_outcome true e) (state_verdict true e) refl refl refl
        (record {
          answered = answered (command.Statement ask) is named mine its_book its_account judged (state_verdict true e);
          closed = is_less ask.period (period_of events) e;
          parties_are = refl;
          currencies_are = refl;
          collected = whole_first laws config is_config ask.period events holds.kept.legal;
          fits = fits_first laws config is_config ask.period events holds.kept.legal;
        })
    stating false e =
        refused_placed (command.Statement ask) is named mine its_book its_account refusal.PeriodOpen (state_outcome false e) (state_verdict false e)

    statement_placed : Placed (command.Statement ask)
    statement_placed = stating (nat_lt ask.period (period_of events)) refl

  -- ---- any command

  pub is_placed : (own : Command) → slice_get world.calls number ≡ Some (call_at (stage.Begun own)) → slice_get commands number ≡ Some own
      → IsRunningCall config events own (call_at (stage.Begun own)) → (is_none book || has_book) ≡ true → (is_none account || has_account) ≡ true → Placed own
  is_placed (command.PutTariff tariff) is named mine its_book its_account = entry_placed (command.PutTariff tariff) is named mine its_book its_account refl
  is_placed (command.PutToken token) is named mine its_book its_account = entry_placed (command.PutToken token) is named mine its_book its_account refl
  is_placed (command.Authorize ask) is named mine its_book its_account = entry_placed (command.Authorize ask) is named mine its_book its_account refl
  is_placed (command.Release release) is named mine its_book its_account = entry_placed (command.Release release) is named mine its_book its_account refl
  is_placed (command.Post checked) is named mine its_book its_account = entry_placed (command.Post checked) is named mine its_book its_account refl
  is_placed (command.Close close) is named mine its_book its_account = close_placed close is named mine its_book its_account
  is_placed (command.Settle settlement) is named mine its_book its_account = entry_placed (command.Settle settlement) is named mine its_book its_account refl
  is_placed (command.Exposure ask) is named mine its_book its_account = entry_placed (command.Exposure ask) is named mine its_book its_account refl
  is_placed (command.Find find) is named mine its_book its_account = entry_placed (command.Find find) is named mine its_book its_account refl
  is_placed (command.Statement ask) is named mine its_book its_account = statement_placed ask is named mine its_book its_account
