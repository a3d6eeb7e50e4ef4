-- A command that has its place in the order, and what is left to be collected for it.
use Rattle.std.proofs.Common.{◌≡◌, ◌<◌, ℕ, nat_lt, List, [], ◌∷◌, ◌++◌, Bool, true, false, if◌then◌else◌, refl, sym, ap, ap₂, subst, ◌∙◌, ltb-true, Option, None, Some, Result, Ok, Err, IfOk, OnErr, append-nil, length}
use Rattle.ocpi_types.specs.declared.config.Config.{Config}
use Rattle.ocpi_types.specs.declared.party.Party.{Party}
use Rattle.ocpi_types.specs.declared.refusal.Refusal.{Refusal}
use Rattle.ocpi_types.specs.declared.refusal.Refusal.TheVariants as refusal
use Rattle.cdr_checks.specs.declared.request.Command.{Command}
use Rattle.cdr_checks.specs.declared.request.Command.TheVariants as command
use Rattle.cdr_checks.specs.declared.request.StatementOf.{StatementOf}
use Rattle.cdr_checks.specs.Parties.{HasParties, operator_of_command, provider_of_command}
use Rattle.operator_book.specs.State.{PlainBook}
use Rattle.provider_account.specs.State.{PlainAccount}
use Rattle.netting_positions.specs.Statement.{statement_rows}
use Rattle.plain_house.specs.declared.answer.Answer.{Answer}
use Rattle.plain_house.specs.declared.answer.Answer.TheVariants as answer
use Rattle.plain_house.specs.declared.entry.BookEntry.{BookEntry}
use Rattle.plain_house.specs.declared.event.Event.{Event}
use Rattle.plain_house.specs.declared.event.Event.TheVariants as event
use Rattle.plain_house.specs.Entries.{EntriesAreDated, account_entries, book_entries, period_of}
use Rattle.plain_house.specs.House.{events_after, verdict}
use Rattle.plain_house.specs.Known.{known}
use Rattle.plain_house.specs.Obligations.{obligations}
use Rattle.plain_house.specs.Own.{of_account, of_operator}
use Rattle.plain_house.specs.Replies.{with_event}
use Rattle.plain_house.specs.Verdict.{Verdict, replies, unless}
use Rattle.period_order.specs.declared.decided.Decided.{Decided}
use Rattle.period_order.specs.declared.decided.Outcome.{Outcome}
use Rattle.period_order.specs.declared.decided.Outcome.TheVariants as outcome
use Rattle.period_order.specs.declared.decided.Outcome.TheVariants.{Stated as StatedOutcome}
use Rattle.period_order.specs.Decided.{Collects, Decides, closed_by, event_of, is_close_command, is_statement_command, outcome_of, seen, stated_by, verdict_with}
use Rattle.period_order.specs.Judging.{JudgedByOwnEntries, MayJudge}
use Rattle.period_order.specs.Kept.{Keeps}
use Rattle.period_order.specs.Order.{PlainOrder}
use Rattle.period_order.specs.Inner.Collected.{IsReached, IsTableFor, table_of, without_event}
use Rattle.period_order.specs.Inner.Kept.{AreAsBefore, AreKept, IsKept, kept_events}
use Rattle.period_order.specs.Resolved.{OrdersAreResolved, entries_of_accounts, entries_of_books}
use Rattle.period_order.proofs.JudgingLemmas.{same_verdict}
use Rattle.period_order.proofs.PerformLemmas.{are_of_account, are_of_book, event_is, kept_is, kept_still, point_kept, the_account, the_book, verdict_is}

-- a close and a statement look into no book alone
of_no_operator_close : (told : Command) → is_close_command told ≡ true → operator_of_command told ≡ None
of_no_operator_close (command.PutTariff tariff) h = absurd (cc)
of_no_operator_close (command.PutToken token) h = refl
of_no_operator_close (command.Authorize ask) h = refl
of_no_operator_close (command.Release release) h = refl
of_no_operator_close (command.Post checked) h = absurd (cc)
of_no_operator_close (command.Close close) h = refl
of_no_operator_close (command.Settle settlement) h = refl
of_no_operator_close (command.Exposure ask) h = refl
of_no_operator_close (command.Find find) h = absurd (cc)
of_no_operator_close (command.Statement ask) h = refl

of_no_operator_statement : (told : Command) → is_statement_command told ≡ true → operator_of_command told ≡ None
of_no_operator_statement (command.PutTariff tariff) h = absurd (cc)
of_no_operator_statement (command.PutToken token) h = refl
of_no_operator_statement (command.Authorize ask) h = refl
of_no_operator_statement (command.Release release) h = refl
of_no_operator_statement (command.Post checked) h = absurd (cc)
of_no_operator_statement (command.Close close) h = refl
of_no_operator_statement (command.Settle settlement) h = refl
of_no_operator_statement (command.Exposure ask) h = refl
of_no_operator_statement (command.Find find) h = absurd (cc)
of_no_operator_statement (command.Statement ask) h = refl

-- a close adds nothing to a book
same_books : EntriesAreDated → (events : List Event) (period : ℕ) → book_entries (events ++ event.Closed period ∷ []) ≡ book_entries events
same_books dated events period = (dated events (event.Closed period) []).in_books ∙ append-nil (book_entries events)

-- what is left to be collected is the same once the event is put
pub reply_left : EntriesAreDated → (config : Config) (told : Command) (events : List Event) (outcome : Outcome) → Collects told outcome
    → (verdict_with config (of_operator (operator_of_command told) (book_entries events)) outcome).reply
    ≡ (verdict_with config (book_entries (with_event events (event_of outcome))) (without_event outcome)).reply
reply_left dated config told events (outcome.Replied reply added) collects = refl
reply_left dated config told events (outcome.Closed period) collects =
    ap (λ (o : Option Party). (verdict_with config (of_operator o (book_entries events)) (outcome.Closed period)).reply) (of_no_operator_close told collects)
    ∙ ap (λ (entries : List BookEntry). (verdict_with config entries (outcome.Closed period)).reply) (sym (same_books dated events period))
reply_left dated config told events (outcome.Stated ask) collects =
    ap (λ (o : Option Party). (verdict_with config (of_operator o (book_entries events)) (outcome.Stated ask)).reply) (of_no_operator_statement told collects)

-- the command's table is the one for what is left
pub table_for : (config : Config) (told : Command) (judged : Verdict) (outcome : Outcome) → outcome ≡ outcome_of told judged
    → IsTableFor config (without_event outcome) (table_of config told)
table_for config told judged reached is = subst (λ (o : Outcome). IsTableFor config (without_event o) (table_of config told)) (sym is) (by told)
  where
    closes : (period : ℕ) (reply : Result Answer Refusal) (told : Command) → IsTableFor config (outcome.Closed period) (table_of config told)
        → IsTableFor config (without_event (closed_by period reply)) (table_of config told)
    closes period (Ok told_answer) told h = h
    closes period (Err refusal) told h = tt

    by : (told : Command) → IsTableFor config (without_event (outcome_of told judged)) (table_of config told)
    by (command.PutTariff tariff) = tt
    by (command.PutToken token) = tt
    by (command.Authorize ask) = tt
    by (command.Release release) = tt
    by (command.Post checked) = tt
    by (command.Close close) = closes close.period judged.reply (command.Close close) refl
    by (command.Settle settlement) = tt
    by (command.Exposure ask) = tt
    by (command.Find find) = tt
    by (command.Statement ask) = states judged.reply
      where
        states : (reply : Result Answer Refusal) → IsTableFor config (without_event (stated_by ask reply)) (table_of config (command.Statement ask))
        states (Ok told_answer) = refl
        states (Err refusal) = tt

-- ---- what is left is of an outcome that closes or states

left_closed : (reached : Outcome) (period : ℕ) → without_event reached ≡ outcome.Closed period → reached ≡ outcome.Closed period
left_closed (outcome.Replied reply added) period h = absurd (cc)
left_closed (outcome.Closed own) period h = h
left_closed (outcome.Stated ask) period h = absurd (cc)

left_stated : (reached : Outcome) (ask : StatementOf) → without_event reached ≡ outcome.Stated ask → reached ≡ outcome.Stated ask
left_stated (outcome.Replied reply added) ask h = absurd (cc)
left_stated (outcome.Closed own) ask h = absurd (cc)
left_stated (outcome.Stated own) ask h = h

-- rows are left of that command alone
statement_of : (told : Command) (judged : Verdict) (ask : StatementOf) → outcome_of told judged ≡ outcome.Stated ask → told ≡ command.Statement ask
statement_of (command.PutTariff tariff) judged ask h = absurd (cc)
statement_of (command.PutToken token) judged ask h = absurd (cc)
statement_of (command.Authorize own) judged ask h = absurd (cc)
statement_of (command.Release release) judged ask h = absurd (cc)
statement_of (command.Post checked) judged ask h = absurd (cc)
statement_of (command.Close close) judged ask h = by judged.reply h
  where
    by : (reply : Result Answer Refusal) → closed_by close.period reply ≡ outcome.Stated ask → command.Close close ≡ command.Statement ask
    by (Ok answer) g = absurd (cc)
    by (Err refusal) g = absurd (cc)
statement_of (command.Settle settlement) judged ask h = absurd (cc)
statement_of (command.Exposure own) judged ask h = absurd (cc)
statement_of (command.Find find) judged ask h = absurd (cc)
statement_of (command.Statement own) judged ask h = by judged.reply h
  where
    by : (reply : Result Answer Refusal) → stated_by own reply ≡ outcome.Stated ask → command.Statement own ≡ command.Statement ask
    by (Ok answer) g = let same : own ≡ ask = cc in ap command.Statement same
    by (Err refusal) g = absurd (cc)

-- and where they are given the period is closed
closed_where_given : (config : Config) (events : List Event) (ask : StatementOf) (given : Answer) → (verdict config (known events) (command.Statement ask)).reply ≡ Ok given → ask.period < period_of events
closed_where_given config events ask given h = by (nat_lt ask.period (period_of events)) refl h
  where
    rows : Verdict
    rows = replies (Ok (answer.Statement (statement_rows ask.party (obligations ask.period (book_entries events)))))

    by : (b : Bool) → nat_lt ask.period (period_of events) ≡ b → (unless ((if b then None else Some (Err refusal.PeriodOpen)) ∷ []) rows).reply ≡ Ok given → ask.period < period_of events
    by true e g = ltb-true ask.period (period_of events) e
    by false e g = absurd (cc)

-- the command is reached
module _ (config : Config) (books : List PlainBook) (accounts : List PlainAccount) (order : PlainOrder) (events : List Event)
    (keeps : Keeps config (entries_of_books books) (entries_of_accounts accounts) order.entries events) (told : Command) (parties_of : HasParties config told)
    (judge : Config) (outcome : Outcome) (decides : Decides judge (the_book config books accounts order events keeps told parties_of) (the_account config books accounts order events keeps told parties_of) order told outcome)
    (laws : JudgedByOwnEntries) where
  judged : verdict judge (known events) told ≡ verdict_with judge (of_operator (operator_of_command told) (book_entries events)) outcome
  judged = verdict_is config books accounts order events keeps told parties_of laws judge outcome decides

  pub reached : MayJudge judge config → EntriesAreDated → (decided : Decided) (now : List Event) → decided.point ≡ length order.entries → decided.outcome ≡ without_event outcome
      → now ≡ with_event events (event_of outcome) → IsReached judge config events told decided now
  reached judges dated decided now at left is =
      record {
        point_is = at ∙ point_kept config (entries_of_books books) (entries_of_accounts accounts) order.entries events keeps told parties_of;
        reply_is =
            ap (λ (v : Verdict). v.reply) (judged ∙ same_verdict judge config judges (of_operator (operator_of_command told) (book_entries events)) outcome)
            ∙ reply_left dated config told events outcome decides.collects
            ∙ ap₂ (λ (l : List Event) (o : Outcome). (verdict_with config (book_entries l) o).reply) (sym is) (sym left);
        now_is =
            is ∙ ap (with_event events)
            (sym (ap (λ (v : Verdict). v.event) judged ∙ event_is judge (of_operator (operator_of_command told) (book_entries events)) outcome));
        table_is =
            subst (λ (o : Outcome). IsTableFor config o (table_of config told)) (sym left)
            (table_for config told _ outcome
            (decides.outcome_is (of_operator (operator_of_command told) (book_entries events)) (of_account (provider_of_command told) (account_entries events))
            (are_of_book config books accounts order events keeps told parties_of) (are_of_account config books accounts order events keeps told parties_of)));
        closes = λ period closed.
            ap (λ (v : Verdict). v.event) judged ∙ event_is judge (of_operator (operator_of_command told) (book_entries events)) outcome
            ∙ ap event_of (left_closed outcome period (sym left ∙ closed));
        states = λ ask stated. (asked ask stated, by ask (asked ask stated) (given ask stated));
      }
    where
      reached_by : outcome ≡ outcome_of told (verdict judge (seen (of_operator (operator_of_command told) (book_entries events)) (of_account (provider_of_command told) (account_entries events)) order) told)
      reached_by =
          decides.outcome_is (of_operator (operator_of_command told) (book_entries events)) (of_account (provider_of_command told) (account_entries events))
          (are_of_book config books accounts order events keeps told parties_of) (are_of_account config books accounts order events keeps told parties_of)

      asked : (ask : StatementOf) → decided.outcome ≡ StatedOutcome ask → told ≡ command.Statement ask
      asked ask stated = statement_of told _ ask (sym reached_by ∙ left_stated outcome ask (sym left ∙ stated))

      given : (ask : StatementOf) → decided.outcome ≡ StatedOutcome ask
          → (verdict judge (known events) told).reply ≡ Ok (answer.Statement (statement_rows ask.party (obligations ask.period (of_operator (operator_of_command told) (book_entries events)))))
      given ask stated =
          ap (λ (v : Verdict). v.reply) judged
          ∙ ap (λ (o : Outcome). (verdict_with judge (of_operator (operator_of_command told) (book_entries events)) o).reply) (left_stated outcome ask (sym left ∙ stated))

      by : (ask : StatementOf) → told ≡ command.Statement ask → {rows : Answer} → (verdict judge (known events) told).reply ≡ Ok rows → ask.period < period_of events
      by ask same {rows} reply = closed_where_given judge events ask rows (subst (λ (c : Command). (verdict judge (known events) c).reply ≡ Ok rows) same reply)

-- a house is kept, whether the command was reached or memory was refused
module _ (judge config : Config) (books now_books : List PlainBook) (accounts now_accounts : List PlainAccount) (order now_order : PlainOrder) (told : Command)
    (laws : OrdersAreResolved) (was : IsKept config books accounts order) where
  resolves : (events : List Event) → AreKept config now_books now_accounts now_order events → kept_events now_books now_accounts now_order ≡ events
  resolves events kept = kept_is config (entries_of_books now_books) (entries_of_accounts now_accounts) now_order.entries events laws kept

  still : AreAsBefore books now_books accounts now_accounts order now_order → AreKept config now_books now_accounts now_order (kept_events books accounts order)
  still err = kept_still config _ _ _ _ _ _ _ was err.books_are err.accounts_are err.order_is

  abbrev KeepsOn : Decided → Type 0
  KeepsOn decided = (events : List Event) → AreKept config books accounts order events → AreKept config now_books now_accounts now_order (events_after judge events told)

  abbrev ReachesOn : Decided → Type 0
  ReachesOn decided = (events : List Event) → AreKept config books accounts order events → IsReached judge config events told decided (events_after judge events told)

  pub house_kept : {E : Type 0} (result : Result Decided E) → IfOk result KeepsOn → OnErr result (AreAsBefore books now_books accounts now_accounts order now_order)
      → IsKept config now_books now_accounts now_order
  house_kept (Ok decided) kept err =
      let on = kept (kept_events books accounts order) was in
      subst (AreKept config now_books now_accounts now_order) (sym (resolves _ on)) on
  house_kept (Err e) kept err = subst (AreKept config now_books now_accounts now_order) (sym (resolves _ (still err))) (still err)

  pub house_reached : {E : Type 0} (result : Result Decided E) → IfOk result ReachesOn → IfOk result KeepsOn
      → IfOk result (λ decided. IsReached judge config (kept_events books accounts order) told decided (kept_events now_books now_accounts now_order))
  house_reached (Ok decided) reaches kept =
      subst (IsReached judge config (kept_events books accounts order) told decided) (sym (resolves _ (kept (kept_events books accounts order) was)))
      (reaches (kept_events books accounts order) was)
  house_reached (Err e) reaches kept = tt

  pub house_unchanged : {E : Type 0} (result : Result Decided E) → OnErr result (AreAsBefore books now_books accounts now_accounts order now_order)
      → OnErr result (kept_events now_books now_accounts now_order ≡ kept_events books accounts order)
  house_unchanged (Ok decided) err = tt
  house_unchanged (Err e) err = resolves _ (still err)
