-- What a close and a statement are told.
use Rattle.std.proofs.Common.{◌≡◌, ◌≤◌, ℕ, List, [], refl, sym, ap, ◌∙◌, subst, Option, None, Result, Ok, Err}
use Rattle.ocpi_types.specs.declared.config.Config.{Config}
use Rattle.ocpi_types.specs.declared.refusal.Refusal.{Refusal}
use Rattle.cdr_checks.specs.declared.request.Command.{Command}
use Rattle.cdr_checks.specs.declared.request.Close.{Close}
use Rattle.cdr_checks.specs.declared.request.StatementOf.{StatementOf}
use Rattle.cdr_checks.specs.declared.request.Command.TheVariants as command
use Rattle.netting_positions.specs.declared.positions.NetPosition.{NetPosition}
use Rattle.netting_positions.specs.declared.row.StatementRow.{StatementRow}
use Rattle.netting_positions.specs.Statement.{statement_rows}
use Rattle.plain_house.specs.declared.answer.Answer.{Answer}
use Rattle.plain_house.specs.declared.answer.Answer.TheVariants as answer
use Rattle.plain_house.specs.declared.event.Event.{Event}
use Rattle.plain_house.specs.House.{positions_in, verdict}
use Rattle.plain_house.specs.Obligations.{obligations}
use Rattle.plain_house.specs.Replies.{Reply, stamped}
use Rattle.plain_house.specs.Verdict.{Verdict}
use Rattle.period_order.specs.declared.decided.Decided.{Decided}
use Rattle.period_order.specs.declared.decided.Outcome.{Outcome}
use Rattle.period_order.specs.declared.decided.Outcome.TheVariants as outcome
use Rattle.period_order.specs.Decided.{Decides, closed_by, seen, stated_by}
use Rattle.period_order.specs.Order.{PlainOrder, point_of}
use Rattle.shared_house.specs.Inner.Collecting.{CollectingLaws, IsNetted, IsStated}
use Rattle.period_order.specs.Kept.{IsConfiguration}
use Rattle.shared_house.specs.Inner.HouseLaws.{HouseLaws}
use Rattle.shared_house.specs.Inner.Outcomes.{with_room}
use Rattle.shared_house.specs.Inner.Tallies.{tally_of, tally_of_event}
use Rattle.shared_house.proofs.DecidedLemmas.{verdict_of}
use Rattle.shared_house.specs.Inner.Told.{IsPlaced, IsRight}
use Rattle.shared_house.proofs.CollectLemmas.{none_read}
use Rattle.shared_house.proofs.HeldLemmas.{returned, right}

closed_period : (period found : ℕ) (reply : Result Answer Refusal) → outcome.Closed found ≡ closed_by period reply → found ≡ period
closed_period period found (Ok a) h = let same : found ≡ period = cc in same
closed_period period found (Err refusal) h = absurd (cc)

stated_ask : (ask found : StatementOf) (reply : Result Answer Refusal) → outcome.Stated found ≡ stated_by ask reply → found ≡ ask
stated_ask ask found (Ok a) h = let same : found ≡ ask = cc in same
stated_ask ask found (Err refusal) h = absurd (cc)

module _ (laws : HouseLaws) (config : Config) (order : PlainOrder) (point least : ℕ) (p : point ≡ point_of order) (le : least ≤ point) where
  pub closed_right : (close : Close) (period : ℕ) → Decides config None None (with_room order) (command.Close close) (outcome.Closed period)
      → (positions : List NetPosition) → IsNetted config close.period positions
      → IsRight config (command.Close close) least (tally_of (outcome.Closed period)).events (stamped point (Ok (answer.Closed close.period positions)))
  closed_right close period decides positions netted =
      let known = seen netted.entries [] (with_room order) in
      let v = verdict_of laws config (with_room order) (command.Close close) (outcome.Closed period) None None decides netted.entries [] tt tt in
      let same = closed_period close.period period (verdict config known (command.Close close)).reply (decides.outcome_is netted.entries [] tt tt) in
      let reply_is : Ok (answer.Closed close.period positions) ≡ (verdict config known (command.Close close)).reply =
      ap (λ (l : List NetPosition). Ok (answer.Closed close.period l)) netted.positions_are ∙ ap (λ n. Ok (answer.Closed n (positions_in config netted.entries n))) (sym same)
      ∙ sym (ap (λ (x : Verdict). x.reply) v) in
      let is = ap (λ (r : Result Answer Refusal). stamped point r) reply_is ∙ ap (λ n. stamped n (verdict config known (command.Close close)).reply) p in
      let is_right = right laws config (command.Close close) known least (stamped point (Ok (answer.Closed close.period positions))) (subst (λ n. least ≤ n) p le) (λ h. absurd (cc)) (λ h. netted.read) (laws.empty config).in_account is in
      record {
        returns = is_right.returns;
        counted = is_right.counted ∙ ap (λ (e : Option Event). (tally_of_event e).events) (ap (λ (x : Verdict). x.event) v);
      }

  pub stated_right : (ask found : StatementOf) → Decides config None None (with_room order) (command.Statement ask) (outcome.Stated found)
      → (rows : List StatementRow) → IsStated config ask rows
      → IsRight config (command.Statement ask) least (tally_of (outcome.Stated found)).events (stamped point (Ok (answer.Statement rows)))
  stated_right ask found decides rows stated =
      let known = seen stated.entries [] (with_room order) in
      let v = verdict_of laws config (with_room order) (command.Statement ask) (outcome.Stated found) None None decides stated.entries [] tt tt in
      let same = stated_ask ask found (verdict config known (command.Statement ask)).reply (decides.outcome_is stated.entries [] tt tt) in
      let reply_is : Ok (answer.Statement rows) ≡ (verdict config known (command.Statement ask)).reply =
      ap (λ (l : List StatementRow). Ok (answer.Statement l)) stated.rows_are ∙ ap (λ (a : StatementOf). Ok (answer.Statement (statement_rows a.party (obligations a.period stated.entries)))) (sym same)
      ∙ sym (ap (λ (x : Verdict). x.reply) v) in
      let is = ap (λ (r : Result Answer Refusal). stamped point r) reply_is ∙ ap (λ n. stamped n (verdict config known (command.Statement ask)).reply) p in
      let is_right = right laws config (command.Statement ask) known least (stamped point (Ok (answer.Statement rows))) (subst (λ n. least ≤ n) p le) (λ h. absurd (cc)) (λ h. stated.read) (laws.empty config).in_account is in
      record {
        returns = is_right.returns;
        counted = is_right.counted ∙ ap (λ (e : Option Event). (tally_of_event e).events) (ap (λ (x : Verdict). x.event) v);
      }

-- ---- what is left once a close or a statement has its place

module _ (laws : HouseLaws) (collecting : CollectingLaws) (config : Config) (is_config : IsConfiguration config) (told : Command) (decided : Decided) (placed : IsPlaced config None None told decided)
    (result : Reply) (least : ℕ) (le : least ≤ decided.point) where
  as_decided : (outcome : Outcome) → decided.outcome ≡ outcome → Decides config None None (with_room placed.order) told outcome
  as_decided outcome is = subst (Decides config None None (with_room placed.order) told) is placed.decides

  as_counted : (outcome : Outcome) (right : Reply) → decided.outcome ≡ outcome → result ≡ right → IsRight config told least (tally_of outcome).events right
      → IsRight config told least (tally_of decided.outcome).events result
  as_counted outcome right is r h =
      subst (λ (x : Reply). IsRight config told least (tally_of decided.outcome).events x) (sym r) (subst (λ (o : Outcome). IsRight config told least (tally_of o).events right) (sym is) h)

  -- what is left to be collected is nothing
  pub ended_replied : (reply : Result Answer Refusal) (event : Option Event) → decided.outcome ≡ outcome.Replied reply event → result ≡ stamped decided.point reply
      → IsRight config told least (tally_of decided.outcome).events result
  ended_replied reply event is r =
      as_counted (outcome.Replied reply event) (stamped decided.point reply) is r
      (returned laws config told None None placed.order decided.point least placed.point_is le (λ h. (laws.empty config).in_book) (λ h. none_read collecting config is_config) (laws.empty config).in_account
      (outcome.Replied reply event) (stamped decided.point reply) (as_decided (outcome.Replied reply event) is) reply refl refl)

  pub ended_closed : (close : Close) (period : ℕ) (positions : List NetPosition) → told ≡ command.Close close → decided.outcome ≡ outcome.Closed period → IsNetted config close.period positions
      → result ≡ stamped decided.point (Ok (answer.Closed close.period positions)) → IsRight config told least (tally_of decided.outcome).events result
  ended_closed close period positions t is netted r =
      as_counted (outcome.Closed period) (stamped decided.point (Ok (answer.Closed close.period positions))) is r
      (subst (λ (c : Command). IsRight config c least (tally_of (outcome.Closed period)).events (stamped decided.point (Ok (answer.Closed close.period positions)))) (sym t)
      (closed_right laws config placed.order decided.point least placed.point_is le close period
      (subst (λ (c : Command). Decides config None None (with_room placed.order) c (outcome.Closed period)) t (as_decided (outcome.Closed period) is)) positions netted))

  pub ended_stated : (ask found : StatementOf) (rows : List StatementRow) → told ≡ command.Statement ask → decided.outcome ≡ outcome.Stated found → IsStated config ask rows
      → result ≡ stamped decided.point (Ok (answer.Statement rows)) → IsRight config told least (tally_of decided.outcome).events result
  ended_stated ask found rows t is stated r =
      as_counted (outcome.Stated found) (stamped decided.point (Ok (answer.Statement rows))) is r
      (subst (λ (c : Command). IsRight config c least (tally_of (outcome.Stated found)).events (stamped decided.point (Ok (answer.Statement rows)))) (sym t)
      (stated_right laws config placed.order decided.point least placed.point_is le ask found
      (subst (λ (c : Command). Decides config None None (with_room placed.order) c (outcome.Stated found)) t (as_decided (outcome.Stated found) is)) rows stated))
