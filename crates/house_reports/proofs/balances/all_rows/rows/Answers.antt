use Rattle.std.proofs.Common.{◌≡◌, ◌<◌, ◌≤◌, ◌^◌, ◌+◌, ℕ, suc, ap, rules, sym, subst, refl, ◌∙◌, arith}
use Rattle.std.specs.Prelude.{flat_map}
use Rattle.plain_house.specs.Entries.{period_of}
use Rattle.house_reports.specs.balances.Balances.{operators, row_keys, providers, row_at}
use Rattle.house_reports.specs.balances.Bookings.{bookings, settlements}
use Rattle.house_reports.specs.balances.Inner.InOrder.{AreFrom}
use Rattle.house_reports.specs.balances.Inner.Narrowed.{of_period, rows_of_period, size}
use Rattle.house_reports.proofs.balances.InOrderLemmas.{are_from, later_kept}
use Rattle.house_reports.proofs.balances.ObligationLemmas.{booked_fits}
use Rattle.house_reports.proofs.balances.RowsLemmas.{rows_step}
use Rattle.house_reports.proofs.balances.all_rows.rows.Goals as goal

itself : (n : ℕ) → n ≤ n
itself n = omega arith

after : (n m : ℕ) → n + 1 ≤ m → n < m
after n m h = omega (arith, h)

from_next : (n m : ℕ) → n + 1 ≤ m → n ≤ m
from_next n m h = omega (arith, h)

pub add_period-requires : goal.add_period-requires
add_period-requires c =
    let period = c.loop-period.period in
    subst (λ found. size found < 2 ^ 63) (sym (c.split_period.ensures.first ∙ c.loop-period.invariant.left period (itself period)))
    (booked_fits c.bookings_are_obligations.ensures c.args.events.now c.requires period)

pub loop-period-init : goal.loop-period-init
loop-period-init c =
    let events = c.args.events.now in
    let from : c.as_slice-rest.result.now ≡ bookings events = c.as_slice-rest.ensures.value ∙ c.in_ok-bookings.ensures in
    record {
      rows = search rules;
      in_order = subst (λ bs. AreFrom 0 bs) (sym from) (are_from 0 events);
      left = λ number least. ap (of_period number) from;
    }

pub loop-period-preserved : goal.loop-period-preserved
loop-period-preserved c =
    let config = c.args.config.now in
    let period = c.loop-period.period in
    let listed = c.in_ok-listed.listed in
    let all = bookings c.args.events.now in
    let found = c.split_period.result.0.now in
    let later = c.split_period.result.1.now in
    let found_is : found ≡ of_period period all = c.split_period.ensures.first ∙ c.loop-period.invariant.left period (itself period) in
    let added = rows_of_period listed.settlements period listed.currencies.items listed.operators.items listed.providers.items found in
    let added_is : added ≡ rows_of_period listed.settlements period config.currencies (operators config) (providers config) (of_period period all) =
    ap (λ currencies. rows_of_period listed.settlements period currencies listed.operators.items listed.providers.items found) c.in_ok-listed.ensures.currencies
    ∙ ap (λ parties. rows_of_period listed.settlements period config.currencies parties listed.providers.items found) c.in_ok-listed.ensures.operators
    ∙ ap (λ parties. rows_of_period listed.settlements period config.currencies (operators config) parties found) c.in_ok-listed.ensures.providers
    ∙ ap (λ booked. rows_of_period listed.settlements period config.currencies (operators config) (providers config) booked) found_is in
    record {
      rows = rows_step config listed.settlements all period (period + 1) c.loop-period.rows.items c.add_period.new.rows.items added refl added_is
          c.in_ok-add_period.ensures c.loop-period.invariant.rows;
      in_order = c.split_period.ensures.later;
      left = λ number next.
          later_kept period number c.loop-period.rest.now found later (after period number next) c.split_period.ensures.all c.split_period.ensures.first
          ∙ c.loop-period.invariant.left number (from_next period number next);
    }

pub returns : goal.returns
returns c =
    let config = c.args.config.now in
    let all : c.loop-period.period ≡ suc (period_of c.args.events.now) =
    omega (arith, c.loop-period-test.false, c.loop-period.auto.period-end, c.period_of-period-end.ensures.value) in
    c.loop-period.invariant.rows
    ∙ ap (λ settled. flat_map (row_at settled (bookings c.args.events.now)) (row_keys config c.loop-period.period)) c.in_ok-listed.ensures.settlements
    ∙ ap (λ periods. flat_map (row_at (settlements c.args.events.now) (bookings c.args.events.now)) (row_keys config periods)) all
