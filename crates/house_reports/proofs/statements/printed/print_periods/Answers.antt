use Rattle.std.proofs.Common.{rules, List, subst, sym}
use Rattle.std.specs.Prelude.{flat_map}
use Rattle.netting_positions.specs.declared.obligation.Obligation.{Obligation}
use Rattle.plain_house.specs.Entries.{book_entries}
use Rattle.plain_house.specs.Obligations.{obligations}
use Rattle.house_reports.specs.ended_house.Writing.{IsCutOff}
use Rattle.house_reports.specs.statements.Inner.Stated.{CanBeStated}
use Rattle.house_reports.specs.statements.StatementsText.{period_text, periods_text, section_text}
use Rattle.house_reports.proofs.statements.PeriodLemmas.{cut_in_period, goes_on, one_period_more, owed_first}
use Rattle.house_reports.proofs.statements.printed.print_periods.Goals as goal

pub print_period-requires : goal.print_period-requires
print_period-requires g c =
    let owed = owed_first c.args.events.now c.loop-period.rest.now c.split_first_period.result.0.now c.loop-period.period c.loop-period.invariant.1 c.split_first_period.ensures.first in
    let netted = c.legal_lists_can_be_netted.ensures c.args.config.now c.args.events.now (search rules) (search rules) c.requires in
    let stated : CanBeStated c.args.config.now (obligations 0 (book_entries c.split_first_period.result.0.now)) =
    subst (CanBeStated c.args.config.now) (sym owed) (record { configured = netted.configured c.loop-period.period; fits = netted.fits c.loop-period.period }) in
    search rules

pub loop-period-preserved : goal.loop-period-preserved
loop-period-preserved g c =
    let writing = g.W.Sink.writing in
    let events = c.args.events.now in
    let among = c.args.parties.now in
    let period = c.loop-period.period in
    let owed = owed_first events c.loop-period.rest.now c.split_first_period.result.0.now period c.loop-period.invariant.1 c.split_first_period.ensures.first in
    let one : writing.takes c.loop-period.writer (period_text events among period) c.print_period.new.writer =
    subst (λ (l : List Obligation). writing.takes c.loop-period.writer (flat_map (section_text l period) among) c.print_period.new.writer) owed c.in_ok-print_period.ensures.ok in
    let more = g.met.W.Sink.takes_more c.args.writer.now c.loop-period.writer c.print_period.new.writer (periods_text events among period) (period_text events among period) c.loop-period.invariant.0 one in (
      subst (λ l. writing.takes c.args.writer.now l c.print_period.new.writer) (sym (one_period_more events among period)) more,
      goes_on events c.loop-period.rest.now c.split_first_period.result.1.now period c.loop-period.invariant.1 c.split_first_period.ensures.later,
    )

pub returns-in_err-print_period-clause-err : goal.returns-in_err-print_period-clause-err
returns-in_err-print_period-clause-err g c =
    let writing = g.W.Sink.writing in
    let events = c.args.events.now in
    let among = c.args.parties.now in
    let period = c.loop-period.period in
    let cause = c.in_err-print_period.field-0.0 in
    let owed = owed_first events c.loop-period.rest.now c.split_first_period.result.0.now period c.loop-period.invariant.1 c.split_first_period.ensures.first in
    let one : IsCutOff writing (period_text events among period) c.loop-period.writer c.print_period.new.writer cause =
    subst (λ (l : List Obligation). IsCutOff writing (flat_map (section_text l period) among) c.loop-period.writer c.print_period.new.writer cause) owed c.in_err-print_period.ensures.err in
    let cut = cut_in_period writing g.met.W.Sink.takes_more events among period c.args.periods c.args.writer.now c.loop-period.writer c.print_period.new.writer cause (search rules) c.loop-period.invariant.0 one in
    search rules
