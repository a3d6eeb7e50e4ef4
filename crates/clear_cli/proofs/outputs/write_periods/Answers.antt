use Rattle.std.proofs.Common.{rules, List, map, sym, subst}
use Rattle.netting_positions.specs.declared.obligation.Obligation.{Obligation}
use Rattle.plain_house.specs.Entries.{book_entries}
use Rattle.plain_house.specs.Obligations.{obligations}
use Rattle.clear_cli.specs.Folder.{AreLeft, AreWritten, folder_words}
use Rattle.clear_cli.specs.Inner.Stated.{CanBeStated}
use Rattle.clear_cli.specs.Outputs.{statement_output, statements}
use Rattle.clear_cli.proofs.OutputLemmas.{goes_on, left_in_period, one_period_more, owed_first, written_more}
use Rattle.clear_cli.proofs.outputs.write_periods.Goals as goal

pub write_period-requires : goal.write_period-requires
write_period-requires g c =
    let owed = owed_first c.args.events.now c.loop-period.rest.now c.split_first_period.result.0.now c.loop-period.period c.loop-period.invariant.1 c.split_first_period.ensures.first in
    let netted = c.legal_lists_can_be_netted.ensures c.args.config.now c.args.events.now (search rules) (search rules) c.requires in
    let stated : CanBeStated c.args.config.now (obligations 0 (book_entries c.split_first_period.result.0.now)) =
    subst (CanBeStated c.args.config.now) (sym owed) (record { configured = netted.configured c.loop-period.period; fits = netted.fits c.loop-period.period }) in
    search rules

pub loop-period-preserved : goal.loop-period-preserved
loop-period-preserved g c =
    let words = folder_words g.O.Folder.making g.O.File.Sink.writing in
    let events = c.args.events.now in
    let among = c.args.parties.now in
    let period = c.loop-period.period in
    let owed = owed_first events c.loop-period.rest.now c.split_first_period.result.0.now period c.loop-period.invariant.1 c.split_first_period.ensures.first in
    let one : AreWritten words (map (statement_output (obligations period (book_entries events)) period) among) c.loop-period.folder c.write_period.new.folder =
    subst (λ (l : List Obligation). AreWritten words (map (statement_output l period) among) c.loop-period.folder c.write_period.new.folder) owed c.in_ok-write_period.ensures.ok in
    let more = written_more words (statements events among period) (map (statement_output (obligations period (book_entries events)) period) among) c.args.folder.now c.loop-period.folder c.write_period.new.folder c.loop-period.invariant.0 one in (
      subst (λ l. AreWritten words l c.args.folder.now c.write_period.new.folder) (sym (one_period_more events among period)) more,
      goes_on events c.loop-period.rest.now c.split_first_period.result.1.now period c.loop-period.invariant.1 c.split_first_period.ensures.later,
    )

pub returns-in_err-write_period-clause-err : goal.returns-in_err-write_period-clause-err
returns-in_err-write_period-clause-err g c =
    let words = folder_words g.O.Folder.making g.O.File.Sink.writing in
    let events = c.args.events.now in
    let among = c.args.parties.now in
    let period = c.loop-period.period in
    let fault = c.in_err-write_period.field-0.0 in
    let owed = owed_first events c.loop-period.rest.now c.split_first_period.result.0.now period c.loop-period.invariant.1 c.split_first_period.ensures.first in
    let one : AreLeft words (map (statement_output (obligations period (book_entries events)) period) among) c.loop-period.folder c.write_period.new.folder fault =
    subst (λ (l : List Obligation). AreLeft words (map (statement_output l period) among) c.loop-period.folder c.write_period.new.folder fault) owed c.in_err-write_period.ensures.err in
    let left = left_in_period words events among period c.args.periods c.args.folder.now c.loop-period.folder c.write_period.new.folder fault (search rules) c.loop-period.invariant.0 one in
    search rules
