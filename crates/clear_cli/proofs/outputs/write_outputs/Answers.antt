use Rattle.std.proofs.Common.{rules, ℕ, List, [], ◌∷◌, refl, subst, ◌∙◌}
use Rattle.ocpi_types.specs.declared.party.Party.{Party}
use Rattle.netting_positions.specs.Netting.{parties}
use Rattle.plain_house.specs.Entries.{period_of}
use Rattle.clear_cli.specs.declared.schedule_text.WriteFault.TheVariants.{NoMemory}
use Rattle.clear_cli.specs.Folder.{AreLeft, folder_words}
use Rattle.clear_cli.specs.Outputs.{order_output, statements}
use Rattle.clear_cli.proofs.OutputLemmas.{left_behind, left_first}
use Rattle.clear_cli.proofs.outputs.write_outputs.Goals as goal

pub returns-in_err-parties-clause-err : goal.returns-in_err-parties-clause-err
returns-in_err-parties-clause-err g c =
    let words = folder_words g.O.Folder.making g.O.File.Sink.writing in
    let left = left_first words (order_output c.args.events.now) (statements c.args.events.now (parties c.args.config.now) (period_of c.args.events.now)) c.args.folder.now c.args.folder.now NoMemory refl in
    search rules

pub returns-in_err-write_order_file-clause-err : goal.returns-in_err-write_order_file-clause-err
returns-in_err-write_order_file-clause-err g c =
    let words = folder_words g.O.Folder.making g.O.File.Sink.writing in
    let left = left_first words (order_output c.args.events.now) (statements c.args.events.now (parties c.args.config.now) (period_of c.args.events.now)) c.args.folder.now c.write_order_file.new.folder
    c.in_err-write_order_file.field-0.0 c.in_err-write_order_file.ensures.err in
    search rules

pub returns-in_err-write_periods-clause-err : goal.returns-in_err-write_periods-clause-err
returns-in_err-write_periods-clause-err g c =
    let words = folder_words g.O.Folder.making g.O.File.Sink.writing in
    let events = c.args.events.now in
    let among = parties c.args.config.now in
    let fault = c.in_err-write_periods.field-0.0 in
    let first = c.write_order_file.new.folder in
    let last = c.write_periods.new.folder in
    let rest : AreLeft words (statements events among (period_of events)) first last fault =
    subst (λ (n : ℕ). AreLeft words (statements events among n) first last fault) c.period_of-periods.ensures.value
    (subst (λ (ps : List Party). AreLeft words (statements events ps c.period_of-periods.result) first last fault) (c.as_slice.ensures.value ∙ c.in_ok-parties.ensures.parties) c.in_err-write_periods.ensures.err) in
    let left = left_behind words (order_output events ∷ []) (statements events among (period_of events)) c.args.folder.now first last fault (first, search rules, refl) rest in
    search rules
