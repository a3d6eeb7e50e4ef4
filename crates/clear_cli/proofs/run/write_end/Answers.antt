use Rattle.std.proofs.Common.{rules, ◌≡◌, ℕ, List, MatchResult, subst}
use Rattle.clear_cli.specs.Folder.{AreWritten, folder_words}
use Rattle.clear_cli.specs.Outputs.{outputs}
use Rattle.clear_cli.specs.Run.{IsLineLeft, IsLineWritten, counts_of}
use Rattle.clear_cli.proofs.RunLemmas.{ended}
use Rattle.clear_cli.proofs.run.write_end.Goals as goal

pub returns-clause-ended : goal.returns-clause-ended
returns-clause-ended g c = λ calls finished.
    let config = c.args.config.now in
    let events = c.args.events.now in
    let words = folder_words g.O.Folder.making g.O.File.Sink.writing in
    let folder = c.rate_and_write-differences.new.folder in
    let writer = c.write_text.new.writer in
    let written : AreWritten words (outputs config events) c.args.folder.now folder = search rules in
    let counted : c.as_str.result.now ≡ counts_of config events = search rules in
    let line = subst (λ (l : List ℕ). MatchResult c.write_text.result (λ _. IsLineWritten g.W.Sink.writing l c.args.writer.now writer)
    (λ fault. IsLineLeft g.W.Sink.writing l c.args.writer.now writer fault)) counted c.write_text.ensures.written in
    ended words g.W.Sink.writing config calls c.args.folder.now folder c.args.writer.now writer events c.write_text.result finished written line
