use Rattle.std.proofs.Common.{ℕ, List, ◌++◌, codes, subst}
use Rattle.command_line.specs.Fault.{IsTold, fault_text}
use Rattle.command_line.proofs.telling.tell_of_file.Goals as goal

pub returns : goal.returns
returns g c =
    let told : List ℕ → Type 0 = λ line. IsTold g.F.Sink.writing c.args.faults.now line c.tell_text.new.faults in
    subst (λ (number : List ℕ). told (codes "clear: file " ++ (number ++ (codes ": " ++ fault_text c.args.fault.now)))) c.format.ensures.text
    (subst (λ (text : List ℕ). told (codes "clear: file " ++ (c.format.result.now ++ (codes ": " ++ text)))) c.text_in.ensures c.tell_text.ensures)
