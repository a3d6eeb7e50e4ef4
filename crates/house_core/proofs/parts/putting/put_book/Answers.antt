use Rattle.std.proofs.Common.{false, rules, ap}
use Rattle.house_core.specs.declared.running_call.RunningCall.{RunningCall}
use Rattle.house_core.proofs.PutLemmas.{carried_of}
use Rattle.house_core.proofs.parts.putting.put_book.Goals as goal

pub put_in_book-requires-clause-room : goal.put_in_book-requires-clause-room
put_in_book-requires-clause-room c =
    let one = carried_of c.args.call.now.stage c.in-Some.event c.in-Some.period (search rules) in
    (c.requires.ready one.0 c.in-Some.event one.1 one.2).0

pub returns-clause-call : goal.returns-clause-call
returns-clause-call c = ap (λ (x : RunningCall). record x { has_book = false }) c.take_event.ensures.rest
