use Rattle.std.proofs.Common.{◌≡◌, List, [], IfOk, map, sym, subst}
use Rattle.plain_house.specs.declared.event.Event.{Event}
use Rattle.period_order.specs.Resolved.{entries_of_accounts, entries_of_books}
use Rattle.period_order.specs.Resolves.{Resolves}
use Rattle.shared_house.specs.declared.call.Call.{Call}
use Rattle.shared_house.specs.declared.certifying.turn.Turn.{Turn}
use Rattle.shared_house.specs.Certified.{IsTornFirst}
use Rattle.shared_house.specs.Inner.Turns.{AreTurns, plain_turn}
use Rattle.shared_house.proofs.CertifiedLemmas.{torn_in_all}
use Rattle.shared_house.proofs.StretchLemmas.{all_admitted}
use Rattle.shared_house.proofs.certifying.certify.Goals as goal

pub first_break-requires-after_bounds : goal.first_break-requires-after_bounds
first_break-requires-after_bounds g c κs within =
    let passes : List (List Call) = map (λ calls. calls.items) c.args.passes.now in
    let turns : List Turn = c.as_slice-turns.result.now in
    let told : IfOk c.events_and_turns-events.result.1 (λ turns. AreTurns passes (map plain_turn turns.items)) = c.events_and_turns-events.ensures.turns in
    let are : AreTurns passes (map plain_turn turns) = subst (λ (l : List Turn). AreTurns passes (map plain_turn l)) (sym c.as_slice-turns.ensures.value) (rw c.in_ok-turns.was at told) in
    all_admitted c.args.config.now c.as_slice.result.now passes turns are c.requires

pub first_torn-requires-clause-admitted : goal.first_torn-requires-clause-admitted
first_torn-requires-clause-admitted g c κs within =
    let passes : List (List Call) = map (λ calls. calls.items) c.args.passes.now in
    let turns : List Turn = c.as_slice-turns.result.now in
    let told : IfOk c.events_and_turns-events.result.1 (λ turns. AreTurns passes (map plain_turn turns.items)) = c.events_and_turns-events.ensures.turns in
    let are : AreTurns passes (map plain_turn turns) = subst (λ (l : List Turn). AreTurns passes (map plain_turn l)) (sym c.as_slice-turns.ensures.value) (rw c.in_ok-turns.was at told) in
    all_admitted c.args.config.now [] passes turns are c.requires

pub returns-in-Ok-clause-torn : goal.returns-in-Ok-clause-torn
returns-in-Ok-clause-torn g c = λ entry is.
    let passes : List (List Call) = map (λ calls. calls.items) c.args.passes.now in
    let books = entries_of_books c.args.books.now in
    let accounts = entries_of_accounts c.args.accounts.now in
    let events : List Event = c.as_slice.result.now in
    let turns : List Turn = c.as_slice-turns.result.now in
    let told : IfOk c.events_and_turns-events.result.1 (λ turns. AreTurns passes (map plain_turn turns.items)) = c.events_and_turns-events.ensures.turns in
    let are : AreTurns passes (map plain_turn turns) = subst (λ (l : List Turn). AreTurns passes (map plain_turn l)) (sym c.as_slice-turns.ensures.value) (rw c.in_ok-turns.was at told) in
    let found : IfOk c.events_and_turns-events.result.0 (λ events. Resolves books accounts c.args.order.now events.items) = c.events_and_turns-events.ensures.ok in
    let resolves : Resolves books accounts c.args.order.now events = subst (Resolves books accounts c.args.order.now) (sym c.as_slice.ensures.value) (rw c.in-Ok.is at found) in
    let first = rw c.in-Some.is at c.in_ok-first_break-in-Ok.ensures.torn in
    let same : c.in-Some.entry ≡ entry = cc in
    subst (IsTornFirst c.args.config.now books accounts c.args.order.now passes) same
    (torn_in_all c.resolving_is_unique.ensures c.args.config.now books accounts c.args.order.now passes events resolves c.in-Some.entry (first passes are))

pub returns-clause-torn : goal.returns-clause-torn
returns-clause-torn g c = λ entry is.
    let passes : List (List Call) = map (λ calls. calls.items) c.args.passes.now in
    let turns : List Turn = c.as_slice-turns.result.now in
    let told : IfOk c.events_and_turns-events.result.1 (λ turns. AreTurns passes (map plain_turn turns.items)) = c.events_and_turns-events.ensures.turns in
    let are : AreTurns passes (map plain_turn turns) = subst (λ (l : List Turn). AreTurns passes (map plain_turn l)) (sym c.as_slice-turns.ensures.value) (rw c.in_ok-turns.was at told) in
    let same : c.in_ok-entry-in-Err-Torn.entry ≡ entry = cc in
    subst (IsTornFirst c.args.config.now (entries_of_books c.args.books.now) (entries_of_accounts c.args.accounts.now) c.args.order.now passes) same (c.in_ok-entry-in-Err-Torn.ensures passes are)
