use Rattle.std.proofs.Common.{◌≡◌, ◌∙◌, true, ℕ, refl, sym, subst, arith, take}
use Rattle.plain_house.specs.House.{events_after}
use Rattle.period_order.specs.EntryBooks.{Keep}
use Rattle.shared_house.specs.Points.{point_of_reply}
use Rattle.shared_house.specs.History.{Stands, events_before}
use Rattle.shared_house.specs.Inner.Tables.{HasRightTable}
use Rattle.shared_house.specs.Inner.Turns.{IsNext, plain_turn}
use Rattle.shared_house.proofs.StandLemmas.{if_ok}
use Rattle.shared_house.proofs.certifying.stretches.takes_turn.Goals as goal

pub returns-clause-next : goal.returns-clause-next
returns-clause-next c =
    let entry_books = c.args.entry_books.now in
    let events = c.args.events.now in
    let call = c.args.turn.now.call.now in
    let count : ℕ = c.args.count in
    let at : point_of_reply call.reply ≡ count = sym c.point-point.ensures ∙ c.if-point-count.false in
    if_ok c.stands.result (λ b. b ≡ true → HasRightTable entry_books.config events call → Keep entry_books (events_before events call) → Stands entry_books.config events call)
    (λ b. b ≡ true → HasRightTable entry_books.config events call → Keep entry_books (take count events) → IsNext entry_books.config events count (plain_turn c.args.turn.now) (events_after entry_books.config (take count events) call.command))
    (λ b stands yes right kept. record {
      fit = record {
        stands = stands yes right (subst (λ n. Keep entry_books (take n events)) (sym at) kept);
        in_turn = omega (arith, c.if-from-turn.false, c.from.ensures, c.point-point.ensures);
      };
      point_is = at;
      now_is = refl;
    }) c.stands.ensures.stands
