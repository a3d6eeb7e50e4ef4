use Rattle.std.proofs.Common.{◌≡◌, ◌≤◌, ℕ, List, Err, IfOk, Some, None, Result, Ok, map, ap, sym, ◌∙◌, arith, subst, take}
use Rattle.std.specs.declared.alloc.AllocError.{AllocError}
use Rattle.plain_house.specs.declared.event.Event.{Event}
use Rattle.period_order.specs.Resolved.{entries_of_accounts, entries_of_books}
use Rattle.period_order.specs.Resolves.{Resolves}
use Rattle.shared_house.specs.Certified.{IsTornFirst}
use Rattle.shared_house.specs.History.{BreaksFirst, IsOneHistory}
use Rattle.shared_house.specs.Inner.Turns.{AreTurns, plain_turn}
use Rattle.shared_house.specs.declared.call.Call.{Call}
use Rattle.shared_house.proofs.CertifiedLemmas.{part_is_whole, torn_at_entry, torn_in_part}
use Rattle.shared_house.proofs.StandLemmas.{if_none, if_some, same_option}
use Rattle.shared_house.proofs.certifying.first_torn.Goals as goal
use Rattle.shared_house.proofs.certifying.first_torn.Goals.{in_default-2, in_default}

pub unreachable-requires : goal.unreachable-requires
unreachable-requires g c =
    part_is_whole c.resolving_is_whole.ensures (entries_of_books c.args.books.now) (entries_of_accounts c.args.accounts.now) c.args.order.now c.args.entry c.requires.fails c.in-Err-Torn.field-0-0
    (c.resolve.ensures.torn c.in-Err-Torn.field-0-0 (c.in-Err-Torn.is ∙ ap Err c.in-Err-Torn.field-0-is))

pub returns-in-Some : goal.returns-in-Some
returns-in-Some g c = λ passes are.
    let config = c.args.config.now in
    let books = entries_of_books c.args.books.now in
    let accounts = entries_of_accounts c.args.accounts.now in
    let events : List Event = c.as_slice.result.now in
    let resolves : Resolves books accounts (take c.args.entry c.args.order.now) events =
    subst (Resolves books accounts (take c.args.entry c.args.order.now)) (sym c.as_slice.ensures.value) c.in-Ok.ensures.ok in
    let first = rw c.in-Some.is at c.in_ok-number.ensures.torn in
    torn_in_part c.resolving_is_unique.ensures config books accounts c.args.order.now passes events c.args.entry resolves c.in-Some.number c.if-number-entry.true (first passes are)

pub returns : goal.returns
returns g c =
    let config = c.args.config.now in
    let books = entries_of_books c.args.books.now in
    let accounts = entries_of_accounts c.args.accounts.now in
    let order = c.args.order.now in
    let events : List Event = c.as_slice.result.now in
    let turns = map plain_turn c.args.turns.now in
    let number = c.in_ok-number.field-0 in
    let resolves : Resolves books accounts (take c.args.entry order) events = subst (Resolves books accounts (take c.args.entry order)) (sym c.as_slice.ensures.value) c.in-Ok.ensures.ok in
    let torn : ((at : ℕ) → number ≡ Some at → c.args.entry ≤ at) → (passes : List (List Call)) → AreTurns passes turns → IsTornFirst config books accounts order passes c.args.entry =
    λ least passes are.
    torn_at_entry c.resolving_is_unique.ensures config books accounts order passes events c.args.entry number resolves c.requires.fails
    (if_none number _ (IsOneHistory config events passes) (λ all. all passes are) c.in_ok-number.ensures.history)
    (if_some number _ (BreaksFirst config events passes) (λ at all. all passes are) c.in_ok-number.ensures.torn) least in
    let at_entry : ((at : ℕ) → number ≡ Some at → c.args.entry ≤ at) → c.match-branch-2.result ≡ Ok c.args.entry
    → IfOk c.match-branch-2.result (λ told. (passes : List (List Call)) → AreTurns passes turns → IsTornFirst config books accounts order passes told) =
    λ least is.
    subst (λ (r : Result ℕ AllocError). IfOk r (λ told. (passes : List (List Call)) → AreTurns passes turns → IsTornFirst config books accounts order passes told)) (sym is) (torn least) in
    elim c.match-branch-2.branch [
      | in_default-2 w ↦ at_entry (λ at e. omega (arith, w.if-number-entry.false, same_option at w.in-Some.number (sym e ∙ w.in-Some.is))) w.result-is
      | in_default w ↦ at_entry (λ at e. absurd (let h : Some at ≡ None = sym e ∙ w.in_default.is in cc)) w.result-is
    ]
