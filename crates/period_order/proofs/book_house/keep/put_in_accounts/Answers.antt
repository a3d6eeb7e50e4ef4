use Rattle.std.proofs.Common.{◌≡◌, ◌<◌, ℕ, Option, IfSome, length, sym, subst, slice_set}
use Rattle.plain_house.specs.Entries.{account_entry}
use Rattle.period_order.specs.Kept.{with_added}
use Rattle.period_order.specs.Inner.Kept.{AccountHasRoom, AccountTakesAt}
use Rattle.period_order.specs.Resolved.{entries_of_accounts}
use Rattle.period_order.proofs.KeptLemmas.{borrowed, longer}
use Rattle.period_order.proofs.book_house.keep.put_in_accounts.Goals as goal

pub put_in_account-requires : goal.put_in_account-requires
put_in_account-requires c =
    let items = c.args.accounts.now.items in
    let within : c.in-Some.number < length items = subst (λ (o : Option ℕ). IfSome o (λ n. n < length items)) c.in-Some.is c.requires.number in
    let found = borrowed items c.in-Some.number c.index_mut.result.now within c.index_mut.ensures.value in
    let room = subst (AccountHasRoom items) c.in-Some.is c.requires.room in
    let takes = subst (λ (o : Option ℕ). AccountTakesAt items o c.args.period c.args.event.now) c.in-Some.is c.requires.takes in
    record { room = room c.index_mut.result.now found; takes = takes c.index_mut.result.now found }

pub returns-in-Some : goal.returns-in-Some
returns-in-Some c =
    let items = c.args.accounts.now.items in
    let within : c.in-Some.number < length items = subst (λ (o : Option ℕ). IfSome o (λ n. n < length items)) c.in-Some.is c.requires.number in
    let found = borrowed items c.in-Some.number c.index_mut.result.now within c.index_mut.ensures.value in
    subst (λ (o : Option ℕ). entries_of_accounts (slice_set items c.in-Some.number c.put_in_account.new.account) ≡ with_added (entries_of_accounts items) o (account_entry c.args.event.now c.args.period)) (sym c.in-Some.is)
    (longer (λ account. account.entries) items c.in-Some.number c.index_mut.result.now c.put_in_account.new.account found (account_entry c.args.event.now c.args.period) c.put_in_account.ensures)
