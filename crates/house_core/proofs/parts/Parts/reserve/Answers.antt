use Rattle.std.proofs.Common.{rules, ◌≡◌, ◌∙◌, refl, sym, ap, ℕ, List, Option, None, Some, slice_get}
use Rattle.std.proofs.lemmas.Option.{same_Some}
use Rattle.house_core.specs.declared.running_call.RunningCall.{RunningCall}
use Rattle.house_core.specs.declared.locks.AccountLock.{AccountLock}
use Rattle.house_core.specs.declared.locks.BookLock.{BookLock}
use Rattle.house_core.specs.Inner.Shown.{changed_lock, roomy_account, roomy_book}
use Rattle.house_core.proofs.RoomLemmas.{account_roomy, book_roomy, shown_is, sound_now}
use Rattle.house_core.proofs.StepLemmas.{borrowed}
use Rattle.house_core.proofs.parts.Parts.reserve.Goals as goal

pub returns-in_err-reserve_book-clause-sound : goal.returns-in_err-reserve_book-clause-sound
returns-in_err-reserve_book-clause-sound c = sound_now c.args.self.now c.requires.sound _ refl refl refl None None c.in_err-reserve_book.ensures.err refl

pub returns-in_err-reserve_account-clause-sound : goal.returns-in_err-reserve_account-clause-sound
returns-in_err-reserve_account-clause-sound c =
    sound_now c.args.self.now c.requires.sound _ refl refl refl c.index.result.now.book None c.in_ok-reserve_book.ensures.ok c.in_err-reserve_account.ensures.err

pub returns-in_err-reserve-clause-sound : goal.returns-in_err-reserve-clause-sound
returns-in_err-reserve-clause-sound c =
    sound_now c.args.self.now c.requires.sound _ refl refl (ap (λ o. o.entries) c.in_err-reserve.ensures.err) c.index.result.now.book c.index-2.result.now.account
    c.in_ok-reserve_book.ensures.ok c.in_ok-reserve_account.ensures.ok

pub returns-clause-sound : goal.returns-clause-sound
returns-clause-sound c =
    sound_now c.args.self.now c.requires.sound _ refl refl (ap (λ o. o.entries) c.in_ok-reserve.ensures.ok) c.index.result.now.book c.index-2.result.now.account
    c.in_ok-reserve_book.ensures.ok c.in_ok-reserve_account.ensures.ok

pub returns-clause-ok : goal.returns-clause-ok
returns-clause-ok c =
    let parts = c.args.self.now in
    let number : ℕ = c.args.call in
    let first : slice_get parts.calls.items number ≡ Some c.index.result.now = borrowed parts.calls.items number c.index.result.now (search rules) c.index.ensures in
    let second : slice_get parts.calls.items number ≡ Some c.index-2.result.now = borrowed parts.calls.items number c.index-2.result.now (search rules) c.index-2.ensures in
    record {
      book = λ call at lock there own here.
          book_roomy parts.books.items at lock
          (ap (λ (o : Option ℕ). slice_get (changed_lock roomy_book parts.books.items o) at) (sym (ap (λ (x : RunningCall). x.book) (same_Some c.index.result.now call (sym first ∙ there)) ∙ own))
          ∙ ap (λ (l : List BookLock). slice_get l at) (sym c.in_ok-reserve_book.ensures.ok) ∙ here);
      account = λ call at lock there own here.
          account_roomy parts.accounts.items at lock
          (ap (λ (o : Option ℕ). slice_get (changed_lock roomy_account parts.accounts.items o) at) (sym (ap (λ (x : RunningCall). x.account) (same_Some c.index-2.result.now call (sym second ∙ there)) ∙ own))
          ∙ ap (λ (l : List AccountLock). slice_get l at) (sym c.in_ok-reserve_account.ensures.ok) ∙ here);
      order = ap (λ o. o.has_room) c.in_ok-reserve.ensures.ok;
    }

pub returns-in_err-reserve_account-clause-world : goal.returns-in_err-reserve_account-clause-world
returns-in_err-reserve_account-clause-world c =
    shown_is c.args.self.now c.requires.sound (record { config = c.args.self.now.config; books = c.reserve_book.new.locks; accounts = c.reserve_account.new.locks; order = c.args.self.now.order; calls = c.args.self.now.calls })
    refl refl refl c.index.result.now.book None c.in_ok-reserve_book.ensures.ok c.in_err-reserve_account.ensures.err

pub returns-in_err-reserve-clause-world : goal.returns-in_err-reserve-clause-world
returns-in_err-reserve-clause-world c =
    shown_is c.args.self.now c.requires.sound (record { config = c.args.self.now.config; books = c.reserve_book.new.locks; accounts = c.reserve_account.new.locks; order = c.reserve.new.self; calls = c.args.self.now.calls })
    refl refl (ap (λ o. o.entries) c.in_err-reserve.ensures.err) c.index.result.now.book c.index-2.result.now.account c.in_ok-reserve_book.ensures.ok c.in_ok-reserve_account.ensures.ok

pub returns-clause-world : goal.returns-clause-world
returns-clause-world c =
    shown_is c.args.self.now c.requires.sound (record { config = c.args.self.now.config; books = c.reserve_book.new.locks; accounts = c.reserve_account.new.locks; order = c.reserve.new.self; calls = c.args.self.now.calls })
    refl refl (ap (λ o. o.entries) c.in_ok-reserve.ensures.ok) c.index.result.now.book c.index-2.result.now.account c.in_ok-reserve_book.ensures.ok c.in_ok-reserve_account.ensures.ok
