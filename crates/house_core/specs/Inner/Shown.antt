-- What contracts see of locked books and accounts.
use Rattle.std.specs.Prelude.{ℕ, true, List, Option, Some, None, map, slice_get, slice_set}
use Rattle.plain_house.specs.declared.entry.AccountEntry.{AccountEntry}
use Rattle.plain_house.specs.declared.entry.BookEntry.{BookEntry}
use Rattle.house_core.specs.declared.locks.AccountLock.{AccountLock}
use Rattle.house_core.specs.declared.locks.BookLock.{BookLock}
use Rattle.house_core.specs.Locks.{Lock}

-- the entries count, room for more doesn't
abbrev pub shown_book : BookLock → Lock BookEntry
shown_book lock = record { holder = lock.holder; entries = lock.book.entries }

abbrev pub shown_account : AccountLock → Lock AccountEntry
shown_account lock = record { holder = lock.holder; entries = lock.account.entries }

abbrev pub shown_books : List BookLock → List (Lock BookEntry)
shown_books locks = map shown_book locks

abbrev pub shown_accounts : List AccountLock → List (Lock AccountEntry)
shown_accounts locks = map shown_account locks

-- ---- one lock changed

-- this in the place of that number, changed so, where it is there
abbrev pub changed_there : {L : Type 0} → (L → L) → List L → ℕ → Option L → List L
changed_there change locks number None = locks
changed_there change locks number (Some lock) = slice_set locks number (change lock)

abbrev pub changed_lock : {L : Type 0} → (L → L) → List L → Option ℕ → List L
changed_lock change locks None = locks
changed_lock change locks (Some number) = changed_there change locks number (slice_get locks number)

abbrev pub freed_book : BookLock → BookLock
freed_book lock = record { holder = None; book = lock.book }

abbrev pub freed_account : AccountLock → AccountLock
freed_account lock = record { holder = None; account = lock.account }

-- with room for one more entry
abbrev pub roomy_book : BookLock → BookLock
roomy_book lock = record { holder = lock.holder; book = record { entries = lock.book.entries; has_room = true } }

abbrev pub roomy_account : AccountLock → AccountLock
roomy_account lock = record { holder = lock.holder; account = record { entries = lock.account.entries; has_room = true } }
