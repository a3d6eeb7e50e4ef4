use Rattle.checks.proofs.shared.opening.with_house.Given as goal

abbrev pub ghosts-perform_under-B-Ledger : goal.ghosts-perform_under-B-Ledger
ghosts-perform_under-B-Ledger g a = record { name = a.blanks.book_entries.name; parts = a.blanks.book_entries.parts }

abbrev pub ghosts-perform_under-B-Part : goal.ghosts-perform_under-B-Part
ghosts-perform_under-B-Part g a = record { all = a.blanks.book_entries.parts }

abbrev pub ghosts-perform_under-X-Ledger : goal.ghosts-perform_under-X-Ledger
ghosts-perform_under-X-Ledger g a = record { name = a.blanks.book_amounts.name; parts = a.blanks.book_amounts.parts }

abbrev pub ghosts-perform_under-X-Part : goal.ghosts-perform_under-X-Part
ghosts-perform_under-X-Part g a = record { all = a.blanks.book_amounts.parts }

abbrev pub ghosts-perform_under-A-Ledger : goal.ghosts-perform_under-A-Ledger
ghosts-perform_under-A-Ledger g a = record { name = a.blanks.account_entries.name; parts = a.blanks.account_entries.parts }

abbrev pub ghosts-perform_under-A-Part : goal.ghosts-perform_under-A-Part
ghosts-perform_under-A-Part g a = record { all = a.blanks.account_entries.parts }

abbrev pub ghosts-perform_under-Y-Ledger : goal.ghosts-perform_under-Y-Ledger
ghosts-perform_under-Y-Ledger g a = record { name = a.blanks.account_amounts.name; parts = a.blanks.account_amounts.parts }

abbrev pub ghosts-perform_under-Y-Part : goal.ghosts-perform_under-Y-Part
ghosts-perform_under-Y-Part g a = record { all = a.blanks.account_amounts.parts }

abbrev pub ghosts-perform_under-E-Ledger : goal.ghosts-perform_under-E-Ledger
ghosts-perform_under-E-Ledger g a = record { name = a.blanks.events.name; parts = a.blanks.events.parts }

abbrev pub ghosts-perform_under-E-Part : goal.ghosts-perform_under-E-Part
ghosts-perform_under-E-Part g a = record { all = a.blanks.events.parts }

abbrev pub ghosts-perform_under-B-Configured : goal.ghosts-perform_under-B-Configured
ghosts-perform_under-B-Configured g a = record { config = a.config }
