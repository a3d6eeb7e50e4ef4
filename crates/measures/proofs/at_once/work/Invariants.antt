use Rattle.measures.proofs.at_once.work.Given as goal

abbrev pub ghosts-call_under-B-Ledger : goal.ghosts-call_under-B-Ledger
ghosts-call_under-B-Ledger g a = record { name = a.blanks.book_entries.name; parts = a.blanks.book_entries.parts }

abbrev pub ghosts-call_under-B-Part : goal.ghosts-call_under-B-Part
ghosts-call_under-B-Part g a = record { all = a.blanks.book_entries.parts }

abbrev pub ghosts-call_under-X-Ledger : goal.ghosts-call_under-X-Ledger
ghosts-call_under-X-Ledger g a = record { name = a.blanks.book_amounts.name; parts = a.blanks.book_amounts.parts }

abbrev pub ghosts-call_under-X-Part : goal.ghosts-call_under-X-Part
ghosts-call_under-X-Part g a = record { all = a.blanks.book_amounts.parts }

abbrev pub ghosts-call_under-A-Ledger : goal.ghosts-call_under-A-Ledger
ghosts-call_under-A-Ledger g a = record { name = a.blanks.account_entries.name; parts = a.blanks.account_entries.parts }

abbrev pub ghosts-call_under-A-Part : goal.ghosts-call_under-A-Part
ghosts-call_under-A-Part g a = record { all = a.blanks.account_entries.parts }

abbrev pub ghosts-call_under-Y-Ledger : goal.ghosts-call_under-Y-Ledger
ghosts-call_under-Y-Ledger g a = record { name = a.blanks.account_amounts.name; parts = a.blanks.account_amounts.parts }

abbrev pub ghosts-call_under-Y-Part : goal.ghosts-call_under-Y-Part
ghosts-call_under-Y-Part g a = record { all = a.blanks.account_amounts.parts }

abbrev pub ghosts-call_under-E-Ledger : goal.ghosts-call_under-E-Ledger
ghosts-call_under-E-Ledger g a = record { name = a.blanks.events.name; parts = a.blanks.events.parts }

abbrev pub ghosts-call_under-E-Part : goal.ghosts-call_under-E-Part
ghosts-call_under-E-Part g a = record { all = a.blanks.events.parts }

abbrev pub ghosts-call_under-B-Configured : goal.ghosts-call_under-B-Configured
ghosts-call_under-B-Configured g a = record { config = a.config }
