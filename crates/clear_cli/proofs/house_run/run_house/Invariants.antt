use Rattle.clear_cli.proofs.house_run.run_house.Given as goal

abbrev pub ghosts-work_under-B-Ledger : goal.ghosts-work_under-B-Ledger
ghosts-work_under-B-Ledger g a = record { name = a.blanks.book_entries.name; parts = a.blanks.book_entries.parts }

abbrev pub ghosts-work_under-B-Part : goal.ghosts-work_under-B-Part
ghosts-work_under-B-Part g a = record { all = a.blanks.book_entries.parts }

abbrev pub ghosts-work_under-X-Ledger : goal.ghosts-work_under-X-Ledger
ghosts-work_under-X-Ledger g a = record { name = a.blanks.book_amounts.name; parts = a.blanks.book_amounts.parts }

abbrev pub ghosts-work_under-X-Part : goal.ghosts-work_under-X-Part
ghosts-work_under-X-Part g a = record { all = a.blanks.book_amounts.parts }

abbrev pub ghosts-work_under-A-Ledger : goal.ghosts-work_under-A-Ledger
ghosts-work_under-A-Ledger g a = record { name = a.blanks.account_entries.name; parts = a.blanks.account_entries.parts }

abbrev pub ghosts-work_under-A-Part : goal.ghosts-work_under-A-Part
ghosts-work_under-A-Part g a = record { all = a.blanks.account_entries.parts }

abbrev pub ghosts-work_under-Y-Ledger : goal.ghosts-work_under-Y-Ledger
ghosts-work_under-Y-Ledger g a = record { name = a.blanks.account_amounts.name; parts = a.blanks.account_amounts.parts }

abbrev pub ghosts-work_under-Y-Part : goal.ghosts-work_under-Y-Part
ghosts-work_under-Y-Part g a = record { all = a.blanks.account_amounts.parts }

abbrev pub ghosts-work_under-E-Ledger : goal.ghosts-work_under-E-Ledger
ghosts-work_under-E-Ledger g a = record { name = a.blanks.events.name; parts = a.blanks.events.parts }

abbrev pub ghosts-work_under-E-Part : goal.ghosts-work_under-E-Part
ghosts-work_under-E-Part g a = record { all = a.blanks.events.parts }

abbrev pub ghosts-work_under-B-Configured : goal.ghosts-work_under-B-Configured
ghosts-work_under-B-Configured g a = record { config = a.config }
