use Rattle.hla_program_tests.proofs.files.check_end.Given as goal

-- the ledger that was just made
abbrev pub ghosts-do_task-L-Ledger : goal.ghosts-do_task-L-Ledger
ghosts-do_task-L-Ledger g a = record { name = a.means.blank.name; parts = a.means.blank.parts }

-- the history that was just opened
abbrev pub ghosts-do_task-L-Naming : goal.ghosts-do_task-L-Naming
ghosts-do_task-L-Naming g a = record { book = a.means.opened.seen.book }
