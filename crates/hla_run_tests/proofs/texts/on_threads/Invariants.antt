use Rattle.hla_run_tests.proofs.texts.on_threads.Given as goal

-- the ledger that was just made
abbrev pub ghosts-on_threads_at-L-Ledger : goal.ghosts-on_threads_at-L-Ledger
ghosts-on_threads_at-L-Ledger g a = record { name = a.blank.name; parts = a.blank.parts }

-- the history that was just opened
abbrev pub ghosts-on_threads_at-L-Naming : goal.ghosts-on_threads_at-L-Naming
ghosts-on_threads_at-L-Naming g a = record { book = a.opened.seen.book }
