use Rattle.hla_examples.proofs.locking.is_run_on_threads.Given as goal

-- the ledger that was just made
abbrev pub ghosts-ends_on_threads-L-Ledger : goal.ghosts-ends_on_threads-L-Ledger
ghosts-ends_on_threads-L-Ledger g a = record { name = a.blank.name; parts = a.blank.parts }

-- the history that was just opened
abbrev pub ghosts-ends_on_threads-L-Naming : goal.ghosts-ends_on_threads-L-Naming
ghosts-ends_on_threads-L-Naming g a = record { book = a.opened.seen.book }
