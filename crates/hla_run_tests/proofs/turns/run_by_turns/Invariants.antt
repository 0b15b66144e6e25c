use Rattle.hla_run_tests.proofs.turns.run_by_turns.Given as goal

-- the ledger that was just made
abbrev pub ghosts-lived_at-L-Ledger : goal.ghosts-lived_at-L-Ledger
ghosts-lived_at-L-Ledger g a = record { name = a.blank.name; parts = a.blank.parts }

-- the history that was just opened
abbrev pub ghosts-lived_at-L-Naming : goal.ghosts-lived_at-L-Naming
ghosts-lived_at-L-Naming g a = record { book = a.opened.seen.book }
