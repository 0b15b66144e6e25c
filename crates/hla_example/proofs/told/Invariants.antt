use Rattle.hla_example.proofs.told.Given as goal

-- the ledger that was just made
abbrev pub ghosts-simulated-L-Ledger : goal.ghosts-simulated-L-Ledger
ghosts-simulated-L-Ledger g a = record { name = a.blank.name; parts = a.blank.parts }

-- the history that was just opened
abbrev pub ghosts-simulated-L-Naming : goal.ghosts-simulated-L-Naming
ghosts-simulated-L-Naming g a = record { book = a.opened.seen.book }
