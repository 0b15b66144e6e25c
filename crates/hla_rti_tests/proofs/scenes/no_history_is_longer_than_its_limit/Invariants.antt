use Rattle.hla_rti_tests.proofs.scenes.no_history_is_longer_than_its_limit.Given as goal

-- the ledger that was just made
abbrev pub ghosts-is_too_long-L-Ledger : goal.ghosts-is_too_long-L-Ledger
ghosts-is_too_long-L-Ledger g a = record { name = a.blank.name; parts = a.blank.parts }

-- the history that was just opened
abbrev pub ghosts-is_too_long-L-Naming : goal.ghosts-is_too_long-L-Naming
ghosts-is_too_long-L-Naming g a = record { book = a.opened.seen.book }
