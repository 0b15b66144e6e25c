use Rattle.hla_examples.proofs.locking.is_same_behind_the_lock.Given as goal

-- the ledger that was just made
abbrev pub ghosts-prints_expected-L-Ledger : goal.ghosts-prints_expected-L-Ledger
ghosts-prints_expected-L-Ledger g a = record { name = a.blank.name; parts = a.blank.parts }

-- the history that was just opened
abbrev pub ghosts-prints_expected-L-Naming : goal.ghosts-prints_expected-L-Naming
ghosts-prints_expected-L-Naming g a = record { book = a.opened.seen.book }
