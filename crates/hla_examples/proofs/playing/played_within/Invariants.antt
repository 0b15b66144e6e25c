use Rattle.hla_examples.proofs.playing.played_within.Given as goal

-- the ledger that was just made
abbrev pub ghosts-played_at-L-Ledger : goal.ghosts-played_at-L-Ledger
ghosts-played_at-L-Ledger g a = record { name = a.blank.name; parts = a.blank.parts }

-- the history that was just opened
abbrev pub ghosts-played_at-L-Naming : goal.ghosts-played_at-L-Naming
ghosts-played_at-L-Naming g a = record { book = a.opened.seen.book }
