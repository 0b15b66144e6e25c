use Rattle.hla_examples.proofs.layers.printed.Given as goal

-- the ledger that was just made
abbrev pub ghosts-printed_at-L-Ledger : goal.ghosts-printed_at-L-Ledger
ghosts-printed_at-L-Ledger g a = record { name = a.blank.name; parts = a.blank.parts }

-- the history that was just opened
abbrev pub ghosts-printed_at-L-Naming : goal.ghosts-printed_at-L-Naming
ghosts-printed_at-L-Naming g a = record { book = a.opened.seen.book }
