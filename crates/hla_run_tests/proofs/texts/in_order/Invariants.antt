use Rattle.hla_run_tests.proofs.texts.in_order.Given as goal

-- the ledger that was just made
abbrev pub ghosts-in_order_at-L-Ledger : goal.ghosts-in_order_at-L-Ledger
ghosts-in_order_at-L-Ledger g a = record { name = a.blank.name; parts = a.blank.parts }

-- the history that was just opened
abbrev pub ghosts-in_order_at-L-Naming : goal.ghosts-in_order_at-L-Naming
ghosts-in_order_at-L-Naming g a = record { book = a.opened.seen.book }
