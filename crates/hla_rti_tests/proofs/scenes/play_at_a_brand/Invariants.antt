use Rattle.hla_rti_tests.proofs.scenes.play_at_a_brand.Given as goal

-- the ledger that was just made
abbrev pub ghosts-open_and_play-L-Ledger : goal.ghosts-open_and_play-L-Ledger
ghosts-open_and_play-L-Ledger g a = record { name = a.blank.name; parts = a.blank.parts }

-- the history that was just opened
abbrev pub ghosts-open_and_play-L-Naming : goal.ghosts-open_and_play-L-Naming
ghosts-open_and_play-L-Naming g a = record { book = a.opened.seen.book }
