use Rattle.hlaplay.proofs.run.Given as goal

-- the ledger that was just made
abbrev pub ghosts-do_words-L-Ledger : goal.ghosts-do_words-L-Ledger
ghosts-do_words-L-Ledger g a = record { name = a.means.blank.name; parts = a.means.blank.parts }

-- the history that was just opened
abbrev pub ghosts-do_words-L-Naming : goal.ghosts-do_words-L-Naming
ghosts-do_words-L-Naming g a = record { book = a.means.opened.seen.book }
