use Rattle.hla_rti_tests.proofs.board.seen_at_a_brand.Given as goal

-- the history that was just opened
abbrev pub ghosts-seen_of_new : goal.ghosts-seen_of_new
ghosts-seen_of_new g a = record { book = a.opened.seen.book }
