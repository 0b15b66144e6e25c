use Rattle.hla_rti_tests.proofs.stepping.run_at_a_brand.Given as goal

-- the ledger that was just made
abbrev pub ghosts-run_of : goal.ghosts-run_of
ghosts-run_of g a = record { name = a.blank.name; parts = a.blank.parts }
