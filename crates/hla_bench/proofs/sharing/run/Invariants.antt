use Rattle.hla_bench.proofs.sharing.run.Given as goal

-- the ledger that was just made
abbrev pub ghosts-run_at : goal.ghosts-run_at
ghosts-run_at g a = record { name = a.blank.name; parts = a.blank.parts }
