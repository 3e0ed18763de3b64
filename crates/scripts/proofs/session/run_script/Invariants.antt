use Rattle.scripts.proofs.session.run_script.Given as goal

-- the ledger is the new one, and its core is the one that is asked
abbrev pub ghosts-run_dealt-L-Ledger : goal.ghosts-run_dealt-L-Ledger
ghosts-run_dealt-L-Ledger g a = record { name = a.blank.name; parts = a.blank.parts }

abbrev pub ghosts-run_dealt-L-Origin : goal.ghosts-run_dealt-L-Origin
ghosts-run_dealt-L-Origin g a = record { setup = a.core.setup; limit = a.core.limit }
