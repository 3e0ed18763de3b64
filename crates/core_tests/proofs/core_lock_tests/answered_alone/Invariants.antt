use Rattle.core_tests.proofs.core_lock_tests.answered_alone.Given as goal

-- the ledger is the new one, and the core is the one that is handed in
abbrev pub ghosts-answered_with-L-Ledger : goal.ghosts-answered_with-L-Ledger
ghosts-answered_with-L-Ledger a = record { name = a.blank.name; parts = a.blank.parts }

abbrev pub ghosts-answered_with-L-Origin : goal.ghosts-answered_with-L-Origin
ghosts-answered_with-L-Origin a = record { setup = a.core.setup; limit = a.core.limit }
