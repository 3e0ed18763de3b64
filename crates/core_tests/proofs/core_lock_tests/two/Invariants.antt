use Rattle.core_tests.proofs.core_lock_tests.two.Given as goal

-- the ledger is the new one, and the core behind the lock is the one that is handed in
abbrev pub ghosts-two_with-L-Ledger : goal.ghosts-two_with-L-Ledger
ghosts-two_with-L-Ledger g a = record { name = a.blank.name; parts = a.blank.parts }

abbrev pub ghosts-two_with-L-Origin : goal.ghosts-two_with-L-Origin
ghosts-two_with-L-Origin g a = record { setup = a.core.setup; limit = a.core.limit }
