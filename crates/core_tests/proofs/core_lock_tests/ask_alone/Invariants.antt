use Rattle.core_tests.proofs.core_lock_tests.ask_alone.Given as goal

-- the ledger is the new one, and the core is the one that is handed in
abbrev pub ghosts-ask_alone_with-L-Ledger : goal.ghosts-ask_alone_with-L-Ledger
ghosts-ask_alone_with-L-Ledger a = record { name = a.blank.name; parts = a.blank.parts }

abbrev pub ghosts-ask_alone_with-L-Origin : goal.ghosts-ask_alone_with-L-Origin
ghosts-ask_alone_with-L-Origin a = record { setup = a.core.setup; limit = a.core.limit }
