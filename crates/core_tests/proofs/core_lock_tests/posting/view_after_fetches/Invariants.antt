use Rattle.core_tests.proofs.core_lock_tests.posting.view_after_fetches.Given as goal

-- the ledger is the new one, and the core is the one that is handed in
abbrev pub ghosts-view_after_fetches_with-L-Ledger : goal.ghosts-view_after_fetches_with-L-Ledger
ghosts-view_after_fetches_with-L-Ledger a = record { name = a.blank.name; parts = a.blank.parts }

abbrev pub ghosts-view_after_fetches_with-L-Origin : goal.ghosts-view_after_fetches_with-L-Origin
ghosts-view_after_fetches_with-L-Origin a = record { setup = a.core.setup; limit = a.core.limit }
