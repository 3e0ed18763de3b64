use Rattle.litmus_cycles.proofs.open.+add_places.Given as goal

abbrev pub decreases-add_places : goal.decreases-add_places
decreases-add_places l = l.count
