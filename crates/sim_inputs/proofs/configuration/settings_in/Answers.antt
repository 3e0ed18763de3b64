use Rattle.std.proofs.{Common.refl, Common.arith, lemmas.Bool.Decides.nat_tests}
use Rattle.sim_inputs.proofs.configuration.settings_in.Goals as goal

pub returns-clause-found : goal.returns-clause-found
returns-clause-found c = record {
  known = c.has_known_keys.ensures.0 c.if-not-has_known_keys.false;
  sizes = c.in_ok-config_in.ensures.found;
  ram = rw c.in_ok-ram-2.ensures.value c.in_ok-ram.ensures.found;
  limit = c.in_ok-limit.ensures.found;
  turns = c.in_ok-turns.ensures.found;
  in_range = record {
    accepted = grind (arith, nat_tests, c.in_ok-config_in.ensures.in_range, c.in_ok-limit.ensures.in_range);
    ram = rw c.in_ok-ram-2.ensures.value (c.in_ok-ram-2.ensures.valid.0 refl);
    turns = c.in_ok-turns.ensures.in_range.1;
  };
}
