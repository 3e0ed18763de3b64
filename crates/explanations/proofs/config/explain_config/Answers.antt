use Rattle.explanations.proofs.{Faults.refused}
use Rattle.explanations.proofs.config.explain_config.Goals as goal

pub returns-in_ok-text-in-Err : goal.returns-in_ok-text-in-Err
returns-in_ok-text-in-Err c = record {
  accepted = tt;
  refused = refused c.args.text.now c.in-Err.fault c.in-Err.ensures.refused c.in_ok-text-in-Err.ensures.told;
  told = record { fault = c.in-Err.fault; has = c.in-Err.ensures.fault; is_text = c.in_ok-text-in-Err.ensures };
}
