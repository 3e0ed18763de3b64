use Rattle.litmus_reading.proofs.Fitted.{place_only}
use Rattle.litmus_reading.proofs.condition.read_observed.Goals as goal

pub returns-in_default : goal.returns-in_default
returns-in_default c = record {
  taken = c.read_location.ensures.taken;
  there = c.read_location.ensures.there c.args.asked.now.harts;
  only = λ one rest taken there no_index.
      place_only c.args.words.now rest c.in_ok-word.rest.now one c.in_ok-word.word _ c.in_ok-word.ensures.first
      c.in_default.not-Number c.read_location.ensures.only taken no_index;
}
