use Rattle.std.proofs.Common.{ℕ, List, map, true, sym, ap, subst, ◌∙◌}
use Rattle.elf_image.specs.Image.{ProgramImage, word_in}
use Rattle.program_ways.specs.declared.{places.Place.Place, gathering.ProgramWays.ProgramWays}
use Rattle.program_ways.specs.Ways.{AreRuns, AreWays}
use Rattle.program_ways.specs.Keeping.{setup_here}
use Rattle.program_ways.proofs.gathering.told.Goals as goal

pub returns : goal.returns
returns c = λ image harts of_image of_harts.
    let p = c.args.program.now in
    let ways : ProgramWays = record {
      runs = record { harts = c.args.gathered.harts; is_whole = true };
      words = c.args.words;
      first = c.in_ok-first.first;
      places = c.in_ok-places.places;
    } in
    subst (λ (i : ProgramImage). AreWays i harts ways) of_image
    (subst (λ (h : ℕ). AreWays p.memory.image h ways) of_harts
    (record {
      runs = subst (λ (xs : List Place). AreRuns (setup_here p) c.args.words.items xs c.args.gathered.harts.items)
          (sym (c.in_ok-places.ensures ∙ c.as_slice-2.ensures.value)) c.requires.gathered.runs;
      first = c.in_ok-first.ensures ∙ ap (λ (xs : List ℕ). map (word_in p.memory.image) xs) c.as_slice.ensures.value;
    }))
