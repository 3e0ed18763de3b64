-- How a program is kept.
use Rattle.std.specs.Prelude.{◌≡◌}
use Rattle.elf_image.specs.Image.{byte_in, code_writable, IsWellFormed}
use Rattle.shared_memory.specs.Contents.{IsStart}
use Rattle.decoded_code.specs.Code.{IsCodeOf}
use Rattle.condensed_machine.specs.Machine.{Program, IsSound}
use Rattle.condensed_machine.specs.declared.program.Program.TheInside.{Inside}

-- What callers see of a program.
abbrev pub program_of : Inside → Program
program_of a = record {
  image = a.start.image;
  harts = a.harts;
  watched = a.watched;
  targets = a.targets;
  live = a.live;
  without = a.without;
}

-- The image is well-formed; code and memory are as it has them, and it is known whether the code may be written.
pub record IsProgram (a : Inside) : Type 0 where
  pub image : IsWellFormed a.start.image
  pub code : IsCodeOf a.start.image (byte_in a.start.image) a.code
  pub writable : a.writable ≡ code_writable a.start.image
  pub start : IsStart a.start.image a.start
  pub sound : IsSound (program_of a)
