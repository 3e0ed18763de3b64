-- The setup that an image and a configuration make.
use Rattle.std.specs.Prelude.{ℕ, Bool, ◌&&◌, nat_le, length}
use Rattle.numbers.specs.Sizes.{most_events}
use Rattle.elf_image.specs.Image.{ProgramImage}
use Rattle.smt_model.specs.{declared.config.Config.Config, Setup.Setup}
use Rattle.numbers.specs.Sizes.{are_core_sizes}

abbrev pub setup_of : ProgramImage → Config → Setup
setup_of image config =
    record {
      image = image;
      harts = config.harts;
      extra = config.extra;
      queue = config.queue;
      roles = config.roles.items;
    }

-- The sizes and the limit are a core's.
abbrev pub accepts : Config → ℕ → Bool
accepts config limit = are_core_sizes config.harts config.extra config.queue
    (length config.roles.items) && nat_le limit most_events
