-- How a story is drawn. (This project's own choice.)
use Rattle.std.specs.Prelude.{ℕ, Bool, List, Option, Some, None}
use Rattle.symbols.specs.Tables.{Table, table_of}
use Rattle.address_labels.specs.Labels.{Marks, marks_of}
use Rattle.story_pictures.specs.declared.{form.PictureForm.PictureForm, form.Theme.Theme}
use Rattle.story_pictures.specs.declared.form.Theme.TheVariants.{Automatic}

-- The most rows of a picture.
abbrev pub most_rows : ℕ
most_rows = 1000

-- The colours that are wanted, or else those that whoever looks at it wants.
abbrev pub theme_or : Option Theme → Theme
theme_or None = Automatic
theme_or (Some theme) = theme

-- How many harts there are, the names of the program, what is wanted beside pcs, whether the order ends in a stuck state,
-- the text at the foot, and the colours.
pub record Plan : Type 0 where
  pub harts : ℕ
  pub names : Table
  pub marks : Marks
  pub is_stuck : Bool
  pub foot : List ℕ
  pub theme : Theme

abbrev pub plan_of : PictureForm → Plan
plan_of form = record {
  harts = form.harts;
  names = table_of form.names.now;
  marks = marks_of form.labels;
  is_stuck = form.is_stuck;
  foot = form.foot.now;
  theme = form.theme;
}
