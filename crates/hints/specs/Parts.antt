-- The words by which a hint names its parts. (This project's own choice.)
use Rattle.std.specs.Prelude.{ℕ, List, codes}
use Rattle.hints.specs.{declared.part.Part.Part}
use Rattle.hints.specs.declared.part.Part.TheVariants as part

abbrev pub name_of : Part → List ℕ
name_of part.Error = codes "error"
name_of part.Tip = codes "tip"
name_of part.Usage = codes "usage"
name_of part.More = codes "more"
name_of part.File = codes "file"
name_of part.Place = codes "place"
name_of part.Word = codes "word"
name_of part.Line = codes "line"
name_of part.Cause = codes "cause"
name_of part.Further = codes "further"
name_of part.Expected = codes "expected"
name_of part.Meant = codes "meant"
name_of part.Usually = codes "usually"
name_of part.For = codes "for"
name_of part.See = codes "see"
