-- The table holds the words of the list, by computation, and no two of them are the same.
use Rattle.std.proofs.Common.{refl}
use Rattle.words.specs.Words.{geometry_words}
use Rattle.words.specs.Tables.{spelled}
use Rattle.words.specs.Laws.{geometry-places}
use Rattle.words.proofs.Places.{none-escaped, are-numbered, are-unescaped, number-is}
use Rattle.words.proofs.geometry_code.Goals as goal

pub code-requires : goal.code-requires
unfolding spelled geometry_words none-escaped
code-requires c = (c.requires, are-numbered geometry_words refl geometry-places, are-unescaped geometry_words refl refl)

pub returns : goal.returns
unfolding spelled geometry_words
returns c = number-is geometry_words refl _ c.code.ensures
