-- The table holds the words of the list, by computation, and no two of them are the same.
use Rattle.std.proofs.Common.{refl}
use Rattle.words.specs.Words.{surface_words}
use Rattle.words.specs.Tables.{spelled}
use Rattle.words.specs.Laws.{surface-places}
use Rattle.words.proofs.Places.{none-escaped, are-numbered, are-unescaped, number-is}
use Rattle.words.proofs.surface_code.Goals as goal

pub code-requires : goal.code-requires
unfolding spelled surface_words none-escaped
code-requires c = (c.requires, are-numbered surface_words refl surface-places, are-unescaped surface_words refl refl)

pub returns : goal.returns
unfolding spelled surface_words
returns c = number-is surface_words refl _ c.code.ensures
