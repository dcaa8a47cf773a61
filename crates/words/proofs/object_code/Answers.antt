-- The table holds the words of the list, by computation, and no two of them are the same.
use Rattle.std.proofs.Common.{refl}
use Rattle.words.specs.Words.{object_words}
use Rattle.words.specs.Tables.{spelled}
use Rattle.words.specs.Laws.{object-places}
use Rattle.words.proofs.Places.{none-escaped, are-numbered, are-unescaped, number-is}
use Rattle.words.proofs.object_code.Goals as goal

pub code-requires : goal.code-requires
unfolding spelled object_words none-escaped
code-requires c = (c.requires, are-numbered object_words refl object-places, are-unescaped object_words refl refl)

pub returns : goal.returns
unfolding spelled object_words
returns c = number-is object_words refl _ c.code.ensures
