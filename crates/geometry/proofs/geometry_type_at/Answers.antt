use Rattle.utf8.specs.Ascii.{ascii}
use Rattle.words.specs.Words.{is}
use Rattle.geometry.proofs.GeometryLaws.{geometric, geometry-instance, geometry-unknown}
use Rattle.geometry.proofs.geometry_type_at.Goals.{then-is_word, else-is_word}
use Rattle.geometry.proofs.geometry_type_at.Goals as goal

pub returns-then-not-is_string : goal.returns-then-not-is_string
returns-then-not-is_string c = search geometric

pub returns-then-code-ne0 : goal.returns-then-code-ne0
returns-then-code-ne0 c = search geometric

pub returns : goal.returns
unfolding is ascii
returns c = elim c.if-is_word.branch [
  | then-is_word w ↦
      geometry-instance _ _ _ c.is_string.ensures c.requires (search geometric) c.if-code-ne0.false c.is_word.ensures w.if-is_word.true (rw w.rule-is at c.unless-2.ensures)
  | else-is_word w ↦
      geometry-unknown _ _ _ c.is_string.ensures c.requires (search geometric) c.if-code-ne0.false c.is_word.ensures w.if-is_word.false (rw w.rule-is at c.unless-2.ensures)
]
