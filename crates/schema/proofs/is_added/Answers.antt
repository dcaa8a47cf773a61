use Rattle.words.specs.Words.{is_added}
use Rattle.fields.specs.Laws.{string-text}
use Rattle.geometry.proofs.Strings.{strings}
use Rattle.schema.proofs.is_added.Goals as goal

pub is_added-requires : goal.is_added-requires
is_added-requires c = search strings

pub returns : goal.returns
returns c = string-text c.requires is_added c.text_from.ensures c.text_to.ensures c.is_added.ensures
