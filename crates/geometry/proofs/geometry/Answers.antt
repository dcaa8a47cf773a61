use Rattle.utf8.specs.Ascii.{ascii}
use Rattle.geometry.proofs.Orders.{geometry-is, word_parts, body_parts}
use Rattle.geometry.proofs.Lines.{together}
use Rattle.geometry.proofs.Strings.{type_at}
use Rattle.geometry.proofs.geometry.Goals as goal

pub geometry_words-a-requires : goal.geometry_words-a-requires
unfolding ascii
geometry_words-a-requires c = type_at c.requires c.member-kind.ensures c.geometry_code-code.ensures

pub returns : goal.returns
unfolding ascii word_parts body_parts together
returns c = geometry-is _ _ (type_at c.requires c.member-kind.ensures c.geometry_code-code.ensures) c.geometry_words-a.ensures c.body.ensures
