use Rattle.words.specs.Words.{is_lod}
use Rattle.fields.specs.Laws.{string-text}
use Rattle.geometry.proofs.Strings.{strings}
use Rattle.geometry.proofs.is_lod.Goals as goal

pub is_lod-requires : goal.is_lod-requires
is_lod-requires c = search strings

pub returns : goal.returns
returns c = string-text c.requires is_lod c.text_from.ensures c.text_to.ensures c.is_lod.ensures
