use Rattle.words.specs.Words.{code_of, object_words}
use Rattle.fields.proofs.Rules.{object-none, spelled, spelled-span, unspelled}
use Rattle.fields.proofs.object_code.Goals as goal

pub object_code-requires : goal.object_code-requires
object_code-requires c = spelled-span c.requires c.quoted.ensures c.in-Some.is

pub returns-in-Some : goal.returns-in-Some
returns-in-Some c = spelled (code_of object_words) c.quoted.ensures c.in-Some.is c.object_code.ensures

pub returns-in-None : goal.returns-in-None
returns-in-None c = unspelled (code_of object_words) c.quoted.ensures c.in-None.is object-none
