use Rattle.words.specs.Words.{code_of, geometry_words}
use Rattle.fields.proofs.Rules.{geometry-none, spelled, spelled-span, unspelled}
use Rattle.fields.proofs.geometry_code.Goals as goal

pub geometry_code-requires : goal.geometry_code-requires
geometry_code-requires c = spelled-span c.requires c.quoted.ensures c.in-Some.is

pub returns-in-Some : goal.returns-in-Some
returns-in-Some c = spelled (code_of geometry_words) c.quoted.ensures c.in-Some.is c.geometry_code.ensures

pub returns-in-None : goal.returns-in-None
returns-in-None c = unspelled (code_of geometry_words) c.quoted.ensures c.in-None.is geometry-none
