use Rattle.utf8.specs.Ascii.{ascii}
use Rattle.records.proofs.Rules.{records}
use Rattle.records.proofs.transform_body.Goals as goal

pub pairs-middle-requires : goal.pairs-middle-requires
unfolding ascii
pairs-middle-requires c = search records

pub pairs-requires : goal.pairs-requires
unfolding ascii
pairs-requires c = search records

pub returns : goal.returns
unfolding ascii
returns c = search records
