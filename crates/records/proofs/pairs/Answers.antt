use Rattle.records.proofs.Rules.{records}
use Rattle.records.proofs.pairs.Goals as goal

pub pairs-requires : goal.pairs-requires
pairs-requires c = search records

pub returns : goal.returns
returns c = search records
