use Rattle.utf8.specs.Ascii.{ascii}
use Rattle.records.proofs.Rules.{records}
use Rattle.records.proofs.object_code.Goals as goal

pub returns : goal.returns
unfolding ascii
returns c = search records
