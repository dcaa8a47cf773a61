use Rattle.records.proofs.Rules.{sheets}
use Rattle.records.proofs.sheet.Goals as goal

pub objects-b-requires : goal.objects-b-requires
objects-b-requires c = search sheets

pub returns : goal.returns
returns c = search sheets
