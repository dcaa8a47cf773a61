use Rattle.rows.proofs.Rules.{listing}
use Rattle.rows.proofs.fill_found.Goals as goal

pub returns-in_default : goal.returns-in_default
returns-in_default c = search listing
