use Rattle.rows.proofs.Rules.{linking}
use Rattle.rows.proofs.link_number.Goals as goal

pub returns-then-not-is_string : goal.returns-then-not-is_string
returns-then-not-is_string c = search linking

pub number-requires : goal.number-requires
number-requires c = search linking

pub returns : goal.returns
returns c = search linking
