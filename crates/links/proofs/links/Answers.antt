use Rattle.links.proofs.Rules.{towns}
use Rattle.links.proofs.links.Goals as goal

pub links_short-requires : goal.links_short-requires
links_short-requires c = search towns

pub returns-then-children-le2065 : goal.returns-then-children-le2065
returns-then-children-le2065 c = search towns

pub links_long-requires : goal.links_long-requires
links_long-requires c = search towns

pub returns : goal.returns
returns c = search towns
