-- The least fault of the rules 5 to 14 is less than those of the links.
use Rattle.examining.proofs.Rules.{examines}
use Rattle.examining.proofs.examine.Goals as goal

pub returns-then-walked-lt-NO_FAULT-clause-examined : goal.returns-then-walked-lt-NO_FAULT-clause-examined
returns-then-walked-lt-NO_FAULT-clause-examined c = search examines

pub examine_links-least-requires : goal.examine_links-least-requires
examine_links-least-requires c = search examines

pub returns-clause-examined : goal.returns-clause-examined
returns-clause-examined c = search examines
