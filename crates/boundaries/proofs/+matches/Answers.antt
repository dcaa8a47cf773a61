-- `boundaries::matches` meets its contract.
use Rattle.std.proofs.lemmas.Bool.{not_from_false}
use Rattle.boundaries.proofs.Both.{both-begin, both-nodes, both-turn, matches-leaf, matches-unlike, matches-each}
use Rattle.boundaries.proofs.Rules.{nested}
use Rattle.boundaries.proofs.+matches.Goals as goal

pub returns-then-depth-eq0 : goal.returns-then-depth-eq0
returns-then-depth-eq0 t c = matches-leaf _ _ c.if-depth-eq0.true c.is_value.ensures c.unless.ensures

pub returns-then-not-agree : goal.returns-then-not-agree
returns-then-not-agree t c = matches-unlike _ _ c.if-depth-eq0.false c.agree.ensures (not_from_false _ c.if-not-agree.true) c.unless-then-not-agree.ensures

pub loop-j-init : goal.loop-j-init
loop-j-init t c = both-begin c.requires c.agree.ensures c.if-not-agree.false c.elements.ensures.whole c.elements-2.ensures.whole (cc) (cc)

pub matches-least-requires : goal.matches-least-requires
matches-least-requires t c = (search nested, both-nodes c.loop-j.invariant c.in-Some.ensures.steps.0 c.in-Some.ensures.steps.1)

pub loop-j-preserved : goal.loop-j-preserved
loop-j-preserved t c = both-turn c.loop-j.invariant c.in-Some.ensures.steps.0 c.in-Some.ensures.steps.1 c.matches-least.ensures

pub returns : goal.returns
returns t c = matches-each _ _ c.if-depth-eq0.false c.loop-j.invariant c.in-None.ensures.steps
