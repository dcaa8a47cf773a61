use Rattle.std.proofs.Common.{refl}
use Rattle.trie.proofs.Rules.{walks, walking-begin, plain_more}
use Rattle.trie.proofs.walk.Goals as goal

pub loop-i-init : goal.loop-i-init
loop-i-init c = (c.requires.0, walking-begin _ _ _ refl c.requires.1 c.requires.2)

pub walk_ahead-requires : goal.walk_ahead-requires
walk_ahead-requires c = search walks

pub returns-then-b-eq92 : goal.returns-then-b-eq92
returns-then-b-eq92 c = search walks

pub step-requires : goal.step-requires
step-requires c = search walks

pub loop-i-preserved : goal.loop-i-preserved
loop-i-preserved c = (search walks, plain_more c.loop-i.invariant.0 c.loop-i.invariant.1 c.loop-i-test.true c.if-b-eq92.false c.in_ok-p.ensures)

pub returns : goal.returns
returns c = search walks
