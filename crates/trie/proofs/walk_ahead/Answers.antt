-- The turns of the loop.
use Rattle.std.proofs.Common.{ap, sym}
use Rattle.strings.specs.Ahead.{ahead}
use Rattle.trie.proofs.Rules.{walking-begin, walking-end, walking-more, walks}
use Rattle.trie.proofs.walk_ahead.Goals as goal

pub loop-b-init : goal.loop-b-init
loop-b-init c = walking-begin _ _ _ (sym (ap ahead c.into_iter-b-iterator.ensures.into_iter_gives)) c.requires.0 c.requires.1

pub step-requires : goal.step-requires
step-requires c = search walks

pub loop-b-preserved : goal.loop-b-preserved
loop-b-preserved c = walking-more c.loop-b.invariant c.in_ok-p.ensures c.in-Some.ensures.steps

pub returns : goal.returns
returns c = walking-end c.loop-b.invariant c.in-None.ensures.steps.0
