use Rattle.nodes.proofs.Loops.{key-first, key-second, key-some, key-span, member-begin, member-found, member-again, member-done}
use Rattle.nodes.proofs.member.Goals as goal

pub loop-key-init : goal.loop-key-init
loop-key-init c = member-begin c.requires c.names-keys.ensures.whole c.into_iter-key-iterator.ensures.into_iter_gives

pub start-from-requires : goal.start-from-requires
start-from-requires c = key-first c.loop-key.invariant c.in-Some.ensures.steps

pub end-to-requires : goal.end-to-requires
end-to-requires c = key-second c.loop-key.invariant c.in-Some.ensures.steps

pub overflow_sub-to : goal.overflow_sub-to
overflow_sub-to c = key-some c.loop-key.invariant c.in-Some.ensures.steps c.end-to.ensures

pub is_word-requires : goal.is_word-requires
is_word-requires c = key-span c.loop-key.invariant c.in-Some.ensures.steps c.start-from.ensures c.end-to.ensures

pub returns-then-is_word : goal.returns-then-is_word
returns-then-is_word c =
    member-found c.loop-key.invariant c.in-Some.ensures.steps c.start-from.ensures c.end-to.ensures c.is_word.ensures c.if-is_word.true

pub loop-key-preserved : goal.loop-key-preserved
loop-key-preserved c =
    member-again c.loop-key.invariant c.in-Some.ensures.steps c.start-from.ensures c.end-to.ensures c.is_word.ensures c.if-is_word.false

pub returns : goal.returns
returns c = member-done c.loop-key.invariant c.in-None.ensures.steps
