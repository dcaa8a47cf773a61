-- A byte of a character that is begun, one that stands in the string, or the first of an escape.
use Rattle.strings.specs.Ahead.{ahead, away}
use Rattle.strings.proofs.Rules.{steps}
use Rattle.strings.proofs.decoder.DecoderIterator.next.Goals as goal

pub returns-then-self-clause-steps : goal.returns-then-self-clause-steps
unfolding ahead
returns-then-self-clause-steps c = search steps

pub returns-then-b-ne92-clause-steps : goal.returns-then-b-ne92-clause-steps
unfolding ahead
returns-then-b-ne92-clause-steps c = search steps

pub returns-in_err-s-clause-steps : goal.returns-in_err-s-clause-steps
unfolding ahead
returns-in_err-s-clause-steps c = search steps

pub invariant_of-self-in-Short : goal.invariant_of-self-in-Short
invariant_of-self-in-Short c = search steps

pub encoded-requires : goal.encoded-requires
encoded-requires c = search steps

pub invariant_of-self-in-Long : goal.invariant_of-self-in-Long
invariant_of-self-in-Long c = search steps

pub returns-in-Short-clause-steps : goal.returns-in-Short-clause-steps
unfolding ahead
returns-in-Short-clause-steps c = search steps

pub returns-in-Long-clause-steps : goal.returns-in-Long-clause-steps
unfolding ahead
returns-in-Long-clause-steps c = search steps

pub returns-then-b-ne92-clause-goes : goal.returns-then-b-ne92-clause-goes
unfolding away
returns-then-b-ne92-clause-goes c = search steps

pub returns-in-Short-clause-goes : goal.returns-in-Short-clause-goes
unfolding away
returns-in-Short-clause-goes c = search steps

pub returns-in-Long-clause-goes : goal.returns-in-Long-clause-goes
unfolding away
returns-in-Long-clause-goes c = search steps
