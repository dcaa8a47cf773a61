-- The next word is the string, or is another.
use Rattle.std.proofs.Common.{arith, ◌∙◌}
use Rattle.words.proofs.Places.{table-length, table-word, passed-all, passed-found, passed-more}
use Rattle.words.proofs.number.Goals as goal

pub returns-then-is_word : goal.returns-then-is_word
returns-then-is_word c =
    passed-found c.loop-k.invariant (omega (arith, table-length c.args.words.now, c.loop-k-test.true)) (c.is_word.ensures ∙ table-word c.args.words.now _ _ _) c.if-is_word.true

pub loop-k-preserved : goal.loop-k-preserved
loop-k-preserved c =
    passed-more c.loop-k.invariant (omega (arith, table-length c.args.words.now, c.loop-k-test.true)) (c.is_word.ensures ∙ table-word c.args.words.now _ _ _) c.if-is_word.false

pub returns : goal.returns
returns c = passed-all c.loop-k.invariant (omega (arith, table-length c.args.words.now, c.loop-k-test.false))
