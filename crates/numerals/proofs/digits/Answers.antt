-- A byte that is no digit, and one that is.
use Rattle.std.proofs.Common.{sym, ◌∙◌}
use Rattle.numerals.proofs.Bytes.{digit-value, digit-none}
use Rattle.numerals.proofs.Short.{quickly-other, quickly-more, quickly-end}
use Rattle.numerals.proofs.digits.Goals as goal

pub returns-in_err-n : goal.returns-in_err-n
returns-in_err-n c = c.from_residual.ensures ∙ quickly-other c.loop-b.invariant c.requires c.loop-b-test.true (digit-none _ _ (sym c.in_err-n.was ∙ c.digit.ensures))

pub loop-b-preserved : goal.loop-b-preserved
loop-b-preserved c =
    let h = digit-value _ _ _ (sym c.in_ok-n.was ∙ c.digit.ensures) in
    quickly-more c.loop-b.invariant c.requires c.loop-b-test.true h.0 h.1

pub returns : goal.returns
returns c = quickly-end c.loop-b.invariant c.requires c.loop-b-test.false
