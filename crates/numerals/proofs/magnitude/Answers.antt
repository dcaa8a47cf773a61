-- One byte more, or none once the number is 2^64 - 1.
use Rattle.std.proofs.Common.{arith, sym, ◌∙◌}
use Rattle.numerals.proofs.Bytes.{counts_start, counts_end, counts-full, counts-more, counts-same, digit-value, digit-none}
use Rattle.numerals.proofs.magnitude.Goals.{in-Some, in_default}
use Rattle.numerals.proofs.magnitude.Goals as goal

pub loop-b-init : goal.loop-b-init
loop-b-init c = counts_start _

pub returns-then-full : goal.returns-then-full
returns-then-full c = counts-full c.loop-b.invariant c.if-full.true

pub loop-b-preserved : goal.loop-b-preserved
loop-b-preserved c =
    elim c.match-digit.branch [
      | in-Some w ↦
          let h = digit-value _ _ _ (sym w.in-Some.is ∙ c.digit.ensures) in
          counts-more c.loop-b.invariant c.loop-b-test.true h.0 h.1 (omega (arith, w.n-is, w.saturating_add-n.ensures, w.saturating_mul.ensures))
      | in_default w ↦ counts-same c.loop-b.invariant c.loop-b-test.true (digit-none _ _ (sym w.in_default.is ∙ c.digit.ensures)) w.n-is
    ]

pub returns : goal.returns
returns c = counts_end c.loop-b.invariant c.loop-b-test.false
