-- At most nine bytes are digits, or are not.
use Rattle.std.proofs.Common.{arith, ap, ◌∙◌}
use Rattle.std.proofs.Math.Seq.{length-slice}
use Rattle.numerals.specs.Reading.{quick_of}
use Rattle.numerals.proofs.Bytes.{slice-of}
use Rattle.numerals.proofs.Short.{quick-is, quick-long}
use Rattle.numerals.proofs.quick.Goals as goal

pub returns-then-not-few : goal.returns-then-not-few
returns-then-not-few c =
    quick-is _ (quick-long _ (omega (arith, length-slice c.args.at c.args.end c.args.text.now c.requires.1, c.if-not-few.true)))

pub returns : goal.returns
returns c = quick-is _ (c.digits.ensures ∙ ap quick_of (slice-of _ _ _ c.requires.0))
