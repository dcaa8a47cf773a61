-- By the sign, and by whether the magnitude is 0.
use Rattle.std.proofs.Common.{ltb-true, ltb-false, sym, ◌∙◌}
use Rattle.utf8.specs.Laws.{never}
use Rattle.numerals.proofs.Wholes.{lies-minus, lies-nought, lies-plus}
use Rattle.numerals.proofs.lies.Goals.{then-w, else-w}
use Rattle.numerals.proofs.lies.Goals as goal

pub returns-then-under : goal.returns-then-under
returns-then-under c =
    elim c.if-w.branch [
      | then-w w ↦ lies-minus _ _ _ w.if-w.true (ltb-true 0 _ (sym w.under-is ∙ c.if-under.true))
      | else-w w ↦ absurd (never c.if-under.true (w.under-is ∙ w.if-w.false))
    ]

pub returns : goal.returns
returns c =
    elim c.if-w.branch [
      | then-w w ↦ lies-nought _ _ _ _ (ltb-false 0 _ (sym w.under-is ∙ c.if-under.false))
      | else-w w ↦ lies-plus _ _ _ w.if-w.false
    ]
