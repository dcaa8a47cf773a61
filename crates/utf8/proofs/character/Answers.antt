-- Each arm is a row.
use Rattle.std.proofs.Common.{arith, refl, ◌∙◌}
use Rattle.utf8.specs.Rows.{rows, row}
use Rattle.utf8.proofs.Arms.{second-and, second-not, arm, found-row}
use Rattle.utf8.proofs.Rules.{chars}
use Rattle.utf8.proofs.character.Goals.{then-has, else-has, then-has-2, else-has-2, then-has-3, else-has-3, then-has-4, else-has-4}
use Rattle.utf8.proofs.character.Goals as goal

pub returns-after-has : goal.returns-after-has
unfolding rows row
returns-after-has c =
    c.then_some.ensures
    ∙ found-row _ 3 (omega arith)
    (arm c.args.text.now c.args.at 2 _
    (elim c.if-has.branch [
      | then-has w ↦ w.then_some-is ∙ second-and _ c.args.at _ _ c.has.ensures w.if-has.true w.tail.ensures
      | else-has w ↦ w.then_some-is ∙ second-not _ c.args.at _ _ c.has.ensures w.if-has.false
    ])
    refl (omega arith) c.requires (omega arith) (omega arith))

pub returns-after-has-2 : goal.returns-after-has-2
unfolding rows row
returns-after-has-2 c =
    c.then_some-in-237.ensures
    ∙ found-row _ 3 (omega arith)
    (arm c.args.text.now c.args.at 4 _
    (elim c.if-has-2.branch [
      | then-has-2 w ↦ w.then_some-is ∙ second-and _ c.args.at _ _ c.has-in-237.ensures w.if-has-2.true w.tail-then-has-2.ensures
      | else-has-2 w ↦ w.then_some-is ∙ second-not _ c.args.at _ _ c.has-in-237.ensures w.if-has-2.false
    ])
    refl (omega arith) c.requires (omega arith) (omega arith))

pub returns-after-has-3 : goal.returns-after-has-3
unfolding rows row
returns-after-has-3 c =
    c.then_some-in-240.ensures
    ∙ found-row _ 4 (omega arith)
    (arm c.args.text.now c.args.at 6 _
    (elim c.if-has-3.branch [
      | then-has-3 w ↦ w.then_some-is ∙ second-and _ c.args.at _ _ c.has-in-240.ensures w.if-has-3.true w.two_tails.ensures
      | else-has-3 w ↦ w.then_some-is ∙ second-not _ c.args.at _ _ c.has-in-240.ensures w.if-has-3.false
    ])
    refl (omega arith) c.requires (omega arith) (omega arith))

pub returns-after-has-4 : goal.returns-after-has-4
unfolding rows row
returns-after-has-4 c =
    c.then_some-in-244.ensures
    ∙ found-row _ 4 (omega arith)
    (arm c.args.text.now c.args.at 8 _
    (elim c.if-has-4.branch [
      | then-has-4 w ↦ w.then_some-is ∙ second-and _ c.args.at _ _ c.has-in-244.ensures w.if-has-4.true w.two_tails-then-has-4.ensures
      | else-has-4 w ↦ w.then_some-is ∙ second-not _ c.args.at _ _ c.has-in-244.ensures w.if-has-4.false
    ])
    refl (omega arith) c.requires (omega arith) (omega arith))

pub returns-in-225-to-236 : goal.returns-in-225-to-236
unfolding rows row
returns-in-225-to-236 c =
    c.then_some-in-225-to-236.ensures ∙ found-row _ 3 (omega arith) (arm c.args.text.now c.args.at 3 _ c.two_tails-in-225-to-236.ensures refl (omega arith) c.requires (omega arith) (omega arith))

pub returns-in-238-to-239 : goal.returns-in-238-to-239
unfolding rows row
returns-in-238-to-239 c =
    c.then_some-in-238-to-239.ensures ∙ found-row _ 3 (omega arith) (arm c.args.text.now c.args.at 5 _ c.two_tails-in-238-to-239.ensures refl (omega arith) c.requires (omega arith) (omega arith))

pub returns-in-241-to-243 : goal.returns-in-241-to-243
unfolding rows row
returns-in-241-to-243 c =
    c.then_some-in-241-to-243.ensures ∙ found-row _ 4 (omega arith) (arm c.args.text.now c.args.at 7 _ c.three_tails.ensures refl (omega arith) c.requires (omega arith) (omega arith))

pub returns-in_default : goal.returns-in_default
returns-in_default c = search chars

pub returns-in_default-2 : goal.returns-in_default-2
returns-in_default-2 c = search chars
