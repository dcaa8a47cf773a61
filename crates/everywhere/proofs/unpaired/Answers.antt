use Rattle.std.proofs.Common.{arith}
use Rattle.std.proofs.lemmas.Bool.{not_from_false}
use Rattle.everywhere.specs.Says.{own5}
use Rattle.everywhere.proofs.Passes.{Always, pass-begin, pass-part, pass-again, pass-done, rule5-parts, rule5-clear}
use Rattle.everywhere.proofs.unpaired.Goals as goal

pub returns-then-not-has_escape : goal.returns-then-not-has_escape
returns-then-not-has_escape c = rule5-clear _ c.has_escape.ensures (not_from_false _ c.if-not-has_escape.true)

pub loop-k-init : goal.loop-k-init
loop-k-init c = pass-begin Always 5 own5 _ c.requires

pub unpaired_at-least-requires : goal.unpaired_at-least-requires
unpaired_at-least-requires c = pass-part c.loop-k.invariant c.loop-k-test.true

pub loop-k-preserved : goal.loop-k-preserved
loop-k-preserved c = pass-again c.loop-k.invariant c.loop-k-test.true c.unpaired_at-least.ensures

pub returns-else-not-has_escape : goal.returns-else-not-has_escape
returns-else-not-has_escape c = record { is = λ v s. rw (rule5-parts v) (pass-done c.loop-k.invariant c.loop-k-test.false tt v s) }

-- the last node, after which the next number of the loop is not below n
pub returns-else-not-has_escape-2 : goal.returns-else-not-has_escape-2
returns-else-not-has_escape-2 c =
    let p = pass-again c.loop-k.invariant c.loop-k-test.true c.unpaired_at-least.ensures in
    record { is = λ v s. rw (rule5-parts v) (pass-done p (omega arith) tt v s) }
