use Rattle.std.proofs.Common.{sym, ◌≡◌, ◌+◌, ◌∙◌, arith}
use Rattle.json_text.proofs.Parts.{word-short, word-wrong, word_more}
use Rattle.std.proofs.lemmas.Result.{err_from_is_err_and}
use Rattle.scalars.proofs.word.Goals as goal

pub returns-in_err-byte : goal.returns-in_err-byte
returns-in_err-byte c = let p = err_from_is_err_and c.from_residual.result c.from_residual.ensures.1 in let h = c.in_err-byte.ensures in rw (p.1, p.2) (word-short c.loop-k.invariant.1 (omega arith) h.0 h.1)

pub returns-then-branch-w : goal.returns-then-branch-w
returns-then-branch-w c = let h = c.in_ok-byte.ensures in word-wrong c.loop-k.invariant.1 (omega arith) h.0 (λ e. c.if-branch-w.true (sym h.1 ∙ e))

pub loop-k-preserved : goal.loop-k-preserved
loop-k-preserved c =
    let h = c.in_ok-byte.ensures in
    let e : c.args.at + c.loop-k.k + 1 ≡ c.args.at + (c.loop-k.k + 1) = omega arith in
    (omega arith, rw e at (word_more c.loop-k.invariant.1 (omega arith) h.0 (h.1 ∙ c.if-branch-w.false)))
