use Rattle.std.proofs.Common.{◌∙◌, arith}
use Rattle.json_text.specs.Machine.Mode.{exp, sign}
use Rattle.json_text.specs.Says.{numbered}
use Rattle.json_text.specs.Steps.{exp-plus, exp-minus, exp-else}
use Rattle.json_text.proofs.Parts.{looks, passes}
use Rattle.std.proofs.lemmas.Result.{err_from_is_err_and}
use Rattle.scalars.proofs.Rules.{lexes}
use Rattle.scalars.proofs.exponent.Goals as goal

pub returns-in_err-byte : goal.returns-in_err-byte
returns-in_err-byte c = let p = err_from_is_err_and c.from_residual.result c.from_residual.ensures.1 in rw (p.1, p.2) (search (lexes, c.in_err-byte.ensures))

pub returns-in-43 : goal.returns-in-43
returns-in-43 c =
    let h = c.in_ok-byte.ensures in
    passes exp sign (numbered c.args.text.now) h.0 (exp-plus 32 c.args.text.now c.args.at _ (h.1 ∙ c.in-43.is)) c.some_digits.ensures.1

pub returns-in-45 : goal.returns-in-45
returns-in-45 c =
    let h = c.in_ok-byte.ensures in
    passes exp sign (numbered c.args.text.now) h.0 (exp-minus 32 c.args.text.now c.args.at _ (h.1 ∙ c.in-45.is)) c.some_digits-in-45.ensures.1

pub returns-in_default : goal.returns-in_default
returns-in_default c = let h = c.in_ok-byte.ensures in looks exp sign (numbered c.args.text.now) h.0 (exp-else 32 c.args.text.now c.args.at _ (λ e. omega arith) (λ e. omega arith)) c.some_digits-in_default.ensures.1
