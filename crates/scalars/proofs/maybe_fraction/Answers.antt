use Rattle.std.proofs.Common.{◌∙◌, arith}
use Rattle.std.proofs.lemmas.Result.{err_from_is_err_and}
use Rattle.json_text.proofs.Rules.{got-some, got-none}
use Rattle.scalars.proofs.Rules.{fraction-break, fraction-part, no-fraction}
use Rattle.scalars.proofs.maybe_fraction.Goals.{in_default-via-in-Some+in_default, in_default-via-in_default}
use Rattle.scalars.proofs.maybe_fraction.Goals as goal

pub returns-in_err-some_digits-in-Some-eq46 : goal.returns-in_err-some_digits-in-Some-eq46
returns-in_err-some_digits-in-Some-eq46 c =
    let p = err_from_is_err_and c.from_residual.result c.from_residual.ensures.1 in
    let h = got-some c.args.text.now c.args.at c.get.ensures.lookup c.in-Some-eq46.is in
    rw (p.1, p.2) (fraction-break h.0 (h.1 ∙ c.in-Some-eq46.field-0-test) c.in_err-some_digits-in-Some-eq46.ensures.0)

pub returns-in_ok-some_digits-in-Some-eq46 : goal.returns-in_ok-some_digits-in-Some-eq46
returns-in_ok-some_digits-in-Some-eq46 c =
    let h = got-some c.args.text.now c.args.at c.get.ensures.lookup c.in-Some-eq46.is in
    fraction-part h.0 (h.1 ∙ c.in-Some-eq46.field-0-test) c.in_ok-some_digits-in-Some-eq46.ensures.0 c.maybe_exponent.ensures

pub returns-in_default : goal.returns-in_default
returns-in_default c =
    elim c.in_default.branch [
      | in_default-via-in-Some+in_default w ↦ (let h = got-some c.args.text.now c.args.at c.get.ensures.lookup w.in_default.is in let q = w.in_default.field-0-test in no-fraction (λ l e. q.1 (cc (w.in_default.field-0-is, h.1))) c.maybe_exponent-in_default.ensures)
      | in_default-via-in_default w ↦ (let h = got-none c.args.text.now c.args.at c.get.ensures.lookup w.in_default.is in no-fraction (λ l. absurd (omega arith)) c.maybe_exponent-in_default.ensures)
    ]
