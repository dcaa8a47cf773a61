use Rattle.std.proofs.Common.{◌∙◌}
use Rattle.json_text.proofs.Rules.{got-some, got-none}
use Rattle.json_text.specs.Machine.Mode.{mant, exp}
use Rattle.json_text.specs.Says.{numbered}
use Rattle.json_text.specs.Steps.{mant-e, mant-E}
use Rattle.json_text.proofs.Parts.{passes, mant-done, mant-out}
use Rattle.scalars.proofs.maybe_exponent.Goals as goal

pub returns-in-Some-eq101 : goal.returns-in-Some-eq101
returns-in-Some-eq101 c =
    let h = got-some c.args.text.now c.args.at c.get.ensures.lookup c.in-Some-eq101.is in
    passes mant exp (numbered c.args.text.now) h.0 (mant-e 32 c.args.text.now c.args.at _ (h.1 ∙ c.in-Some-eq101.field-0-test)) c.exponent.ensures

pub returns-in-Some-eq69 : goal.returns-in-Some-eq69
returns-in-Some-eq69 c =
    let h = got-some c.args.text.now c.args.at c.get.ensures.lookup c.in-Some-eq69.is in
    passes mant exp (numbered c.args.text.now) h.0 (mant-E 32 c.args.text.now c.args.at _ (h.1 ∙ c.in-Some-eq69.field-0-test)) c.exponent-in-Some-eq69.ensures

pub returns-in_default : goal.returns-in_default
returns-in_default c =
    let h = got-some c.args.text.now c.args.at c.get.ensures.lookup c.in_default.is in
    let q = c.in_default.field-0-test in
    mant-done h.0 (λ e. q.0.1 (cc (c.in_default.field-0-is, h.1))) (λ e. q.1 (cc (c.in_default.field-0-is, h.1)))

pub returns-in_default-2 : goal.returns-in_default-2
returns-in_default-2 c = mant-out c.requires (got-none c.args.text.now c.args.at c.get.ensures.lookup c.in_default.is)
