use Rattle.std.proofs.Common.{◌≡◌, ◌∙◌, true, false, get_or, arith}
use Rattle.utf8.specs.Ascii.{is_digit}
use Rattle.json_text.specs.Machine.Mode.{neg, nought, int}
use Rattle.json_text.specs.Says.{numbered}
use Rattle.json_text.specs.Steps.{neg-0, neg-digit, neg-no}
use Rattle.json_text.proofs.Parts.{passes, stops}
use Rattle.scalars.proofs.Rules.{digit_of-test}
use Rattle.std.proofs.lemmas.Result.{err_from_is_err_and}
use Rattle.scalars.proofs.Rules.{lexes}
use Rattle.scalars.proofs.negative.Goals as goal

pub returns-in_err-b : goal.returns-in_err-b
returns-in_err-b c = let p = err_from_is_err_and c.from_residual.result c.from_residual.ensures.1 in rw (p.1, p.2) (search (lexes, c.in_err-b.ensures))

pub returns-then-b-eq48 : goal.returns-then-b-eq48
returns-then-b-eq48 c =
    let h = c.in_ok-b.ensures in
    passes neg nought (numbered c.args.text.now) h.0 (neg-0 32 c.args.text.now c.args.at _ (h.1 ∙ c.if-b-eq48.true)) c.maybe_fraction.ensures

pub returns-then-is_ascii_digit : goal.returns-then-is_ascii_digit
returns-then-is_ascii_digit c =
    let h = c.in_ok-b.ensures in
    let e : true ≡ is_digit (get_or c.args.text.now c.args.at 0) = cc (h.1, digit_of-test c.in_ok-b.b, c.is_ascii_digit.ensures.value) in
    passes neg int (numbered c.args.text.now) h.0 (neg-digit 32 c.args.text.now c.args.at _ (λ z. omega arith) e) c.integer.ensures

pub returns : goal.returns
returns c =
    let h = c.in_ok-b.ensures in
    let e : false ≡ is_digit (get_or c.args.text.now c.args.at 0) = cc (h.1, digit_of-test c.in_ok-b.b, c.is_ascii_digit.ensures.value) in
    stops neg (numbered c.args.text.now) h.0 (neg-no 32 c.args.text.now c.args.at _ (λ z. omega arith) e)
