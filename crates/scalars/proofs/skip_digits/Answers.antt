use Rattle.std.proofs.Common.{◌≡◌, true, false, get_or, arith}
use Rattle.utf8.specs.Ascii.{is_digit}
use Rattle.json_text.specs.Says.{digital}
use Rattle.json_text.proofs.Moves.{stops-at, stops-out}
use Rattle.scalars.proofs.Rules.{digits-none, digits-more, digit_of-test}
use Rattle.scalars.proofs.skip_digits.Goals as goal

pub loop-i-init : goal.loop-i-init
loop-i-init c = digits-none _ _ c.requires

pub returns-then-not-is_ascii_digit : goal.returns-then-not-is_ascii_digit
returns-then-not-is_ascii_digit c =
    let e : false ≡ is_digit (get_or c.args.text.now c.loop-i.i 0) = cc (digit_of-test (get_or c.args.text.now c.loop-i.i 0), c.is_ascii_digit.ensures.value) in
    stops-at digital is_digit _ _ _ c.loop-i.invariant e

pub loop-i-preserved : goal.loop-i-preserved
loop-i-preserved c =
    let e : true ≡ is_digit (get_or c.args.text.now c.loop-i.i 0) = cc (digit_of-test (get_or c.args.text.now c.loop-i.i 0), c.is_ascii_digit.ensures.value) in
    digits-more c.loop-i.invariant (omega arith) e

pub returns : goal.returns
returns c = stops-out digital is_digit _ c.args.at _ c.loop-i.invariant (omega arith)
