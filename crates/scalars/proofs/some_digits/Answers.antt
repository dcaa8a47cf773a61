use Rattle.std.proofs.Common.{◌≡◌, true, false, get_or}
use Rattle.utf8.specs.Ascii.{is_digit}
use Rattle.scalars.proofs.Rules.{digit_of-test}
use Rattle.std.proofs.lemmas.Result.{err_from_is_err_and}
use Rattle.scalars.proofs.Rules.{lexes}
use Rattle.scalars.proofs.some_digits.Goals as goal

pub returns-in_err-byte : goal.returns-in_err-byte
returns-in_err-byte c = let p = err_from_is_err_and c.from_residual.result c.from_residual.ensures.1 in let h = c.in_err-byte.ensures in rw (p.1, p.2) (search (lexes, h), search (lexes, h))

pub returns-then-not-is_ascii_digit : goal.returns-then-not-is_ascii_digit
returns-then-not-is_ascii_digit c =
    let h = c.in_ok-byte.ensures in
    let e : false ≡ is_digit (get_or c.args.text.now c.args.at 0) = cc (h.1, digit_of-test c.in_ok-byte.field-0, c.is_ascii_digit.ensures.value) in
    (search (lexes, h.0), search (lexes, h.0))

pub returns : goal.returns
returns c =
    let h = c.in_ok-byte.ensures in
    let e : true ≡ is_digit (get_or c.args.text.now c.args.at 0) = cc (h.1, digit_of-test c.in_ok-byte.field-0, c.is_ascii_digit.ensures.value) in
    (search (lexes, h.0), search (lexes, h.0))
