use Rattle.std.proofs.Common.{arith, ◌≡◌, true, false, get_or}
use Rattle.std.proofs.lemmas.Result.{err_from_is_err_and}
use Rattle.json_text.specs.Machine.{is_hex}
use Rattle.json_text.proofs.Parts.{hex_of-test, hex-wrong, hex-more, hex-done}
use Rattle.json_text.proofs.Rules.{lexes}
use Rattle.json_text.proofs.hex4.Goals as goal

pub loop-i-init : goal.loop-i-init
loop-i-init c = search lexes

pub returns-in_err-byte : goal.returns-in_err-byte
returns-in_err-byte c = let p = err_from_is_err_and c.from_residual.result c.from_residual.ensures.1 in rw (p.1, p.2) (search (lexes, c.in_err-byte.ensures))

pub returns-then-not-is_ascii_hexdigit : goal.returns-then-not-is_ascii_hexdigit
returns-then-not-is_ascii_hexdigit c =
    let h = c.in_ok-byte.ensures in
    let e : false ≡ is_hex (get_or c.args.text.now c.loop-i.i 0) = cc (h.1, hex_of-test c.in_ok-byte.field-0, c.is_ascii_hexdigit.ensures.value) in
    hex-wrong c.loop-i.invariant.1 (omega arith) h.0 e

pub loop-i-preserved : goal.loop-i-preserved
loop-i-preserved c =
    let h = c.in_ok-byte.ensures in
    let e : true ≡ is_hex (get_or c.args.text.now c.loop-i.i 0) = cc (h.1, hex_of-test c.in_ok-byte.field-0, c.is_ascii_hexdigit.ensures.value) in
    (omega arith, hex-more c.loop-i.invariant.1 (omega arith) h.0 e)

pub returns : goal.returns
returns c = let e : c.loop-i.i ≡ _ = omega arith in hex-done (rw e at c.loop-i.invariant.1)
