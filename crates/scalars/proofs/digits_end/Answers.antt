use Rattle.std.proofs.Common.{arith}
use Rattle.json_text.proofs.Rules.{got-some}
use Rattle.scalars.proofs.Leaves.{digits-yes}
use Rattle.scalars.proofs.digits_end.Goals as goal

pub returns-in_default-2 : goal.returns-in_default-2
returns-in_default-2 c =
    let h = got-some c.args.text.now c.args.at c.get.ensures.lookup c.in-Some-49-to-57.is in
    let t = c.in-Some-49-to-57 in
    let k = got-some c.args.text.now c.skip_digits-e.result c.get-2.ensures.lookup c.in_ok-get.was in
    let d = c.in_default-2 in
    digits-yes c.args.text.now c.args.at c.skip_digits-e.result h.0 (omega arith) (omega arith) c.skip_digits-e.ensures k.0 (λ e. omega arith) (λ e. omega arith) (λ e. omega arith)
