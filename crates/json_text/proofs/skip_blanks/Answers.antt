-- A byte above the blank is no white space.
use Rattle.std.proofs.Common.{arith}
use Rattle.json_text.specs.Laws.{over-blank}
use Rattle.json_text.specs.Says.{blanks}
use Rattle.json_text.proofs.Moves.{stays-none}
use Rattle.json_text.proofs.Rules.{got-some}
use Rattle.json_text.proofs.skip_blanks.Goals as goal

pub returns-in-Some : goal.returns-in-Some
returns-in-Some c =
    let h = got-some c.args.text.now c.args.at c.get.ensures.lookup c.in-Some.is in
    record { stays = stays-none blanks c.args.text.now c.args.at c.requires; stop = λ l. over-blank _ (omega (arith, h.1, c.in-Some.b-is, c.if-b-gt32.true)) }
