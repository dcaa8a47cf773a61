-- The refusal by rule 3 or 4.
use Rattle.judging.proofs.Rules.{judges}
use Rattle.judging.proofs.judge_text.Goals as goal

pub returns-in_err-n : goal.returns-in_err-n
returns-in_err-n g c = search judges
