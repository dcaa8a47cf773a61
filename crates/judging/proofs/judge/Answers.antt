-- The refusal by rule 1 or 2, or what the text that passed is judged to be.
use Rattle.std.proofs.Common.{arith, rules}
use Rattle.examining.specs.Laws.{passed-short}
use Rattle.judging.proofs.Rules.{judge-passed, judges}
use Rattle.judging.proofs.judge.Goals as goal

pub returns-in_err-screen : goal.returns-in_err-screen
returns-in_err-screen c = search judges

pub returns-then-text-le4096 : goal.returns-then-text-le4096
returns-then-text-le4096 c = judge-passed _ c.screen.ensures _ c.in_ok-screen.was c.judge_text.ensures

pub judge_text-requires-2 : goal.judge_text-requires-2
judge_text-requires-2 c = let short = passed-short _ c.screen.ensures c.in_ok-screen.was in (short, omega arith, search rules)

pub returns : goal.returns
returns c = judge-passed _ c.screen.ensures _ c.in_ok-screen.was c.judge_text-2.ensures
