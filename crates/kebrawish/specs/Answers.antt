-- What the functions for C answer: five numbers, of which those that do not apply are 0.
use Rattle.std.specs.Prelude.{ℕ}
use Rattle.verdict.specs.Verdict as verdict
use Rattle.sheets.specs.Laid as laid
use Rattle.kebrawish.specs.declared.KebrawishAnswer.{KebrawishAnswer}

-- an acceptance: no rule, the sheet's length, and the object count
unfoldable pub acceptance : ℕ → ℕ → KebrawishAnswer
acceptance length objects = record { rule = 0; place = 0; end = 0; length = length; objects = objects }

-- a refusal: the rule's number, its place and its end
unfoldable pub refusal_of : ℕ → ℕ → ℕ → KebrawishAnswer
refusal_of rule place end = record { rule = rule; place = place; end = end; length = 0; objects = 0 }

-- what judge answers, with no length
unfoldable pub judge_answer : verdict.Verdict → KebrawishAnswer
unfolding acceptance refusal_of
judge_answer (verdict.accepted objects) = acceptance 0 objects
judge_answer (verdict.refused rule place end) = refusal_of rule place end

-- what lay answers
unfoldable pub lay_answer : laid.Answer → KebrawishAnswer
unfolding acceptance refusal_of
lay_answer (laid.laid length objects) = acceptance length objects
lay_answer (laid.refused rule place end) = refusal_of rule place end
