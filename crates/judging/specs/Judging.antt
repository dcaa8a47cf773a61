-- What judge answers.
use Rattle.std.specs.Prelude.{ℕ, Result, Ok, Err}
use Rattle.verdict.specs.Verdict as verdict
use Rattle.refusals.specs.Refusals.{rule_number, refusal}
use Rattle.refusals.specs.declared.Refusal.{Refusal}

-- an answer as the verdict that it is
unfoldable pub verdict_of : Result ℕ Refusal → verdict.Verdict
unfolding rule_number
verdict_of (Ok n) = verdict.accepted n
verdict_of (Err f) = refusal f
