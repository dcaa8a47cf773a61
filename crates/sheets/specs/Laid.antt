-- What lay answers for a text and a lent sheet, and what the sheet then holds (docs/RULES.md, "The answer"; docs/SHEET.md).
use Rattle.std.specs.Prelude.{ℕ, ◌-◌, cond, List, ◌++◌, length, replicate, leb}
use Rattle.json_text.specs.Machine.{tree_of}
use Rattle.model.specs.Model.{Model, sheet_of}
use Rattle.model.specs.Read.{model_of}
use Rattle.verdict.specs.Verdict.{Verdict, verdict}
use Rattle.verdict.specs.Verdict as judge

-- the model of a text, and its sheet
unfoldable pub model_of_text : List ℕ → Model
unfolding model_of tree_of
model_of_text text = model_of (tree_of text)

unfoldable pub sheet_of_text : List ℕ → List ℕ
unfolding sheet_of model_of_text
sheet_of_text text = sheet_of (model_of_text text)

-- "Acceptance gives the sheet's length (lay only) and the object count"; a refusal is as judge's
pub data Answer : Type 0 where
  laid : (size objects : ℕ) → Answer
  refused : (rule place end : ℕ) → Answer

-- "Lay answers as judge does, save for refusal 18": "sheet longer than the lent room (lay only)" at "0", and its end is "the place itself"
unfoldable pub fitted : List ℕ → ℕ → Verdict → Answer
unfolding sheet_of_text
fitted text room (judge.accepted n) = cond (leb (length (sheet_of_text text)) room) (laid (length (sheet_of_text text)) n) (refused 18 0 0)
fitted text room (judge.refused r p e) = refused r p e

-- "lay (text and a lent sheet)": what it answers
unfoldable pub answer : List ℕ → ℕ → Answer
unfolding fitted verdict
answer text room = fitted text room (verdict text)

-- every byte of the lent room afterwards: the sheet and then zeros; with a refusal "lay zeroes the sheet"
unfoldable pub filled : List ℕ → ℕ → Answer → List ℕ
unfolding sheet_of_text
filled text room (laid size objects) = sheet_of_text text ++ replicate (room - size) 0
filled text room (refused rule place end) = replicate room 0

-- "A lent sheet may have any length": the room is any number of bytes
unfoldable pub room_after : List ℕ → ℕ → List ℕ
unfolding filled answer
room_after text room = filled text room (answer text room)
