-- What lay answers, and the sheet that it leaves.
use Rattle.std.specs.Prelude.{◌≡◌, List, [], ℕ, ◌≤◌, length, replicate, Result, Ok, Err}
use Rattle.json_text.specs.Tree.{Json}
use Rattle.json_text.specs.Table.{Sub}
use Rattle.json_text.specs.Machine.{read, reads}
use Rattle.fields.specs.Fields.{objects_of}
use Rattle.ids.specs.Says.{Offsets}
use Rattle.examining.specs.Examining.{Rows}
use Rattle.verdict.specs.Verdict as verdict
use Rattle.sheets.specs.Laid as laid
use Rattle.refusals.specs.Refusals.{rule_number}
use Rattle.refusals.specs.declared.Refusal.{Refusal}
use Rattle.laying.specs.declared.Laid.{Laid}

-- what lay answers, as the answer that it is
unfoldable pub answered : Result Laid Refusal → laid.Answer
unfolding rule_number
answered (Ok a) = laid.laid a.length a.objects
answered (Err f) = laid.refused (rule_number f.rule) f.place f.end

-- the sheet d is all zeroes
unfoldable pub Zeroes : List ℕ → Type 0
Zeroes d = d ≡ replicate (length d) 0

-- the rules find no fault in the tree that the text x is read as; the offsets are those of its city objects, and the rows have what these list
pub record Clean (x t offsets children parents : List ℕ) : Type 0 where
  pub value : Json
  pub short : length x ≤ 65535
  pub reads : read x ≡ reads value
  pub stands : Sub x t 0 value
  pub kept : verdict.faults value ≡ []
  pub indexed : (v : Json) → Sub x t 0 v → Offsets x t (objects_of v) offsets
  pub rows : Rows x t offsets children parents

-- the text x, of that verdict, was laid in a sheet of zeroes d₀: a is the answer, and d is the sheet afterwards
pub record Lays (x : List ℕ) (v : verdict.Verdict) (d₀ d : List ℕ) (a : laid.Answer) : Type 0 where
  pub gives : a ≡ laid.fitted x (length d₀) v
  pub leaves : d ≡ laid.filled x (length d₀) a
