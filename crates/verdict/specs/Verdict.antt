-- The verdict of a text (docs/RULES.md, "The answer").
use Rattle.std.specs.Prelude.{ℕ, cond, List, ◌++◌, map, length, ltb}
use Rattle.std.proofs.Math.Option.{Option, none, some}
use Rattle.utf8.specs.Utf8.{whole_length}
use Rattle.json_text.specs.Tree.{Json}
use Rattle.json_text.specs.Machine.{Outcome, reads, bad, too_deep, read}
use Rattle.everywhere.specs.Everywhere.{rule5, rule6}
use Rattle.everywhere.specs.Parts.{parts}
use Rattle.nodes.specs.Faults.{fault, rule_of, place_in, least, no_fault}
use Rattle.fields.specs.Fields.{objects_of}
use Rattle.rules.specs.Schema.{city_json}
use Rattle.rules.specs.Links.{link_faults}
use Rattle.verdict.specs.Ends.{end_at}

-- "Acceptance gives .. the object count. Otherwise a refusal carries its number and its place together"; "Every refusal answer gains an end"
pub data Verdict : Type 0 where
  accepted : (objects : ℕ) → Verdict
  refused : (rule place end : ℕ) → Verdict

-- all faults of a tree, by rules 5 to 17
unfoldable pub faults : Json → List ℕ
unfolding fault rule5 rule6 city_json link_faults
faults v = map (fault 5) (rule5 v) ++ map (fault 6) (rule6 v) ++ city_json v ++ link_faults v

-- the end of a fault of a tree: "one past the last byte of the value or name at that place, or the place itself for 1 to 5"
unfoldable pub end_of_fault : Json → ℕ → ℕ
unfolding rule_of place_in end_at parts
end_of_fault v f = cond (ltb (rule_of f) 6) (place_in f) (end_at (place_in f) (parts v))

-- the verdict of a tree's least fault
unfoldable pub given : Json → ℕ → Verdict
unfolding rule_of place_in end_of_fault objects_of
given v f = cond (ltb f no_fault) (refused (rule_of f) (place_in f) (end_of_fault v f)) (accepted (length (objects_of v)))

-- "The lowest broken number is given, and for it the smallest place"
unfoldable pub judged : Json → Verdict
unfolding given least faults
judged v = given v (least no_fault (faults v))

-- rules 3 and 4, each with its place as its end
unfoldable pub parsed : Outcome → Verdict
unfolding judged
parsed (reads v) = judged v
parsed (bad n) = refused 3 n n
parsed (too_deep n) = refused 4 n n

-- the refusal by rule 1, "more than 65,535 bytes" at "65,535", or by rule 2, "not UTF-8" at its place, if there is one
unfoldable pub screening : List ℕ → Option Verdict
unfolding whole_length
screening text =
    cond (ltb 65535 (length text)) (some (refused 1 65535 65535))
    (cond (ltb (whole_length text) (length text)) (some (refused 2 (whole_length text) (whole_length text))) none)

-- "judge (text only)": rules 1 and 2 come first
unfoldable pub verdict : List ℕ → Verdict
unfolding screening parsed read
verdict text = elim (screening text) [ some v ↦ v | none ↦ parsed (read text) ]
