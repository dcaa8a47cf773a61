-- What the proofs of the functions that judge use.
use Prim.Native.Nat.{ℕ, ◌≤◌, ◌<◌}
use native.Mathlib.Omega.{arith}
use mathlib.Core.Path.{◌≡◌, sym, ◌∙◌}
use mathlib.Core.Bool.{true}
use mathlib.Core.List.{List}
use lib.Dec.{leb}
use Rattle.std.specs.Prelude.{Result, Ok, Err}
use borrow.Author.Rules.{rules}
use borrow.Author.Tests.{leb-true}
use Rattle.json_text.specs.Machine.{read}
use Rattle.nodes.specs.Faults.{no_fault}
use Rattle.schema.specs.declared.Walked.{Walked}
use Rattle.verdict.specs.Verdict.{parsed, screening, verdict}
use Rattle.refusals.specs.Says.{Refuses}
use Rattle.refusals.specs.declared.Refusal.{Refusal}
use Rattle.examining.specs.Examining.{screened_as, Stands, Opens, Examined}
use Rattle.examining.specs.Laws.{passed-short, passed-verdict, screened-refused, opened-tree, opened-refused, tabled, table-refused, table-accepted, rows-room, room-made, table-made, tree-words}
use Rattle.judging.specs.Judging.{verdict_of}

-- ---- rules 1 and 2

module _ (x : List ℕ) {r : Result (Unit {0}) Refusal} (h : screened_as r ≡ screening x) where
  pub judge-passed : (a : Result ℕ Refusal) {u : Unit {0}} → r ≡ Ok u → verdict_of a ≡ parsed (read x) → verdict_of a ≡ verdict x
  judge-passed a e j = j ∙ sym (passed-verdict x h e)

  pub judge-screened : {f : Refusal} → r ≡ Err f → verdict_of (Err f) ≡ verdict x
  unfolding verdict_of
  judge-screened e = screened-refused x h e

-- ---- rules 3 and 4

pub judge-opened : (x t₀ t : List ℕ) {r : Result ℕ Refusal} {f : Refusal} → Opens x t₀ t r → r ≡ Err f → verdict_of (Err f) ≡ parsed (read x)
unfolding verdict_of
judge-opened x t₀ t h e = opened-refused x t₀ t h e

-- ---- rules 5 to 17

pub judge-none : {x t : List ℕ} {n : ℕ} {w : Walked} → Stands x t n → Examined x t w → no_fault ≤ w.least → verdict_of (Ok w.index.count) ≡ parsed (read x)
unfolding verdict_of
judge-none s h k = table-accepted s h k

pub ruleset judges = (rules, passed-short, judge-passed, judge-screened, opened-tree, judge-opened, judge-none)
