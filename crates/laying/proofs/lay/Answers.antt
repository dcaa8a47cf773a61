-- The refusal by rule 1 or 2, or what becomes of the text that passed.
use Rattle.std.proofs.Common.{arith, rules}
use Rattle.examining.specs.Laws.{passed-short}
use Rattle.laying.proofs.Sheets.{zeroed, passed-lay, lay-value, lay-after, screened-after, screens}
use Rattle.laying.proofs.lay.Goals as goal

pub returns-in_err-screen-clause-result_value : goal.returns-in_err-screen-clause-result_value
returns-in_err-screen-clause-result_value c = search screens

pub returns-in_err-screen-clause-sheet_after : goal.returns-in_err-screen-clause-sheet_after
returns-in_err-screen-clause-sheet_after c = screened-after _ c.screen.ensures _ c.in_err-screen.was c.clear.ensures

pub lay_text-requires : goal.lay_text-requires
lay_text-requires c =
    let short = passed-short _ c.screen.ensures c.in_ok-screen.was in
    (short, omega arith, search rules, zeroed _ c.clear.ensures)

pub returns-then-text-le4096-clause-result_value : goal.returns-then-text-le4096-clause-result_value
returns-then-text-le4096-clause-result_value c = lay-value (passed-lay c.screen.ensures c.in_ok-screen.was c.lay_text.ensures) c.clear.auto.sheet

pub returns-then-text-le4096-clause-sheet_after : goal.returns-then-text-le4096-clause-sheet_after
returns-then-text-le4096-clause-sheet_after c = lay-after (passed-lay c.screen.ensures c.in_ok-screen.was c.lay_text.ensures) c.clear.auto.sheet

pub lay_text-requires-2 : goal.lay_text-requires-2
lay_text-requires-2 c =
    let short = passed-short _ c.screen.ensures c.in_ok-screen.was in
    (short, omega arith, search rules, zeroed _ c.clear.ensures)

pub returns-clause-result_value : goal.returns-clause-result_value
returns-clause-result_value c = lay-value (passed-lay c.screen.ensures c.in_ok-screen.was c.lay_text-2.ensures) c.clear.auto.sheet

pub returns-clause-sheet_after : goal.returns-clause-sheet_after
returns-clause-sheet_after c = lay-after (passed-lay c.screen.ensures c.in_ok-screen.was c.lay_text-2.ensures) c.clear.auto.sheet
