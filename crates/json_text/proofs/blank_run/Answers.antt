use Rattle.std.proofs.Common.{arith}
use Rattle.json_text.specs.Says.{blanks}
use Rattle.json_text.specs.Machine.{is_blank}
use Rattle.json_text.proofs.Moves.{stops-out}
use Rattle.json_text.proofs.Rules.{lexes}
use Rattle.json_text.proofs.blank_run.Goals as goal

pub loop-i-init : goal.loop-i-init
loop-i-init c = search lexes

pub returns-then-not-is_blank : goal.returns-then-not-is_blank
returns-then-not-is_blank c = search lexes

pub loop-i-preserved : goal.loop-i-preserved
loop-i-preserved c = search lexes

pub returns : goal.returns
returns c = stops-out blanks is_blank _ c.args.at _ c.loop-i.invariant (omega arith)
