-- What `search` is handed to close what the parser's functions leave.
use Prim.Native.Nat.{ℕ, ◌<◌}
use mathlib.Core.Path.{◌≡◌}
use mathlib.Core.List.{List}
use mathlib.Core.Bool.{false}
use lib.ListN.{length, get_or}
use borrow.Author.Rules.{rules}
use Rattle.json_text.specs.Machine.{is_blank}
use Rattle.json_text.specs.Says.{Skips, blanks}
use Rattle.parser.proofs.Nodes.{atom-fits, atom-read, atom-bad, text-scalar, name_out, name-wrong, name-break, colon-out, colon-wrong, named, colon-once, colon-there, at-quote, type-fits, type-named}
use Rattle.parser.proofs.Growth.{ready-node, digits-fit, digits-read, item-atom, value_out, value-atom, atom-asks, value-deep-array, value-deep-object, opens, value-array, value-object, member-bad, member-asks, member-read, parse-asks, parse-stops, parse-trailing, parse-whole, parse-long, parse-short}

pub no-blank-there : {text : List ℕ} {at i : ℕ} → Skips blanks is_blank text at i → i < length text → false ≡ is_blank (get_or text i 0)
no-blank-there k l = k.stop l

-- a node that holds no other
pub ruleset nodes = (atom-fits, atom-read, atom-bad, text-scalar, atom-asks)

-- a name and its colon
pub ruleset names = (at-quote, name_out, name-wrong, name-break, colon-out, colon-wrong, colon-once, colon-there, named, type-fits, type-named)

-- a value
pub ruleset values = (no-blank-there, ready-node, digits-fit, digits-read, item-atom, value_out, value-atom, value-deep-array, value-deep-object, opens, value-array, value-object)

-- a member
pub ruleset members = (member-bad, member-asks, member-read)

-- a whole text
pub ruleset whole = (parse-asks, parse-stops, parse-trailing, parse-whole, parse-long, parse-short)

pub ruleset walks = (rules, nodes, names, values, members, whole)
