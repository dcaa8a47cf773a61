-- What `search` is handed to close what the functions leave.
use borrow.Author.Rules.{rules}
use Rattle.nodes.specs.Reads.{node-room, node-onward}
use Rattle.fields.specs.Laws.{sought-in}
use Rattle.ids.proofs.Rules.{member-onward, member-text, text-first, text-second, text-some, text-fits, text-span}
use Rattle.geometry_records.proofs.Members.{led, named-there}
use Rattle.records.proofs.Members.{pairs-led, transform-scale, transform-translate, object-typed}
use Rattle.records.proofs.Payloads.{id-wrote, identity-parts, member-wrote-onward, transform-parts}
use Rattle.records.proofs.LinkRows.{numbering_start, numbering-turn, numbering-done, links-wrote}
use Rattle.records.proofs.Whole.{object-geometries, object-wrote, objecting-start, objecting-member, objecting-fits, objecting-below, objecting-above, objecting-turn, objecting-done}
use Rattle.records.proofs.Whole.{root-transform, root-vertices, transform-led, vertices-led, frame-wrote, ready-root, ready-placed, sheet-wrote}

-- a member, and its name
pub ruleset names = (node-room, node-onward, sought-in, member-onward, member-text, text-first, text-second, text-some, text-fits, text-span)

-- the members of the transform, and the type of an object
pub ruleset members = (led, pairs-led, named-there, transform-scale, transform-translate, object-typed)

-- what comes together in a record
pub ruleset payloads = (id-wrote, identity-parts, transform-parts)

pub ruleset records = (rules, names, members, payloads)

-- the numbers of linked objects
pub ruleset links = (rules, numbering_start, numbering-turn, numbering-done, links-wrote)

-- an object, and the loop over all of them
pub ruleset whole = (
  rules,
  member-onward,
  object-geometries,
  object-wrote,
  objecting-start,
  objecting-member,
  objecting-fits,
  objecting-below,
  objecting-above,
  objecting-turn,
  objecting-done,
)

-- the root and the whole sheet
pub ruleset sheets = (rules, named-there, led, root-transform, root-vertices, transform-led, vertices-led, frame-wrote, ready-root, ready-placed, sheet-wrote)
