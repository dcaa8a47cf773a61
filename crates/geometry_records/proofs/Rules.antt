-- What `search` is handed to close what the functions leave.
use borrow.Author.Rules.{rules}
use Rattle.nodes.specs.Reads.{node-room, node-onward}
use Rattle.fields.specs.Laws.{at-node, at_room, at_onward, sought-in, string-node}
use Rattle.arrays.specs.Laws.{laying-begin, laying-same}
use Rattle.geometry_records.proofs.Texts.{quotes-none, quotes-other, quotes-string, lod-room, major-low, minor-low, lod-product, lod-sum, lod-both, lod-whole, lod-parted, surface-added, surface-listed}
use Rattle.geometry_records.proofs.Nodes.{wrote-onward, any-elements, each_all}
use Rattle.geometry_records.proofs.Members.{there-at, there-is, leaves-led, named-there, quotes-in, surfaces-none, surfaces-some, values-named, values-led}
use Rattle.geometry_records.proofs.Members.{shape-lod, lod-quoted, lod-wrote, boundary-named, boundary-led, geometry-typed, surface-typed, semantics-none, semantics-some, semantics-there, geometry-shape, geometry-semantics}
use Rattle.geometry_records.proofs.Members.{geometries-none, geometries-some, geometries-there}
use Rattle.geometry_records.proofs.Payloads.{semantics-wrote, geometry-wrote, shape-parts}

-- a node that was found, and a string there
pub ruleset found = (node-room, node-onward, at-node, at_room, at_onward, string-node, sought-in, wrote-onward)

-- a loop over the elements of an array
pub ruleset arrays = (laying-begin, any-elements, laying-same, each_all)

-- a string that was found, a lod and a surface's type
pub ruleset texts = (quotes-none, quotes-other, quotes-string, lod-room, major-low, minor-low, lod-product, lod-sum, lod-both, lod-whole, lod-parted, surface-added, surface-listed)

-- a member of a value
pub ruleset members = (there-at, there-is, leaves-led, named-there, quotes-in)

-- the members of semantics, and those that may be absent
pub ruleset fitting = (surfaces-none, surfaces-some, values-named, values-led, semantics-none, semantics-some, semantics-there, geometries-none, geometries-some, geometries-there)

-- the members of a geometry, and the type of a surface
pub ruleset shapes = (shape-lod, lod-quoted, lod-wrote, boundary-named, boundary-led, geometry-shape, geometry-semantics, geometry-typed, surface-typed)

-- what comes together in a record
pub ruleset payloads = (semantics-wrote, geometry-wrote, shape-parts)

pub ruleset geometries = (rules, found, arrays, texts, members, fitting, shapes, payloads)
