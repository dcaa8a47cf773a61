use Rattle.std.proofs.Common.{rules}
use Rattle.fields.specs.Laws.{at-node}
use Rattle.geometry.proofs.GeometryLaws.{own-nothing, own-none, own-some}
use Rattle.geometry.proofs.boundary_fault.Goals as goal

pub returns-in_err-found : goal.returns-in_err-found
returns-in_err-found c = search (rules, own-nothing c.args.vertices c.args.code c.requires c.in_err-found.was)

pub boundary_at-least-requires : goal.boundary_at-least-requires
boundary_at-least-requires c = at-node c.requires c.in_ok-found.was

pub returns-then-least : goal.returns-then-least
returns-then-least c = own-none _ _ c.requires c.in_ok-found.was c.boundary_at-least.ensures c.if-least.true

pub returns-else-least : goal.returns-else-least
returns-else-least c = own-some _ _ c.requires c.in_ok-found.was c.boundary_at-least.ensures
