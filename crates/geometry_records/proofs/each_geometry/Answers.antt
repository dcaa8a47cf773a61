use Rattle.arrays.specs.Laws.{laying-item, laying-turn}
use Rattle.geometry_records.proofs.Nodes.{each_all}
use Rattle.geometry_records.proofs.Rules.{geometries}
use Rattle.geometry_records.proofs.each_geometry.Goals as goal

pub loop-k-init : goal.loop-k-init
loop-k-init c = search geometries

pub geometry-o-requires : goal.geometry-o-requires
geometry-o-requires c = laying-item c.loop-k.invariant c.in-Some.ensures.steps

pub loop-k-preserved : goal.loop-k-preserved
loop-k-preserved c = laying-turn c.loop-k.invariant c.in-Some.ensures.steps c.geometry-o.ensures

pub returns : goal.returns
returns c = each_all c.loop-k.invariant c.in-None.ensures.steps.0
