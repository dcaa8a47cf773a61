-- The rows have room.
use Rattle.examining.specs.Examining.{offsets_of}
use Rattle.examining.proofs.Rules.{examines}
use Rattle.examining.proofs.examine_links.Goals as goal

pub fill-requires-clause-room_for : goal.fill-requires-clause-room_for
unfolding offsets_of
fill-requires-clause-room_for c = search examines

pub fill-requires-clause-room_for_2 : goal.fill-requires-clause-room_for_2
unfolding offsets_of
fill-requires-clause-room_for_2 c = search examines
