-- What comes before the first backslash, and what stands from there on.
use Rattle.strings.proofs.Scans.{plain-room, plain-rest, copied-both}
use Rattle.strings.proofs.copy.Goals as goal

pub put-o-requires : goal.put-o-requires
put-o-requires c = plain-room c.requires.0 c.plain_length-n.ensures _ _ c.requires.1

pub copy_ahead-requires : goal.copy_ahead-requires
copy_ahead-requires c = plain-rest c.requires.0 c.plain_length-n.ensures c.requires.1 c.put-o.ensures c.new.ensures.bytes

pub returns : goal.returns
returns c = copied-both c.requires.0 c.plain_length-n.ensures c.requires.1 c.put-o.ensures c.new.ensures.bytes c.copy_ahead.ensures
