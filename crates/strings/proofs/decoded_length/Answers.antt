-- What comes before the first backslash, and what stands from there on.
use Rattle.std.proofs.Common.{arith, ap, ◌∙◌}
use Rattle.std.specs.Prelude.{length}
use Rattle.strings.proofs.Scans.{plain_size, plain-few}
use Rattle.strings.proofs.decoded_length.Goals as goal

pub ahead_length-requires : goal.ahead_length-requires
ahead_length-requires c = omega (arith, c.new.ensures.far, c.ranges.end.fits)

pub overflow_add-result : goal.overflow_add-result
overflow_add-result c =
    record { fits = omega (arith, c.ranges.end.fits, plain-few c.requires c.plain_length-n.ensures (c.ahead_length.ensures ∙ ap length c.new.ensures.bytes)) }

pub returns : goal.returns
returns c = plain_size c.requires c.plain_length-n.ensures (c.ahead_length.ensures ∙ ap length c.new.ensures.bytes)
