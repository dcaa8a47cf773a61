-- What `search` is handed to close what the functions leave.
use borrow.Author.Rules.{rules}
use Rattle.strings.proofs.Bytes.{hex-digit, hex-upper, hex-lower, unit-is, paired_is, escaped-b, escaped-f, escaped-n, escaped-r, escaped-t, escaped-same, encoded-1, encoded-2, encoded-3, encoded-4}
use Rattle.strings.specs.Laws.{onward}
use Rattle.strings.proofs.Escapes.{half-few, half-plain, half-short, half-under, half_over, half_is, half-least, half-most, long-under, long-over, long-missing, long-pair, cut-two, cut-six, short-is, short-span, short-within, long-span, long-past, long-less, long-small}
use Rattle.strings.proofs.Steps.{next-none, next-plain, next-cut, next-short, next-long, begun-next}
use Rattle.strings.proofs.Scans.{past-start, past-more, past-here, past-end, plain-none}
use Rattle.strings.proofs.Loops.{writing_start, writing-done, writing-room, writing_more, found-end, found_plain, found-cut, found-short, found-long, found_here}

-- hexadecimal digits
pub ruleset digits = (hex-digit, hex-upper, hex-lower, unit-is, paired_is)

-- what an escape of two bytes stands for
pub ruleset shorts = (escaped-b, escaped-f, escaped-n, escaped-r, escaped-t, escaped-same)

-- the second half of a pair
pub ruleset halves = (half-few, half-plain, half-short, half-under, half_over, half_is, half-least, half-most)

-- an escape
pub ruleset longs = (long-under, long-over, long-missing, long-pair, cut-two, cut-six, short-is, long-small)

-- how a character is written
pub ruleset characters = (encoded-1, encoded-2, encoded-3, encoded-4)

pub ruleset strings = (rules, digits, shorts, halves, longs, characters)

-- what stands after an escape
pub ruleset onwards = (onward, short-span, short-within, long-span, long-past, long-less, long-small)

-- the next byte
pub ruleset steps = (rules, onwards, next-none, next-plain, next-cut, next-short, next-long, begun-next)

-- a copy
pub ruleset copies = (rules, past-start, past-more, past-here, past-end, plain-none, writing_start, writing-done, writing-room, writing_more)

-- where a search for an unpaired surrogate goes on
pub ruleset finds = (rules, onwards, found-end, found_plain, found-cut, found-short, found-long, found_here)
