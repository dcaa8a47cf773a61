-- What `search` is handed to close what the functions leave.
use borrow.Author.Rules.{rules}
use Rattle.utf8.proofs.Arms.{range-past, range-below, range-from, range-and, range-not, found_between, found_above}
use Rattle.utf8.proofs.Places.{ascii-many, block-ascii, starts, goes_on, stops, ends, block_on, whole_is, whole-end}

pub ruleset chars = (
  rules,
  range-past,
  range-below,
  range-from,
  range-and,
  range-not,
  found_between,
  found_above,
  ascii-many,
  block-ascii,
  starts,
  goes_on,
  stops,
  ends,
  block_on,
  whole_is,
  whole-end,
)
