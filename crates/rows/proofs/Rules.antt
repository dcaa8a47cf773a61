-- What the proofs of the functions over rows use.
use borrow.Author.Rules.{rules}
use Rattle.ids.proofs.Rules.{of-string}
use Rattle.rows.proofs.Lists.{link-other, link-string, link-short, fits-node, listing-begin, found_nothing, found-fits, found_at}
use Rattle.rows.proofs.Tables.{filling-begin, filling-short, filling-last, filling-inside, filling-node, filling-onward, filling-fits, filling-turn, filling-same, filling-done, room_word, rows_told}

pub ruleset linking = (rules, of-string, link-other, link-string)

pub ruleset listing = (
  rules,
  link-short,
  fits-node,
  listing-begin,
  found_nothing,
  found-fits,
  found_at,
)

pub ruleset filling = (
  rules,
  filling-begin,
  filling-short,
  filling-last,
  filling-inside,
  filling-node,
  filling-onward,
  filling-fits,
  filling-turn,
  filling-same,
  filling-done,
)

pub ruleset whole = (rules, room_word, rows_told)
