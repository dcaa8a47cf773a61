-- What `search` is handed to close what the functions leave.
use borrow.Author.Rules.{rules}
use Rattle.marks.proofs.Numbers.{mark-absent, mark-again, mark-new, marking-begin, marking-room, marking-turn, marked, whole_row, answer-past, answer-told}
use Rattle.marks.proofs.Sets.{row_first, row-ordered, row_within, row-lent, row_at, filling-begin, filling-room, filling-turn, filling-done}

pub ruleset marking = (rules, mark-absent, mark-again, mark-new, marking-begin, marking-room, marking-turn, marked)

pub ruleset asking = (rules, whole_row, answer-past, answer-told)

pub ruleset filling = (rules, row_first, row-ordered, row_within, row-lent, row_at, filling-begin, filling-room, filling-turn, filling-done)
