use Rattle.utf8.specs.Ascii.{ascii}
use Rattle.rows.proofs.Rules.{whole}
use Rattle.rows.proofs.fill_both.Goals as goal

pub fill_rows-requires-clause-room_for_word : goal.fill_rows-requires-clause-room_for_word
unfolding ascii
fill_rows-requires-clause-room_for_word c = search whole

pub fill_rows-requires-2-clause-room_for_word : goal.fill_rows-requires-2-clause-room_for_word
unfolding ascii
fill_rows-requires-2-clause-room_for_word c = search whole

pub returns-clause-listed : goal.returns-clause-listed
unfolding ascii
returns-clause-listed c = search whole

pub returns-clause-listed_2 : goal.returns-clause-listed_2
unfolding ascii
returns-clause-listed_2 c = search whole
