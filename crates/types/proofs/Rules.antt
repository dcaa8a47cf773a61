-- What `search` is handed to close what the functions leave.
use borrow.Author.Rules.{rules}
use Rattle.types.proofs.Looks.{looks-short, looks-b, looks-t, looks-escape, looks-other}
use Rattle.types.proofs.Steps.{decimal-first, decimal-point, decimal-all, added_none, added-plus, added-other, name-no-plus, name-plus, lod-empty, lod-alone, lod-short, lod-three, lod-long, lod-no}
use Rattle.types.proofs.Rows.{permitted-past, permitted-other, permitted-at}

-- a look at a type of the second level
pub ruleset seconds = (looks-short, looks-b, looks-t, looks-escape, looks-other)

-- a plus sign
pub ruleset adds = (added_none, added-plus, added-other, name-no-plus, name-plus)

-- a level of detail
pub ruleset lods = (decimal-first, decimal-point, decimal-all, lod-empty, lod-alone, lod-short, lod-three, lod-long, lod-no)

-- the tables
pub ruleset tables = (permitted-past, permitted-other, permitted-at)

pub ruleset types = (rules, seconds, adds, lods, tables)
