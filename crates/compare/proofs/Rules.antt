-- What `search` is handed to close what the functions leave.
use borrow.Author.Rules.{rules}
use Rattle.compare.proofs.Scans.{prefix-start, prefix-all, prefix-on, prefix-wrong, prefix-least, told-word, told-string, apart_none, apart-none2, apart-alike, apart-slash, apart-second}

-- strings as they stand
pub ruleset prefixes = (prefix-start, prefix-all, prefix-on, prefix-wrong, prefix-least, told-word, told-string)

-- the first bytes of two strings
pub ruleset aparts = (apart_none, apart-none2, apart-alike, apart-slash, apart-second)

pub ruleset scans = (rules, prefixes, aparts)
