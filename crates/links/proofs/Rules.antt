-- What the proofs of the functions over links use.
use borrow.Author.Rules.{rules}
use Rattle.shapes.specs.Laws.{checking}
use Rattle.fields.specs.Laws.{sought-in}
use Rattle.links.proofs.Lists.{sized-node, under-node, under-sized}
use Rattle.links.proofs.Absents.{absent-other, absent-told, listing-begin, listing-room, absent-nothing, absent-some}
use Rattle.links.proofs.Opens.{open-other, open_told, opening-begin, open-nothing, open-some, children-excused, children-told}
use Rattle.links.proofs.Sweeps.{row-of, listed-onward, listed-sized, object-absent, marked-once, marked-told, links-whole, links-few, links-row, links-onward, links-node, links-sized, children-answered, children-open, above-answered, parents-open, open-both, town-below, town-above, town-marks, marks-links, ready-town, links-given}

pub ruleset absents = (checking, rules, absent-other, absent-told, under-node, under-sized, absent-nothing, absent-some)

pub ruleset listing = (checking, rules, sized-node, listing-begin, listing-room)

pub ruleset opens = (checking, rules, above-answered, open-other, open_told, under-node, under-sized, open-nothing, open-some, children-excused, children-told)

pub ruleset opening = (checking, rules, sized-node, opening-begin)

pub ruleset sweeping = (checking, rules, row-of, listed-onward, listed-sized, object-absent, marked-once, marked-told)

pub ruleset linking = (
  checking,
  rules,
  sought-in,
  under-node,
  links-whole,
  links-few,
  links-row,
  links-onward,
  links-node,
  links-sized,
  children-answered,
  children-open,
  above-answered,
  parents-open,
  open-both,
)

pub ruleset towns = (rules, town-below, town-above, town-marks, marks-links, ready-town, links-given)
