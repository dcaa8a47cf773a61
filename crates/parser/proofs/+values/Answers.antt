use Rattle.std.proofs.Common.{◌∙◌, arith}
use Rattle.std.proofs.lemmas.Result.{err_from_is_err_and}
use Rattle.parser.proofs.Growth.{starts-out, empty-closes, starts, entry-stops, entry-high, turn-wrong, turn-fits, turn-closes, turn-less, turn-more, digits-read, item-atom, member-bad, member-asks, member-read, value_out, value-deep-array, value-deep-object, value-array, value-object, value-atom}
use Rattle.parser.proofs.+values.Goals as goal

pub container-returns-in_err-e : goal.container-returns-in_err-e
container-returns-in_err-e t c =
    let p = err_from_is_err_and c.from_residual.result c.from_residual.ensures.1 in
    rw (p.1, p.2) (starts-out c.args.kind c.args.text.now _ _ c.args.at c.args.levels c.args.n c.closer-close.result _ c.closer-close.ensures c.requires c.in_err-e.ensures)

pub container-returns-in-Closed : goal.container-returns-in-Closed
container-returns-in-Closed t c =
    let f = rw c.in-Closed.is at c.in_ok-e.ensures in
    empty-closes c.args.kind c.args.text.now _ _ c.args.at c.args.levels c.args.n c.closer-close.result c.closer-close.ensures c.requires f c.put_node.ensures

pub container-loop-taken-init : goal.container-loop-taken-init
container-loop-taken-init t c =
    let f = rw c.in-More.is at c.in_ok-e.ensures in
    starts c.args.kind c.args.text.now _ c.args.at c.args.levels c.args.n c.closer-close.result c.closer-close.ensures c.requires f

pub container-returns-in_err-taken : goal.container-returns-in_err-taken
container-returns-in_err-taken t c =
    let p = err_from_is_err_and c.from_residual-in_err-taken.result c.from_residual-in_err-taken.ensures.1 in
    rw (p.1, p.2) (entry-stops c.args.text.now c.args.table.now c.loop-taken.table c.args.at c.args.levels c.args.n c.loop-taken.i c.loop-taken.m c.args.kind _ _ c.loop-taken.invariant c.in_err-taken.ensures)

pub container-after-requires : goal.container-after-requires
container-after-requires t c = entry-high c.args.text.now c.args.table.now c.loop-taken.table c.args.at c.args.levels c.args.n c.loop-taken.i c.loop-taken.m _ c.in_ok-taken.taken c.args.kind c.in_ok-taken.ensures

pub container-returns-in_err-e-2 : goal.container-returns-in_err-e-2
container-returns-in_err-e-2 t c =
    let p = err_from_is_err_and c.from_residual-in_err-e-2.result c.from_residual-in_err-e-2.ensures.1 in
    rw (p.1, p.2) (turn-wrong c.args.text.now c.args.table.now c.loop-taken.table c.args.at c.args.levels c.args.n c.loop-taken.i c.loop-taken.m _ c.in_ok-taken.taken _ c.closer-close.result c.args.kind c.closer-close.ensures c.loop-taken.invariant c.in_ok-taken.ensures c.in_err-e-2.ensures)

pub container-put_node-requires-in-Closed-2 : goal.container-put_node-requires-in-Closed-2
container-put_node-requires-in-Closed-2 t c =
    let f = rw c.in-Closed-2.is at c.in_ok-e-2.ensures in
    turn-fits c.args.text.now c.args.table.now c.loop-taken.table c.args.at c.args.levels c.args.n c.loop-taken.i c.loop-taken.m _ c.in_ok-taken.taken _ c.closer-close.result c.args.kind c.closer-close.ensures c.loop-taken.invariant c.in_ok-taken.ensures f

pub container-returns-in-Closed-2 : goal.container-returns-in-Closed-2
container-returns-in-Closed-2 t c =
    let f = rw c.in-Closed-2.is at c.in_ok-e-2.ensures in
    turn-closes c.args.text.now c.args.table.now c.loop-taken.table c.args.at c.args.levels c.args.n c.loop-taken.i c.loop-taken.m _ c.in_ok-taken.taken _ c.closer-close.result c.args.kind _ c.closer-close.ensures c.loop-taken.invariant c.in_ok-taken.ensures f c.put_node-in-Closed-2.ensures

pub container-loop-taken-smaller : goal.container-loop-taken-smaller
container-loop-taken-smaller t c =
    let f = rw c.in-More-2.is at c.in_ok-e-2.ensures in
    turn-less c.args.text.now c.args.table.now c.loop-taken.table c.args.at c.args.levels c.args.n c.loop-taken.i c.loop-taken.m _ c.in_ok-taken.taken _ 0 c.args.kind c.loop-taken.invariant c.in_ok-taken.ensures f

pub container-loop-taken-preserved : goal.container-loop-taken-preserved
container-loop-taken-preserved t c =
    let f = rw c.in-More-2.is at c.in_ok-e-2.ensures in
    turn-more c.args.text.now c.args.table.now c.loop-taken.table c.args.at c.args.levels c.args.n c.loop-taken.i c.loop-taken.m _ c.in_ok-taken.taken _ 0 c.args.kind c.loop-taken.invariant c.in_ok-taken.ensures f

pub element-returns : goal.element-returns
element-returns t c = digits-read c.in-Some.ensures c.requires _ c.put_node.ensures

pub item-returns-in-Some-eq34 : goal.item-returns-in-Some-eq34
item-returns-in-Some-eq34 t c = item-atom _ _ _ c.requires c.text_node.ensures

pub member-returns-in_err-v : goal.member-returns-in_err-v
member-returns-in_err-v t c =
    let p = err_from_is_err_and c.from_residual.result c.from_residual.ensures.1 in
    rw (p.1, p.2) (member-bad _ c.requires _ _ c.in_err-v.ensures)

pub member-item-requires : goal.member-item-requires
member-item-requires t c = (omega arith, member-asks _ c.requires _ c.in_ok-v.ensures)

pub member-returns : goal.member-returns
member-returns t c = member-read _ c.requires _ c.in_ok-v.ensures _ _ c.item.ensures

pub value-returns-in_err-b : goal.value-returns-in_err-b
value-returns-in_err-b t c =
    let p = err_from_is_err_and c.from_residual.result c.from_residual.ensures.1 in
    let h = c.in_err-b.ensures in
    rw (p.1, p.2) (value_out c.skip_blanks-i.ensures _ _ _ _ _ h.0 h.1)

pub value-returns-then-levels-eq0 : goal.value-returns-then-levels-eq0
value-returns-then-levels-eq0 t c =
    let h = c.in_ok-b.ensures in
    value-deep-array c.skip_blanks-i.ensures _ _ _ h.0 _ (h.1 ∙ c.if-b-eq91.true) c.if-levels-eq0.true

pub value-returns-then-b-eq91 : goal.value-returns-then-b-eq91
value-returns-then-b-eq91 t c =
    let h = c.in_ok-b.ensures in
    value-array c.skip_blanks-i.ensures _ _ _ h.0 _ _ (h.1 ∙ c.if-b-eq91.true) c.if-levels-eq0.false c.container.ensures

pub value-returns-then-levels-eq0-2 : goal.value-returns-then-levels-eq0-2
value-returns-then-levels-eq0-2 t c =
    let h = c.in_ok-b.ensures in
    value-deep-object c.skip_blanks-i.ensures _ _ _ h.0 _ (h.1 ∙ c.if-b-eq123.true) c.if-levels-eq0-2.true

pub value-returns-then-b-eq123 : goal.value-returns-then-b-eq123
value-returns-then-b-eq123 t c =
    let h = c.in_ok-b.ensures in
    value-object c.skip_blanks-i.ensures _ _ _ h.0 _ _ (h.1 ∙ c.if-b-eq123.true) c.if-levels-eq0-2.false c.container-then-b-eq123.ensures

pub value-returns : goal.value-returns
value-returns t c = value-atom c.skip_blanks-i.ensures _ _ _ _ _ c.requires c.atom.ensures
