use mathlib.Core.Path.{ap, ◌∙◌}
use mathlib.Core.List.{List}
use native.Mathlib.Omega.{arith}
use lib.ListN.{set}
use Rattle.fields.specs.declared.Row.{Row}
use Rattle.fields.specs.Fields.{values}
use Rattle.fields.specs.Patterns.{patterns}
use Rattle.fields.proofs.Turns.{sound, read_none, read_turn, read_all}
use Rattle.fields.proofs.read.Goals as goal

pub loop-i-init : goal.loop-i-init
loop-i-init c = read_none c.args.body.now c.table-row-items.result.now

pub value-requires : goal.value-requires
value-requires c = let t = c.table-row-items in
    let s = sound c.args.layout t.result.now c.loop-i.i t.ensures c.loop-i-test.true in
    (omega (arith, s.next.place), omega (arith, s.within, c.told-body), s.next.wide, s.next.most)

pub bounds-numbers-i : goal.bounds-numbers-i
bounds-numbers-i c = (sound c.args.layout c.table-row-items.result.now c.loop-i.i c.table-row-items.ensures c.loop-i-test.true).few

pub loop-i-preserved : goal.loop-i-preserved
loop-i-preserved c = let t = c.table-row-items in
    let v = c.loop-i in
    let s = sound c.args.layout t.result.now v.i t.ensures c.loop-i-test.true in
    (λ j. set (v.invariant j) v.i (c.value.ensures j)) ∙ read_turn c.args.body.now t.result.now v.i s.few c.loop-i-test.true

pub returns : goal.returns
returns c = let t = c.table-row-items in
    c.loop-i.invariant
    ∙ read_all c.args.body.now t.result.now c.loop-i.i c.loop-i.auto.i-end c.loop-i-test.false
    ∙ ap (λ (rs : List Row). patterns (values rs c.args.body.now)) t.ensures
