use mathlib.Core.Path.{ap, ◌∙◌}
use Prim.Native.Nat.{ℕ, ◌-◌, ◌<◌}
use native.Mathlib.Omega.{arith}
use Rattle.bits.specs.Lists.{pick}
use Rattle.bits.proofs.Parts.{part_long, part_at}
use Rattle.framing.specs.Grid.{rowwise}
use Rattle.framing.proofs.Grid.{filled_none, filled_more, filled_all, rows_numbered}
use Rattle.framing.proofs.Subframe.{turned_at}
use Rattle.framing.proofs.fill_rows.Goals as goal

pub loop-i-init : goal.loop-i-init
loop-i-init c = filled_none rowwise _

pub loop-i-preserved : goal.loop-i-preserved
loop-i-preserved c = let a = c.args in
    let s = a.symbols.now in
    let i = c.loop-i.i in
    let few : i < 584 = omega (arith, part_long s 16 584 (omega arith)) in
    filled_more rowwise _ rows_numbered _ _ _ i _ (omega arith) (omega arith) (omega arith)
    (c.turned.ensures
    ∙ ap (λ (l : ℕ). pick a.turned_over (a.top - l) l) (part_at s 16 584 i few)
    ∙ turned_at a.top a.turned_over 16 s i (omega arith))
    c.loop-i.invariant

pub returns : goal.returns
returns c = filled_all rowwise _ _ _ 584 (omega (arith, part_long c.args.symbols.now 16 584 (omega arith))) c.loop-i.invariant
