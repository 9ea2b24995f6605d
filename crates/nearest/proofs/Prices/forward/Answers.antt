use mathlib.Core.Path.{◌≡◌, ap}
use mathlib.Core.List.{List}
use Prim.Native.Nat.{ℕ, ◌+◌}
use native.Mathlib.Omega.{arith}
use Rattle.bits.specs.Lists.{at}
use Rattle.nearest.proofs.Blocks.{Blocks, blocks_first, low, small, under, blocks_more, shorter}
use Rattle.nearest.proofs.Prices.forward.Goals as goal
use Rattle.nearest.proofs.Prices.forward.Goals.{else-loop-t-test, then-loop-t-test+else-len-t}

pub loop-t-init : goal.loop-t-init
loop-t-init c = blocks_first (omega arith)

pub overflow_add-base : goal.overflow_add-base
overflow_add-base c = omega (arith, c.from-base.ensures, small c.loop-t.invariant c.args.self.now.top.small)

pub lower-requires : goal.lower-requires
lower-requires c = λ s h. omega (arith, c.saturating_sub-d.ensures, low c.loop-t.invariant s h)

pub block-m-requires : goal.block-m-requires
block-m-requires c = let n = c.min-n.ensures in
    let v = c.loop-t.invariant in record {
      steps = (shorter _ _ _ c.requires (omega arith), omega arith);
      begun = (under v c.saturating_sub-d.ensures c.lower.ensures, v.marked);
    }

pub loop-t-preserved : goal.loop-t-preserved
loop-t-preserved c = let n = c.min-n.ensures in
    blocks_more c.loop-t.invariant c.saturating_sub-d.ensures c.lower.ensures c.min-n.result (omega arith) (omega arith)
    (omega (arith, c.requires.six)) (omega (arith, c.from-base.ensures)) (omega arith) c.block-m.ensures

-- ---- behind the last block
pub overflow_add-result : goal.overflow_add-result
overflow_add-result c = let p = c.args.self.now.top.small in
    elim c.loop-t-test.branch [
      | else-loop-t-test w ↦ omega (arith, c.from.ensures, w.base-is, ap (λ (m : List ℕ). at m 0) w.m-is, small c.loop-t.invariant p)
      | then-loop-t-test+else-len-t w ↦ let n = w.min-n.ensures in
          let b : Blocks _ _ w.block-m.result w.block-m.new.marks (c.loop-t.base + w.from-base.result) 292 = blocks_more c.loop-t.invariant w.saturating_sub-d.ensures w.lower.ensures w.min-n.result (omega arith) (omega arith) (omega arith)
          (omega (arith, w.from-base.ensures)) (omega arith) w.block-m.ensures in
          omega (arith, c.from.ensures, w.base-is, ap (λ (m : List ℕ). at m 0) w.m-is, small b p)
    ]

pub returns : goal.returns
returns c = elim c.loop-t-test.branch [
  | else-loop-t-test w ↦ let e : c.loop-t.t ≡ 292 = omega (arith, c.loop-t.invariant.upto) in
      let b = rw e at c.loop-t.invariant in
      (omega (arith, c.from.ensures, w.base-is, ap (λ (m : List ℕ). at m 0) w.m-is, b.held.each 0 (omega arith)), rw w.marks-is b.marked)
  | then-loop-t-test+else-len-t w ↦ let n = w.min-n.ensures in
      let b : Blocks _ _ w.block-m.result w.block-m.new.marks (c.loop-t.base + w.from-base.result) 292 = blocks_more c.loop-t.invariant w.saturating_sub-d.ensures w.lower.ensures w.min-n.result (omega arith) (omega arith) (omega arith)
      (omega (arith, w.from-base.ensures)) (omega arith) w.block-m.ensures in
      (omega (arith, c.from.ensures, w.base-is, ap (λ (m : List ℕ). at m 0) w.m-is, b.held.each 0 (omega arith)), rw w.marks-is b.marked)
]
