use mathlib.Core.Path.{◌≡◌}
use Prim.Native.Nat.{◌+◌, ◌*◌}
use native.Mathlib.Omega.{arith}
use Rattle.bits.specs.Lists.{at}
use Rattle.convolution.specs.Trellis.{toll}
use Rattle.nearest.proofs.Fly.{fly, even_metric, odd_metric, even_mark, odd_mark, row_at, halves_more, small}
use Rattle.nearest.proofs.Prices.step.Goals as goal
use Rattle.nearest.proofs.Prices.step.Goals.{In-loop-j}

-- the toll that a turn reads
toll_in : (c : In-loop-j)
    → let a = c.args in
    at a.self.now.table.now (32 * (8 * c.from.result + c.from-2.result) + c.loop-j.j)
    ≡ toll a.self.now.top.price (a.x, a.y) (2 * c.loop-j.j)
toll_in c =
    let prices = c.args.self.now in
    row_at _ _ _ _ _ _ prices.top.small prices.rows c.loop-j.invariant.row c.loop-j-test.true

pub butterfly-f-requires : goal.butterfly-f-requires
butterfly-f-requires c = small _ _ _ _ c.args.m.now c.args.self.now.top.small c.loop-j-test.true (toll_in (goal.at.butterfly-f-requires c).In-loop-j) c.requires

pub loop-j-preserved : goal.loop-j-preserved
loop-j-preserved c = let v = c.loop-j.invariant in
    let f = fly _ _ _ c.loop-j-test.true c.args.m.now _ (toll_in (goal.at.loop-j-preserved c).In-loop-j) in
    let g = c.butterfly-f.ensures in
    record {
      upto = omega arith;
      row = v.row;
      nexts = halves_more _ _ _ _ _ _ c.loop-j-test.true (even_metric f g.m0_value.0) (odd_metric f g.m1_value.0) v.nexts;
      marks = halves_more _ _ _ _ _ _ c.loop-j-test.true (even_mark f g.m0_value.1) (odd_mark f g.m1_value.1) v.marks;
    }

pub returns : goal.returns
returns c = let e : c.loop-j.j ≡ 32 = omega arith in
    let v = rw e at c.loop-j.invariant in
    record { metrics = c.weave-2.ensures _ v.nexts; marks = c.weave.ensures _ v.marks }
