use mathlib.Core.Path.{◌≡◌, refl, ◌∙◌}
use Prim.Native.Nat.{◌+◌, ◌-◌, ◌≤◌}
use native.Mathlib.Omega.{arith}
use lib.ListN.{length, replicate}
use Rattle.std.proofs.lemmas.Slice.Zip.{either_empty_from_Zip}
use Rattle.fields.specs.Table.{rows_of}
use Rattle.fields.proofs.Turns.{all_left, left_taken, next_left, row_within, no_row_left, write_none, put_long, write_turn, write_all}
use Rattle.fields.proofs.write.Goals as goal

pub loop-row-init : goal.loop-row-init
loop-row-init c = let i = c.into_iter-row-iterator.result in
    let e : i.a.rest.now ≡ rows_of c.args.layout = (cc) in
    let f : i.b.rest.now ≡ c.args.numbers = (cc) in (
      refl,
      all_left c.args.layout i.a.rest.now i.b.rest.now e (rw f (omega arith)),
      write_none c.args.layout c.args.numbers (replicate 262 0) i.a.rest.now i.b.rest.now e f,
    )

pub slice_bounds-body-end : goal.slice_bounds-body-end
slice_bounds-body-end c =
    let h : c.in-Some.row.now.0 - 1 + c.in-Some.row.now.1 ≤ length c.loop-row.body =
    omega (arith, (row_within (left_taken c.in-Some.ensures.steps c.loop-row.invariant.1)).1, c.loop-row.invariant.0) in
    h

pub loop-row-preserved : goal.loop-row-preserved
loop-row-preserved c = let i = c.next.new.self in
    let v = c.loop-row in
    let s = c.in-Some.ensures.steps in
    let h = left_taken s v.invariant.1 in (
      put_long v.body c.put.new.bits (c.in-Some.row.now.0 - 1) c.in-Some.row.now.1 (omega (arith, (row_within h).1, v.invariant.0)) c.put.auto.bits ∙ v.invariant.0,
      next_left h,
      write_turn (rows_of c.args.layout) c.args.numbers v.body v.invariant.0 c.in-Some.row.now i.a.rest.now c.in-Some.number.now i.b.rest.now c.put.new.bits h c.put.ensures
          (rw (s.0, s.1) at v.invariant.2),
    )

pub returns : goal.returns
returns c = let v = c.loop-row in
    let i = v.row-iterator in
    write_all (rows_of c.args.layout) c.args.numbers v.body i.a.rest.now i.b.rest.now v.invariant.0
    (no_row_left i.a.rest.now i.b.rest.now v.invariant.1 (either_empty_from_Zip i c.next.new.self _ refl c.in-None.ensures.steps))
    v.invariant.2
