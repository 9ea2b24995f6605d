use mathlib.Core.Bool.{true, false}
use mathlib.Core.Path.{◌≡◌, refl, sym, ap, ◌∙◌}
use native.Mathlib.Omega.{arith}
use Rattle.std.proofs.lemmas.Slice.Zip.{either_empty_from_Zip}
use Rattle.fields.specs.Patterns.{pattern_fault, unless_0}
use Rattle.fields.specs.Table.{first, rows_of}
use Rattle.fields.proofs.Faults.{unless_all, unless_above}
use Rattle.fields.proofs.Turns.{all_left, left_taken, next_left, row_within, no_row_left, fault_taken, fault_none}
use Rattle.fields.proofs.fault.Goals as goal

pub loop-row-init : goal.loop-row-init
loop-row-init c = let i = c.into_iter-row-iterator.result in
    let e : i.a.rest.now ≡ rows_of c.args.layout = (cc) in
    let f : i.b.rest.now ≡ c.args.numbers = (cc) in
    (all_left c.args.layout i.a.rest.now i.b.rest.now e (rw f (omega arith)), λ j. pattern_fault (sym e j) (sym f j))

pub holds-requires : goal.holds-requires
holds-requires c = let h = left_taken c.in-Some.ensures.steps c.loop-row.invariant.0 in
    (h.tiles.0.wide, h.tiles.0.most)

pub loop-row-preserved : goal.loop-row-preserved
loop-row-preserved c = let v = c.loop-row in
    let i = v.row-iterator in
    let s = c.in-Some.ensures.steps in
    (next_left (left_taken s v.invariant.0), v.invariant.1 ∙ fault_taken i.a.rest.now i.b.rest.now true s (sym c.holds.ensures ∙ c.if-not-holds.false))

pub returns-then-not-holds : goal.returns-then-not-holds
returns-then-not-holds c = let v = c.loop-row in
    let i = v.row-iterator in
    let s = c.in-Some.ensures.steps in
    let e = v.invariant.1 ∙ fault_taken i.a.rest.now i.b.rest.now false s (sym c.holds.ensures ∙ c.if-not-holds.true) in
    sym (ap unless_0 e ∙ unless_above (first c.in-Some.row.now) (row_within (left_taken s v.invariant.0)).0)

pub returns : goal.returns
returns c = let v = c.loop-row in
    let i = v.row-iterator in
    let e = no_row_left i.a.rest.now i.b.rest.now v.invariant.0 (either_empty_from_Zip i c.next.new.self _ refl c.in-None.ensures.steps) in
    sym (unless_all _ (v.invariant.1 ∙ fault_none i.a.rest.now i.b.rest.now e))
