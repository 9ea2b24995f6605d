-- `Entry::fault` meets its contract. Assumes nothing.
use Rattle.std.specs.Prelude.{None, Some}
use Rattle.std.specs.Bool.{then_some}
use mathlib.Core.Path.{◌≡◌, refl, sym, ap, ◌∙◌}
use mathlib.Core.Bool.{Bool, true, false, not}
use Prim.Native.Nat.{ℕ, ◌<◌}
use native.Mathlib.Omega.{arith}
use borrow.Author.Tests.{ne_eqb}
use lib.Dec.{eqb}
use Rattle.bits.specs.Lists.{pick}
use Rattle.fields.specs.declared.Layout.{Layout}
use Rattle.fields.specs.Patterns.{unless_0}
use Rattle.fields.proofs.Faults.{unless_none, unless_some, unless_some_above}
use Rattle.message.specs.Records.{layout_of, fault_of, record_fault, used_by, unused_zero}
use Rattle.message.proofs.Laying.{laid_fault, fault_low}
use Rattle.message.proofs.Entry.fault.Goals as goal
use Rattle.message.proofs.Entry.fault.Goals.{After-fault, After-unused_zero}

-- the lowest field that is outside its width tells the fault, and where there is none what is not used
told : (n b m : ℕ) → unless_0 n ≡ Some b → Some b ≡ unless_0 (pick (eqb n 0) m n)
told n b m e =
    let first : pick (eqb n 0) m n ≡ n = rw (ne_eqb n 0 (omega (arith, unless_some n b e, unless_some_above n b e))) in
    sym e ∙ ap unless_0 (sym first)

untold : (n : ℕ) (t u : Bool) → unless_0 n ≡ None → u ≡ t → unless_0 (pick t 0 293) ≡ unless_0 (pick (eqb n 0) (pick u 0 293) n)
untold n t u e f = rw (unless_none n e, f)

behind : (t : Bool) → then_some (not t) 293 ≡ unless_0 (pick t 0 293)
behind true = refl
behind false = refl

found : (c : After-fault) → c.fault.result ≡ unless_0 (record_fault c.args.self.«record» c.args.self.beside)
found c = c.fault.ensures ∙ ap unless_0 (laid_fault _ _ _ _ c.layout-layout.ensures c.numbers_of.ensures)

-- the test of what is not used
tested : (c : After-unused_zero) → unused_zero (used_by (layout_of c.args.self.«record»)) c.args.self.beside ≡ c.unused_zero.result
tested c = ap (λ (l : Layout). unused_zero (used_by l) c.args.self.beside) (sym c.layout-layout.ensures) ∙ sym c.unused_zero.ensures

pub overflow_cast-result : goal.overflow_cast-result
overflow_cast-result c = let s = c.args.self in
    let e = sym (found (goal.at.overflow_cast-result c).After-fault) ∙ c.in-Some.is in
    let is : record_fault s.«record» s.beside ≡ c.in-Some.bit = unless_some _ _ e in
    let above : 0 < c.in-Some.bit = unless_some_above _ _ e in
    omega (arith, fault_low s.«record» s.beside (λ z. omega arith))

pub returns-in-Some : goal.returns-in-Some
unfolding fault_of
returns-in-Some c = told _ _ _ (sym (found (goal.at.returns-in-Some c).After-fault) ∙ c.in-Some.is)

pub returns-in-None : goal.returns-in-None
unfolding fault_of
returns-in-None c = let n = c.unused_zero.result in
    let e = sym (found (goal.at.returns-in-None c).After-fault) ∙ c.in-None.is in
    c.then_some.ensures ∙ behind n ∙ untold _ n _ e (tested (goal.at.returns-in-None c).After-unused_zero)
