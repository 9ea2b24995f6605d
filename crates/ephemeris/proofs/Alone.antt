-- A record with nothing beside it: no unused bit or number there is wrong, so its fault is its own. Assumes nothing.
use mathlib.Core.Path.{◌≡◌, refl, sym, ap, ◌∙◌}
use mathlib.Core.Bool.{Bool, true, false, not}
use Prim.Native.Nat.{ℕ}
use borrow.Author.Tests.{eqb-true}
use lib.Dec.{eqb}
use Rattle.std.specs.Prelude.{Some, None}
use Rattle.std.specs.Option.{is_some}
use Rattle.std.proofs.lemmas.Bool.{false≢true, true≢false}
use Rattle.fields.specs.Patterns.{unless_0}
use Rattle.bits.specs.Lists.{pick, at_most}
use Rattle.message.specs.declared.Record.{Record}
use Rattle.message.specs.Numbers.{nothing}
use Rattle.message.specs.Records.{Use, none, pairs, bits, used_by, unused_zero, layout_of, record_fault, fault_of}

pub nothing_unused : (u : Use) → unused_zero u nothing ≡ true
unfolding at_most
nothing_unused none = refl
nothing_unused pairs = refl
nothing_unused bits = refl

pub same : (n : ℕ) → pick (eqb n 0) 0 n ≡ n
same n = go (eqb n 0) refl
  where
    go : (t : Bool) → eqb n 0 ≡ t → pick t 0 n ≡ n
    go true q = sym (eqb-true n 0 q)
    go false q = refl

pub fault_alone : (r : Record) → fault_of r nothing ≡ record_fault r nothing
unfolding fault_of
fault_alone r =
    ap (λ (t : Bool). pick (eqb (record_fault r nothing) 0) (pick t 0 293) (record_fault r nothing)) (nothing_unused (used_by (layout_of r)))
    ∙ same (record_fault r nothing)

-- no fault is told exactly where there is none
pub told : (n : ℕ) (b : Bool) → is_some (unless_0 n) ≡ not b → b ≡ eqb n 0
told n b e = go (eqb n 0) b e
  where
    go : (t b : Bool) → is_some (pick t None (Some n)) ≡ not b → b ≡ t
    go true true g = refl
    go true false g = absurd (false≢true g)
    go false true g = absurd (true≢false g)
    go false false g = refl
