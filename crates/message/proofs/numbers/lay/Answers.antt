use mathlib.Core.Path.{◌≡◌, refl, sym, ap, subst, ◌∙◌}
use mathlib.Core.List.{List, ◌++◌}
use Prim.Native.Nat.{ℕ, ◌+◌, ◌-◌, ◌≤◌, ◌<◌}
use native.Mathlib.Omega.{arith}
use borrow.Author.Count.{below_more}
use borrow.Author.Rules.{rules}
use lib.ListN.{length, get_or, get_or-append}
use lib.Seq.{get_or-append-add}
use Rattle.fields.specs.Patterns.{pattern}
use Rattle.message.specs.declared.Field.{Field}
use Rattle.message.specs.declared.Field.TheVariants.{Plain}
use Rattle.message.specs.Numbers.{number_of}
use Rattle.message.specs.Raw.{Good}
use Rattle.message.proofs.Filling.{filled_none, filled_more}
use Rattle.message.proofs.numbers.lay.Goals as goal
use Rattle.message.proofs.numbers.lay.Goals.{Joined-i-lt6, then-i-lt6, else-i-lt6}

-- an element of two lists put together, by the length of the first
fore : {A : Type 0} (d : A) (l m : List A) (n i : ℕ) → length l ≡ n → i < n → get_or l i d ≡ get_or (l ++ m) i d
fore d l m n i e h = sym (get_or-append l m d i (omega arith))

rear : {A : Type 0} (d : A) (l m : List A) (n i : ℕ) → length l ≡ n → n ≤ i → get_or m (i - n) d ≡ get_or (l ++ m) i d
rear d l m n i e h =
    let z : length l + (i - n) ≡ i = omega arith in
    sym (get_or-append-add l m (i - n) d) ∙ ap (λ (k : ℕ). get_or (l ++ m) k d) z

-- the field that a turn takes
taken : (c : Joined-i-lt6)
    → c.if-i-lt6.field ≡ get_or (c.args.lead ++ c.args.own) c.loop-i.i (Plain 0)
taken c =
    let a = c.args in
    let i = c.loop-i.i in
    let long : length a.lead ≡ 6 = search rules in
    elim c.if-i-lt6.branch [
      | then-i-lt6 w ↦ w.field-is ∙ fore (Plain 0) a.lead a.own 6 i long w.if-i-lt6.true
      | else-i-lt6 w ↦ w.field-is ∙ rear (Plain 0) a.lead a.own 6 i long w.if-i-lt6.false
    ]

pub loop-i-init : goal.loop-i-init
loop-i-init c = (filled_none 0 _ 42 _ refl, λ k h. absurd (omega arith))

pub loop-i-preserved : goal.loop-i-preserved
loop-i-preserved c = let b = c.args.beside.now in
    let inv = c.loop-i.invariant in
    let is = taken (goal.at.loop-i-preserved c).Joined-i-lt6 in (
      filled_more 0 _ 42 _ _ _ (omega arith) (c.number.ensures.value ∙ ap (λ (f : Field). pattern (number_of b f)) is) inv.0,
      below_more _ _ inv.1 (subst (λ (f : Field). Good b f) is c.number.ensures.good),
    )

pub returns : goal.returns
returns c = let inv = c.loop-i.invariant in
    record { long = inv.0.long; here = λ i h. inv.0.here i (omega arith); good = λ i h. inv.1 i (omega arith) }
