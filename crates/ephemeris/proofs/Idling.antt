-- Which records hold 003's idle pattern: the row of crate idle's table is that of the record's own subframe. Assumes nothing.
use mathlib.Core.Path.{◌≡◌, refl, sym, ap, subst, ◌∙◌}
use mathlib.Core.Bool.{Bool, true, false}
use mathlib.Core.List.{List}
use Prim.Native.Nat.{ℕ, ◌+◌, ◌-◌, ◌%◌, ◌≤◌, ◌<◌}
use native.Mathlib.Omega.{arith}
use borrow.Author.Tests.{eqb-true, eq-eqb}
use lib.Dec.{eqb, ltb}
use lib.IntN.{ℤ}
use lib.ListN.{get_or, length}
use Rattle.bits.specs.Lists.{pick, both, at, part, Bits, build}
use Rattle.bits.specs.Numbers.{number}
use Rattle.bits.proofs.Both.{both_holds}
use Rattle.bits.proofs.Build.{built}
use Rattle.bits.proofs.Lists.{at_most_at}
use Rattle.bits.proofs.Numbers.{number_part}
use Rattle.bits.proofs.Parts.{part_long, part_at}
use Rattle.fields.specs.Table.{head, subframe1, subframe2, rows_of}
use Rattle.fields.specs.Fields.{value_at, values}
use Rattle.fields.proofs.Bodies.{values_body}
use Rattle.idle.specs.declared.Row.{Row}
use Rattle.idle.specs.Idle.{row, rows, no_row, pattern_of}
use Rattle.idle.proofs.Fitting.{pattern_exactly, Fitting}
use Rattle.message.specs.declared.Subframe1.{Subframe1}
use Rattle.message.specs.declared.Subframe2.{Subframe2}
use Rattle.message.specs.declared.Record.{Record}
use Rattle.message.specs.declared.Record.TheVariants as case
use Rattle.message.specs.Numbers.{unsigned, nothing}
use Rattle.message.specs.Records.{head_in, subframe_of, layout_of, numbers_of, record_fault, fault_of, to_body}
use Rattle.message.proofs.Laws.{numbers_long, body_long, body_bits}
use Rattle.ephemeris.specs.Meaning.{IdleFrom, Idle}
use Rattle.ephemeris.specs.Pairing.{idle_in}
use Rattle.ephemeris.proofs.Alone.{fault_alone}
use Rattle.ephemeris.proofs.Cases.{late}

-- the numbers of its body are the record's
known : (r : Record) → record_fault r nothing ≡ 0 → values (rows_of (layout_of r)) (to_body r nothing) ≡ numbers_of r nothing
unfolding to_body record_fault
known r e = values_body (layout_of r) (numbers_of r nothing) (numbers_long r nothing) e

-- one bit spells itself
one_bit : (word : List ℕ) → Bits word → 262 ≤ length word → number (part word 25 1) ≡ at word 25
unfolding number
one_bit word b l = omega (arith, number_part word 25 0 (omega arith), at_most_at 1 word b 25)

set_flag : (f : Bool) → ◌≡◌ {A = ℕ} (pick f 1 0) 1 → f ≡ true
set_flag true e = refl
set_flag false e = absurd (omega arith)

-- ---- a record of the subframe whose ID is `id` and whose pattern begins at the bit `from`
module _ (r : Record) (id from : ℕ) (held : record_fault r nothing ≡ 0) (early : get_or rows id no_row ≡ row id true from 262 false)
    (named : number (part (to_body r nothing) 27 2) ≡ id) (flag : number (part (to_body r nothing) 25 1) ≡ pick (head_in r).alert 1 0) where
  fitting : (pattern_of (to_body r nothing) ≡ true → Fitting (row id true from 262 false) (to_body r nothing))
      × (Fitting (row id true from 262 false) (to_body r nothing) → pattern_of (to_body r nothing) ≡ true)
  fitting =
      subst (λ (w : Row). (pattern_of (to_body r nothing) ≡ true → Fitting w (to_body r nothing)) × (Fitting w (to_body r nothing) → pattern_of (to_body r nothing) ≡ true))
      (ap (λ (n : ℕ). get_or rows n no_row) named ∙ early)
      (pattern_exactly (to_body r nothing) (body_bits r nothing) (omega (arith, body_long r nothing)))

  alert_bit : at (to_body r nothing) 25 ≡ pick (head_in r).alert 1 0
  alert_bit = sym (one_bit (to_body r nothing) (body_bits r nothing) (omega (arith, body_long r nothing))) ∙ flag

  pattern_only : pattern_of (to_body r nothing) ≡ true → IdleFrom from r
  pattern_only e =
      let f = fitting.0 e in
      record { held = held; alert = set_flag (head_in r).alert (sym alert_bit ∙ f.alert); pattern = f.pattern }

  pattern_if : IdleFrom from r → pattern_of (to_body r nothing) ≡ true
  pattern_if i = fitting.1 (record { alert = alert_bit ∙ ap (λ (f : Bool). pick f 1 0) i.alert; pattern = i.pattern })

-- the number at a place of the record's is the body's there
number_at : (r : Record) (k : ℕ) → record_fault r nothing ≡ 0 → unsigned (values (rows_of (layout_of r)) (to_body r nothing)) k ≡ unsigned (numbers_of r nothing) k
number_at r k e = ap (λ (zs : List ℤ). unsigned zs k) (known r e)

-- and the whole test
tested : (r : Record) (from : ℕ) → (record_fault r nothing ≡ 0 → pattern_of (to_body r nothing) ≡ true → IdleFrom from r)
    → both (eqb (fault_of r nothing) 0) (pattern_of (to_body r nothing)) ≡ true → IdleFrom from r
tested r from f e =
    let t = both_holds (eqb (fault_of r nothing) 0) (pattern_of (to_body r nothing)) e in
    f (sym (fault_alone r) ∙ eqb-true (fault_of r nothing) 0 t.0) t.1

passes : (r : Record) (from : ℕ) → (record_fault r nothing ≡ 0 → IdleFrom from r → pattern_of (to_body r nothing) ≡ true)
    → IdleFrom from r → both (eqb (fault_of r nothing) 0) (pattern_of (to_body r nothing)) ≡ true
passes r from f i = rw (eq-eqb (fault_of r nothing) 0 (fault_alone r ∙ i.held)) (f i.held i)

first_exactly : (a : Subframe1) → (idle_in (case.Subframe1 a) ≡ true → IdleFrom 41 (case.Subframe1 a)) × (IdleFrom 41 (case.Subframe1 a) → idle_in (case.Subframe1 a) ≡ true)
unfolding idle_in rows value_at head
first_exactly a =
    let r = case.Subframe1 a in (
      tested r 41 (λ h. pattern_only r 0 41 h refl (number_at r 4 h) (number_at r 2 h)),
      passes r 41 (λ h. pattern_if r 0 41 h refl (number_at r 4 h) (number_at r 2 h)),
    )

second_exactly : (b : Subframe2) → (idle_in (case.Subframe2 b) ≡ true → IdleFrom 31 (case.Subframe2 b)) × (IdleFrom 31 (case.Subframe2 b) → idle_in (case.Subframe2 b) ≡ true)
unfolding idle_in rows value_at head
second_exactly b =
    let r = case.Subframe2 b in (
      tested r 31 (λ h. pattern_only r 1 31 h refl (number_at r 4 h) (number_at r 2 h)),
      passes r 31 (λ h. pattern_if r 1 31 h refl (number_at r 4 h) (number_at r 2 h)),
    )

-- a message is none
never : (r : Record) → ltb (subframe_of r) 3 ≡ false → (idle_in r ≡ true → ⊥) × (⊥ → idle_in r ≡ true)
unfolding idle_in
never r e = (λ f. let g : false ≡ true = rw e at f in let z : ◌≡◌ {A = ℕ} 0 1 = (cc) in omega arith, λ f. absurd f)

pub idle_exactly : (r : Record) → (idle_in r ≡ true → Idle r) × (Idle r → idle_in r ≡ true)
idle_exactly (case.Subframe1 a) = first_exactly a
idle_exactly (case.Subframe2 b) = second_exactly b
idle_exactly (case.IonoGrid c) = never (case.IonoGrid c) (late c.slot)
idle_exactly (case.Almanac c) = never (case.Almanac c) (late c.slot)
idle_exactly (case.GpsTime c) = never (case.GpsTime c) (late c.slot)
idle_exactly (case.EarthIono c) = never (case.EarthIono c) (late c.slot)
idle_exactly (case.GnssTime c) = never (case.GnssTime c) (late c.slot)
idle_exactly (case.Null c) = never (case.Null c) (late c.slot)
idle_exactly (case.Unread c) = never (case.Unread c) (late c.slot)

-- ---- sixteen bits that alternate from 0 are 5555 hex, so toc and toe of idle halves are equal
alternating : (word : List ℕ) (i : ℕ) → i + 16 ≤ length word → ((k : ℕ) → k < 16 → at word (i + k) ≡ k % 2) → number (part word i 16) ≡ 21845
unfolding number build
alternating word i h f = ap number (built 16 (λ k. k % 2) (part word i 16) (part_long word i 16 h) (λ k l. part_at word i 16 k l ∙ f k l))

spelt : (r : Record) (from i : ℕ) → IdleFrom from r → from ≤ i + 1 → i + 16 ≤ 262 → (i + 1 - from) % 2 ≡ 0 → number (part (to_body r nothing) i 16) ≡ 21845
spelt r from i d low high even =
    alternating (to_body r nothing) i (omega (arith, body_long r nothing))
    (λ k l.
    let e : i + k + 1 - 1 ≡ i + k = omega arith in
    let m : (i + k + 1 - from) % 2 ≡ k % 2 = omega arith in
    ap (at (to_body r nothing)) (sym e) ∙ d.pattern (i + k + 1) (omega arith) (omega arith) ∙ m)

pub idle_toc : (a : Subframe1) → Idle (case.Subframe1 a) → a.toc ≡ 21845
unfolding value_at head subframe1
idle_toc a d = sym (number_at (case.Subframe1 a) 11 d.held) ∙ spelt (case.Subframe1 a) 41 90 d (omega arith) (omega arith) refl

pub idle_toe : (b : Subframe2) → Idle (case.Subframe2 b) → b.toe ≡ 21845
unfolding value_at head subframe2
idle_toe b d = sym (number_at (case.Subframe2 b) 7 d.held) ∙ spelt (case.Subframe2 b) 31 62 d (omega arith) (omega arith) refl
