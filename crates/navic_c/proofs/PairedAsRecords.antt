-- Pairing and the idle pattern, asked of records by their numbers, answer as they do of the records. Assumes nothing.
use mathlib.Core.Path.{◌≡◌, refl, sym, ap, ap₂, ◌∙◌}
use Rattle.std.specs.Prelude.{None}
use mathlib.Core.Bool.{Bool, true, false}
use mathlib.Core.List.{List, ◌++◌}
use Prim.Native.Nat.{ℕ, ◌+◌, ◌<◌}
use native.Mathlib.Omega.{arith}
use borrow.Author.Tests.{eqb-true, eq-eqb}
use lib.Dec.{eqb, ltb}
use lib.IntN.{ℤ}
use lib.ListN.{length}
use Rattle.bits.specs.Lists.{pick, both}
use Rattle.bits.proofs.Both.{both_false}
use Rattle.fields.specs.declared.Layout.{Layout}
use Rattle.fields.specs.Table.{rows_of}
use Rattle.fields.specs.Fields.{body_of, fault_in}
use Rattle.ephemeris.specs.Pairing.{sound, fit, pair_of, idle_in}
use Rattle.ephemeris.proofs.Alone.{fault_alone}
use Rattle.message.specs.declared.Slot.{Slot}
use Rattle.message.specs.declared.Slot.TheVariants as slot
use Rattle.message.specs.declared.Subframe1.{Subframe1}
use Rattle.message.specs.declared.Subframe2.{Subframe2}
use Rattle.message.specs.declared.Entry.{Entry}
use Rattle.message.specs.declared.Record.{Record}
use Rattle.message.specs.declared.Record.TheVariants as case
use Rattle.message.specs.Numbers.{slot_id, unsigned, nothing}
use Rattle.message.specs.Records.{layout_of, numbers_of, from_body, to_body, id_refused, record_fault, fault_of, towc_in, subframe_of}
use Rattle.message.proofs.Laws.{numbers_long, record_back}
use Rattle.message.proofs.Return.{Named, layout_back}
use Rattle.weektime.specs.Time.{towc_refused}
use Rattle.navic_c.specs.Numbers.{layout_in, rows_in, body_from}
use Rattle.navic_c.specs.Calls.{fitting, record_of, pair_in, paired_as, paired_of, idle_of_numbers}
use Rattle.navic_c.proofs.Padding.{body_ahead, fault_ahead}

-- ---- a record's numbers, whatever stands behind them
abbrev pub numbers_then : Record → List ℤ → List ℤ
numbers_then r rest = numbers_of r nothing ++ rest

-- number 6 is the message ID
named : (r : Record) (rest : List ℤ) → Named r (unsigned (numbers_then r rest) 6)
named (case.Subframe1 c) rest = tt
named (case.Subframe2 c) rest = tt
named (case.IonoGrid c) rest = refl
named (case.Almanac c) rest = refl
named (case.GpsTime c) rest = refl
named (case.EarthIono c) rest = refl
named (case.GnssTime c) rest = refl
named (case.Null c) rest = refl
named (case.Unread c) rest = refl

module _ (r : Record) (rest : List ℤ) (d : id_refused r ≡ false) where
  laid_out : layout_in (numbers_then r rest) ≡ layout_of r
  unfolding layout_in
  laid_out = layout_back r nothing (unsigned (numbers_then r rest) 6) (named r rest) d

  own_fault : fault_in (rows_in (numbers_then r rest)) (numbers_then r rest) ≡ fault_of r nothing
  unfolding record_fault
  own_fault =
      ap (λ (l : Layout). fault_in (rows_of l) (numbers_then r rest)) laid_out
      ∙ fault_ahead (rows_of (layout_of r)) (numbers_of r nothing) rest (numbers_long r nothing)
      ∙ sym (fault_alone r)

  own_body : body_from (numbers_then r rest) ≡ to_body r nothing
  unfolding body_from to_body
  own_body =
      ap (λ (l : Layout). body_of (rows_of l) (numbers_then r rest)) laid_out
      ∙ body_ahead (rows_of (layout_of r)) (numbers_of r nothing) rest (numbers_long r nothing)

  -- they fit where the record has no fault
  fitting_alone : length (numbers_then r rest) ≡ 42 → fitting (numbers_then r rest) ≡ eqb (fault_of r nothing) 0
  unfolding fitting
  fitting_alone long = ap₂ (λ (t : Bool) (n : ℕ). both t (eqb n 0)) (eq-eqb (length (numbers_then r rest)) 42 long) own_fault

  -- and are then its own
  record_alone : fault_of r nothing ≡ 0 → record_of (numbers_then r rest) ≡ r
  unfolding record_of
  record_alone f =
      ap (λ (b : List ℕ). (from_body b).«record») own_body ∙ ap (λ (e : Entry). e.«record») (record_back r nothing d f)

-- ---- the pair
-- a record at fault is not sound
unsound : (r : Record) → eqb (fault_of r nothing) 0 ≡ false → sound r ≡ false
unfolding sound
unsound r e = rw (← fault_alone r, e) (go (towc_refused (towc_in r)))
  where
    go : (t : Bool) → pick t false false ≡ false
    go true = refl
    go false = refl

module _ (a : Subframe1) (b : Subframe2) (rest rest' : List ℤ) where
  abbrev one : Record
  one = case.Subframe1 a

  abbrev two : Record
  two = case.Subframe2 b

  unfit : both (sound one) (sound two) ≡ false → None ≡ pair_of one two
  unfolding pair_of fit
  unfit e = rw (e, both_false (eqb a.toc b.toe)) refl

  pair_by : (s t : Bool) → eqb (fault_of one nothing) 0 ≡ s → eqb (fault_of two nothing) 0 ≡ t
      → pick (both s t) (pair_of (record_of (numbers_then one rest)) (record_of (numbers_then two rest'))) None ≡ pair_of one two
  pair_by true true p q =
      ap₂ pair_of (record_alone one rest refl (eqb-true (fault_of one nothing) 0 p)) (record_alone two rest' refl (eqb-true (fault_of two nothing) 0 q))
  pair_by true false p q = unfit (rw (unsound two q) (both_false (sound one)))
  pair_by false t p q = unfit (rw (unsound one p) refl)

  pub pair_as_records : length (numbers_then one rest) ≡ 42 → length (numbers_then two rest') ≡ 42
      → paired_of (numbers_then (case.Subframe1 a) rest) (numbers_then (case.Subframe2 b) rest') ≡ paired_as (pair_of (case.Subframe1 a) (case.Subframe2 b))
  unfolding paired_of pair_in
  pair_as_records p q =
      rw (fitting_alone one rest refl p, fitting_alone two rest' refl q) (ap paired_as (pair_by (eqb (fault_of one nothing) 0) (eqb (fault_of two nothing) 0) refl refl))

-- ---- the idle pattern
-- subframes 1 and 2 have no message ID
slot_not : (s : Slot) → slot_id s + 1 < 3 → ⊥
slot_not slot.Subframe3 h = omega arith
slot_not slot.Subframe4 h = omega arith

id_free : (r : Record) → subframe_of r < 3 → id_refused r ≡ false
id_free (case.Subframe1 c) h = refl
id_free (case.Subframe2 c) h = refl
id_free (case.IonoGrid c) h = refl
id_free (case.Almanac c) h = refl
id_free (case.GpsTime c) h = refl
id_free (case.EarthIono c) h = refl
id_free (case.GnssTime c) h = refl
id_free (case.Null c) h = refl
id_free (case.Unread c) h = absurd (slot_not c.slot h)

-- a record at fault is not idle
idle_not : (r : Record) → eqb (fault_of r nothing) 0 ≡ false → idle_in r ≡ false
unfolding idle_in
idle_not r e = rw e (both_false (ltb (subframe_of r) 3))

pub idle_as_record : (r : Record) (rest : List ℤ) → subframe_of r < 3 → length (numbers_then r rest) ≡ 42 → idle_of_numbers (numbers_then r rest) ≡ idle_in r
unfolding idle_of_numbers
idle_as_record r rest h long = rw (fitting_alone r rest (id_free r h) long) (go (eqb (fault_of r nothing) 0) refl)
  where
    go : (t : Bool) → eqb (fault_of r nothing) 0 ≡ t → both t (idle_in (record_of (numbers_then r rest))) ≡ idle_in r
    go true e = ap idle_in (record_alone r rest (id_free r h) (eqb-true (fault_of r nothing) 0 e))
    go false e = sym (idle_not r e)
