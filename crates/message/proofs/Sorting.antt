-- What the code takes of the patterns of a body's numbers, where a row has the width and the sign, is what is taken of the numbers.
-- Assumes nothing.
use mathlib.Core.Path.{◌≡◌, sym, ap, ◌∙◌}
use mathlib.Core.Bool.{Bool, true, false}
use mathlib.Core.List.{List}
use Prim.Native.Nat.{ℕ, ◌-◌, ◌%◌, ◌^◌, ◌≤◌, ◌<◌}
use native.Mathlib.Nat.{mod-eq_of_lt}
use native.Mathlib.Omega.{arith}
use borrow.Author.Tests.{leb-true, ltb-true}
use lib.Dec.{eqb, leb, ltb}
use lib.IntN.{ℤ, pos, negsuc}
use lib.ListN.{get_or, drop}
use lib.Pow.{pow_mono}
use lib.Signed.{mag}
use mir.Syntax.{w32}
use mir.Val.{to_z, of_z}
use mir.Facts.{to_z-of_z}
use Rattle.bits.specs.Lists.{pick, both, at, part}
use Rattle.bits.specs.Numbers.{number}
use Rattle.bits.proofs.Numbers.{number_few}
use Rattle.fields.specs.declared.Row.{Row}
use Rattle.fields.specs.Table.{first, width, signed}
use Rattle.fields.specs.Fields.{value_at, value_of, twos, values, holds}
use Rattle.fields.specs.Patterns.{no_row, pattern, patterns}
use Rattle.fields.proofs.Twos.{value_holds}
use Rattle.message.specs.Numbers.{View, view_of, nth, nat, unsigned, head_of, slot_of}
use Rattle.message.specs.Raw.{look, by_bits, plain_at, signed_at, head_from}
use Rattle.bits.proofs.Both.{both_holds}
use Rattle.message.proofs.Choice.{second, where_true}
use Rattle.message.proofs.Laying.{map_at, patterns_at}

-- ---- where a row has an unsigned field of at most w bits, and where a signed one of at most 32
abbrev pub row : List Row → ℕ → Row
row rows i = get_or rows i no_row

abbrev pub up_to : ℕ → List Row → ℕ → Bool
up_to w rows i = pick (signed (row rows i)) false (leb (width (row rows i)) w)

abbrev pub sign : List Row → ℕ → Bool
sign rows i = both (signed (row rows i)) (both (leb 1 (width (row rows i))) (leb (width (row rows i)) 32))

-- what is taken there, and nothing elsewhere
abbrev pub there : List Row → View → View
there rows t =
    record {
      head = t.head;
      slot = t.slot;
      nibble = λ i. pick (up_to 4 rows i) (t.nibble i) 0;
      byte = λ i. pick (up_to 8 rows i) (t.byte i) 0;
      short = λ i. pick (up_to 16 rows i) (t.short i) 0;
      plain = λ i. pick (up_to 32 rows i) (t.plain i) 0;
      wide = λ i. pick (up_to 63 rows i) (t.wide i) 0;
      signed = λ i. pick (sign rows i) (t.signed i) (pos 0);
      flag = λ i. pick (up_to 32 rows i) (t.flag i) false;
      week = λ i. pick (up_to 32 rows i) (t.week i) (record { 0 = 0 });
    }

-- ---- a signed number by its 32 lowest bits
low : (z : ℤ) → mag z < 2 ^ 31 → pattern z % 2 ^ 32 ≡ of_z w32 z
low (pos n) h = mod-eq_of_lt (omega arith)
low (negsuc n) h = omega arith

low_back : (z : ℤ) → mag z < 2 ^ 31 → to_z w32 (pattern z % 2 ^ 32) ≡ z
low_back z h = ap (to_z w32) (low z h) ∙ to_z-of_z {w = w32} {z = z} (record { sfits = h })

module _ (body : List ℕ) (rows : List Row) where
  -- the number that the bits of row i spell
  abbrev spelt : ℕ → ℕ
  spelt i = number (part body (first (row rows i) - 1) (width (row rows i)))

  value : (i : ℕ) → nth (values rows body) i ≡ value_of (signed (row rows i)) (width (row rows i)) (spelt i)
  unfolding value_at number
  value i = map_at (value_at body) rows no_row i

  -- an unsigned field of at most w bits
  record Plainly (w i : ℕ) : Type 0 where
    is : nth (values rows body) i ≡ pos (spelt i)
    small : spelt i < 2 ^ w

  plainly : (w i : ℕ) → up_to w rows i ≡ true → Plainly w i
  plainly w i e =
      let q = second (signed (row rows i)) (leb (width (row rows i)) w) e in
      record {
        is = value i ∙ rw q.0;
        small = number_few (drop (first (row rows i) - 1) body) (width (row rows i)) w (leb-true (width (row rows i)) w q.1);
      }

  -- a signed field
  signedly : (i : ℕ) → sign rows i ≡ true → mag (nth (values rows body) i) < 2 ^ 31
  unfolding holds
  signedly i e =
      let r = row rows i in
      let q = both_holds (signed r) (both (leb 1 (width r)) (leb (width r) 32)) e in
      let m = both_holds (leb 1 (width r)) (leb (width r) 32) q.1 in
      let n : spelt i < 2 ^ width r = number_few (drop (first r - 1) body) (width r) (width r) (omega arith) in
      let h : ltb (mag (twos (width r) (spelt i))) (2 ^ (width r - 1)) ≡ true = rw q.0 at (value_holds r (spelt i) (leb-true 1 (width r) m.0) n) in
      let g : 2 ^ (width r - 1) ≤ 2 ^ 31 = pow_mono {j = 31} (omega (arith, leb-true (width r) 32 m.1)) in
      let v : nth (values rows body) i ≡ twos (width r) (spelt i) = value i ∙ rw q.0 in
      rw v (omega (arith, ltb-true (mag (twos (width r) (spelt i))) (2 ^ (width r - 1)) h))

-- ---- sorted
module _ (body : List ℕ) (rows : List Row) (a : List ℕ) (e : a ≡ patterns (values rows body)) where
  abbrev zs : List ℤ
  zs = values rows body

  carries : (i : ℕ) → at a i ≡ pattern (nth zs i)
  carries i = ap (λ (l : List ℕ). at l i) e ∙ patterns_at zs i

  spells : (w i : ℕ) → up_to w rows i ≡ true → at a i ≡ spelt body rows i
  spells w i u = carries i ∙ ap pattern (plainly body rows w i u).is

  taken_spelt : (w i : ℕ) → up_to w rows i ≡ true → spelt body rows i ≡ unsigned zs i
  taken_spelt w i u = sym (ap nat (plainly body rows w i u).is)

  -- a number of at most w bits
  part_taken : (w i : ℕ) → up_to w rows i ≡ true → at a i % 2 ^ w ≡ unsigned zs i
  part_taken w i u = ap (λ (n : ℕ). n % 2 ^ w) (spells w i u) ∙ mod-eq_of_lt (plainly body rows w i u).small ∙ taken_spelt w i u

  plain_taken : (i : ℕ) → up_to 32 rows i ≡ true → plain_at a i ≡ unsigned zs i
  plain_taken i u = part_taken 32 i u

  signed_taken : (i : ℕ) → sign rows i ≡ true → by_bits (signed_at a i) ≡ nth zs i
  signed_taken i u =
      let small = signedly body rows i u in
      let is : signed_at a i ≡ nth zs i = ap (λ (n : ℕ). to_z w32 (n % 2 ^ 32)) (carries i) ∙ low_back (nth zs i) small in
      ap by_bits is ∙ to_z-of_z {w = w32} {z = nth zs i} (record { sfits = small })

  week_taken : (i : ℕ) → up_to 32 rows i ≡ true → (look a).week i ≡ (view_of zs).week i
  week_taken i u = λ j. record { 0 = plain_taken i u j }

  module _ (leads : (i : ℕ) → i < 6 → up_to 32 rows i ≡ true) where
    lead : (i : ℕ) → i < 6 → plain_at a i ≡ unsigned zs i
    lead i h = plain_taken i (leads i h)

    head_taken : head_from a ≡ head_of zs
    head_taken =
        λ j. record {
          tlm = lead 0 (omega arith) j;
          towc = record { 0 = lead 1 (omega arith) j };
          alert = eqb (lead 2 (omega arith) j) 1;
          auto_nav = eqb (lead 3 (omega arith) j) 1;
          spare = lead 5 (omega arith) j;
        }

    pub there_same : there rows (look a) ≡ there rows (view_of zs)
    there_same =
        λ j. record {
          head = head_taken j;
          slot = slot_of (lead 4 (omega arith) j);
          nibble = λ i. where_true (up_to 4 rows i) _ _ 0 (part_taken 4 i) j;
          byte = λ i. where_true (up_to 8 rows i) _ _ 0 (part_taken 8 i) j;
          short = λ i. where_true (up_to 16 rows i) _ _ 0 (part_taken 16 i) j;
          plain = λ i. where_true (up_to 32 rows i) _ _ 0 (plain_taken i) j;
          wide = λ i. where_true (up_to 63 rows i) _ _ 0 (λ u. spells 63 i u ∙ taken_spelt 63 i u) j;
          signed = λ i. where_true (sign rows i) _ _ (pos 0) (signed_taken i) j;
          flag = λ i. where_true (up_to 32 rows i) _ _ false (λ u. ap (λ (n : ℕ). eqb n 1) (plain_taken i u)) j;
          week = λ i. where_true (up_to 32 rows i) _ _ (record { 0 = 0 }) (week_taken i) j;
        }
