-- One field, whatever its place and width: a number written and read, and bits read and written. Assumes nothing.
use mathlib.Core.Bool.{Bool, true, false}
use mathlib.Core.Path.{◌≡◌, refl, ap, ◌∙◌}
use mathlib.Core.List.{List, [], ◌∷◌, map}
use Prim.Native.Nat.{ℕ, ◌-◌, ◌^◌, ◌≤◌, ◌<◌}
use native.Mathlib.Nat.{le_refl, mod-eq_of_lt}
use native.Mathlib.Omega.{arith}
use borrow.Author.Tests.{lt-ltb, le-ltb, ltb-true, ltb-false}
use lib.Dec.{ltb}
use lib.IntN.{ℤ, pos, negsuc}
use lib.ListN.{length}
use lib.Signed.{mag}
use Rattle.bits.proofs.Complement.{turned, bits_complement, number_complement, turned_twice, turned_bits}
use Rattle.bits.proofs.Lists.{map_long}
use Rattle.bits.proofs.Numbers.{number_lt, number_bits, bits_number, bits_long, bits_bits}
use Rattle.bits.specs.Lists.{pick, Bits}
use Rattle.bits.specs.Numbers.{number, bits_of}
use Rattle.fields.specs.declared.Row.{Row}
use Rattle.fields.specs.Fields.{twos, value_of, field_bits, in_unsigned, holds}
use Rattle.fields.specs.Table.{width, signed}
use Rattle.fields.proofs.Halves.{two_halves}

pub field_long : (w : ℕ) (z : ℤ) → length (field_bits w z) ≡ w
unfolding field_bits
field_long w (pos n) = bits_long w n
field_long w (negsuc n) = map_long (λ b. 1 - b) (bits_of w n) ∙ bits_long w n

pub field_bits_lem : (w : ℕ) (z : ℤ) → Bits (field_bits w z)
unfolding field_bits
field_bits_lem w (pos n) = bits_bits w n
field_bits_lem w (negsuc n) = turned_bits (bits_of w n)

-- ---- a number written is read
pub twos_high : (w n : ℕ) → 2 ^ (w - 1) ≤ n → twos w n ≡ negsuc (2 ^ w - 1 - n)
unfolding twos
twos_high w n h = rw (le-ltb n (2 ^ (w - 1)) h)

pub twos_low : (w n : ℕ) → n < 2 ^ (w - 1) → twos w n ≡ pos n
unfolding twos
twos_low w n h = rw (lt-ltb n (2 ^ (w - 1)) h)

twos_bits : (w : ℕ) (z : ℤ) → 0 < w → mag z < 2 ^ (w - 1) → twos w (number (field_bits w z)) ≡ z
unfolding field_bits
twos_bits w (pos n) p h =
    let l : n < 2 ^ w = omega (arith, two_halves w p) in
    ap (twos w) (number_bits w n ∙ mod-eq_of_lt l) ∙ twos_low w n h
twos_bits w (negsuc n) p h =
    let l : n < 2 ^ w = omega (arith, two_halves w p) in
    let g : 2 ^ (w - 1) ≤ 2 ^ w - 1 - n = omega (arith, two_halves w p) in
    let e : 2 ^ w - 1 - (2 ^ w - 1 - n) ≡ n = omega arith in
    ap (twos w) (number_complement w n ∙ ap (λ (x : ℕ). 2 ^ w - 1 - x) (mod-eq_of_lt l))
    ∙ twos_high w (2 ^ w - 1 - n) g
    ∙ ap negsuc e

unsigned_bits : (w : ℕ) (z : ℤ) → in_unsigned w z ≡ true → pos (number (field_bits w z)) ≡ z
unfolding field_bits
unsigned_bits w (pos n) e = ap pos (number_bits w n ∙ mod-eq_of_lt (ltb-true n (2 ^ w) e))
unsigned_bits w (negsuc n) e = (cc)

pub field_round : (r : Row) (z : ℤ) → 0 < width r → holds r z ≡ true → value_of (signed r) (width r) (number (field_bits (width r) z)) ≡ z
unfolding holds
field_round r z p h = go (signed r) h
  where
    go : (s : Bool) → pick s (ltb (mag z) (2 ^ (width r - 1))) (in_unsigned (width r) z) ≡ true → value_of s (width r) (number (field_bits (width r) z)) ≡ z
    go true e = twos_bits (width r) z p (ltb-true (mag z) (2 ^ (width r - 1)) e)
    go false e = unsigned_bits (width r) z e

-- ---- bits read are written, and what is read is a number that the field holds
pick_bits : (t : Bool) (x : List ℕ) → Bits x → field_bits (length x) (pick t (pos (number x)) (negsuc (2 ^ length x - 1 - number x))) ≡ x
unfolding field_bits
pick_bits true x b = bits_number x b
pick_bits false x b =
    ap turned (bits_complement (length x) (length x) (number x) (le_refl (length x)) (number_lt x) ∙ ap turned (bits_number x b))
    ∙ turned_twice x b

pub bits_round : (s : Bool) (x : List ℕ) → Bits x → field_bits (length x) (value_of s (length x) (number x)) ≡ x
unfolding twos field_bits
bits_round false x b = bits_number x b
bits_round true x b = pick_bits (ltb (number x) (2 ^ (length x - 1))) x b

twos_holds : (w n : ℕ) → 0 < w → n < 2 ^ w → mag (twos w n) < 2 ^ (w - 1)
unfolding twos
twos_holds w n p h = go (ltb n (2 ^ (w - 1))) refl
  where
    go : (t : Bool) → ltb n (2 ^ (w - 1)) ≡ t → mag (pick t (pos n) (negsuc (2 ^ w - 1 - n))) < 2 ^ (w - 1)
    go true e = ltb-true n (2 ^ (w - 1)) e
    go false e = let g : 2 ^ (w - 1) ≤ n = ltb-false n (2 ^ (w - 1)) e in omega (arith, two_halves w p)

pub value_holds : (r : Row) (n : ℕ) → 0 < width r → n < 2 ^ width r → holds r (value_of (signed r) (width r) n) ≡ true
unfolding holds
value_holds r n p h = go (signed r)
  where
    go : (s : Bool) → pick s (ltb (mag (value_of s (width r) n)) (2 ^ (width r - 1))) (in_unsigned (width r) (value_of s (width r) n)) ≡ true
    go true = lt-ltb (mag (twos (width r) n)) (2 ^ (width r - 1)) (twos_holds (width r) n p h)
    go false = lt-ltb n (2 ^ width r) h

-- ---- the cases of af0 that the document lists
pub edge_af0 : map (twos 22) (0x200000 ∷ 0x1FFFFF ∷ 0x3FFFFF ∷ []) ≡ negsuc 2097151 ∷ pos 2097151 ∷ negsuc 0 ∷ []
unfolding twos
edge_af0 = refl
