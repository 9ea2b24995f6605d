-- A power of two by its bit pattern, e + 1023 in the exponent's field. Assumes nothing.
use mathlib.Core.Path.{◌≡◌, refl, sym, ap, subst, ◌∙◌}
use mathlib.Core.Bool.{Bool, true, false, not, ◌&&◌}
use Prim.Native.Nat.{ℕ, zero, suc, ◌+◌, ◌-◌, ◌*◌, ◌/◌, ◌%◌, ◌^◌, ◌<◌, zero-le}
use native.Mathlib.Nat.{lt_irrefl, ne_of_lt, sub-zero}
use native.Mathlib.Omega.{arith}
use borrow.Author.Tests.{ne_eqb, le-leb, lt-leb, le-ltb}
use lib.Arith.{lt→nleb}
use lib.Count.{count_trailing_zeros}
use lib.Dec.{T, eqb, leb}
use lib.IntN.{ℤ, pos, negsuc, ◌+ℤ◌}
use lib.Ieee.{inf, fin, binary64, minus, top, hid, odd, of_bits, nan_bits, of_fields, ones}
use lib.Ieee.Bits.{cond_no, is_false}
use Rattle.ephemeris.specs.Scales.{Near}
use Rattle.ephemeris.proofs.Exact.{shift}

-- k shifted by 52 places in 64 bits
abbrev word : ℕ → ℕ
word k = k * 4503599627370496 % 18446744073709551616

word_hid : (k : ℕ) → word k % 2 ^ 52 ≡ 0
word_hid k = omega arith

pub word_number : (k : ℕ) → T (not (nan_bits binary64 (word k)))
unfolding nan_bits
word_number k =
    subst (λ (r : ℕ). T (not (eqb (word k % top binary64 / hid binary64) (ones binary64) && not (eqb r 0)))) (sym (word_hid k))
    (no_nan (eqb (word k % top binary64 / hid binary64) (ones binary64)))
  where
    no_nan : (b : Bool) → T (not (b && false))
    no_nan true = tt
    no_nan false = tt

fields : (x : ℕ) → suc x < 2047 → of_fields binary64 false (suc x) 0 ≡ fin false 1 (minus (suc x) 1023)
unfolding of_fields odd count_trailing_zeros
fields x h =
    let turn : x + 52 ≡ suc x + 51 = omega arith in
    cond_no (eqb (suc x) 2047) (inf false) (fin false 1 (minus (x + 52) 1074)) (subst (λ (b : Bool). T (not b)) (sym (ne_eqb (suc x) 2047 (ne_of_lt h))) tt)
    ∙ ap (fin false 1) (ap (λ (a : ℕ). minus a 1074) turn ∙ shift (suc x) 1023 51)

pub word_is : (k : ℕ) → 0 < k → k < 2047 → of_bits binary64 (word k) ≡ fin false 1 (minus k 1023)
unfolding of_bits
word_is zero h l = absurd (lt_irrefl 0 h)
word_is (suc x) h l =
    let low : word (suc x) < 2 ^ 63 = omega arith in
    let field : word (suc x) % 2 ^ 63 / 2 ^ 52 ≡ suc x = omega arith in
    let plus : leb (2 ^ 63) (word (suc x)) ≡ false = is_false (leb (2 ^ 63) (word (suc x))) (lt→nleb (2 ^ 63) (word (suc x)) low) in
    (λ i. of_fields binary64 (plus i) (field i) (word_hid (suc x) i)) ∙ fields x l

-- ---- e + 1023 in an i32
pub biased : ℤ → ℕ
biased (pos k) = k + 1023
biased (negsuc k) = 1023 - suc k

pub biased_is : (e : ℤ) → Near e → e +ℤ pos 1023 ≡ pos (biased e)
unfolding biased
biased_is (pos k) h = refl
biased_is (negsuc k) h = rw (le-ltb 1023 (suc k) (omega arith))

pub biased_pos : (e : ℤ) → Near e → 0 < biased e
unfolding biased
biased_pos (pos k) h = omega arith
biased_pos (negsuc k) h = omega arith

pub biased_lt : (e : ℤ) → Near e → biased e < 2047
unfolding biased
biased_lt (pos k) h = omega arith
biased_lt (negsuc k) h = omega arith

pub biased_back : (e : ℤ) → Near e → minus (biased e) 1023 ≡ e
unfolding biased
biased_back (pos k) h = shift k 0 1023 ∙ rw (le-leb 0 k (zero-le)) (ap pos (sub-zero k))
biased_back (negsuc k) h =
    let e : 1023 - suc (1023 - suc k) ≡ k = omega arith in
    rw (lt-leb 1023 (1023 - suc k) (omega arith)) (ap negsuc e)
