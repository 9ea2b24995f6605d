-- What `exactly` is: a number that binary64 holds, of the sign and the size that it must have, and the only one. A float is known by its sign
-- and its size, since its bit pattern follows from them. Assumes nothing.
use mathlib.Core.Path.{◌≡◌, refl, sym, ap, subst, ◌∙◌}
use mathlib.Core.Bool.{Bool, true, false, cond}
use Prim.Native.Nat.{ℕ, zero, suc, ◌+◌, ◌-◌, ◌*◌, ◌/◌, ◌^◌, ◌≤◌, ◌<◌}
use native.Mathlib.Nat.{mul-one, one-mul, mul_right_comm, lt_of_lt_of_le, le_of_lt, zero-add, add_right_comm}
use native.Mathlib.Decide.{dec_le}
use native.Mathlib.Omega.{arith}
use borrow.Author.Tests.{le-leb, lt-leb}
use lib.Count.{count_trailing_zeros}
use lib.Dec.{T, lit≤}
use lib.IntN.{ℤ, pos, negsuc, nat_abs}
use lib.Pow.{pow-add, pow_mono, shl_lt}
use lib.Ieee.{Float, nan, inf, fin, Format, binary64, prec, low, up, down, minus, size, top, hid, odd, fits, to_bits, of_bits}
use lib.Ieee.Bits.{of_bits-to_bits}
use lib.Ieee.Exact.{HasValue, odd_sign}
use lib.Ieee.Fits.{down_pos, odd-fits}
use lib.Ieee.Nearest.{div_same}
use Rattle.ephemeris.specs.Exactly.{times, exactly, Exactly}
use Rattle.ephemeris.specs.Scales.{Near}

-- ---- a float is known by its sign and its size
-- the bit pattern, from the size in units of the smallest value
pattern : Format → Bool → ℕ → ℕ
pattern f s n = let k = size n - prec f in cond s (top f) 0 + k * hid f + n / 2 ^ k

pattern_is : (f : Format) (s : Bool) (m : ℕ) (e : ℤ) → to_bits f (fin s m e) ≡ pattern f s (m * up e * 2 ^ low f / down e)
unfolding to_bits pattern
pattern_is f s m e = refl

pattern_of_lem : (f : Format) (x : Float) (s : Bool) (a c : ℕ) → 0 < c → HasValue x s a c → to_bits f x ≡ pattern f s (a * 2 ^ low f / c)
pattern_of_lem f (fin t m e) s a c C v =
    let l = 2 ^ low f in
    pattern_is f t m e
    ∙ ap (λ (b : Bool). pattern f b (m * up e * l / down e)) v.0
    ∙ ap (pattern f s)
    (div_same (m * up e * l) (down e) (a * l) c (down_pos e) C
    (mul_right_comm (m * up e) l c ∙ ap (λ (x : ℕ). x * l) v.1 ∙ mul_right_comm a (down e) l))
pattern_of_lem f nan s a c C v = elim v [ ]
pattern_of_lem f (inf _) s a c C v = elim v [ ]

pub unique : (f : Format) (x y : Float) (s : Bool) (a c : ℕ) → 0 < c → T (fits f x) → T (fits f y) → HasValue x s a c → HasValue y s a c → x ≡ y
unique f x y s a c C p q v w =
    sym (of_bits-to_bits f x p) ∙ ap (of_bits f) (pattern_of_lem f x s a c C v ∙ sym (pattern_of_lem f y s a c C w)) ∙ of_bits-to_bits f y q

-- ---- the exponents: 2 ^ e is 2 ^ `at e` of the smallest values
abbrev pub at : ℤ → ℕ
at (pos k) = k + 1074
at (negsuc k) = 1074 - suc k

pub at_is : (e : ℤ) → Near e → up e * 2 ^ 1074 ≡ 2 ^ at e * down e
at_is (pos k) h = sym (pow-add 2 k 1074) ∙ sym (mul-one (2 ^ (k + 1074)))
at_is (negsuc k) h =
    let back : 1074 - suc k + suc k ≡ 1074 = omega arith in
    one-mul (2 ^ 1074) ∙ sym (ap (λ (x : ℕ). 2 ^ x) back) ∙ pow-add 2 (1074 - suc k) (suc k)

at_small : (e : ℤ) → Near e → 53 + at e ≤ 1074 + suc 1023
at_small (pos k) h = omega arith
at_small (negsuc k) h = omega arith

pub small : (n : ℕ) (e : ℤ) → n < 2 ^ 53 → Near e → n * 2 ^ at e < 2 ^ (1074 + suc 1023)
small n e h k = lt_of_lt_of_le (shl_lt 53 (at e) h) (pow_mono (at_small e k))

-- ---- `times` is a value of binary64
pub shift : (a b d : ℕ) → minus (a + d) (b + d) ≡ minus a b
shift a b d = elim (dec_le b a) [
  | yes h ↦
      let e : a + d - (b + d) ≡ a - b = omega arith in
      rw (le-leb b a h, le-leb (b + d) (a + d) (omega arith)) (ap pos e)
  | no h ↦
      let e : b + d - suc (a + d) ≡ b - suc a = omega arith in
      rw (lt-leb b a (omega arith), lt-leb (b + d) (a + d) (omega arith)) (ap negsuc e)
]

-- `odd` sees only the difference of its two exponents
odd_shift : (s : Bool) (n k l d : ℕ) → odd 64 s n k l ≡ odd 64 s n (k + d) (l + d)
unfolding odd
odd_shift s zero k l d = refl
odd_shift s (suc n) k l d =
    let t = count_trailing_zeros 64 (suc n) in
    ap (fin s (suc n / 2 ^ t)) (sym (shift (k + t) l d) ∙ ap (λ (x : ℕ). minus x (l + d)) (add_right_comm k t d))

times_is : (s : Bool) (n : ℕ) (e : ℤ) → Near e → times s n e ≡ odd 64 s n (at e) 1074
unfolding times
times_is s n (pos k) h = odd_shift s n k 0 1074
times_is s n (negsuc k) h =
    let back : suc k + (1074 - suc k) ≡ 1074 = omega arith in
    odd_shift s n 0 (suc k) (1074 - suc k) ∙ (λ i. odd 64 s n (zero-add (1074 - suc k) i) (back i))

pub times_value : (s : Bool) (n : ℕ) (e : ℤ) → HasValue (times s n e) s (n * up e) (down e)
unfolding times
times_value s n (pos k) = odd_sign 64 s n k 0
times_value s n (negsuc k) = odd_sign 64 s n 0 (suc k)

pub times_fits : (s : Bool) (n : ℕ) (e : ℤ) → n < 2 ^ 53 → Near e → T (fits binary64 (times s n e))
times_fits s n e h k =
    subst (λ (x : Float). T (fits binary64 x)) (sym (times_is s n e k))
    (odd-fits binary64 64 s n (at e) (lt_of_lt_of_le h (pow_mono {i = 53} {j = 64} (lit≤ tt))) (le_of_lt h) (small n e h k))

-- ---- the laws
pub exactly_is : (z e : ℤ) → Exactly (exactly z e) z e
unfolding exactly
exactly_is (pos n) e = times_value false n e
exactly_is (negsuc n) e = times_value true (suc n) e

-- two floats that binary64 holds, each of them z · 2 ^ e, are the same. (`fits` says that a float is one of binary64's, written in lib.Ieee's one
-- way, with an odd significand or as 0; every f64 of the code is. So the same float is the same 64 bits.)
pub exactly_one : (x y : Float) (z e : ℤ) → T (fits binary64 x) → T (fits binary64 y) → Exactly x z e → Exactly y z e → x ≡ y
exactly_one x y (pos n) e f g v w = unique binary64 x y false (n * up e) (down e) (down_pos e) f g v w
exactly_one x y (negsuc n) e f g v w = unique binary64 x y true (suc n * up e) (down e) (down_pos e) f g v w

pub exactly_fits : (z e : ℤ) → nat_abs z < 2 ^ 53 → Near e → T (fits binary64 (exactly z e))
unfolding exactly
exactly_fits (pos n) e h k = times_fits false n e h k
exactly_fits (negsuc n) e h k = times_fits true (suc n) e h k

-- raw 0 is +0
pub exactly_zero : (e : ℤ) → exactly (pos 0) e ≡ fin false 0 (pos 0)
unfolding exactly times odd
exactly_zero (pos k) = refl
exactly_zero (negsuc k) = refl
