-- A number and its bits, each from the other.
-- Assumes nothing.
use mathlib.Core.Path.{◌≡◌, refl, sym, ap, ap₂, ◌∙◌}
use mathlib.Core.List.{List, [], ◌∷◌, ◌++◌}
use Prim.Native.Nat.{ℕ, zero, suc, ◌+◌, ◌-◌, ◌*◌, ◌/◌, ◌%◌, ◌^◌, ◌≤◌, ◌<◌}
use native.Mathlib.Nat.{add_assoc, add-mul, mul_assoc, mod-eq_of_lt, mod-lt, mod-mod, mod-one, pow-succ', zero-mul, le_trans}
use native.Mathlib.Numerals.{add-one, one-add}
use native.Mathlib.Omega.{arith}
use lib.Arith.{digits_lt, mod-mul}
use lib.Dec.{lit<}
use lib.ListN.{length, take, drop, replicate, length-append, length-take, length-drop}
use lib.Pow.{pow_pos, pow_mono, pow-add, field, mod-mod-pow, high, low}
use lib.Seq.{take-suc, get_or-drop}
use Rattle.bits.specs.Lists.{at, part, Bits}
use Rattle.bits.specs.Numbers.{number, bits_of}

pub number_lt : (x : List ℕ) → number x < 2 ^ length x
unfolding number
number_lt [] = lit< tt
number_lt (b ∷ x) = rw pow-succ' (digits_lt (mod-lt b (lit< tt)) (number_lt x))

pub number_append : (x y : List ℕ) → number (x ++ y) ≡ number x * 2 ^ length y + number y
unfolding number
number_append [] y = omega (arith, zero-mul (2 ^ length y))
number_append (b ∷ x) y =
    ap₂ (λ (p q : ℕ). b % 2 * p + q) (ap (λ (n : ℕ). 2 ^ n) (length-append x y) ∙ pow-add 2 (length x) (length y)) (number_append x y)
    ∙ ap (λ (p : ℕ). p + (number x * 2 ^ length y + number y)) (sym (mul_assoc (b % 2) (2 ^ length x) (2 ^ length y)))
    ∙ sym (add_assoc (b % 2 * 2 ^ length x * 2 ^ length y) (number x * 2 ^ length y) (number y))
    ∙ ap (λ (p : ℕ). p + number y) (sym (add-mul (b % 2 * 2 ^ length x) (number x) (2 ^ length y)))

pub number_zeros : (k : ℕ) → number (replicate k 0) ≡ 0
unfolding number
number_zeros zero = refl
number_zeros (suc k) = omega (arith, number_zeros k, zero-mul (2 ^ length (replicate k zero)))

-- one bit more of a part
pub number_next : (x : List ℕ) (j : ℕ) → j < length x → number (take (j + 1) x) ≡ number (take j x) * 2 + at x j % 2
unfolding number
number_next x j h =
    ap (λ (n : ℕ). number (take n x)) (add-one j) ∙ ap number (take-suc x j 0 h) ∙ number_append (take j x) (at x j ∷ []) ∙ omega arith

pub number_part : (x : List ℕ) (i j : ℕ) → i + j < length x → number (part x i (j + 1)) ≡ number (part x i j) * 2 + at x (i + j) % 2
number_part x i j h =
    let s : j < length (drop i x) = simp length-drop (omega arith) in
    number_next (drop i x) j s ∙ ap (λ (b : ℕ). number (part x i j) * 2 + b % 2) (get_or-drop i x j 0)

pub number_few : (x : List ℕ) (j n : ℕ) → j ≤ n → number (take j x) < 2 ^ n
number_few x j n h = le_trans (number_lt (take j x)) (pow_mono {j = n} (omega (arith, length-take j x)))

-- ---- the bits of a number
pub bits_long : (n c : ℕ) → length (bits_of n c) ≡ n
unfolding bits_of
bits_long zero c = refl
bits_long (suc n) c = ap suc (bits_long n c)

pub bits_bits : (n c : ℕ) → Bits (bits_of n c)
unfolding bits_of
bits_bits zero c = tt
bits_bits (suc n) c = let h : c / 2 ^ n % 2 < 2 = mod-lt (c / 2 ^ n) (lit< tt) in (omega arith, bits_bits n c)

pub number_bits : (n c : ℕ) → number (bits_of n c) ≡ c % 2 ^ n
unfolding bits_of number
number_bits zero c = sym (mod-one c)
number_bits (suc n) c =
    ap₂ (λ (s t : ℕ). s + t) (ap₂ (λ (d m : ℕ). d * 2 ^ m) (mod-mod (c / 2 ^ n) 2) (bits_long n c)) (number_bits n c)
    ∙ sym (ap (λ (m : ℕ). c % m) (pow-succ' 2 n) ∙ mod-mul c (lit< tt) (pow_pos n))

-- two numbers that agree below 2 ^ w have the same w lowest bits
pub bits_same : (w n m : ℕ) → n % 2 ^ w ≡ m % 2 ^ w → bits_of w n ≡ bits_of w m
unfolding bits_of
bits_same zero n m e = refl
bits_same (suc w) n m e =
    let f : n % 2 ^ (1 + w) ≡ m % 2 ^ (1 + w) = rw one-add e in
    let d : n / 2 ^ w % 2 ≡ m / 2 ^ w % 2 = sym (field n 1 w) ∙ ap (λ (x : ℕ). x / 2 ^ w) f ∙ field m 1 w in
    let r : n % 2 ^ w ≡ m % 2 ^ w = sym (mod-mod-pow n 1 w) ∙ ap (λ (x : ℕ). x % 2 ^ w) f ∙ mod-mod-pow m 1 w in
    λ i. d i ∷ bits_same w n m r i

pub bits_number : (x : List ℕ) → Bits x → bits_of (length x) (number x) ≡ x
unfolding bits_of number
bits_number [] h = refl
bits_number (b ∷ x) h =
    let l : number x < 2 ^ length x = number_lt x in
    let one : b % 2 ≡ b = mod-eq_of_lt (omega arith) in
    let d : (b % 2 * 2 ^ length x + number x) / 2 ^ length x % 2 ≡ b = ap (λ (n : ℕ). n % 2) (high (b % 2) (length x) l) ∙ mod-mod b 2 ∙ one in
    let r : bits_of (length x) (b % 2 * 2 ^ length x + number x) ≡ x = bits_same (length x) (b % 2 * 2 ^ length x + number x) (number x) (low (b % 2) (length x) l ∙ sym (mod-eq_of_lt l)) ∙ bits_number x h.1 in
    λ i. d i ∷ r i

-- the bit at a place
pub bits_at : (n c i : ℕ) → i < n → at (bits_of n c) i ≡ c / 2 ^ (n - (i + 1)) % 2
unfolding bits_of
bits_at zero c i h = absurd (omega arith)
bits_at (suc n) c zero h = ap (λ (k : ℕ). c / 2 ^ k % 2) (omega arith)
bits_at (suc n) c (suc i) h = bits_at n c i (omega arith) ∙ ap (λ (k : ℕ). c / 2 ^ k % 2) (omega arith)
