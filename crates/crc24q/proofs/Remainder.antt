-- What numbers leave by the generator: kept through the steps of long division, and below 2 ^ 24 there is one only. So the check is the remainder.
-- Assumes nothing.
use mathlib.Core.Path.{◌≡◌, refl, sym, ap, ap₂, ◌∙◌, subst}
use mathlib.Core.List.{List, [], ◌∷◌, ◌++◌}
use Prim.Native.Nat.{ℕ, zero, suc, ◌+◌, ◌*◌, ◌/◌, ◌%◌, ◌^◌, ◌<◌}
use native.Mathlib.Nat.{add-mod, add-mul, add-zero, mod-add-mod, mod-lt, mul_assoc, one-mul, pow-suc, pow-succ', zero-mul, le_trans}
use native.Mathlib.Numerals.{one-add}
use native.Mathlib.Omega.{arith}
use lib.Dec.{lit<}
use lib.ListN.{length, replicate}
use lib.Pow.{pow_pos, pow_mono, shr_lt, shr-shr, split}
use Rattle.bits.specs.Numbers.{number}
use Rattle.bits.proofs.Numbers.{number_append, number_zeros}
use Rattle.crc24q.specs.Check.{◌⊕◌, generator, coefficient, product_at, Remainder, reduce, step, divide, check_of}
use Rattle.crc24q.proofs.Sums.{digit, coefficient_suc, coefficient_small, same_coefficients, plus_shr, plus_even, plus_coefficient, plus_lt, zero_plus, plus_self, plus_zero_same}

-- ---- the product
product_zero : (p k : ℕ) → product_at 0 p k ≡ 0
unfolding product_at
product_zero p zero = zero-mul (coefficient p 0)
product_zero p (suc k) = omega (arith, zero-mul (coefficient p (suc k)), product_zero p k)

product_one : (p k : ℕ) → product_at 1 p k ≡ coefficient p k
unfolding product_at
product_one p zero = omega arith
product_one p (suc k) = omega (arith, product_zero p k)

product_twice : (q p k : ℕ) → product_at (q * 2) p (suc k) ≡ product_at q p k
unfolding product_at
product_twice q p k =
    let half : q * 2 / 2 ≡ q = omega arith in
    let even : q * 2 % 2 ≡ 0 = omega arith in
    rw (even, half) (omega (arith, zero-mul (coefficient p (suc k))))

digit_times : (x y c : ℕ) → c < 2 → (x + y) % 2 * c % 2 ≡ (x * c + y * c) % 2
digit_times x y zero h = omega arith
digit_times x y (suc zero) h = omega arith
digit_times x y (suc (suc c)) h = absurd (omega arith)

product_sum : (a b p k : ℕ) → product_at (a ⊕ b) p k % 2 ≡ (product_at a p k + product_at b p k) % 2
unfolding product_at
product_sum a b p zero = rw (plus_even a b) (digit_times (a % 2) (b % 2) (coefficient p 0) (digit (p / 2 ^ 0)))
product_sum a b p (suc k) =
    ap₂ (λ (d t : ℕ). (d * coefficient p (suc k) + product_at t p k) % 2) (plus_even a b) (plus_shr a b 1)
    ∙ omega (arith, digit_times (a % 2) (b % 2) (coefficient p (suc k)) (digit (p / 2 ^ suc k)), product_sum (a / 2) (b / 2) p k)

-- the highest term of a product with the generator
product_high : (n q : ℕ) → q < 2 ^ suc n → product_at q generator (n + 24) ≡ q / 2 ^ n
unfolding product_at generator
product_high zero zero h = refl
product_high zero (suc zero) h = refl
product_high zero (suc (suc q)) h = absurd (omega arith)
product_high (suc n) q h =
    let e : suc n + 24 ≡ suc (n + 24) = omega arith in
    let above : coefficient generator (suc (n + 24)) ≡ 0 = coefficient_small generator (suc (n + 24)) (le_trans (lit< tt) (pow_mono {i = 25} (omega arith))) in
    let half : q / 2 < 2 ^ suc n = omega (arith, pow-suc 2 (suc n)) in
    rw (e, above, product_high n (q / 2) half, shr-shr q 1 n, one-add n) (omega arith)

-- ---- what a number leaves
-- v is r and some multiple of the generator
pub record Leaves (v r : ℕ) : Type 0 where
  pub quotient : ℕ
  pub whole : (k : ℕ) → coefficient v k ≡ (product_at quotient generator k + coefficient r k) % 2

pub leaves_itself : (v : ℕ) → Leaves v v
leaves_itself v = record { quotient = 0; whole = λ k. omega (arith, product_zero generator k) }

four : (a b c d : ℕ) → ((a + b) % 2 + (c + d) % 2) % 2 ≡ ((a + c) % 2 + (b + d) % 2) % 2
four a b c d =
    let e : a + b + (c + d) ≡ a + c + (b + d) = omega arith in
    sym (add-mod (a + b) (c + d) 2) ∙ rw e (add-mod (a + c) (b + d) 2)

pub leaves_sum : {v r w s : ℕ} → Leaves v r → Leaves w s → Leaves (v ⊕ w) (r ⊕ s)
leaves_sum {v} {r} {w} {s} x y =
    record {
      quotient = x.quotient ⊕ y.quotient;
      whole =
          λ k.
          plus_coefficient v w k ∙ ap₂ (λ (a b : ℕ). (a + b) % 2) (x.whole k) (y.whole k)
          ∙ four (product_at x.quotient generator k) (coefficient r k) (product_at y.quotient generator k) (coefficient s k)
          ∙ ap₂ (λ (a b : ℕ). (a + b) % 2) (sym (product_sum x.quotient y.quotient generator k)) (sym (plus_coefficient r s k))
          ∙ mod-add-mod (product_at (x.quotient ⊕ y.quotient) generator k) 2 (coefficient (r ⊕ s) k);
    }

leaves_generator : (e : ℕ) → e < 2 → Leaves 0 (e * generator)
leaves_generator zero h = rw (zero-mul generator) (leaves_itself 0)
leaves_generator (suc zero) h =
    rw (one-mul generator) (record { quotient = 1; whole = λ k. omega (arith, product_one generator k, coefficient_small 0 k (pow_pos k)) })
leaves_generator (suc (suc e)) h = absurd (omega arith)

-- the highest digit of t is taken away
pub leaves_reduce : {v : ℕ} (t : ℕ) → t < 2 ^ 25 → Leaves v t → Leaves v (reduce t)
unfolding reduce
leaves_reduce {v} t h x =
    subst (λ (w : ℕ). Leaves w (t / 2 ^ 24 * generator ⊕ t)) (zero_plus v) (leaves_sum (leaves_generator (t / 2 ^ 24) (omega arith)) x)

-- a digit more at the low end
pub leaves_next : {v r : ℕ} (c : ℕ) → c < 2 → Leaves v r → Leaves (v * 2 + c) (r * 2 + c)
unfolding product_at
leaves_next {v} {r} c h x = record { quotient = x.quotient * 2; whole = each }
  where
    half : (a : ℕ) → (a * 2 + c) / 2 ≡ a
    half a = omega arith

    each : (k : ℕ) → coefficient (v * 2 + c) k ≡ (product_at (x.quotient * 2) generator k + coefficient (r * 2 + c) k) % 2
    each zero =
        let even : x.quotient * 2 % 2 ≡ 0 = omega arith in rw even (omega (arith, zero-mul (coefficient generator 0)))
    each (suc k) =
        coefficient_suc (v * 2 + c) k ∙ ap (λ (n : ℕ). coefficient n k) (half v) ∙ x.whole k
        ∙ ap₂ (λ (a b : ℕ). (a + b) % 2) (sym (product_twice x.quotient generator k))
        (sym (coefficient_suc (r * 2 + c) k ∙ ap (λ (n : ℕ). coefficient n k) (half r)))

pub leaves_double : {v r : ℕ} → Leaves v r → Leaves (v * 2) (r * 2)
leaves_double {v} {r} l = rw (add-zero (v * 2), add-zero (r * 2)) at (leaves_next 0 (lit< tt) l)

-- the generator's last term is 1: where nothing is left of a number's double, nothing is left of the number
pub leaves_half : {v : ℕ} → Leaves (v * 2) 0 → Leaves v 0
unfolding product_at generator
leaves_half {v} x =
    record {
      quotient = x.quotient / 2;
      whole =
          λ k.
          let same : v * 2 / 2 ≡ v = omega arith in
          let double : coefficient (v * 2) (suc k) ≡ coefficient v k = rw (coefficient_suc (v * 2) k, same) refl in
          let even : x.quotient % 2 ≡ 0 = omega (arith, x.whole 0) in
          let off : x.quotient % 2 * coefficient generator (suc k) ≡ 0 = rw even (zero-mul (coefficient generator (suc k))) in
          omega (arith, x.whole (suc k), coefficient_small 0 k (pow_pos k), coefficient_small 0 (suc k) (pow_pos (suc k)));
    }

-- ---- and there is one only
no_quotient : (n q d : ℕ) → q < 2 ^ n → d < 2 ^ 24 → ((k : ℕ) → product_at q generator k % 2 ≡ coefficient d k) → q ≡ 0
no_quotient zero q d h l e = omega arith
no_quotient (suc n) q d h l e =
    let below : q / 2 ^ n < 2 = shr_lt 1 n (rw one-add h) in
    let none : coefficient d (n + 24) ≡ 0 = coefficient_small d (n + 24) (le_trans l (pow_mono {i = 24} (omega arith))) in
    let top : q / 2 ^ n ≡ 0 = omega (arith, product_high n q h, e (n + 24)) in
    no_quotient n q d (omega (arith, rw top at (split q n), zero-mul (2 ^ n), mod-lt q (pow_pos n))) l e

leaves_none : {d : ℕ} → d < 2 ^ 24 → Leaves 0 d → d ≡ 0
leaves_none {d} h x =
    same_coefficients d 0 (λ k. sym (each k) ∙ rw (no_quotient q q d (below q) h each, product_zero generator k) (sym (coefficient_small 0 k (pow_pos k))))
  where
    q : ℕ
    q = x.quotient

    below : (n : ℕ) → n < 2 ^ n
    below zero = lit< tt
    below (suc n) = omega (arith, pow-suc 2 n, below n)

    each : (k : ℕ) → product_at x.quotient generator k % 2 ≡ coefficient d k
    each k = omega (arith, x.whole k, coefficient_small 0 k (pow_pos k))

pub leaves_one : {v r s : ℕ} → r < 2 ^ 24 → s < 2 ^ 24 → Leaves v r → Leaves v s → r ≡ s
leaves_one {v} {r} {s} hr hs x y =
    plus_zero_same r s (leaves_none (plus_lt 24 r s hr hs) (rw (plus_self v) at (leaves_sum x y)))

-- ---- long division
pub reduce_lt : (t : ℕ) → t < 2 ^ 25 → reduce t < 2 ^ 24
unfolding reduce generator
reduce_lt t h =
    let top : t / 2 ^ 24 * generator / 2 ^ 24 ≡ t / 2 ^ 24 = omega arith in
    let z : reduce t / 2 ^ 24 ≡ 0 = plus_shr (t / 2 ^ 24 * generator) t 24 ∙ rw top (plus_self (t / 2 ^ 24)) in
    omega arith

step_lt : (r b : ℕ) → r < 2 ^ 24 → step r b < 2 ^ 24
unfolding step
step_lt r b h = reduce_lt (r * 2 + b % 2) (omega arith)

divide_lt : (r : ℕ) (x : List ℕ) → r < 2 ^ 24 → divide r x < 2 ^ 24
unfolding divide
divide_lt r [] h = h
divide_lt r (b ∷ x) h = divide_lt (step r b) x (step_lt r b h)

pub check_lt : (body : List ℕ) → check_of body < 2 ^ 24
unfolding check_of
check_lt body = divide_lt 0 (body ++ replicate 24 0) (lit< tt)

-- a bit is brought down
bring : (v c n w : ℕ) → v * 2 ^ suc n + (c * 2 ^ n + w) ≡ (v * 2 + c) * 2 ^ n + w
bring v c n w =
    let double : v * 2 ^ suc n ≡ v * 2 * 2 ^ n = ap (λ (p : ℕ). v * p) (pow-succ' 2 n) ∙ sym (mul_assoc v 2 (2 ^ n)) in
    omega (arith, add-mul (v * 2) c (2 ^ n))

leaves_step : {v r : ℕ} (b : ℕ) → r < 2 ^ 24 → Leaves v r → Leaves (v * 2 + b % 2) (step r b)
unfolding step
leaves_step {v} {r} b h l = leaves_reduce (r * 2 + b % 2) (omega arith) (leaves_next (b % 2) (digit b) l)

divided : {v r : ℕ} (x : List ℕ) → r < 2 ^ 24 → Leaves v r → Leaves (v * 2 ^ length x + number x) (divide r x)
unfolding number divide
divided {v} [] h l = let e : v * 1 + 0 ≡ v = omega arith in rw e l
divided {v} {r} (b ∷ x) h l = rw (bring v (b % 2) (length x) (number x)) (divided {v = v * 2 + b % 2} {r = step r b} x (step_lt r b h) (leaves_step b h l))

-- ---- the check is the remainder
pub check_leaves : (body : List ℕ) → Leaves (number body * 2 ^ 24) (check_of body)
unfolding check_of
check_leaves body =
    let e : 0 * 2 ^ length (body ++ replicate 24 0) + number (body ++ replicate 24 0) ≡ number body * 2 ^ 24 = omega (arith, number_append body (replicate 24 0), number_zeros 24, zero-mul (2 ^ length (body ++ replicate 24 zero))) in
    rw e at (divided (body ++ replicate 24 0) (lit< tt) (leaves_itself 0))

pub check_remainder : (body : List ℕ) → Remainder body (check_of body)
check_remainder body =
    let l : Leaves (number body * 2 ^ 24) (check_of body) = check_leaves body in
    record { quotient = l.quotient; whole = l.whole; small = check_lt body }

-- and the only one
pub remainder_one : {body : List ℕ} {c : ℕ} → Remainder body c → c ≡ check_of body
remainder_one {body} {c} r =
    leaves_one r.small (check_lt body) (record { quotient = r.quotient; whole = r.whole }) (check_leaves body)
