-- A whole number below 2 ^ 53 as a float, times the float 2 ^ e: the product does not round. Assumes nothing.
use mathlib.Core.Path.{◌≡◌, refl, sym, ap, ◌∙◌}
use mathlib.Core.Bool.{Bool, true, false}
use Prim.Native.Nat.{ℕ, suc, ◌*◌, ◌^◌, ◌<◌}
use native.Mathlib.Nat.{mul-one, one-mul, mul_assoc, mul_right_comm, mul-pos, lt_of_lt_of_le, lt_of_le_of_lt, le_of_lt}
use lib.Dec.{lit≤, lit<}
use lib.IntN.{ℤ, pos, negsuc, nat_abs}
use lib.Ieee.{Float, nan, inf, fin, binary64, unlike, up, down, round, mul, of_int}
use lib.Ieee.Back.{round_whole}
use lib.Ieee.Exact.{HasValue, round_exact}
use lib.Ieee.Fits.{down_pos, round-fits}
use lib.Ieee.Scale.{round_same}
use mir.Syntax.{w32}
use mir.Val.{SFits}
use Rattle.ephemeris.specs.Exactly.{times, exactly}
use Rattle.ephemeris.specs.Scales.{Near, Scaled}
use Rattle.ephemeris.proofs.Exact.{unique, at, at_is, small, times_value, times_fits}

-- as a fraction, n · 2 ^ e is not rounded
round_times : (s : Bool) (n : ℕ) (e : ℤ) → n < 2 ^ 53 → Near e → round binary64 s (n * up e) (down e) ≡ times s n e
round_times s n e h k =
    unique binary64 (round binary64 s (n * up e) (down e)) (times s n e) s (n * up e) (down e) (down_pos e)
    (round-fits binary64 s (n * up e) (down e)) (times_fits s n e h k)
    (round_exact binary64 s (n * up e) (down e) n (at e) (down_pos e) h (small n e h k)
    (mul_assoc n (up e) (2 ^ 1074) ∙ ap (λ (x : ℕ). n * x) (at_is e k) ∙ sym (mul_assoc n (2 ^ at e) (down e))))
    (times_value s n e)

alike : (s : Bool) → unlike s false ≡ s
alike true = refl
alike false = refl

-- a float of the whole value n, times 2 ^ e
mul_power : (x : Float) (s : Bool) (n : ℕ) (e : ℤ) → HasValue x s n 1 → mul binary64 x (fin false 1 e) ≡ round binary64 s (n * up e) (down e)
unfolding mul
mul_power (fin t m k) s n e v =
    ap (λ (b : Bool). round binary64 b (m * up k * (1 * up e)) (down k * down e)) (alike t ∙ v.0)
    ∙ round_same binary64 s (m * up k * (1 * up e)) (down k * down e) (n * up e) (down e) (mul-pos (down_pos k) (down_pos e)) (down_pos e)
    (ap (λ (x : ℕ). m * up k * x * down e) (one-mul (up e))
    ∙ ap (λ (x : ℕ). x * up e * down e) (sym (mul-one (m * up k)) ∙ v.1)
    ∙ ap (λ (x : ℕ). x * down e) (mul_right_comm n (down k) (up e))
    ∙ mul_assoc (n * up e) (down k) (down e))
mul_power nan s n e v = elim v [ ]
mul_power (inf _) s n e v = elim v [ ]

scaling : (z e : ℤ) → nat_abs z < 2 ^ 53 → Near e → mul binary64 (of_int binary64 z) (fin false 1 e) ≡ exactly z e
unfolding of_int exactly
scaling (pos n) e h k = mul_power (round binary64 false n 1) false n e (round_whole binary64 false n (le_of_lt h)) ∙ round_times false n e h k
scaling (negsuc n) e h k = mul_power (round binary64 true (suc n) 1) true (suc n) e (round_whole binary64 true (suc n) (le_of_lt h)) ∙ round_times true (suc n) e h k

-- the law, as `scaled` cites it
pub product : (Raw : Float → Type 0) (x p : Float) (e : ℤ) → Near e → Raw x → p ≡ fin false 1 e → Scaled Raw e (mul binary64 x p)
product Raw x p e k w q = record { exact = λ z h f. (λ i. mul binary64 (f x w i) (q i)) ∙ scaling z e h k }

-- an i32 has at most 32 binary digits
pub narrow : (z : ℤ) → SFits w32 z → nat_abs z < 2 ^ 53
narrow (pos n) f = lt_of_lt_of_le f.sfits (lit≤ tt)
narrow (negsuc n) f = lt_of_le_of_lt f.sfits (lit< tt)
