-- A number's bits put into a list from the last to the first, one turn of the loop. Assumes nothing.
use mathlib.Core.Path.{◌≡◌, sym, ap, ◌∙◌}
use mathlib.Core.List.{List, ◌∷◌}
use Prim.Native.Nat.{ℕ, suc, ◌+◌, ◌-◌, ◌/◌, ◌%◌, ◌^◌, ◌≤◌, ◌<◌}
use native.Mathlib.Nat.{sub_self, div-one, sub-zero, le_refl}
use native.Mathlib.Numerals.{add-one}
use native.Mathlib.Omega.{arith}
use lib.ListN.{length, set, drop, drop_of_length-le}
use lib.Pow.{shr-shr}
use Rattle.std.proofs.lemmas.List.{drop-set}
use Rattle.bits.specs.Numbers.{bits_of}

pub none_left : (w n : ℕ) → n ≡ n / 2 ^ (w - w)
none_left w n = rw sub_self (sym (div-one n))

pub half_again : (w n k : ℕ) → 0 < k → k ≤ w → n / 2 ^ (w - k) / 2 ≡ n / 2 ^ (w - (k - 1))
half_again w n k h i =
    let e : w - (k - 1) ≡ suc (w - k) = omega arith in
    rw e (shr-shr n (w - k) 1 ∙ ap (λ (m : ℕ). n / 2 ^ m) (add-one (w - k)))

-- from the place k on the bits are in: none, one more, all
pub put_none : (x : List ℕ) (n : ℕ) → drop (length x) x ≡ bits_of (length x - length x) n
unfolding bits_of
put_none x n = rw sub_self (drop_of_length-le x (le_refl (length x)))

pub put_more : (x : List ℕ) (w n k b : ℕ) → length x ≡ w → 0 < k → k ≤ w → b ≡ n / 2 ^ (w - k) → drop k x ≡ bits_of (w - k) n
    → drop (k - 1) (set x (k - 1) (b % 2)) ≡ bits_of (w - (k - 1)) n
unfolding bits_of
put_more x w n k b l p h e d =
    let f : w - (k - 1) ≡ suc (w - k) = omega arith in
    let g : k - 1 + 1 ≡ k = omega arith in
    rw f (drop-set x (k - 1) (b % 2) (omega arith) ∙ (λ i. e i % 2 ∷ (ap (λ (j : ℕ). drop j x) g ∙ d) i))

pub put_all : (x : List ℕ) (w n k : ℕ) → k ≤ 0 → drop k x ≡ bits_of (w - k) n → x ≡ bits_of w n
put_all x w n k h d = let e : k ≡ 0 = omega arith in rw (e, sub-zero) at d
