-- The bits of 2 ^ m - 1 - n are those of n turned over. Assumes nothing.
use mathlib.Core.Path.{◌≡◌, refl, sym, ap, ◌∙◌}
use mathlib.Core.List.{List, [], ◌∷◌, map}
use Prim.Native.Nat.{ℕ, zero, suc, ◌+◌, ◌-◌, ◌*◌, ◌/◌, ◌%◌, ◌^◌, ◌≤◌, ◌<◌}
use native.Mathlib.Nat.{add-mul, le_refl, mod-eq_of_lt, mod-lt, mod-mod, two-pow-succ}
use native.Mathlib.Omega.{arith}
use lib.Pow.{pow_pos, shr_lt, split, high, ones_split}
use Rattle.bits.specs.Lists.{Bits}
use Rattle.bits.specs.Numbers.{number, bits_of}
use Rattle.bits.proofs.Numbers.{number_bits, bits_same}

-- each bit turned over
abbrev pub turned : List ℕ → List ℕ
turned x = map (λ b. 1 - b) x

parts : (j w n : ℕ) → n < 2 ^ (j + w) → 2 ^ (j + w) - 1 - n ≡ (2 ^ j - 1 - n / 2 ^ w) * 2 ^ w + (2 ^ w - 1 - n % 2 ^ w)
parts j w n h =
    let q = n / 2 ^ w in
    let d = 2 ^ j - 1 - q in
    let l : q < 2 ^ j = shr_lt j w h in
    let e : 2 ^ j - 1 ≡ q + d = omega arith in
    let s : 2 ^ (j + w) - 1 ≡ q * 2 ^ w + d * 2 ^ w + (2 ^ w - 1) =
    ones_split j w
    ∙ ap (λ (x : ℕ). x * 2 ^ w + (2 ^ w - 1)) e
    ∙ ap (λ (x : ℕ). x + (2 ^ w - 1)) (add-mul q d (2 ^ w)) in
    let t : q * 2 ^ w + n % 2 ^ w ≡ n = split n w in
    let r : n % 2 ^ w < 2 ^ w = mod-lt n (pow_pos w) in
    omega arith

-- the bit of weight 2 ^ w
turned_bit : (j w n : ℕ) → n < 2 ^ (suc j + w) → (2 ^ (suc j + w) - 1 - n) / 2 ^ w % 2 ≡ 1 - n / 2 ^ w % 2
turned_bit j w n h =
    let l : n / 2 ^ w < 2 ^ suc j = shr_lt (suc j) w h in
    let r : n % 2 ^ w < 2 ^ w = mod-lt n (pow_pos w) in
    let t : 2 ^ suc j ≡ 2 ^ j + 2 ^ j = two-pow-succ j in
    let s : 2 ^ w - 1 - n % 2 ^ w < 2 ^ w = omega arith in
    ap (λ (x : ℕ). x / 2 ^ w % 2) (parts (suc j) w n h)
    ∙ ap (λ (x : ℕ). x % 2) (high (2 ^ suc j - 1 - n / 2 ^ w) w s)
    ∙ omega arith

pub bits_complement : (m w n : ℕ) → w ≤ m → n < 2 ^ m → bits_of w (2 ^ m - 1 - n) ≡ turned (bits_of w n)
unfolding bits_of
bits_complement m zero n k h = refl
bits_complement m (suc w) n k h =
    let e : suc (m - suc w) + w ≡ m = omega arith in
    let d : (2 ^ m - 1 - n) / 2 ^ w % 2 ≡ 1 - n / 2 ^ w % 2 = rw e at (turned_bit (m - suc w) w n (rw e h)) in
    λ i. d i ∷ bits_complement m w n (omega arith) h i

pub number_complement : (w n : ℕ) → number (turned (bits_of w n)) ≡ 2 ^ w - 1 - n % 2 ^ w
number_complement w n =
    let l : n % 2 ^ w < 2 ^ w = mod-lt n (pow_pos w) in
    ap (λ (x : List ℕ). number (turned x)) (bits_same w n (n % 2 ^ w) (sym (mod-mod n (2 ^ w))))
    ∙ ap number (sym (bits_complement w w (n % 2 ^ w) (le_refl w) l))
    ∙ number_bits w (2 ^ w - 1 - n % 2 ^ w)
    ∙ mod-eq_of_lt (omega arith)

pub turned_twice : (x : List ℕ) → Bits x → turned (turned x) ≡ x
turned_twice [] h = refl
turned_twice (b ∷ x) h = let e : 1 - (1 - b) ≡ b = omega arith in λ i. e i ∷ turned_twice x h.1 i

pub turned_bits : (x : List ℕ) → Bits (turned x)
turned_bits [] = tt
turned_bits (b ∷ x) = (omega arith, turned_bits x)
