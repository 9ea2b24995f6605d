-- The register: a bit that comes in at its high end needs no zeros behind it, and a whole word leaves nothing just where it agrees.
-- Assumes nothing.
use mathlib.Core.Path.{◌≡◌, refl, sym, ◌∙◌}
use mathlib.Core.List.{List, [], ◌∷◌, ◌++◌}
use Prim.Native.Nat.{ℕ, zero, suc, ◌+◌, ◌*◌, ◌/◌, ◌%◌, ◌^◌, ◌≤◌, ◌<◌}
use native.Mathlib.Nat.{mul_assoc, mul-one, pow-suc, zero-mul}
use native.Mathlib.Numerals.{add-one}
use native.Mathlib.Omega.{arith}
use lib.Dec.{lit<}
use lib.ListN.{length, get_or, take}
use lib.Seq.{take-suc}
use Rattle.bits.specs.Numbers.{number}
use Rattle.bits.proofs.Numbers.{number_append, number_lt}
use Rattle.crc24q.specs.Check.{◌⊕◌, generator, reduce, step, divide, check_of}
use Rattle.crc24q.proofs.Sums.{digit, plus_lt, plus_above, plus_self, plus_zero_same, zero_plus}
use Rattle.crc24q.proofs.Remainder.{Leaves, leaves_itself, leaves_sum, leaves_double, leaves_half, leaves_reduce, leaves_one, reduce_lt, check_lt, check_leaves}

-- ---- the generator once less, where it goes in
pub reduce_none : (t : ℕ) → t < 2 ^ 24 → t ≡ reduce t
unfolding reduce
reduce_none t h =
    let e : t / 2 ^ 24 ≡ 0 = omega arith in rw (e, zero-mul generator) (sym (zero_plus t))

pub reduce_once : (t : ℕ) → 2 ^ 24 ≤ t → t < 2 ^ 25 → 0x1864CFB ⊕ t ≡ reduce t
unfolding reduce generator
reduce_once t l h = let e : t / 2 ^ 24 ≡ 1 = omega arith in rw e refl

-- ---- a bit more
-- times X ^ 24 the bit stands above the register
raised : (x : List ℕ) (b : ℕ) → number x * 2 ^ 24 * 2 ⊕ b % 2 * 2 ^ 24 ≡ number (x ++ (b ∷ [])) * 2 ^ 24
unfolding number
raised x b =
    let e : number x * 2 ^ 24 * 2 ≡ number x * 2 ^ 25 = omega arith in
    rw e (plus_above (number x) 25 (b % 2 * 2 ^ 24) (omega (arith, digit b)) ∙ omega (arith, number_append x (b ∷ [])))

pub check_more : (x : List ℕ) (b : ℕ) → check_of (x ++ (b ∷ [])) ≡ reduce (check_of x * 2 ⊕ b % 2 * 2 ^ 24)
check_more x b =
    let d : b % 2 < 2 = digit b in
    let l : check_of x < 2 ^ 24 = check_lt x in
    let t : check_of x * 2 ⊕ b % 2 * 2 ^ 24 < 2 ^ 25 = plus_lt 25 (check_of x * 2) (b % 2 * 2 ^ 24) (omega arith) (omega arith) in
    let taken : Leaves (number (x ++ (b ∷ [])) * 2 ^ 24) (check_of x * 2 ⊕ b % 2 * 2 ^ 24) = rw raised at (leaves_sum (leaves_double (check_leaves x)) (leaves_itself (b % 2 * 2 ^ 24))) in
    leaves_one (check_lt (x ++ (b ∷ []))) (reduce_lt (check_of x * 2 ⊕ b % 2 * 2 ^ 24) t) (check_leaves (x ++ (b ∷ [])))
    (leaves_reduce (check_of x * 2 ⊕ b % 2 * 2 ^ 24) t taken)

pub check_none : check_of [] ≡ 0
unfolding check_of divide step reduce generator ◌⊕◌
check_none = refl

pub check_next : (x : List ℕ) (i : ℕ) → i < length x → check_of (take (i + 1) x) ≡ reduce (check_of (take i x) * 2 ⊕ get_or x i 0 % 2 * 2 ^ 24)
check_next x i h = rw (add-one, take-suc x i 0) (check_more (take i x) (get_or x i 0))

-- ---- a whole word
leaves_doubles : {v : ℕ} (n : ℕ) → Leaves v 0 → Leaves (v * 2 ^ n) 0
leaves_doubles {v} zero l = rw (mul-one v) l
leaves_doubles {v} (suc n) l = rw (pow-suc 2 n, ← mul_assoc v (2 ^ n) 2) (leaves_double (leaves_doubles n l))

leaves_halves : {v : ℕ} (n : ℕ) → Leaves (v * 2 ^ n) 0 → Leaves v 0
leaves_halves {v} zero l = rw (mul-one v) at l
leaves_halves {v} (suc n) l = leaves_halves n (leaves_half (rw (pow-suc 2 n, ← mul_assoc v (2 ^ n) 2) at l))

module _ (body tail : List ℕ) (long : length tail ≡ 24) where
  tail_lt : number tail < 2 ^ 24
  tail_lt = rw long at (number_lt tail)

  left_lt : check_of body ⊕ number tail < 2 ^ 24
  left_lt = plus_lt 24 (check_of body) (number tail) (check_lt body) tail_lt

  -- what is left of a word without 24 zeros behind it
  word_leaves : Leaves (number (body ++ tail)) (check_of body ⊕ number tail)
  word_leaves =
      rw (number_append body tail, long, ← plus_above (number body) 24 (number tail) tail_lt)
      (leaves_sum (check_leaves body) (leaves_itself (number tail)))

  pub whole_zero : number tail ≡ check_of body → check_of (body ++ tail) ≡ 0
  whole_zero e =
      let z : check_of body ⊕ number tail ≡ 0 = rw e (plus_self (check_of body)) in
      leaves_one (check_lt (body ++ tail)) (lit< tt) (check_leaves (body ++ tail)) (leaves_doubles 24 (rw z at word_leaves))

  pub whole_same : check_of (body ++ tail) ≡ 0 → number tail ≡ check_of body
  whole_same e =
      sym (plus_zero_same (check_of body) (number tail)
      (leaves_one left_lt (lit< tt) word_leaves (leaves_halves 24 (rw e at (check_leaves (body ++ tail))))))
