-- Which counts are refused, and that the two ways between a count and a second undo each other.
-- Assumes nothing.
use mathlib.Core.Path.{◌≡◌, refl}
use mathlib.Core.Logic.{◌⊎◌, ⊎_elim}
use mathlib.Core.Bool.{true, false}
use mathlib.Core.List.{[], ◌∷◌, map}
use Prim.Native.Nat.{ℕ, ◌+◌, ◌-◌, ◌*◌, ◌/◌, ◌≤◌, ◌<◌}
use native.Mathlib.Decide.{dec_le}
use native.Mathlib.Omega.{arith}
use borrow.Author.Tests.{le-leb, lt-leb, le-ltb, lt-ltb}
use lib.Dec.{ltb}
use Rattle.std.specs.Prelude.{Some, None}
use Rattle.weektime.specs.Time.{towc_refused, began_of, count_of, began_number, began_second, counted_number, counted_count}

pub too_low : (n : ℕ) → n < 1 → towc_refused n ≡ true
unfolding towc_refused
too_low n h = rw (lt-leb 1 n h) refl

pub too_high : (n : ℕ) → 50400 < n → towc_refused n ≡ true
unfolding towc_refused
too_high n h = rw (le-leb 1 n (omega arith), lt-leb n 50400 h) refl

pub above_one : (n : ℕ) → 1 ≤ n → towc_refused n ≡ ltb 50400 n
unfolding towc_refused
above_one n h = elim (dec_le n 50400) [
  | yes k ↦ rw (le-leb 1 n h, le-leb n 50400 k, le-ltb 50400 n k) refl
  | no k ↦ rw (le-leb 1 n h, lt-leb n 50400 (omega arith), lt-ltb 50400 n (omega arith)) refl
]

pub within : (n : ℕ) → 1 ≤ n → n ≤ 50400 → towc_refused n ≡ false
unfolding towc_refused
within n h k = rw (le-leb 1 n h, le-leb n 50400 k) refl

-- a count that is not refused is from 1 to 50,400
pub taken : (n : ℕ) → towc_refused n ≡ false → (1 ≤ n) × (n ≤ 50400)
taken n e = elim (dec_le 1 n) [
  | yes h ↦ elim (dec_le n 50400) [
    | yes k ↦ (h, k)
    | no k ↦ absurd (let f = too_high n (omega arith) in let z : ◌≡◌ {A = ℕ} 0 1 = (cc) in omega arith)
  ]
  | no h ↦ absurd (let f = too_low n (omega arith) in let z : ◌≡◌ {A = ℕ} 0 1 = (cc) in omega arith)
]

pub at_least : (n : ℕ) → towc_refused n ≡ false → 1 ≤ n
at_least n e = (taken n e).0

pub at_most : (n : ℕ) → towc_refused n ≡ false → n ≤ 50400
at_most n e = (taken n e).1

-- TOWC 1, 24843 and 50400 begin at 0, 298104 and 604788; 0 and 50401 are refused
pub edge_times :
    map began_of (record { 0 = 1 } ∷ record { 0 = 24843 } ∷ record { 0 = 50400 } ∷ record { 0 = 0 } ∷ record { 0 = 50401 } ∷ [])
    ≡ Some (record { 0 = 0 }) ∷ Some (record { 0 = 298104 }) ∷ Some (record { 0 = 604788 }) ∷ None ∷ None ∷ []
unfolding began_of towc_refused
edge_times = refl

-- the second at which a subframe began lies in that subframe
pub there_and_back : (n : ℕ) → 1 ≤ n → n ≤ 50400 → count_of (record { 0 = (n - 1) * 12 }) ≡ Some (record { 0 = n })
unfolding count_of
there_and_back n h k =
    let e : (n - 1) * 12 / 12 + 1 ≡ n = omega arith in
    rw (e, within n h k) refl

-- ---- the paper's number and what is beside it
pub began_taken : (n : ℕ) → 1 ≤ n → n ≤ 50400
    → (began_number (began_of (record { 0 = n })) ≡ 0) × (began_second (began_of (record { 0 = n })) ≡ (n - 1) * 12)
unfolding began_of
began_taken n h k = rw (within n h k) (refl, refl)

pub began_refused : (n : ℕ) → (n < 1) ⊎ (50400 < n) → (began_number (began_of (record { 0 = n })) ≡ 7) × (began_second (began_of (record { 0 = n })) ≡ 0)
unfolding began_of
began_refused n h = let e : towc_refused n ≡ true = ⊎_elim (too_low n) (too_high n) h in rw e (refl, refl)

-- 0 and the count s div 12 + 1, or 7 and 0 where it is outside (below 1 it never is)
pub counted_taken : (s : ℕ) → s / 12 + 1 ≤ 50400
    → (counted_number (count_of (record { 0 = s })) ≡ 0) × (counted_count (count_of (record { 0 = s })) ≡ s / 12 + 1)
unfolding count_of
counted_taken s h = rw (within (s / 12 + 1) (omega arith) h) (refl, refl)

pub counted_refused : (s : ℕ) → 50400 < s / 12 + 1
    → (counted_number (count_of (record { 0 = s })) ≡ 7) × (counted_count (count_of (record { 0 = s })) ≡ 0)
unfolding count_of
counted_refused s h = rw (too_high (s / 12 + 1) h) (refl, refl)
