-- Which words are idle, by the number in their two bits of subframe ID.
-- Assumes nothing.
use mathlib.Core.Path.{◌≡◌, refl}
use mathlib.Core.Bool.{true, false}
use mathlib.Core.Logic.{inl, inr}
use mathlib.Core.List.{List}
use Prim.Native.Nat.{ℕ, zero, suc, ◌≤◌}
use native.Mathlib.Omega.{arith}
use lib.ListN.{length, get_or}
use Rattle.bits.specs.Lists.{at, part, both, Bits}
use Rattle.bits.specs.Numbers.{number}
use Rattle.idle.specs.Idle.{rows, no_row, fits, pattern_of, idle_of, Idle}
use Rattle.idle.proofs.Fitting.{rows_inside, fits_only, fits_if}

module _ (word : List ℕ) (bits : Bits word) (long : length word ≡ 286) where
  -- n stands for the subframe ID: only 2 and 3 have a row whose check is spoiled
  idle_only : (n : ℕ) → number (part word 27 2) ≡ n → both (get_or rows n no_row).spoiled (fits (get_or rows n no_row) word) ≡ true → Idle word
  unfolding rows
  idle_only zero q e = absurd (let z : ◌≡◌ {A = ℕ} 0 1 = (cc) in omega arith)
  idle_only (suc zero) q e = absurd (let z : ◌≡◌ {A = ℕ} 0 1 = (cc) in omega arith)
  idle_only (suc (suc zero)) q e =
      let f = fits_only word bits (omega arith) (get_or rows 2 no_row) (rows_inside 2 (omega arith)) e in
      record { subframe = inl q; alert = f.alert; pattern = λ bit from to. f.pattern bit (omega arith) (omega arith) }
  idle_only (suc (suc (suc zero))) q e =
      let f = fits_only word bits (omega arith) (get_or rows 3 no_row) (rows_inside 3 (omega arith)) e in
      record { subframe = inr q; alert = f.alert; pattern = λ bit from to. f.pattern bit (omega arith) (omega arith) }
  idle_only (suc (suc (suc (suc n)))) q e = absurd (let z : ◌≡◌ {A = ℕ} 0 1 = (cc) in omega arith)

  idle_if : Idle word → idle_of word ≡ true
  unfolding rows idle_of pattern_of
  idle_if i = elim i.subframe [
    | inl q ↦
        rw q
        (fits_if word bits (omega arith) (get_or rows 2 no_row) (rows_inside 2 (omega arith))
        (record { alert = i.alert; pattern = λ bit from to. i.pattern bit (omega arith) (omega arith) }))
    | inr q ↦
        rw q
        (fits_if word bits (omega arith) (get_or rows 3 no_row) (rows_inside 3 (omega arith))
        (record { alert = i.alert; pattern = λ bit from to. i.pattern bit (omega arith) (omega arith) }))
  ]

  pub idle_exactly : (idle_of word ≡ true → Idle word) × (Idle word → idle_of word ≡ true)
  unfolding idle_of pattern_of
  idle_exactly = (idle_only (number (part word 27 2)) refl, idle_if)

-- a word with the alert flag is not idle
pub idle_alert : (word : List ℕ) → at word 25 ≡ 1 → idle_of word ≡ false
unfolding rows fits idle_of pattern_of
idle_alert word e = by (number (part word 27 2))
  where
    by : (n : ℕ) → both (get_or rows n no_row).spoiled (fits (get_or rows n no_row) word) ≡ false
    by zero = refl
    by (suc zero) = refl
    by (suc (suc zero)) = rw e
    by (suc (suc (suc zero))) = rw e
    by (suc (suc (suc (suc n)))) = refl

-- nor is one of subframe 1 or 2
pub idle_not_first_two : (word : List ℕ) → number (part word 27 2) ≤ 1 → idle_of word ≡ false
unfolding rows idle_of pattern_of
idle_not_first_two word h = by (number (part word 27 2)) h
  where
    by : (n : ℕ) → n ≤ 1 → both (get_or rows n no_row).spoiled (fits (get_or rows n no_row) word) ≡ false
    by zero h = refl
    by (suc zero) h = refl
    by (suc (suc n)) h = absurd (omega arith)
