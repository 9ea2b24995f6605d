-- A body and its check: the word agrees, and each word that agrees is its body's.
-- Assumes nothing.
use mathlib.Core.Path.{◌≡◌, sym, ap, ◌∙◌}
use mathlib.Core.Bool.{true}
use mathlib.Core.List.{List, ◌++◌}
use Prim.Native.Nat.{ℕ, ◌+◌}
use native.Mathlib.Nat.{mod-eq_of_lt}
use native.Mathlib.Omega.{arith}
use borrow.Author.Tests.{eq-eqb, eqb-true}
use lib.Dec.{eqb}
use lib.ListN.{length, take, drop, length-append, length-drop, take-append-drop}
use lib.Seq.{take_all, take_at, drop_at}
use Rattle.bits.specs.Lists.{part, Bits}
use Rattle.bits.specs.Numbers.{number, bits_of}
use Rattle.bits.proofs.Lists.{at_most_append, at_most_drop}
use Rattle.bits.proofs.Numbers.{bits_bits, bits_long, bits_number, number_bits}
use Rattle.bits.proofs.Test.{same_test}
use Rattle.crc24q.specs.Check.{check_of, agrees_of, with_check}
use Rattle.crc24q.proofs.Register.{whole_zero, whole_same}
use Rattle.crc24q.proofs.Remainder.{check_lt}

-- ---- from a body
pub with_check_long : (body : List ℕ) → length (with_check body) ≡ length body + 24
unfolding with_check
with_check_long body = rw (length-append, bits_long)

pub with_check_bits : (body : List ℕ) → Bits body → Bits (with_check body)
unfolding with_check
with_check_bits body h = at_most_append 1 body (bits_of 24 (check_of body)) h (bits_bits 24 (check_of body))

pub take_with_check : (body : List ℕ) → length body ≡ 262 → take 262 (with_check body) ≡ body
unfolding with_check
take_with_check body h = take_at body (bits_of 24 (check_of body)) 262 h

pub with_check_agrees : (body : List ℕ) → length body ≡ 262 → agrees_of (with_check body) ≡ true
unfolding with_check agrees_of
with_check_agrees body h =
    let c : List ℕ = bits_of 24 (check_of body) in
    let all : take 24 c ≡ c = take_all 24 c (omega (arith, bits_long 24 (check_of body))) in
    rw (take_at body c 262 h, drop_at body c 262 h, all)
    (eq-eqb (number c) (check_of body) (number_bits 24 (check_of body) ∙ mod-eq_of_lt (check_lt body)))

-- ---- from a word
module _ (word : List ℕ) (long : length word ≡ 286) where
  check_long : length (drop 262 word) ≡ 24
  check_long = omega (arith, length-drop 262 word)

  check_part : part word 262 24 ≡ drop 262 word
  check_part = take_all 24 (drop 262 word) (omega (arith, check_long))

  pub agrees_with_check : Bits word → agrees_of word ≡ true → with_check (take 262 word) ≡ word
  unfolding with_check agrees_of
  agrees_with_check b e =
      let same : number (drop 262 word) ≡ check_of (take 262 word) = ap number (sym check_part) ∙ eqb-true (number (part word 262 24)) (check_of (take 262 word)) e in
      let spelt : bits_of 24 (number (drop 262 word)) ≡ drop 262 word = rw check_long at (bits_number (drop 262 word) (at_most_drop 1 262 word b)) in
      rw (← same, spelt) (take-append-drop 262 word)

  -- so the code may run over the whole word
  pub agrees_whole : agrees_of word ≡ eqb (check_of word) 0
  unfolding agrees_of
  agrees_whole =
      let both : take 262 word ++ drop 262 word ≡ word = take-append-drop 262 word in
      same_test (number (part word 262 24)) (check_of (take 262 word)) (check_of word) 0
      (λ e. rw both at (whole_zero (take 262 word) (drop 262 word) check_long (ap number (sym check_part) ∙ e)))
      (λ e. ap number check_part ∙ whole_same (take 262 word) (drop 262 word) check_long (ap check_of both ∙ e))
