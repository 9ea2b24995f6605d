-- Each row's bits lie in a body, and a row fits exactly where the alert flag is its own and its bits alternate from 0.
-- Assumes nothing.
use mathlib.Core.Path.{◌≡◌, refl, sym, ap, ap₂, ◌∙◌}
use mathlib.Core.Bool.{Bool, true, false}
use mathlib.Core.List.{List}
use Prim.Native.Nat.{ℕ, zero, suc, ◌+◌, ◌-◌, ◌%◌, ◌≤◌, ◌<◌}
use native.Mathlib.Omega.{arith}
use borrow.Author.Rules.{rules}
use borrow.Author.Tests.{eq-eqb, ne_eqb, eqb-true}
use lib.Dec.{eqb}
use lib.ListN.{length, get_or, take, drop}
use lib.Seq.{get_or-take, take-take}
use mir.Val.{bool_byte}
use Rattle.std.proofs.lemmas.List.{drop-take}
use Rattle.std.specs.Prelude.{slice_range}
use Rattle.bits.specs.Lists.{at, part, pick, both, Bits}
use Rattle.bits.specs.Numbers.{number}
use Rattle.bits.proofs.Both.{both_holds}
use Rattle.bits.proofs.Lists.{at_most_at}
use Rattle.bits.proofs.Numbers.{number_few}
use Rattle.idle.specs.declared.Row.{Row}
use Rattle.idle.specs.Idle.{rows, no_row, row_of, Inside, alternates, fits, pattern_of}
use Rattle.idle.proofs.Alternation.{part_alternates, part_alternated}

pub rows_inside : (n : ℕ) → n < 4 → Inside (get_or rows n no_row)
unfolding rows
rows_inside zero h = search rules
rows_inside (suc zero) h = search rules
rows_inside (suc (suc zero)) h = search rules
rows_inside (suc (suc (suc zero))) h = search rules
rows_inside (suc (suc (suc (suc n)))) h = absurd (omega arith)

pub row_inside : (word : List ℕ) (r : Row) → r ≡ row_of word → Inside r
row_inside word r e = rw e (rows_inside (number (part word 27 2)) (number_few (drop 27 word) 2 2 (omega arith)))

-- the part of a word that a row speaks of, as a slice has it
pub row_part : (word : List ℕ) (r : Row) → Inside r → slice_range word (r.first - 1) r.last ≡ part word (r.first - 1) (r.last + 1 - r.first)
row_part word r i = let e : r.last - (r.first - 1) ≡ r.last + 1 - r.first = omega arith in rw e

-- a flag as a bit
flag_bit : (flag : Bool) → pick flag 1 0 ≤ 1
flag_bit true = omega arith
flag_bit false = omega arith

byte_is : (flag : Bool) → bool_byte flag ≡ pick flag 1 0
byte_is true = refl
byte_is false = refl

-- what the code finds of the row of a word: the alert flag is the row's, or it isn't
module _ (word : List ℕ) (r : Row) (n : ℕ) (here : r ≡ row_of word) (flag : n ≡ bool_byte r.alert) where
  pub pattern_flag : (x : Bool) → at word 25 % 2 ≡ n → x ≡ alternates 0 (slice_range word (r.first - 1) r.last) → x ≡ pattern_of word
  unfolding fits pattern_of
  pattern_flag x e w =
      w
      ∙ ap (alternates 0) (row_part word r (row_inside word r here))
      ∙ sym (rw (← here, eq-eqb (at word 25 % 2) (pick r.alert 1 0) (e ∙ flag ∙ byte_is r.alert)) refl)

  pub pattern_no_flag : (at word 25 % 2 ≡ n → ⊥) → false ≡ pattern_of word
  unfolding fits pattern_of
  pattern_no_flag e = sym (rw (← here, ne_eqb (at word 25 % 2) (pick r.alert 1 0) (λ z. e (z ∙ sym (flag ∙ byte_is r.alert)))) refl)

-- a part of a word that lies in its first m bits
part_front : (l : List ℕ) (m i n : ℕ) → i + n ≤ m → part (take m l) i n ≡ part l i n
part_front l m i n h =
    let e : i + (m - i) ≡ m = omega arith in
    ap (take n) (ap (λ (k : ℕ). drop i (take k l)) (sym e) ∙ drop-take i (m - i) l) ∙ take-take n (m - i) (drop i l) (omega arith)

-- a row speaks of a body's bits alone
pub front_row : (word : List ℕ) → row_of (take 262 word) ≡ row_of word
front_row word = ap (λ (bits : List ℕ). get_or rows (number bits) no_row) (part_front word 262 27 2 (omega arith))

pub front_pattern : (word : List ℕ) → pattern_of (take 262 word) ≡ pattern_of word
unfolding fits pattern_of
front_pattern word =
    let r = row_of word in
    let i = row_inside word r refl in
    let e : fits r (take 262 word) ≡ fits r word = ap₂ (λ (n : ℕ) (bits : List ℕ). both (eqb (n % 2) (pick r.alert 1 0)) (alternates 0 bits)) (get_or-take 262 word 25 0 (omega arith)) (part_front word 262 (r.first - 1) (r.last + 1 - r.first) (let x = i.counts in let y = i.forward in let z = i.inside in omega arith)) in
    ap (λ (w : Row). fits w (take 262 word)) (front_row word) ∙ e

-- a row fits a word, said plainly
pub record Fitting (r : Row) (word : List ℕ) : Type 0 where
  pub alert : at word 25 ≡ pick r.alert 1 0
  pub pattern : (bit : ℕ) → r.first ≤ bit → bit ≤ r.last → at word (bit - 1) ≡ (bit - r.first) % 2

module _ (word : List ℕ) (bits : Bits word) (long : 262 ≤ length word) where
  pub fits_only : (r : Row) → Inside r → fits r word ≡ true → Fitting r word
  unfolding fits
  fits_only r i e =
      let t = both_holds (eqb (at word 25 % 2) (pick r.alert 1 0)) _ e in
      record {
        alert = omega (arith, eqb-true (at word 25 % 2) (pick r.alert 1 0) t.0, at_most_at 1 word bits 25);
        pattern =
            λ bit from to.
            let there : r.first - 1 + (bit - r.first) ≡ bit - 1 = omega arith in
            let p = part_alternated word (r.first - 1) (r.last + 1 - r.first) (omega arith) t.1 (bit - r.first) (omega arith) in
            omega (arith, at_most_at 1 word bits (bit - 1), rw there at p);
      }

  pub fits_if : (r : Row) → Inside r → Fitting r word → fits r word ≡ true
  unfolding fits
  fits_if r i f =
      rw (eq-eqb (at word 25 % 2) (pick r.alert 1 0) (omega (arith, f.alert, flag_bit r.alert)))
      (part_alternates word (r.first - 1) (r.last + 1 - r.first) (omega arith)
      (λ k h.
      let there : r.first - 1 + k ≡ r.first + k - 1 = omega arith in
      rw there (omega (arith, f.pattern (r.first + k) (omega arith) (omega arith)))))

  -- whether the idle pattern of its own subframe stands in a word or a body of bits
  pub pattern_exactly : (pattern_of word ≡ true → Fitting (row_of word) word) × (Fitting (row_of word) word → pattern_of word ≡ true)
  unfolding pattern_of
  pattern_exactly = (fits_only (row_of word) (row_inside word (row_of word) refl), fits_if (row_of word) (row_inside word (row_of word) refl))
