-- The encoder's loop: its register holds the seven newest bits.
-- Assumes nothing.
use mathlib.Core.Path.{◌≡◌, refl, sym, ◌∙◌}
use mathlib.Core.List.{List, [], ◌∷◌, ◌++◌, reverse_aux, reverse_aux-append}
use Prim.Native.Nat.{ℕ, zero, suc, ◌+◌, ◌*◌, ◌/◌, ◌%◌, ◌<◌}
use native.Mathlib.Numerals.{add-one}
use native.Mathlib.Omega.{arith}
use lib.Count.{ones}
use Rattle.std.specs.Prelude.{bit_and, count_ones}
use Rattle.bits.proofs.Test.{agree}
use lib.ListN.{length, set, replicate, take, length-append}
use lib.Seq.{take-suc, ext_get_or}
use Rattle.bits.proofs.Fill.{Put, put_none, put_two}
use Rattle.convolution.specs.Code.{ago, six_zeros, g1, g2, encode, coded_form}
use Rattle.convolution.proofs.Coded.{coded_long}

-- the bits before the one at i, the newest first
abbrev past : List ℕ → ℕ → List ℕ
past w i = reverse_aux (take i (w ++ six_zeros)) six_zeros

ago_none : (n i : ℕ) → ago (replicate n 0) i ≡ 0
ago_none zero i = refl
ago_none (suc n) zero = refl
ago_none (suc n) (suc i) = ago_none n i

ago_zeros : (w : List ℕ) (i : ℕ) → ago (w ++ six_zeros) i ≡ ago w i
ago_zeros [] i = ago_none 6 i
ago_zeros (b ∷ w) zero = refl
ago_zeros (b ∷ w) (suc i) = ago_zeros w i

past_more : (w : List ℕ) (i : ℕ) → i < length w + 6 → past w (suc i) ≡ ago w i ∷ past w i
past_more w i h =
    rw (take-suc (w ++ six_zeros) i 0 (omega (arith, length-append w six_zeros)), reverse_aux-append (take i (w ++ six_zeros)) (ago (w ++ six_zeros) i ∷ []) six_zeros, ago_zeros w i)

-- the symbols of the bit at i
encode_at : (w x : List ℕ) (i : ℕ) → i < length w
    → (ago (encode x w) (2 * i) ≡ g1 (reverse_aux (take (suc i) w) x)) × (ago (encode x w) (2 * i + 1) ≡ g2 (reverse_aux (take (suc i) w) x))
unfolding encode
encode_at [] x i h = absurd (omega arith)
encode_at (b ∷ w) x zero h = (refl, refl)
encode_at (b ∷ w) x (suc i) h =
    let e : 2 * suc i ≡ suc (suc (2 * i)) = omega arith in
    let f : 2 * suc i + 1 ≡ suc (suc (2 * i + 1)) = omega arith in
    rw (f, e) (encode_at w (b ∷ x) i (omega arith))

-- ---- the register: seven bits, the newest worth 64
-- the bits that the generators use
ones1 : (r : ℕ) → r < 128 → count_ones (bit_and r 121) % 2 ≡ (r / 64 + r / 32 + r / 16 + r / 8 + r) % 2
unfolding ones
ones1 = agree (λ (r : ℕ). count_ones (bit_and r 121) % 2) (λ (r : ℕ). (r / 64 + r / 32 + r / 16 + r / 8 + r) % 2) 128 tt

ones2 : (r : ℕ) → r < 128 → count_ones (bit_and r 91) % 2 ≡ (r / 64 + r / 16 + r / 8 + r / 2 + r) % 2
unfolding ones
ones2 = agree (λ (r : ℕ). count_ones (bit_and r 91) % 2) (λ (r : ℕ). (r / 64 + r / 16 + r / 8 + r / 2 + r) % 2) 128 tt

module _ (a b c d e f g : ℕ) where
  -- each bit is a number's lowest one
  abbrev pub spelt : ℕ
  spelt = 64 * (a % 2) + 32 * (b % 2) + 16 * (c % 2) + 8 * (d % 2) + 4 * (e % 2) + 2 * (f % 2) + g % 2

  spelt_lt : spelt < 128
  spelt_lt = omega arith

  symbol1 : count_ones (bit_and spelt 121) % 2 ≡ (a + b + c + d + g) % 2
  symbol1 = ones1 spelt spelt_lt ∙ omega arith

  symbol2 : count_ones (bit_and spelt 91) % 2 ≡ (a + c + d + f + g) % 2
  symbol2 = ones2 spelt spelt_lt ∙ omega arith

abbrev pub Holds : List ℕ → ℕ → Type 0
Holds x r = r ≡ spelt (ago x 0) (ago x 1) (ago x 2) (ago x 3) (ago x 4) (ago x 5) (ago x 6)

pub record Sent (w old new : List ℕ) (register i : ℕ) : Type 0 where
  pub holds : Holds (past w i) register
  pub put : Put (ago (coded_form w)) 0 (2 * i) old new

pub sent_none : (w l : List ℕ) → Sent w l l 0 0
sent_none w l = record { holds = refl; put = put_none (ago (coded_form w)) 0 l }

module _ {w old new : List ℕ} {r r' i t : ℕ} (h : i < length w + 6) (is : t ≡ ago w i % 2) (next : r' ≡ r / 2 + 64 * t) (v : Sent w old new r i) where
  holds : Holds (past w (suc i)) r'
  holds = rw (past_more w i h) (omega (arith, v.holds))

  symbols : (count_ones (bit_and r' 121) % 2 ≡ ago (coded_form w) (2 * i)) × (count_ones (bit_and r' 91) % 2 ≡ ago (coded_form w) (2 * i + 1))
  unfolding coded_form g1 g2
  symbols =
      let x : List ℕ = past w (suc i) in
      let g = encode_at (w ++ six_zeros) six_zeros i (omega (arith, length-append w six_zeros)) in (
        rw holds (symbol1 (ago x 0) (ago x 1) (ago x 2) (ago x 3) (ago x 4) (ago x 5) (ago x 6) ∙ sym g.0),
        rw holds (symbol2 (ago x 0) (ago x 1) (ago x 2) (ago x 3) (ago x 4) (ago x 5) (ago x 6) ∙ sym g.1),
      )

  pub sent_more : {x y : ℕ} → x ≡ count_ones (bit_and r' 121) % 2 → y ≡ count_ones (bit_and r' 91) % 2 → length old ≡ 2 * (length w + 6)
      → Sent w old (set (set new (2 * i) x) (2 * i + 1) y) r' (i + 1)
  sent_more {x} {y} p q l =
      record {
        holds = rw (add-one i) holds;
        put = put_two (ago (coded_form w)) i x y old new (omega arith) (p ∙ symbols.0) (q ∙ symbols.1) v.put;
      }

pub sent_all : {w old new : List ℕ} {r i : ℕ} → length old ≡ 2 * (length w + 6) → i ≡ length w + 6 → Sent w old new r i → new ≡ coded_form w
sent_all {w} {new = new} l q v =
    ext_get_or 0 new (coded_form w) (v.put.long ∙ l ∙ sym (coded_long w)) (λ k h. v.put.here k k (omega (arith, v.put.long)) (omega arith))
