-- What it means that a list equals one of zeros. Assumes nothing.
use mathlib.Core.Path.{◌≡◌, refl, sym, ap, ap₂, ◌∙◌}
use mathlib.Core.Bool.{Bool, true, false, ◌&&◌}
use mathlib.Core.List.{List, [], ◌∷◌, map}
use Prim.Native.Nat.{ℕ, zero, suc}
use native.Mathlib.Omega.{arith}
use borrow.Author.Tests.{lt-leb}
use lib.Dec.{eqb, leb, eqb-suc-zero, eqb-zero-suc, eqb-suc-suc}
use lib.ListN.{length, get_or, replicate, length-replicate}
use lib.Pointwise.{pointwise}
use Rattle.std.specs.Array.{AllOfLen}
use Rattle.std.proofs.lemmas.List.{ext_get_or, get_or-replicate}
use Rattle.bits.specs.Lists.{both, at_most}
use Rattle.message.specs.declared.Pair.{Pair}
use Rattle.message.specs.Numbers.{no_pair}
use Rattle.message.specs.Records.{zeros?}

none : (a : ℕ) → eqb a 0 ≡ leb a 0
none zero = refl
none (suc a) = rw (eqb-suc-zero a, lt-leb (suc a) 0 (omega arith))

turned : (t e m : Bool) → (t && both e m) ≡ both e (both t m)
turned true e m = refl
turned false true m = refl
turned false false m = refl

pub zeros_same : (n : ℕ) (l : List ℕ) → pointwise eqb l (replicate n 0) ≡ zeros? n l
unfolding at_most
zeros_same zero [] = refl
zeros_same (suc n) [] = rw (eqb-zero-suc n)
zeros_same zero (a ∷ l) = rw (eqb-suc-zero (length l))
zeros_same (suc n) (a ∷ l) =
    ap₂ ◌&&◌ (none a) (zeros_same n l)
    ∙ turned (leb a 0) (eqb (length l) n) (at_most 0 l)
    ∙ ap (λ (e : Bool). both e (both (leb a 0) (at_most 0 l))) (sym (eqb-suc-suc (length l) n))

-- the same of pairs, by a test of two pairs that tests both numbers
four : (a b x y : Bool) → ((a && b) && both x y) ≡ both (a && x) (b && y)
four true b true y = refl
four true true false y = refl
four true false false y = refl
four false b x y = refl

module _ (E : Pair → Pair → Bool) (each : (p : Pair) → E p no_pair ≡ (eqb p.givei 0 && eqb p.givd 0)) where
  apart : (n : ℕ) (ps : List Pair)
      → pointwise E ps (replicate n no_pair)
      ≡ both (pointwise eqb (map (λ p. p.givei) ps) (replicate n 0)) (pointwise eqb (map (λ p. p.givd) ps) (replicate n 0))
  apart zero [] = refl
  apart (suc n) [] = refl
  apart zero (p ∷ ps) = refl
  apart (suc n) (p ∷ ps) =
      ap₂ ◌&&◌ (each p) (apart n ps)
      ∙ four (eqb p.givei 0) (eqb p.givd 0) (pointwise eqb (map (λ p. p.givei) ps) (replicate n 0)) (pointwise eqb (map (λ p. p.givd) ps) (replicate n 0))

  pub pairs_same : (n : ℕ) (ps : List Pair)
      → pointwise E ps (replicate n no_pair) ≡ both (zeros? n (map (λ p. p.givei) ps)) (zeros? n (map (λ p. p.givd) ps))
  pairs_same n ps = apart n ps ∙ ap₂ both (zeros_same n (map (λ p. p.givei) ps)) (zeros_same n (map (λ p. p.givd) ps))

-- a list all of whose elements are one
pub all_one : {A : Type 0} (P : A → Type 0) (d : A) → ((x : A) → P x → x ≡ d) → (n : ℕ) (l : List A) → AllOfLen P l n → l ≡ replicate n d
all_one {A} P d is n l w =
    ext_get_or d l (replicate n d) (w.long ∙ sym (length-replicate {A = A} n d))
    (λ i h. is (get_or l i d) (w.at i d (omega (arith, w.long))) ∙ sym (get_or-replicate n i d d (omega (arith, w.long))))
