-- The butterfly: both generators have both end taps, so one toll gives four.
-- Assumes nothing.
use mathlib.Core.Path.{◌≡◌, refl, ap₂, ◌∙◌}
use mathlib.Core.Logic.{◌⊎◌, inl, inr}
use mathlib.Core.List.{List, [], ◌∷◌}
use Prim.Native.Nat.{ℕ, ◌+◌, ◌-◌, ◌*◌, ◌/◌, ◌%◌, ◌<◌, ◌≤◌, min}
use native.Mathlib.Omega.{arith}
use borrow.Author.Tests.{lt-ltb, le-ltb, ne_eqb, eqb-true, eqb-false}
use lib.Dec.{eqb}
use mir.Val.{bool_byte}
use mathlib.Core.Bool.{Bool, true, false, not}
use lib.ListN.{set}
use Rattle.bits.proofs.Fill.{put_more}
use Rattle.bits.proofs.Test.{agree, bit_cases}
use Rattle.bits.specs.Lists.{at}
use Rattle.convolution.proofs.Coded.{price_le}
use Rattle.convolution.proofs.Survivor.{toll_le}
use Rattle.convolution.specs.Code.{price}
use Rattle.convolution.specs.Trellis.{out1, out2, Pair, toll, via, better, choice}
use Rattle.nearest.specs.Steps.{second_less, even_toll, Tolls, Halves, Under}

-- ---- the mark of a comparison
pub marked : (a b n k : ℕ) → n ≡ min a b → k ≡ bool_byte (not (eqb n a)) → k ≡ second_less a b
marked a b n k e f = f ∙ go (eqb n a) refl
  where
    go : (t : Bool) → eqb n a ≡ t → bool_byte (not t) ≡ second_less a b
    go true q = let l : a ≤ b = omega (arith, eqb-true n a q) in rw (le-ltb b a l) refl
    go false q = let l : b < a = omega (arith, eqb-false n a q) in rw (lt-ltb b a l) refl

-- ---- the price of a symbol that is written '0' or '1'
pub symbol_none : (p b l : ℕ) → b < 49 → min l p ≡ price p (b - 48) l
unfolding price
symbol_none p b l h = let e : b - 48 ≡ 0 = omega arith in rw e

pub symbol_one : (p b l : ℕ) → 49 ≤ b → p - min l p ≡ price p (b - 48) l
unfolding price
symbol_one p b l h = rw (ne_eqb (b - 48) 0 (λ e. omega arith))

-- ---- the table of the symbols of the even registers, as the code writes it
abbrev pub firsts : List ℕ
firsts = 48 ∷ 49 ∷ 49 ∷ 48 ∷ 49 ∷ 48 ∷ 48 ∷ 49 ∷ 48 ∷ 49 ∷ 49 ∷ 48 ∷ 49 ∷ 48 ∷ 48 ∷ 49 ∷ 48 ∷ 49 ∷ 49 ∷ 48 ∷ 49 ∷ 48 ∷ 48 ∷ 49 ∷ 48 ∷ 49 ∷ 49 ∷ 48 ∷ 49 ∷ 48 ∷ 48 ∷ 49 ∷ []

abbrev pub seconds : List ℕ
seconds = 48 ∷ 48 ∷ 49 ∷ 49 ∷ 49 ∷ 49 ∷ 48 ∷ 48 ∷ 48 ∷ 48 ∷ 49 ∷ 49 ∷ 49 ∷ 49 ∷ 48 ∷ 48 ∷ 49 ∷ 49 ∷ 48 ∷ 48 ∷ 48 ∷ 48 ∷ 49 ∷ 49 ∷ 49 ∷ 49 ∷ 48 ∷ 48 ∷ 48 ∷ 48 ∷ 49 ∷ 49 ∷ []

first_written : (j : ℕ) → j < 32 → at firsts j - 48 ≡ out1 (2 * j)
unfolding out1
first_written = agree (λ (j : ℕ). at firsts j - 48) (λ (j : ℕ). out1 (2 * j)) 32 tt

second_written : (j : ℕ) → j < 32 → at seconds j - 48 ≡ out2 (2 * j)
unfolding out2
second_written = agree (λ (j : ℕ). at seconds j - 48) (λ (j : ℕ). out2 (2 * j)) 32 tt

pub written : (p x y j c : ℕ) → j < 32 → c ≡ price p (at firsts j - 48) x + price p (at seconds j - 48) y → c ≡ toll p (x, y) (2 * j)
unfolding toll
written p x y j c h e = e ∙ rw (first_written j h, second_written j h)

pub written_row : (p x y j c : ℕ) → y < 8 → j < 32 → c ≡ price p (at firsts j - 48) x + price p (at seconds j - 48) y → c ≡ even_toll p (8 * x + y) j
written_row p x y j c l h e =
    let a : (8 * x + y) / 8 ≡ x = omega arith in
    let b : (8 * x + y) % 8 ≡ y = omega arith in
    rw (a, b) (written p x y j c h e)

-- ---- the newest bit and the oldest turn both symbols over
record Turns (o : ℕ → ℕ) : Type 0 where
  newest : (j : ℕ) → j < 32 → o (2 * j + 1) ≡ 1 - o (2 * j)
  oldest : (j : ℕ) → j < 32 → o (2 * j + 64) ≡ 1 - o (2 * j)
  both : (j : ℕ) → j < 32 → o (2 * j + 1 + 64) ≡ o (2 * j)
  bit : (r : ℕ) → o r ≤ 1

turns1 : Turns out1
unfolding out1
turns1 = record {
  newest = agree (λ (j : ℕ). out1 (2 * j + 1)) (λ (j : ℕ). 1 - out1 (2 * j)) 32 tt;
  oldest = agree (λ (j : ℕ). out1 (2 * j + 64)) (λ (j : ℕ). 1 - out1 (2 * j)) 32 tt;
  both = agree (λ (j : ℕ). out1 (2 * j + 1 + 64)) (λ (j : ℕ). out1 (2 * j)) 32 tt;
  bit = λ r. omega arith;
}

turns2 : Turns out2
unfolding out2
turns2 = record {
  newest = agree (λ (j : ℕ). out2 (2 * j + 1)) (λ (j : ℕ). 1 - out2 (2 * j)) 32 tt;
  oldest = agree (λ (j : ℕ). out2 (2 * j + 64)) (λ (j : ℕ). 1 - out2 (2 * j)) 32 tt;
  both = agree (λ (j : ℕ). out2 (2 * j + 1 + 64)) (λ (j : ℕ). out2 (2 * j)) 32 tt;
  bit = λ r. omega arith;
}

turned_price : (p b l : ℕ) → b ≤ 1 → price p (1 - b) l ≡ p - price p b l
turned_price p b l h = go (bit_cases b h)
  where
    go : (b ≡ 0) ⊎ (b ≡ 1) → price p (1 - b) l ≡ p - price p b l
    go (inl e) = rw e (unfold price in refl)
    go (inr e) = rw e (unfold price in omega arith)

-- what the code adds up from the toll c of the register 2 j is what the trellis does
pub record Fly (p : ℕ) (q : Pair) (m : List ℕ) (j c : ℕ) : Type 0 where
  pub even0 : at m j + c ≡ via (at m) (toll p q) (2 * j) 0
  pub even1 : at m (j + 32) + (2 * p - c) ≡ via (at m) (toll p q) (2 * j) 1
  pub odd0 : at m j + (2 * p - c) ≡ via (at m) (toll p q) (2 * j + 1) 0
  pub odd1 : at m (j + 32) + c ≡ via (at m) (toll p q) (2 * j + 1) 1

module _ (p : ℕ) (q : Pair) (j : ℕ) (h : j < 32) where
  turned : (r : ℕ) → out1 r ≡ 1 - out1 (2 * j) → out2 r ≡ 1 - out2 (2 * j) → toll p q r ≡ 2 * p - toll p q (2 * j)
  unfolding toll
  turned r e f =
      rw (e, f, turned_price p (out1 (2 * j)) q.0 (turns1.bit (2 * j)), turned_price p (out2 (2 * j)) q.1 (turns2.bit (2 * j)))
      (omega (arith, price_le p (out1 (2 * j)) q.0, price_le p (out2 (2 * j)) q.1))

  same : toll p q (2 * j + 1 + 64) ≡ toll p q (2 * j)
  unfolding toll
  same = rw (turns1.both j h, turns2.both j h)

  flown : (m : List ℕ) → Fly p q m j (toll p q (2 * j))
  unfolding via
  flown m =
      let lo : 2 * j / 2 + 32 * 0 ≡ j = omega arith in
      let hi : 2 * j / 2 + 32 * 1 ≡ j + 32 = omega arith in
      let lo' : (2 * j + 1) / 2 + 32 * 0 ≡ j = omega arith in
      let hi' : (2 * j + 1) / 2 + 32 * 1 ≡ j + 32 = omega arith in
      let z : 2 * j + 64 * 0 ≡ 2 * j = omega arith in
      let z' : 2 * j + 1 + 64 * 0 ≡ 2 * j + 1 = omega arith in
      record {
        even0 = rw (lo, z);
        even1 = rw (hi, turned (2 * j + 64 * 1) (turns1.oldest j h) (turns2.oldest j h));
        odd0 = rw (lo', z', turned (2 * j + 1) (turns1.newest j h) (turns2.newest j h));
        odd1 = rw (hi', same);
      }

  pub fly : (m : List ℕ) (c : ℕ) → c ≡ toll p q (2 * j) → Fly p q m j c
  fly m c e = rw e (flown m)

-- the metrics and the marks of the states that a butterfly leads to
module _ {p : ℕ} {q : Pair} {m : List ℕ} {j c : ℕ} (f : Fly p q m j c) where
  pub even_metric : {n : ℕ} → n ≡ min (at m j + c) (at m (j + 32) + (2 * p - c)) → n ≡ better (at m) (toll p q) (2 * j)
  unfolding better
  even_metric e = e ∙ ap₂ min f.even0 f.even1

  pub odd_metric : {n : ℕ} → n ≡ min (at m j + (2 * p - c)) (at m (j + 32) + c) → n ≡ better (at m) (toll p q) (2 * j + 1)
  unfolding better
  odd_metric e = e ∙ ap₂ min f.odd0 f.odd1

  pub even_mark : {k : ℕ} → k ≡ second_less (at m j + c) (at m (j + 32) + (2 * p - c)) → k ≡ choice (at m) (toll p q) (2 * j)
  unfolding choice
  even_mark e = e ∙ ap₂ second_less f.even0 f.even1

  pub odd_mark : {k : ℕ} → k ≡ second_less (at m j + (2 * p - c)) (at m (j + 32) + c) → k ≡ choice (at m) (toll p q) (2 * j + 1)
  unfolding choice
  odd_mark e = e ∙ ap₂ second_less f.odd0 f.odd1

-- ---- the row of a pair of levels; a level above p counts as p
toll_min : (p x y r : ℕ) → toll p (min x p, min y p) r ≡ toll p (x, y) r
unfolding toll price
toll_min p x y r =
    let a : min (min x p) p ≡ min x p = omega arith in
    let b : min (min y p) p ≡ min y p = omega arith in
    rw (a, b)

pub row_at : (p x y start i : ℕ) (table : List ℕ) → p ≤ 7 → Tolls p (9 * p + 1) table → start ≡ 32 * (8 * min x p + min y p) → i < 32
    → at table (start + i) ≡ toll p (x, y) (2 * i)
row_at p x y start i table h w e l =
    let a : (8 * min x p + min y p) / 8 ≡ min x p = omega arith in
    let b : (8 * min x p + min y p) % 8 ≡ min y p = omega arith in
    rw e (rw (a, b, toll_min p x y) at (w.each (8 * min x p + min y p) i (omega arith) (omega arith) l))

-- the values that a turn puts behind the halves so far
pub halves_more : (f : ℕ → ℕ) (n a b : ℕ) (even odd : List ℕ) → n < 32 → a ≡ f (2 * n) → b ≡ f (2 * n + 1) → Halves f n even odd
    → Halves f (n + 1) (set even n a) (set odd n b)
halves_more f n a b even odd h p q w =
    record {
      evens = put_more _ _ _ n _ _ _ (omega arith) h p w.evens;
      odds = put_more _ _ _ n _ _ _ (omega arith) h q w.odds;
    }

-- what a turn of the step's loop finds: the butterflies below j are done
pub record Turn (p x y : ℕ) (m : List ℕ) (start : ℕ) (m0 m1 k0 k1 : List ℕ) (j : ℕ) : Type 0 where
  pub upto : j ≤ 32
  pub row : start ≡ 32 * (8 * min x p + min y p)
  pub nexts : Halves (better (at m) (toll p (x, y))) j m0 m1
  pub marks : Halves (choice (at m) (toll p (x, y))) j k0 k1

-- the sums of a turn fit a byte
pub small : (p : ℕ) (q : Pair) (j c : ℕ) (m : List ℕ) → p ≤ 7 → j < 32 → c ≡ toll p q (2 * j) → Under m (255 - 2 * p)
    → (c ≤ 2 * p) × (at m j + 2 * p ≤ 255) × (at m (j + 32) + 2 * p ≤ 255)
small p q j c m h l e u = (omega (arith, toll_le p q (2 * j)), omega (arith, u.each j (omega arith)), omega (arith, u.each (j + 32) (omega arith)))
