-- The forward pass: bytes from which the same was taken off step and choose as the metrics do.
-- Assumes nothing.
use mathlib.Core.Path.{◌≡◌, refl, ap, ◌∙◌}
use mathlib.Core.List.{List, []}
use Prim.Native.Nat.{ℕ, suc, ◌+◌, ◌-◌, ◌*◌, ◌/◌, ◌%◌, ◌<◌, ◌≤◌}
use native.Mathlib.Decide.{dec_lt}
use native.Mathlib.Nat.{mul-le-mul_left}
use native.Mathlib.Numerals.{add-one}
use native.Mathlib.Omega.{arith}
use borrow.Author.Count.{below_more}
use borrow.Author.Tests.{lt-ltb, le-ltb}
use lib.ListN.{length, set, length-set}
use lib.Seq.{get_or-set_same, get_or-set_other}
use Rattle.bits.proofs.Fill.{Put}
use Rattle.bits.specs.Lists.{at}
use Rattle.convolution.proofs.Survivor.{toll_le, better_le}
use Rattle.convolution.specs.Trellis.{Pair, toll, via, better, choice, metric, mark, pairs}
use Rattle.nearest.specs.Steps.{second_less, even_toll, Tolls, mark_at, Marked, Held, Under, Passed, Each}

-- ---- one row more, one step's marks more
pub tolls_more : {p q : ℕ} {old new : List ℕ} → Tolls p q old → Put (even_toll p q) (32 * q) 32 old new → Tolls p (q + 1) new
tolls_more {p} {q} {new = new} w put =
    record {
      each =
          λ r j lt k h.
          below_more (λ (r : ℕ). r % 8 ≤ p → at new (32 * r + j) ≡ even_toll p r j) q
          (λ r l k. put.before (32 * r + j) (omega arith) ∙ w.each r j l k h)
          (λ k. put.here j (32 * q + j) h refl) r lt k;
    }

-- rows whose second level is above p are not asked for
pub tolls_upto : {p m n : ℕ} {l : List ℕ} → Tolls p m l → ((q : ℕ) → q < n → q % 8 ≤ p → q < m) → Tolls p n l
tolls_upto w h = record { each = λ q j lt k i. w.each q j (h q lt k) k i }

marked_more : {p t : ℕ} {l : List ℕ} {marks : List (List ℕ)} (taken : List ℕ) → t < length marks → Marked p l t marks
    → ((s : ℕ) → s < 64 → at taken s ≡ mark p (pairs l (suc t)) s) → Marked p l (t + 1) (set marks t taken)
marked_more {p} {t} {l} {marks} taken h w e =
    record {
      each =
          λ r s lt hs.
          below_more (λ (r : ℕ). mark_at (set marks t taken) r s ≡ mark p (pairs l (suc r)) s) t
          (λ r k. ap (λ (row : List ℕ). at row s) (get_or-set_other marks t r taken [] (λ z. omega arith)) ∙ w.each r s k hs)
          (ap (λ (row : List ℕ). at row s) (get_or-set_same marks t taken [] h) ∙ e s hs) r lt;
    }

-- ---- what was taken off changes no choice
second_less_shift : (a b x : ℕ) → second_less a b ≡ second_less (a + x) (b + x)
second_less_shift a b x = go (dec_lt b a)
  where
    go : Dec (b < a) → second_less a b ≡ second_less (a + x) (b + x)
    go (yes h) = rw (lt-ltb b a h, lt-ltb (b + x) (a + x) (omega arith))
    go (no h) = rw (le-ltb b a (omega arith), le-ltb (b + x) (a + x) (omega arith))

module _ (f g c : ℕ → ℕ) (s x : ℕ) (hs : s < 64) (same : (q : ℕ) → q < 64 → f q + x ≡ g q) where
  via_shift : (k : ℕ) → k ≤ 1 → via f c s k + x ≡ via g c s k
  unfolding via
  via_shift k h = omega (arith, same (s / 2 + 32 * k) (omega arith))

  better_shift : better f c s + x ≡ better g c s
  unfolding better
  better_shift = omega (arith, via_shift 0 (omega arith), via_shift 1 (omega arith))

  choice_shift : choice f c s ≡ choice g c s
  unfolding choice
  choice_shift = rw (← via_shift 0 (omega arith), ← via_shift 1 (omega arith)) (second_less_shift (via f c s 0) (via f c s 1) x)

-- ---- one step
pub record Going (p : ℕ) (l : List ℕ) (start : ℕ) (first m : List ℕ) (marks : List (List ℕ)) (t : ℕ) : Type 0 where
  pub long : length marks ≡ 292
  pub under : Under m (24 * p + 2 * p * (t - start))
  pub passed : Passed p l start t first m marks

pub going_first : {p start : ℕ} {l first : List ℕ} {marks : List (List ℕ)} → length marks ≡ 292 → Under first (24 * p) → Marked p l start marks
    → Going p l start first first marks start
going_first {p} {start} e u w =
    record {
      long = e;
      under = record { each = λ s h. omega (arith, u.each s h) };
      passed = record { held = λ x h. h; marked = λ x h. w };
    }

-- the bytes of a turn leave room for what a step can add
pub room : (p start n t : ℕ) (m : List ℕ) → 24 * p + 2 * p * n ≤ 255 → start ≤ t → t < start + n → Under m (24 * p + 2 * p * (t - start)) → Under m (255 - 2 * p)
room p start n t m fits from h u =
    let e : 2 * p * suc (t - start) ≡ 2 * p * (t - start) + 2 * p = omega arith in
    let k : suc (t - start) ≤ n = omega arith in
    record { each = λ s hs. omega (arith, u.each s hs, mul-le-mul_left (2 * p) k) }

module _ {p start t : ℕ} {l first m next taken : List ℕ} {marks : List (List ℕ)} (from : start ≤ t) (upto : t < 292) (g : Going p l start first m marks t)
    (nexts : Each (better (at m) (toll p (at l (2 * t), at l (2 * t + 1)))) next)
    (chosen : Each (choice (at m) (toll p (at l (2 * t), at l (2 * t + 1)))) taken) where
  held_next : (x : ℕ) → Held p l t m x → Held p l (suc t) next x
  unfolding metric pairs
  held_next x w =
      record { each = λ s h. ap (λ (a : ℕ). a + x) (nexts.each s h) ∙ better_shift (at m) (metric p (pairs l t)) _ s x h w.each }

  marks_next : (x : ℕ) → Held p l t m x → (s : ℕ) → s < 64 → at taken s ≡ mark p (pairs l (suc t)) s
  unfolding mark pairs
  marks_next x w s h = chosen.each s h ∙ choice_shift (at m) (metric p (pairs l t)) _ s x h w.each

  under_next : Under next (24 * p + 2 * p * (t + 1 - start))
  unfolding via
  under_next =
      let e : t + 1 - start ≡ suc (t - start) = omega arith in
      let more : 2 * p * suc (t - start) ≡ 2 * p * (t - start) + 2 * p = omega arith in
      rw e
      (record {
        each = λ s h.
            let q : Pair = (at l (2 * t), at l (2 * t + 1)) in
            omega (
              arith,
              nexts.each s h,
              better_le (at m) (toll p q) s 0 (omega arith),
              g.under.each (s / 2 + 32 * 0) (omega arith),
              toll_le p q (s + 64 * 0),
            );
      })

  pub going_more : Going p l start first next (set marks t taken) (t + 1)
  going_more =
      record {
        long = length-set marks t taken ∙ g.long;
        under = under_next;
        passed = record {
          held = λ x w. rw add-one (held_next x (g.passed.held x w));
          marked = λ x w. marked_more taken (omega (arith, g.long)) (g.passed.marked x w) (marks_next x (g.passed.held x w));
        };
      }
