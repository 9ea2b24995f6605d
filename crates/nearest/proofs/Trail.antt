-- The way back along the marks: what stands of the word, and what the marks still hold, are the whole word.
-- Assumes nothing.
use mathlib.Core.Path.{◌≡◌, refl, sym, ap, ◌∙◌}
use mathlib.Core.List.{List, ◌∷◌, reverse_aux}
use Prim.Native.Nat.{ℕ, suc, ◌+◌, ◌*◌, ◌/◌, ◌<◌, ◌≤◌}
use native.Mathlib.Omega.{arith}
use lib.ListN.{length, set, take, drop, length-set, drop_of_length-le}
use lib.Seq.{drop-cons, drop-set-lt, get_or-set_same}
use Rattle.convolution.proofs.Survivor.{choice_bit}
use Rattle.convolution.specs.Trellis.{metric, mark, survivor, pairs, decode}
use Rattle.nearest.specs.Steps.{mark_at, Marked}

pub record Way (marks : List (List ℕ)) (word : List ℕ) (s t : ℕ) : Type 0 where
  pub upto : t ≤ 286
  pub state : s < 64
  pub long : length word ≡ 286
  pub rest : (p : ℕ) (l : List ℕ) → Marked p l 292 marks → reverse_aux (take t (survivor p (pairs l (t + 6)) s)) (drop t word) ≡ decode p 286 l

from_start : (p n : ℕ) (l word : List ℕ) → length word ≡ n → reverse_aux (take n (survivor p (pairs l (n + 6)) 0)) (drop n word) ≡ decode p n l
unfolding decode
from_start p n l word e = ap (reverse_aux (take n (survivor p (pairs l (n + 6)) 0))) (drop_of_length-le word {i = n} (omega arith))

pub way_first : {marks : List (List ℕ)} {word : List ℕ} → length word ≡ 286 → Way marks word 0 286
way_first {word = word} e = record { upto = omega arith; state = omega arith; long = e; rest = λ p l w. from_start p 286 l word e }

stored : (word : List ℕ) (k v : ℕ) → k < length word → drop k (set word k v) ≡ v ∷ drop (suc k) word
stored word k v h =
    drop-cons (set word k v) k 0 (omega (arith, length-set word k v))
    ∙ ap (λ (x : ℕ). x ∷ drop (suc k) (set word k v)) (get_or-set_same word k v 0 h)
    ∙ ap (λ (r : List ℕ). v ∷ r) (drop-set-lt (suc k) word k v (omega arith))

unwind : (p : ℕ) (l word : List ℕ) (s t : ℕ) → t < length word
    → reverse_aux (take (suc t) (survivor p (pairs l (suc (t + 6))) s)) (drop (suc t) word)
    ≡ reverse_aux (take t (survivor p (pairs l (t + 6)) (s / 2 + 32 * mark p (pairs l (suc (t + 6))) s))) (drop t (set word t (mark p (pairs l (suc (t + 6))) s)))
unfolding survivor pairs
unwind p l word s t h = rw (stored word t (mark p (pairs l (suc (t + 6))) s) h) refl

pub way_more : {marks : List (List ℕ)} {word : List ℕ} {s t k : ℕ} → t < 286 → k ≡ mark_at marks (t + 6) s → k ≤ 1 → Way marks word s (suc t)
    → Way marks (set word t k) (s / 2 + 32 * k) t
way_more {word = word} {s} {t} {k} h e bit w =
    let st : s < 64 = w.state in
    let len : length word ≡ 286 = w.long in
    record {
      upto = omega arith;
      state = omega arith;
      long = length-set word t k ∙ len;
      rest = λ p l m.
          let q : k ≡ mark p (pairs l (suc (t + 6))) s = e ∙ m.each (t + 6) s (omega arith) st in
          let j : suc t + 6 ≡ suc (t + 6) = omega arith in
          rw q (sym (unwind p l word s t (omega arith)) ∙ (rw j at (w.rest p l m)));
    }

pub way_last : {marks : List (List ℕ)} {word : List ℕ} {s : ℕ} → Way marks word s 0 → (p : ℕ) (l : List ℕ) → Marked p l 292 marks → word ≡ decode p 286 l
way_last w p l m = w.rest p l m

pub marks_bits : {p n : ℕ} {l : List ℕ} {marks : List (List ℕ)} → Marked p l n marks → (t s : ℕ) → t < n → s < 64 → mark_at marks t s ≤ 1
unfolding mark pairs
marks_bits {p} {l = l} m t s h k = rw (m.each t s h k) (choice_bit (metric p (pairs l t)) _ s)
