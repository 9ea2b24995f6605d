-- A list alternates from b exactly where its element at each place k has the parity of b + k.
-- Assumes nothing.
use mathlib.Core.Path.{◌≡◌, refl, sym}
use mathlib.Core.Bool.{Bool, true, false}
use mathlib.Core.List.{List, [], ◌∷◌}
use Prim.Native.Nat.{ℕ, zero, suc, ◌+◌, ◌-◌, ◌%◌, ◌≤◌, ◌<◌}
use native.Mathlib.Omega.{arith}
use borrow.Author.Tests.{eq-eqb, ne_eqb, eqb-true, eqb-false}
use lib.Dec.{eqb}
use lib.ListN.{length}
use Rattle.bits.specs.Lists.{at, part}
use Rattle.bits.proofs.Both.{both_false}
use Rattle.bits.proofs.Parts.{part_long, part_at}
use Rattle.idle.specs.Idle.{alternates}
use Rattle.std.specs.Bool.{MatchBool}
use Rattle.std.specs.List.{AllWithin, HoldsAt, enumerate_from}
use Rattle.std.proofs.lemmas.List.FromFn.{get_or-enumerate_from, length-enumerate_from}

pub alternates_true : (b : ℕ) (l : List ℕ) → b ≤ 1 → ((k : ℕ) → k < length l → at l k % 2 ≡ (b + k) % 2) → alternates b l ≡ true
unfolding alternates
alternates_true b [] h f = refl
alternates_true b (x ∷ l) h f =
    let first : x % 2 ≡ b = omega (arith, f 0 (omega arith)) in
    rw (eq-eqb (x % 2) b first)
    (alternates_true (1 - b) l (omega arith) (λ k z. omega (arith, f (suc k) (omega arith))))

pub alternates_false : (b : ℕ) (l : List ℕ) (k : ℕ) → b ≤ 1 → k < length l → (at l k % 2 ≡ (b + k) % 2 → ⊥) → alternates b l ≡ false
unfolding alternates
alternates_false b [] k h z f = absurd (omega arith)
alternates_false b (x ∷ l) zero h z f = rw (ne_eqb (x % 2) b (λ e. f (omega arith)))
alternates_false b (x ∷ l) (suc k) h z f =
    rw (alternates_false (1 - b) l k (omega arith) (omega arith) (λ e. f (omega arith))) (both_false (eqb (x % 2) b))

-- what a pass over a list and its places finds: each element has its place's parity, or one has not
abbrev pub Even : ℕ × ℕ → Type 0
Even p = p.1 % 2 ≡ p.0 % 2

abbrev pub Odd : ℕ × ℕ → Type 0
Odd p = p.1 % 2 ≡ p.0 % 2 → ⊥

pub answered : (r : Bool) (l : List ℕ) → MatchBool r (AllWithin Even (enumerate_from 0 l) 0 (length (enumerate_from 0 l)))
    ((k : ℕ) × (k < length (enumerate_from 0 l)) × HoldsAt Odd (enumerate_from 0 l) k) → r ≡ alternates 0 l
answered true l w =
    sym (alternates_true 0 l (omega arith)
    (λ k h. rw (get_or-enumerate_from 0 l k (0, 0) h) at (w k (0, 0) (omega arith) (omega (arith, length-enumerate_from 0 l)))))
answered false l (k, h, w) =
    let there : k < length l = omega (arith, length-enumerate_from 0 l) in
    sym (alternates_false 0 l k (omega arith) there (rw (get_or-enumerate_from 0 l k (0, 0) there) at (w (0, 0))))

-- the same of a part of a list, from 0
module _ (l : List ℕ) (from count : ℕ) (inside : from + count ≤ length l) where
  pub part_alternates : ((k : ℕ) → k < count → at l (from + k) % 2 ≡ k % 2) → alternates 0 (part l from count) ≡ true
  part_alternates f =
      alternates_true 0 (part l from count) (omega arith)
      (λ k h. let z : k < count = omega (arith, part_long l from count inside) in rw (part_at l from count k z) (omega (arith, f k z)))

  pub part_breaks : (k : ℕ) → k < count → (at l (from + k) % 2 ≡ k % 2 → ⊥) → alternates 0 (part l from count) ≡ false
  part_breaks k z f =
      alternates_false 0 (part l from count) k (omega arith) (omega (arith, part_long l from count inside))
      (λ e. f (omega (arith, part_at l from count k z)))

  pub part_alternated : alternates 0 (part l from count) ≡ true → (k : ℕ) → k < count → at l (from + k) % 2 ≡ k % 2
  part_alternated e k z = go (eqb (at l (from + k) % 2) (k % 2)) refl
    where
      go : (t : Bool) → eqb (at l (from + k) % 2) (k % 2) ≡ t → at l (from + k) % 2 ≡ k % 2
      go true q = eqb-true (at l (from + k) % 2) (k % 2) q
      go false q =
          absurd
          (let f = part_breaks k z (eqb-false (at l (from + k) % 2) (k % 2) q) in let z : ◌≡◌ {A = ℕ} 0 1 = (cc) in omega arith)
