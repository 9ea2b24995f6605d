-- A list, of whatever it holds, that a loop fills from its start. Assumes nothing.
use mathlib.Core.Path.{◌≡◌, refl, sym, ap, ◌∙◌}
use mathlib.Core.List.{List}
use Prim.Native.Nat.{ℕ, zero, suc, ◌+◌, ◌≤◌, ◌<◌}
use native.Mathlib.Omega.{arith}
use borrow.Author.Count.{below_more}
use lib.ListN.{length, get_or, set, length-set}
use lib.Seq.{get_or-set_same, get_or-set_other, ext_get_or}
use Rattle.message.specs.Numbers.{list_of}

-- the first i of the n elements of l are those of f
pub record Filled {A : Type 0} (d : A) (f : ℕ → A) (n i : ℕ) (l : List A) : Type 0 where
  pub long : length l ≡ n
  pub here : (k : ℕ) → k < i → get_or l k d ≡ f k

pub filled_none : {A : Type 0} (d : A) (f : ℕ → A) (n : ℕ) (l : List A) → length l ≡ n → Filled d f n 0 l
filled_none d f n l e = record { long = e; here = λ k h. absurd (omega arith) }

pub filled_more : {A : Type 0} (d : A) (f : ℕ → A) (n i : ℕ) (l : List A) (a : A) → i < n → a ≡ f i → Filled d f n i l → Filled d f n (i + 1) (set l i a)
filled_more d f n i l a h e w =
    record {
      long = length-set l i a ∙ w.long;
      here =
          below_more (λ (k : ℕ). get_or (set l i a) k d ≡ f k) i (λ k lt. get_or-set_other l i k a d (λ z. omega arith) ∙ w.here k lt)
          (get_or-set_same l i a d (omega (arith, w.long)) ∙ e);
    }

-- a list that is told by its elements: how long it is, and what stands at a place
list_long : {A : Type 0} (n : ℕ) (f : ℕ → A) → length (list_of n f) ≡ n
list_long zero f = refl
list_long (suc n) f = ap suc (list_long n (λ i. f (suc i)))

pub list_at : {A : Type 0} (n : ℕ) (f : ℕ → A) (k : ℕ) (d : A) → k < n → get_or (list_of n f) k d ≡ f k
list_at zero f k d h = absurd (omega arith)
list_at (suc n) f zero d h = refl
list_at (suc n) f (suc k) d h = list_at n (λ i. f (suc i)) k d (omega arith)

-- all of a list, of whatever it holds
pub filled_list : {A : Type 0} (d : A) (f : ℕ → A) (n i : ℕ) (l : List A) → n ≤ i → Filled d f n i l → l ≡ list_of n f
filled_list d f n i l h w =
    ext_get_or d l (list_of n f) (w.long ∙ sym (list_long n f)) (λ k lt. w.here k (omega (arith, w.long)) ∙ sym (list_at n f k d (omega (arith, w.long))))
