-- An array made by a closure that is called at each index in turn.
-- Assumes nothing.
use mathlib.Core.Path.{◌≡◌, sym, subst, ◌∙◌, ap, ap₂}
use mathlib.Core.List.{List, ◌++◌}
use Prim.Native.Nat.{ℕ, zero, suc, ◌+◌, ◌≤◌, ◌<◌}
use lib.ListN.{length, take, drop, get_or}
use lib.Seq.{take_at, drop_at}
use Rattle.std.proofs.lemmas.List.{drop_all, append-nil}
use native.Mathlib.Decide.{ℕ_discrete}
use native.Mathlib.Omega.{arith}
use denote.Param.Members.{Mut, Called}
use Rattle.std.specs.Array.{IsFromFnResult, IsFromFnResultFrom}
use Rattle.bits.specs.Lists.{build}
use Rattle.bits.proofs.Build.{built}

-- of any type of elements
module _ {F Y : Type 0} (g : Mut F (ℕ × Unit {0}) Y) (f : F) (h : ℕ → Y) (n : ℕ) (calls : (i : ℕ) (y : Y) (q : F) → i < n → Called g f (i, tt) y q → (q ≡ f) × (y ≡ h i)) (ys : List Y) (d : Y) where
  made_from : (m i : ℕ) → i + m ≡ n → (q : F) → q ≡ f → IsFromFnResultFrom g q ys i m → (k : ℕ) → i ≤ k → k < n → get_or ys k d ≡ h k
  made_from zero i e q s w k a b = absurd (omega arith)
  made_from (suc m) i e q s w k a b =
      let c : Called g f (i, tt) w.1 w.0 = subst (λ (p : F). Called g p (i, tt) w.1 w.0) s w.3 in
      let r : (w.0 ≡ f) × (w.1 ≡ h i) = calls i w.1 w.0 (omega arith) c in
      elim (ℕ_discrete k i) [
        | yes z ↦ ap (λ (j : ℕ). get_or ys j d) z ∙ w.2.1 d ∙ r.1 ∙ ap h (sym z)
        | no z ↦ made_from m (i + 1) (omega arith) w.0 r.0 w.4 k (omega arith) b
      ]

  -- what each call gives stands at its index
  pub made_at : IsFromFnResult g f ys n → (k : ℕ) → k < n → get_or ys k d ≡ h k
  made_at w k b = made_from n 0 (omega arith) f (λ i. f) w.each k (omega arith) b

-- an array of numbers, as a list
module _ {F : Type 0} (g : Mut F (ℕ × Unit {0}) ℕ) (f : F) (h : ℕ → ℕ) (n : ℕ) (calls : (i y : ℕ) (q : F) → i < n → Called g f (i, tt) y q → (q ≡ f) × (y ≡ h i)) (ys : List ℕ) where
  pub made : IsFromFnResult g f ys n → ys ≡ build n h
  made w = built n h ys w.long (made_at g f h n calls ys 0 w)

-- a list of zeros whose first k places were written over, and then all others
pub joined : (k : ℕ) (a b z : List ℕ) (m : ℕ) → length a ≡ k → length z ≡ m → take k (a ++ z) ++ (b ++ drop m (drop k (a ++ z))) ≡ a ++ b
joined k a b z m e f =
    ap₂ ◌++◌ (take_at a z k e) (ap (λ (x : List ℕ). b ++ drop m x) (drop_at a z k e) ∙ ap (λ (x : List ℕ). b ++ x) (drop_all m z (omega arith)) ∙ append-nil b)
