-- What a choice between two by a test says of the test. Assumes nothing.
use mathlib.Core.Path.{◌≡◌, refl, sym}
use mathlib.Core.Bool.{Bool, true, false}
use Prim.Native.Nat.{ℕ}
use native.Mathlib.Omega.{arith}
use borrow.Author.Tests.{eqb-true}
use lib.Dec.{eqb}
use Rattle.bits.specs.Lists.{pick}

pub neither : (a b : Bool) → pick a true b ≡ false → (a ≡ false) × (b ≡ false)
neither true b e = absurd (let z : ◌≡◌ {A = ℕ} 0 1 = (cc) in omega arith)
neither false b e = (refl, e)

pub second : (a b : Bool) → pick a false b ≡ true → (a ≡ false) × (b ≡ true)
second true b e = absurd (let z : ◌≡◌ {A = ℕ} 0 1 = (cc) in omega arith)
second false b e = (refl, e)

pub where_true : {A : Type 0} (t : Bool) (x y d : A) → (t ≡ true → x ≡ y) → pick t x d ≡ pick t y d
where_true true x y d f = f refl
where_true false x y d f = refl

-- two cases of n: it is m, and it is not
pub test : (n m : ℕ) {P : Type 0} → (m ≡ n → P) → (eqb n m ≡ false → P) → P
test n m {P} f g = go (eqb n m) refl
  where
    go : (t : Bool) → eqb n m ≡ t → P
    go true e = f (sym (eqb-true n m e))
    go false e = g e
