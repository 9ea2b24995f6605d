-- Lists of bits, of symbols and of levels. Places in a list count from 0, and what is read past its end is 0.
-- Assumes nothing.
use Rattle.std.specs.Prelude.{Bool, true, false, List, [], ◌∷◌, ◌++◌, ℕ, zero, suc, ◌+◌, ◌≤◌, eqb, leb, length, get_or, take, drop}

abbrev pub pick : {A : Type 0} → Bool → A → A → A
pick true a b = a
pick false a b = b

abbrev pub both : Bool → Bool → Bool
both true b = b
both false b = false

-- what stands at the place i
abbrev pub at : List ℕ → ℕ → ℕ
at l i = get_or l i 0

-- the n elements from the place i on
abbrev pub part : List ℕ → ℕ → ℕ → List ℕ
part l i n = take n (drop i l)

-- f 0, f 1, .., f (n - 1)
unfoldable pub build : ℕ → (ℕ → ℕ) → List ℕ
build zero f = []
build (suc n) f = f 0 ∷ build n (λ i. f (suc i))

-- l with the elements of x in the place of what stood from the place i on
unfoldable pub splice : List ℕ → ℕ → List ℕ → List ℕ
splice l i x = take i l ++ (x ++ drop (i + length x) l)

-- each element is at most p; and whether
abbrev pub AtMost : ℕ → List ℕ → Type 0
AtMost p [] = Unit {0}
AtMost p (b ∷ x) = (b ≤ p) × AtMost p x

unfoldable pub at_most : ℕ → List ℕ → Bool
at_most p [] = true
at_most p (b ∷ x) = both (leb b p) (at_most p x)

-- each element is 0 or 1
abbrev pub Bits : List ℕ → Type 0
Bits x = AtMost 1 x

-- 1 where two symbols differ
abbrev pub unlike : ℕ → ℕ → ℕ
unlike a b = pick (eqb a b) 0 1

-- the number of places at which two lists of one length differ
unfoldable pub differences : List ℕ → List ℕ → ℕ
differences [] v = 0
differences (a ∷ u) [] = 0
differences (a ∷ u) (b ∷ v) = unlike a b + differences u v
