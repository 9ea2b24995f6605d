-- The trellis, by which the nearest word is found: states of six bits, the newest worth 1, and registers of seven. That `decode` is the
-- nearest word is the law `nearest_decode` of proofs/Decoded.antt; nobody has to believe anything of this file. Pairs of levels stand latest
-- first. Assumes nothing.
use Rattle.std.specs.Prelude.{List, [], ◌∷◌, reverse, ℕ, zero, suc, ◌+◌, ◌*◌, ◌/◌, ◌%◌, min, ltb, eqb, take}
use Rattle.bits.specs.Lists.{at, pick}
use Rattle.convolution.specs.Code.{price}

-- the symbols of a register
unfoldable pub out1 : ℕ → ℕ
out1 r = (r % 2 + r / 2 % 2 + r / 4 % 2 + r / 8 % 2 + r / 64 % 2) % 2

unfoldable pub out2 : ℕ → ℕ
out2 r = (r % 2 + r / 4 % 2 + r / 8 % 2 + r / 32 % 2 + r / 64 % 2) % 2

abbrev pub Pair : Type 0
Pair = ℕ × ℕ

-- what a register costs at a pair of levels
unfoldable pub toll : ℕ → Pair → ℕ → ℕ
toll p q r = price p (out1 r) q.0 + price p (out2 r) q.1

-- the metric of the state s by way of an oldest bit k, from the metrics f and the tolls c; the lesser of the two; and which it is
unfoldable pub via : (ℕ → ℕ) → (ℕ → ℕ) → ℕ → ℕ → ℕ
via f c s k = f (s / 2 + 32 * k) + c (s + 64 * k)

unfoldable pub better : (ℕ → ℕ) → (ℕ → ℕ) → ℕ → ℕ
better f c s = min (via f c s 0) (via f c s 1)

unfoldable pub choice : (ℕ → ℕ) → (ℕ → ℕ) → ℕ → ℕ
choice f c s = pick (ltb (via f c s 1) (via f c s 0)) 1 0

-- to start in another state than 0 costs as much as six steps can, which is enough to keep every survivor from it
unfoldable pub start : ℕ → ℕ → ℕ
start p s = pick (eqb s 0) 0 (12 * p)

unfoldable pub metric : ℕ → List Pair → ℕ → ℕ
metric p [] s = start p s
metric p (q ∷ qs) s = better (metric p qs) (toll p q) s

unfoldable pub mark : ℕ → List Pair → ℕ → ℕ
mark p [] s = 0
mark p (q ∷ qs) s = choice (metric p qs) (toll p q) s

-- the bits that went before those of the state s, latest first, on the best way there
unfoldable pub survivor : ℕ → List Pair → ℕ → List ℕ
survivor p [] s = []
survivor p (q ∷ qs) s = mark p (q ∷ qs) s ∷ survivor p qs (s / 2 + 32 * mark p (q ∷ qs) s)

-- the first n pairs of the levels
unfoldable pub pairs : List ℕ → ℕ → List Pair
pairs l zero = []
pairs l (suc n) = (at l (2 * n), at l (2 * n + 1)) ∷ pairs l n

unfoldable pub decode : ℕ → ℕ → List ℕ → List ℕ
decode p n l = reverse (take n (survivor p (pairs l (n + 6)) 0))
