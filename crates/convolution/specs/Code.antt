-- The code (01, "Code"): rate 1/2, constraint length 7, register zero at the start, G1 = 171 octal and G2 = 133 octal; what a word costs where
-- levels were received; and the nearest word (01, "Nearest word"). Words, symbols and levels are in order of arrival. Assumes nothing.
use Rattle.std.specs.Prelude.{◌≡◌, ◌⊎◌, List, [], ◌∷◌, ◌++◌, reverse, ℕ, ◌+◌, ◌-◌, ◌*◌, ◌/◌, ◌%◌, ◌<◌, min, eqb, length}
use Rattle.bits.specs.Lists.{at, pick, Bits}

-- ---- the code
-- the bit k before the present one, where the present one stands first
abbrev pub ago : List ℕ → ℕ → ℕ
ago bits k = at bits k

-- G1 uses the present bit and those 1, 2, 3 and 6 before it
unfoldable pub g1 : List ℕ → ℕ
g1 bits = (ago bits 0 + ago bits 1 + ago bits 2 + ago bits 3 + ago bits 6) % 2

-- G2 uses the present bit and those 2, 3, 5 and 6 before it
unfoldable pub g2 : List ℕ → ℕ
g2 bits = (ago bits 0 + ago bits 2 + ago bits 3 + ago bits 5 + ago bits 6) % 2

-- what is sent for the bits w where those of `past` went before, the newest first; G1's symbol goes first
unfoldable pub encode : List ℕ → List ℕ → List ℕ
encode past [] = []
encode past (b ∷ w) = g1 (b ∷ past) ∷ g2 (b ∷ past) ∷ encode (b ∷ past) w

-- what the register holds at the start, and what follows a word
abbrev pub six_zeros : List ℕ
six_zeros = 0 ∷ 0 ∷ 0 ∷ 0 ∷ 0 ∷ 0 ∷ []

-- the coded form of a word and of the six zeros after it
unfoldable pub coded_form : List ℕ → List ℕ
coded_form w = encode six_zeros (w ++ six_zeros)

-- the generators in octal, a 1 for each bit that is used, the present one's first; `g1_octal` and `g2_octal` of proofs/ tie them to g1 and g2
abbrev pub octal : ℕ → ℕ → ℕ → ℕ
octal a b c = a * 64 + b * 8 + c

abbrev pub uses : ℕ → List ℕ → ℕ
uses g bits =
    (g / 64 % 2 * ago bits 0
    + g / 32 % 2 * ago bits 1
    + g / 16 % 2 * ago bits 2
    + g / 8 % 2 * ago bits 3
    + g / 4 % 2 * ago bits 4
    + g / 2 % 2 * ago bits 5
    + g % 2 * ago bits 6)
    % 2

-- ---- the price
-- a symbol b against a level from 0, surely a zero, to p, surely a one: a 0 costs the level, a 1 what is left of it to p.
-- A level above p counts as p. At p = 1 levels are symbols, and each that differs costs 1 (`hard_cost` of proofs/)
unfoldable pub price : ℕ → ℕ → ℕ → ℕ
price p b l = pick (eqb b 0) (min l p) (p - min l p)

unfoldable pub prices : ℕ → List ℕ → List ℕ → ℕ
prices p [] v = 0
prices p (b ∷ u) [] = 0
prices p (b ∷ u) (l ∷ v) = price p b l + prices p u v

-- what it costs to have sent the word w where the levels l were received
abbrev pub cost : ℕ → List ℕ → List ℕ → ℕ
cost p l w = prices p (coded_form w) l

-- ---- the nearest word
-- where they first part, x has the smaller bit, the zero
abbrev pub ZeroFirst : List ℕ → List ℕ → Type 0
ZeroFirst [] y = ⊥
ZeroFirst (b ∷ x) [] = ⊥
ZeroFirst (b ∷ x) (c ∷ y) = (b < c) ⊎ ((b ≡ c) × ZeroFirst x y)

-- w costs less than v; or the same, and compared from the last bit back w has the zero where they first part
abbrev pub Better : ℕ → List ℕ → List ℕ → List ℕ → Type 0
Better p l w v = (cost p l w < cost p l v) ⊎ ((cost p l w ≡ cost p l v) × ZeroFirst (reverse w) (reverse v))

-- of all words of n bits, each followed by six zeros (which are in coded_form), w is the nearest to the levels l; at n = 286 these are the 292-bit
-- words whose last six bits are zero. `nearest_decode` of proofs/: there is one; `nearest_one`: there is no other
pub record Nearest (p n : ℕ) (l w : List ℕ) : Type 0 where
  pub bits : Bits w
  pub long : length w ≡ n
  pub best : (v : List ℕ) → Bits v → length v ≡ n → (v ≡ w → ⊥) → Better p l w v
