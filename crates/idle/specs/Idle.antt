-- The idle patterns of 003, 5.10.3, and which words are idle once their check disagrees (01, "Idle"; that
-- half is `reader_conditions` of crate navic). Bits are counted from 1. Assumes nothing.
use Rattle.std.specs.Prelude.{◌≡◌, ◌⊎◌, Bool, true, false, List, [], ◌∷◌, ℕ, ◌+◌, ◌-◌, ◌%◌, ◌≤◌, eqb, get_or}
use Rattle.bits.specs.Lists.{at, part, pick, both}
use Rattle.bits.specs.Numbers.{number}
use Rattle.idle.specs.declared.Row.{Row}

-- subframe ID, alert flag, first and last bit of the pattern, and whether the check is sent spoiled
abbrev pub row : ℕ → Bool → ℕ → ℕ → Bool → Row
row id alert first last spoiled = record { subframe = id; alert = alert; first = first; last = last; spoiled = spoiled }

-- 5.10.3: with the alert flag and a valid check in subframes 1 and 2; with no alert flag and a spoiled check in subframes 3 and 4
unfoldable pub rows : List Row
rows =
    row 0 true 41 262 false ∷
    row 1 true 31 262 false ∷
    row 2 false 37 256 true ∷
    row 3 false 37 256 true ∷
    []

abbrev pub no_row : Row
no_row = row 0 false 0 0 false

-- bits 28-29, the subframe ID, choose the row
abbrev pub row_of : List ℕ → Row
row_of word = get_or rows (number (part word 27 2)) no_row

-- a row's bits lie in a body
pub record Inside (r : Row) : Type 0 where
  pub counts : 1 ≤ r.first
  pub forward : r.first ≤ r.last
  pub inside : r.last ≤ 262

-- alternating, beginning with b
unfoldable pub alternates : ℕ → List ℕ → Bool
alternates b [] = true
alternates b (x ∷ l) = both (eqb (x % 2) b) (alternates (1 - b) l)

-- the alert flag, bit 26, is the row's, and the row's bits alternate from 0
unfoldable pub fits : Row → List ℕ → Bool
fits r word = both (eqb (at word 25 % 2) (pick r.alert 1 0)) (alternates 0 (part word (r.first - 1) (r.last + 1 - r.first)))

-- whether the row of the word's own subframe fits
unfoldable pub pattern_of : List ℕ → Bool
pattern_of word = fits (row_of word) word

-- whether a word is idle where its check disagrees: the row of its own subframe fits, and its check is sent spoiled
unfoldable pub idle_of : List ℕ → Bool
idle_of word = both (row_of word).spoiled (pattern_of word)

-- the same said plainly; `idle_exactly` of proofs/: of a word of bits, idle_of tells whether this holds
pub record Idle (word : List ℕ) : Type 0 where
  pub subframe : (number (part word 27 2) ≡ 2) ⊎ (number (part word 27 2) ≡ 3)
  pub alert : at word 25 ≡ 0
  pub pattern : (bit : ℕ) → 37 ≤ bit → bit ≤ 256 → at word (bit - 1) ≡ (bit - 37) % 2
