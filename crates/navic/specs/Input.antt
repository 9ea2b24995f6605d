-- From a program's bytes to symbols (01, "Numbers that the calls give": the program). Assumes nothing.
use Rattle.std.specs.Prelude.{◌≡◌, List, [], ◌∷◌, ℕ, ◌+◌, ◌-◌, ◌^◌, min, eqb, length, set, Option, Err}
use Rattle.std.specs.Io.KnownBytes.{Consumes}
use Rattle.bits.specs.Lists.{pick}
use Rattle.navic.specs.declared.Numbers.{Numbers}
use Rattle.navic.specs.declared.ReadRefusal.TheVariants.{Length}
use Rattle.navic.specs.Navic.{answer, line_of}

-- '0' and '1' are the symbols 0 and 1; any other byte is a bad symbol
abbrev pub symbol_of : ℕ → ℕ
symbol_of b = pick (eqb b 48) 0 (pick (eqb b 49) 1 2)

-- the symbols of some bytes; line feeds are skipped
unfoldable pub symbols_in : List ℕ → List ℕ
symbols_in [] = []
symbols_in (b ∷ l) = pick (eqb b 10) (symbols_in l) (symbol_of b ∷ symbols_in l)

-- what is kept once the symbols s came where n had come before: those that have a place there
unfoldable pub kept_after : List ℕ → ℕ → List ℕ → List ℕ
kept_after kept n [] = kept
kept_after kept n (x ∷ s) = kept_after (set kept n x) (n + 1) s

-- the count, which stops at the largest number it can hold
unfoldable pub count_after : ℕ → List ℕ → ℕ
count_after n s = min (n + length s) (2 ^ 64 - 1)

-- some bytes are gathered: `kept` and `count` are what k and n, kept and counted before them, become
pub record Gathered (k : List ℕ) (n : ℕ) (bytes kept : List ℕ) (count : ℕ) : Type 0 where
  pub keeps : kept ≡ kept_after k n (symbols_in bytes)
  pub counts : count ≡ count_after n (symbols_in bytes)

-- a reader gave some bytes and lost no other, where what it had to give is known before and after; they are gathered from the first place on
abbrev pub GatheredFrom : Option (List ℕ) → Option (List ℕ) → List ℕ → List ℕ → ℕ → Type 0
GatheredFrom before after k kept count = (bytes : List ℕ) × Consumes before after bytes × Gathered k 0 bytes kept count

-- the line of an input of which these symbols were kept and so many were counted; the program has 36 bytes of its own
unfoldable pub line_after : List ℕ → ℕ → Numbers
line_after kept count = line_of (pick (eqb count 600) (answer kept 36) (Err Length))
