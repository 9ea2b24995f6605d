-- A whole number times a power of two, as a binary64 number with nothing rounded (01, "The pair and the recording"). Assumes nothing.
use Rattle.std.specs.Prelude.{Bool, true, false, ℕ, suc, ◌*◌, ℤ, pos, negsuc, Float}
use Rattle.std.specs.Float.Ieee.{odd, up, down}
use Rattle.std.specs.Float.Ieee.Exact.{HasValue}

-- n · 2 ^ e with the sign s, for an n of at most 64 binary digits. `odd` (lib.Ieee) writes n · 2 ^ k / 2 ^ l with an odd significand
unfoldable pub times : Bool → ℕ → ℤ → Float
times s n (pos k) = odd 64 s n k 0
times s n (negsuc k) = odd 64 s n 0 (suc k)

-- raw · 2 ^ e: raw's sign, |raw| with its closing zeros moved into the exponent, and +0 for 0
unfoldable pub exactly : ℤ → ℤ → Float
exactly (pos n) e = times false n e
exactly (negsuc n) e = times true (suc n) e

-- x is z · 2 ^ e, said plainly: it is finite, has the sign - exactly where z is negative, and |x| · down e = |z| · up e, where 2 ^ e = up e / down e.
-- `exactly_is` of proofs/: exactly is that, and `exactly_one`: no other binary64 number is
abbrev pub Exactly : Float → ℤ → ℤ → Type 0
Exactly x (pos n) e = HasValue x false (n * up e) (down e)
Exactly x (negsuc n) e = HasValue x true (suc n * up e) (down e)
