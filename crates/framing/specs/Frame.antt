-- A subframe of 600 symbols: the sync, and the interleaved coded symbols; upright or turned over. Assumes nothing.
use Rattle.std.specs.Prelude.{Bool, List, ◌++◌, map, ℕ, ◌-◌, drop}
use Rattle.bits.specs.Lists.{pick}
use Rattle.framing.specs.Interleaver.{interleaved, deinterleaved}
use Rattle.framing.specs.Sync.{eb90}

-- the 600 upright symbols of 584 coded ones
unfoldable pub framed : List ℕ → List ℕ
framed coded = eb90 ++ interleaved coded

-- each symbol inverted, a level l from 0 to p being p - l
unfoldable pub turned_levels : ℕ → List ℕ → List ℕ
turned_levels p s = map (λ l. p - l) s

-- all of them, or none
abbrev pub turned_if : Bool → ℕ → List ℕ → List ℕ
turned_if t p s = pick t (turned_levels p s) s

-- the 584 coded symbols of a subframe, which is inverted first where it is turned over
unfoldable pub coded_of : ℕ → Bool → List ℕ → List ℕ
coded_of p t s = deinterleaved (drop 16 (turned_if t p s))
