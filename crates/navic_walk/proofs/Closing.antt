-- What a recording of more than 65,536 symbols closes with. Assumes nothing.
use mathlib.Core.Path.{◌≡◌, refl}
use Prim.Native.Nat.{ℕ, ◌<◌}
use borrow.Author.Tests.{lt-leb}
use Rattle.navic_walk.specs.Steps.{closing_of}

pub too_long : (n : ℕ) → 65536 < n → 1 ≡ closing_of n
unfolding closing_of
too_long n h = rw (lt-leb _ _ h) refl
