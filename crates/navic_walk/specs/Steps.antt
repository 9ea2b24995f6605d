-- What the program prints of a recording: a line for each step of the walk. Assumes nothing.
use Rattle.std.specs.Prelude.{List, ℕ, leb, Result, Ok, Err}
use Rattle.bits.specs.Lists.{pick, part}
use Rattle.navic.specs.Navic.{answer, line_of}
use Rattle.recording.specs.declared.WalkRefusal.{WalkRefusal}
use Rattle.recording.specs.Walk.{Found, found_from}
use Rattle.navic_walk.specs.declared.Step.{Step}

-- the step of what was found: a window, with the line that navic_read prints for the 600 symbols there, or why the walk is at its end
abbrev pub step_at : List ℕ → Found → Result Step WalkRefusal
step_at l (Ok w) = Ok (record { window = w; line = line_of (answer (part l w.start 600) 36) })
step_at l (Err e) = Err e

unfoldable pub step_of : List ℕ → ℕ → Result Step WalkRefusal
step_of l from = step_at l (found_from l from)

-- the closing number of a recording of n symbols
unfoldable pub closing_of : ℕ → ℕ
closing_of n = pick (leb n 65536) 4 1
