-- The walk goes forward by each window and never past the recording's end; past the start it has found one. Assumes nothing.
use Rattle.std.proofs.Common.{◌≡◌, ◌≤◌, ◌<◌, ◌-◌, length}
use Rattle.recording.specs.Walk.{found_from, number_in}
use Rattle.navic_walk.proofs.print_windows.Given as goal

abbrev pub invariant-loop-window : goal.invariant-loop-window
invariant-loop-window g l = (l.walker.recording.now ≡ l.recording) × (l.walker.place ≤ length l.recording) × (0 < l.walker.place → number_in (found_from l.recording 0) ≡ 0)

abbrev pub decreases-loop-window : goal.decreases-loop-window
decreases-loop-window g l = length l.recording - l.walker.place
