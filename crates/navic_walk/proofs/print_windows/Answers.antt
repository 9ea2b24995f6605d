-- The walk goes forward by each window and never past the recording's end, and it closes with the number of the recording's length.
-- Assumes nothing.
use mathlib.Core.Path.{◌≡◌, sym, ap, ◌∙◌}
use native.Mathlib.Omega.{arith}
use lib.ListN.{length}
use Rattle.std.specs.Prelude.{Ok, Err, OnErr}
use Rattle.recording.specs.Walk.{found_from, number_in}
use Rattle.navic_walk.specs.Steps.{closing_of}
use Rattle.navic_walk.proofs.Stepping.{onward, stands, closing, from_start}
use Rattle.navic_walk.proofs.print_windows.Goals as goal

pub loop-window-smaller : goal.loop-window-smaller
loop-window-smaller g c =
    let next = stands _ _ (onward _ _ _ (sym c.next_step.ensures.told ∙ c.in-Ok.is)) in
    omega (arith, next, c.next_step.ensures.moved, ap length c.loop-window.invariant.0)

pub loop-window-preserved : goal.loop-window-preserved
loop-window-preserved g c =
    let whole = c.loop-window.invariant.0 in
    let is = onward _ _ _ (sym c.next_step.ensures.told ∙ c.in-Ok.is) in (
      ap (λ r. r.now) c.next_step.ensures.kept ∙ whole,
      omega (arith, stands _ _ is, c.next_step.ensures.moved, ap length whole),
      λ h. from_start _ _ (rw whole at is) c.loop-window.invariant.2,
    )

pub returns-in_err-println-in-Ok-clause-err : goal.returns-in_err-println-in-Ok-clause-err
returns-in_err-println-in-Ok-clause-err g c =
    let is = onward _ _ _ (sym c.next_step.ensures.told ∙ c.in-Ok.is) in
    let found = from_start _ _ (rw c.loop-window.invariant.0 at is) c.loop-window.invariant.2 in
    elim c.from_residual.result as (λ r. OnErr r (number_in (found_from c.args.recording.now 0) ≡ 0)) [ Ok n ↦ tt | Err e ↦ found ]

pub returns-in-Err-clause-ok : goal.returns-in-Err-clause-ok
returns-in-Err-clause-ok g c =
    c.number.ensures ∙ closing _ _ _ (sym c.next_step.ensures.told ∙ c.in-Err.is) ∙ ap (λ l. closing_of (length l)) c.loop-window.invariant.0
