-- Too few symbols, a symbol above the top, or the sixteen of the window counted. Assumes nothing.
use mathlib.Core.Path.{sym, ap, ◌∙◌}
use lib.ListN.{length}
use native.Mathlib.Omega.{arith}
use Rattle.bits.proofs.Lists.{at_most_holds}
use Rattle.bits.proofs.Parts.{part_long}
use Rattle.framing.specs.Sync.{judged, sync_of}
use Rattle.framing.proofs.Agreement.{too_few, chunk_part, sync_held, sync_unclean}
use Rattle.framing.proofs.sync.Goals as goal

pub returns-in_err-get : goal.returns-in_err-get
returns-in_err-get c = c.from_residual.ensures ∙ sym (too_few c.args.top c.args.symbols.now c.args.at (omega (arith, c.in_err-get.ensures.lookup)))

pub returns-in_err-window : goal.returns-in_err-window
returns-in_err-window c = c.from_residual-in_err-window.ensures ∙ sym (too_few c.args.top c.args.symbols.now c.args.at (omega (arith, c.in_err-window.ensures.cases, c.in_ok-get.ensures.lookup)))

pub returns-then-not-clean : goal.returns-then-not-clean
returns-then-not-clean c =
    let top = c.args.top in
    let w = c.in_ok-window.window.now in
    let here = chunk_part c.args.symbols.now c.in_ok-get.field-0.now w c.args.at c.in_ok-get.ensures.lookup.0.2 c.in_ok-window.ensures.cases.same in
    sym (ap (sync_of top) (sym here) ∙ sync_unclean top w (sym c.clean.ensures ∙ c.if-not-clean.true))

pub returns : goal.returns
returns c =
    let top = c.args.top in
    let w = c.in_ok-window.window.now in
    let here = chunk_part c.args.symbols.now c.in_ok-get.field-0.now w c.args.at c.in_ok-get.ensures.lookup.0.2 c.in_ok-window.ensures.cases.same in
    c.judge.ensures ∙ ap judged c.disagreeing.ensures
    ∙ sym (sync_held top w (ap length here ∙ part_long c.args.symbols.now c.args.at 16 (omega (arith, c.in_ok-window.ensures.cases.enough, c.in_ok-get.ensures.lookup))) (at_most_holds top w (sym c.clean.ensures ∙ c.if-not-clean.false)))
    ∙ ap (sync_of top) here
