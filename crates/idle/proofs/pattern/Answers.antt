-- The alert flag is the row's and its bits alternate, or it isn't. Assumes nothing.
use Rattle.std.proofs.Common.{rules, ne_eqb, ◌∙◌}
use Rattle.idle.proofs.Fitting.{pattern_flag, pattern_no_flag}
use Rattle.idle.proofs.pattern.Goals as goal

pub returns-then-body-alert : goal.returns-then-body-alert
returns-then-body-alert c =
    let r = c.row_of-row in
    pattern_flag c.args.body.now r.result _ r.ensures.value (search rules) _ c.if-body-alert.true c.alternate.ensures

pub returns-else-body-alert : goal.returns-else-body-alert
returns-else-body-alert c =
    let r = c.row_of-row in
    ne_eqb _ _ c.if-body-alert.false ∙ pattern_no_flag c.args.body.now r.result _ r.ensures.value (search rules) c.if-body-alert.false
