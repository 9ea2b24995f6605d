-- A row whose check is not spoiled makes no word idle; with one whose check is, the pattern decides. Assumes nothing.
use Rattle.std.proofs.Common.{◌≡◌, take, refl, sym, ap, ◌∙◌, rules}
use Rattle.idle.specs.Idle.{row_of, pattern_of, idle_of}
use Rattle.idle.proofs.Fitting.{front_row, front_pattern}
use Rattle.idle.proofs.idle.Goals as goal

pub returns-then-row_of : goal.returns-then-row_of
unfolding idle_of
returns-then-row_of c =
    let word = c.args.word.now in
    let body : c.unwrap-body.result.now ≡ take 262 word = search rules in
    let row = c.row_of.ensures.value ∙ ap row_of body ∙ front_row word in
    c.pattern.ensures ∙ ap pattern_of body ∙ front_pattern word ∙ sym (rw (← row, c.if-row_of.true) refl)

pub returns-else-row_of : goal.returns-else-row_of
unfolding idle_of
returns-else-row_of c =
    let word = c.args.word.now in
    let body : c.unwrap-body.result.now ≡ take 262 word = search rules in
    let row = c.row_of.ensures.value ∙ ap row_of body ∙ front_row word in
    sym (rw (← row, c.if-row_of.false) refl)
