-- The first place at which the sync rule holds is where the window is, and where it holds at none there is no window. Assumes nothing.
use Rattle.std.proofs.Common.{sym, ap, ◌∙◌, Err, arith, rules, tests}
use Rattle.std.proofs.lemmas.Iterator.{first_from_Range}
use Rattle.std.proofs.lemmas.Result.{err_from_is_err_and}
use Rattle.recording.proofs.Search.{Holds, Free, none_held, fits_held, done_held}
use Rattle.recording.proofs.find.Goals as goal

pub returns-in_err-start : goal.returns-in_err-start
returns-in_err-start c = let l = c.args.recording.now in
    let p = err_from_is_err_and c.from_residual.result c.from_residual.ensures.1 in
    p.1 ∙ ap Err p.2 ∙ none_held l c.args.from _ (omega arith) c.saturating_sub.ensures _ _
    (first_from_Range _ _ _ _ (Holds l) (Free l) c.find.ensures.ran (λ x q k. search (rules, tests)) (λ x q k. search (rules, tests)))
    (sym c.ok_or.ensures.value ∙ c.in_err-start.was)

pub overflow_add-result : goal.overflow_add-result
overflow_add-result c = let l = c.args.recording.now in
    omega (
      arith,
      fits_held l c.args.from _ (omega arith) c.saturating_sub.ensures _ _
          (first_from_Range _ _ _ _ (Holds l) (Free l) c.find.ensures.ran (λ x q k. search (rules, tests)) (λ x q k. search (rules, tests)))
          (sym c.ok_or.ensures.value ∙ c.in_ok-start.was),
    )

pub returns : goal.returns
returns c = let l = c.args.recording.now in
    done_held l c.args.from _ (omega arith) c.saturating_sub.ensures _ _
    (first_from_Range _ _ _ _ (Holds l) (Free l) c.find.ensures.ran (λ x q k. search (rules, tests)) (λ x q k. search (rules, tests)))
    (sym c.ok_or.ensures.value ∙ c.in_ok-start.was)
