-- Refused, what was lent stays. Assumes nothing.
use Rattle.std.proofs.Common.{◌≡◌, ℕ, List, length, subst, ap, arith}
use Rattle.navic_c.specs.Calls.{int64, judged_as, judged_of}
use lib.Seq.{length-take-le}
use Rattle.navic_c.proofs.Answered.{kept, symbols_600}
use Rattle.navic_c.proofs.given.write.Goals as goal

pub returns-in_err-judge-clause-symbols_after : goal.returns-in_err-judge-clause-symbols_after
returns-in_err-judge-clause-symbols_after c =
    let same = rw c.in_ok-given.ensures.ok_part at c.of.ensures.same in
    kept (int64 c.args.numbers.now) c.args.symbols.now (omega arith) c.judge.result
    (subst (λ (l : List ℕ). judged_as c.judge.result ≡ judged_of (int64 l)) same c.judge.ensures) c.in_err-judge.field-0.0 c.in_err-judge.was

pub copy_from_slice-requires : goal.copy_from_slice-requires
copy_from_slice-requires c = omega (arith, length-take-le 600 c.args.symbols.now (omega arith), symbols_600 (int64 c.in_ok-given.given.numbers), ap length c.symbols.ensures)
