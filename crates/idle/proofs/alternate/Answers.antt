use Rattle.std.proofs.Common.{rules, tests}
use Rattle.std.proofs.lemmas.Iterator.{cases_from_all, YieldsList-from_slice}
use Rattle.std.proofs.lemmas.Iterator.Consumers.{YieldsList-from_enumerate}
use Rattle.idle.proofs.Alternation.{Even, Odd, answered}
use Rattle.idle.proofs.alternate.Goals as goal

pub returns : goal.returns
returns c = answered c.all.result c.args.bits.now
    (cases_from_all _ _ c.all.result Even Odd c.all.ensures.ran
    (YieldsList-from_enumerate (YieldsList-from_slice c.args.bits.now (cc)) (cc))
    (λ x q k. search (rules, tests)) (λ x q k. search (rules, tests)))
