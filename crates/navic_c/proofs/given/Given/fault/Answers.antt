-- The fields in order, and then the numbers behind them. Assumes nothing.
use Rattle.navic_c.proofs.Judged.{field_small, field_fault, no_fault, fault_behind}
use Rattle.navic_c.proofs.given.Given.fault.Goals as goal

pub overflow_cast-result : goal.overflow_cast-result
overflow_cast-result c = let g = c.args.self.now in
    record { fits = field_small g.numbers g.words c.layout-layout.ensures c.fault.ensures c.in-Some.bit c.in-Some.is }

pub returns-in-Some : goal.returns-in-Some
returns-in-Some c = let g = c.args.self.now in
    field_fault g.numbers g.words c.layout-layout.ensures c.fault.ensures c.in-Some.bit c.in-Some.is

pub returns-in-None : goal.returns-in-None
returns-in-None c = let g = c.args.self.now in
    no_fault g.numbers g.words c.layout-layout.ensures c.fault.ensures c.in-None.is c.count.ensures c.all_zero.ensures c.if-all_zero.true

pub returns-in-None-2 : goal.returns-in-None-2
returns-in-None-2 c = let g = c.args.self.now in
    fault_behind g.numbers g.words c.layout-layout.ensures c.fault.ensures c.in-None.is c.count.ensures c.all_zero.ensures c.if-all_zero.false
