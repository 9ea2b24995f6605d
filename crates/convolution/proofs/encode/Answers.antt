use Rattle.std.proofs.Common.{refl, arith}
use Rattle.convolution.proofs.Sending.{sent_more, sent_all}
use Rattle.convolution.proofs.encode.Goals as goal

pub loop-i-preserved : goal.loop-i-preserved
loop-i-preserved c = sent_more (omega arith) c.bit.ensures refl c.loop-i.invariant c.symbol.ensures c.symbol-in-loop-i.ensures (omega arith)

pub returns : goal.returns
returns c = sent_all (omega arith) (omega arith) c.loop-i.invariant
