-- What was read is gathered; at the end it is all of the input.
-- Assumes nothing.
use mathlib.Core.List.{[], ◌++◌}
use Prim.Native.Nat.{◌-◌, ◌^◌}
use native.Mathlib.Omega.{arith}
use lib.ListN.{length-append}
use Rattle.std.proofs.lemmas.Option.{MatchOption-at_some}
use Rattle.std.proofs.KnownBytes.{Consumes-nil, Consumes-trans}
use Rattle.navic.specs.Input.{Gathered}
use Rattle.navic.proofs.Gathering.{gathered_none, gathered_more, fewer}
use Rattle.navic.proofs.input.take_all.Goals as goal

pub loop-init : goal.loop-init
loop-init g c = ([], omega arith, Consumes-nil _, gathered_none (omega arith))

pub loop-preserved : goal.loop-preserved
loop-preserved g c =
    let (bytes, turns, read, all) = c.loop.invariant in
    let (more, some, taken, now) = MatchOption-at_some _ _ _ c.in-Some.is c.in_ok-next.ensures.more in
    (bytes ++ more, omega (arith, length-append bytes more), Consumes-trans _ _ _ _ _ read taken, gathered_more (omega arith) all now)

pub returns-clause-ok : goal.returns-clause-ok
returns-clause-ok g c =
    let (bytes, turns, read, all) = c.loop.invariant in
    (bytes, read, all)

pub returns-clause-whole : goal.returns-clause-whole
returns-clause-whole g c =
    let (bytes, turns, read, all) = c.loop.invariant in
    fewer _ _ bytes (2 ^ 64 - 1) (λ xs. Gathered c.args.kept.now 0 xs c.loop.kept c.loop.count) read (omega arith)
