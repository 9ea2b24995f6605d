-- The chain adds a one for each place at which EB90 and the symbols, read as bits, differ: sixteen at most. Assumes nothing.
use mathlib.Core.Path.{◌∙◌}
use Rattle.std.proofs.Common.{rules, arith, cond, ◌≤◌, length, count_by}
use borrow.Author.Tests.{tests}
use Rattle.std.specs.List.{zip}
use Rattle.std.proofs.lemmas.Iterator.{YieldsList-from_slice, YieldsList-from_zip, YieldsList-from_map}
use Rattle.std.proofs.lemmas.Iterator.Consumers.{sum_by_from_yields_List, fits_by_from_yields_list}
use Rattle.std.proofs.lemmas.List.Sums.{count_by-le-length}
use Rattle.std.proofs.lemmas.Slice.Zip.{length-zip}
use Rattle.framing.specs.Sync.{eb90}
use Rattle.framing.proofs.Agreement.{disagrees, counted}
use Rattle.framing.proofs.disagreeing.Goals as goal

pub sum-requires-clause-fits : goal.sum-requires-clause-fits
unfolding eb90
sum-requires-clause-fits c = let w = c.args.window.now in
    let pairs = zip eb90 w in
    fits_by_from_yields_list (λ x. cond (disagrees c.args.top x) 1 0) pairs c.map.result 256
    (YieldsList-from_map _ _ (YieldsList-from_zip (YieldsList-from_slice eb90 cc) (YieldsList-from_slice w cc)) c.map.ensures.closure (λ x r q k. search (rules, tests)))
    (let few : count_by (disagrees c.args.top) pairs ≤ length pairs = count_by-le-length (disagrees c.args.top) pairs in omega (arith, few, length-zip eb90 w))

pub returns : goal.returns
unfolding eb90
returns c = let w = c.args.window.now in
    sum_by_from_yields_List (λ x. cond (disagrees c.args.top x) 1 0) (zip eb90 w) c.map.result c.sum.result c.sum.ensures.ran
    (YieldsList-from_map _ _ (YieldsList-from_zip (YieldsList-from_slice eb90 cc) (YieldsList-from_slice w cc)) c.map.ensures.closure (λ x r q k. search (rules, tests)))
    ∙ counted c.args.top w
