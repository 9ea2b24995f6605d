-- The sync is copied to the front, and what the grid gives row by row behind it. Assumes nothing.
use mathlib.Core.Path.{refl, ap, ap₂, ◌≡◌, ◌∙◌}
use mathlib.Core.List.{◌++◌}
use Rattle.std.proofs.Common.{rules, ◌/◌, ◌%◌}
use lib.ListN.{length}
use Rattle.framing.specs.Sync.{eb90}
use Rattle.framing.specs.Grid.{cell, by_rows}
use Rattle.bits.proofs.Made.{made, joined}
use Rattle.framing.proofs.by_rows.Goals as goal

pub returns : goal.returns
unfolding by_rows eb90
returns c =
    let s : c.copy_from_slice.new.self ≡ eb90 = search rules in
    let e = made _ _ (λ i. cell c.args.grid (i / 73) (i % 73)) 584 (λ i y q l k. search rules) c.from_fn-symbols.result c.from_fn-symbols.ensures.items in
    joined 16 c.copy_from_slice.new.self c.copy_from_slice-2.new.self _ 584 (ap length s) refl ∙ ap₂ ◌++◌ s (c.copy_from_slice-2.ensures.after ∙ e)
