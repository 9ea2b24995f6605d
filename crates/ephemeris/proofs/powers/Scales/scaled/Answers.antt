-- The product does not round, by `product`; the machine reads the exponent back from its bits. Assumes nothing.
use mathlib.Core.Path.{sym, ap, subst, ◌∙◌}
use mathlib.Core.Bool.{false}
use borrow.Author.Rules.{rules}
use lib.Ieee.{fin}
use lib.ListN.{get_or}
use mir.Syntax.{w32}
use mir.Val.{SFits}
use mir.ValLaws.{to_z-of_z}
use Rattle.fields.specs.Patterns.{no_row}
use Rattle.ephemeris.specs.Scales.{Near}
use Rattle.ephemeris.proofs.Scaling.{product}
use Rattle.ephemeris.proofs.powers.Scales.scaled.Goals as goal

pub two_to-requires : goal.two_to-requires
two_to-requires g c =
    let z = (get_or c.args.self.now.rows.now c.args.k no_row).3 in
    let told : SFits w32 z = search rules in
    subst Near (sym (to_z-of_z w32 z told)) (c.args.self.now.near c.args.k c.requires)

pub returns : goal.returns
returns g c =
    let z = (get_or c.args.self.now.rows.now c.args.k no_row).3 in
    let told : SFits w32 z = search rules in
    product _ _ _ _ (c.args.self.now.near c.args.k c.requires) c.into.ensures (c.two_to.ensures ∙ ap (fin false 1) (to_z-of_z w32 z told))
