-- `parse` meets its contract: the two IDs are numbers 4 and 6 of the layout of a message's bits. Assumes nothing.
use mathlib.Core.Path.{◌≡◌, ap, ap₂, ◌∙◌}
use mathlib.Core.List.{List}
use Prim.Native.Nat.{ℕ}
use Rattle.bits.specs.Lists.{at}
use Rattle.fields.specs.declared.Layout.{Layout}
use Rattle.fields.specs.Table.{rows_of, head, message_id}
use Rattle.fields.specs.Fields.{value_at, values}
use Rattle.fields.specs.Patterns.{patterns}
use Rattle.message.specs.Numbers.{view_of}
use Rattle.message.specs.Records as records
use Rattle.message.specs.Records.{subframe_id, layout_by, entry_by, from_body}
use Rattle.message.proofs.Parsing.{entry}
use Rattle.message.proofs.Entry.parse.Goals as goal

pub returns : goal.returns
unfolding from_body patterns value_at head message_id
returns c = let body = c.args.body.now in
    let s : at c.read-ids.result 4 ≡ subframe_id body = ap (λ (l : List ℕ). at l 4) c.read-ids.ensures in
    let m : at c.read-ids.result 6 ≡ records.message_id body = ap (λ (l : List ℕ). at l 6) c.read-ids.ensures in
    let s' = at c.read-ids.result 4 in
    let m' = at c.read-ids.result 6 in
    let a = c.read-numbers.ensures ∙ ap (λ (l : Layout). patterns (values (rows_of l) body)) c.layout_by.ensures in
    c.entry.ensures
    ∙ entry body _ s' m' a
    ∙ ap₂ (λ (s m : ℕ). entry_by s m (view_of (values (rows_of (layout_by s m)) body))) s m
