-- What the link receives.
-- Assumes nothing.
use mathlib.Core.Path.{sym, ap, ◌∙◌}
use mathlib.Core.List.{List, ◌++◌}
use Prim.Native.Nat.{ℕ}
use native.Mathlib.Omega.{arith}
use lib.ListN.{drop, length}
use Rattle.link.specs.Link.{receive_of, word_in}
use Rattle.demands.specs.Family.{packed}
use Rattle.navic.proofs.Answers.{refused_as, packed_long, link_read, link_refused, room_put, room_kept}
use Rattle.navic.proofs.read.Goals as goal

pub returns-in_err-received : goal.returns-in_err-received
returns-in_err-received c =
    let a = c.args in
    let whole = c.in-Some.ensures.cases in
    let received = sym c.in_err-received.was ∙ c.receive.ensures ∙ ap (receive_of 1) whole.same in
    let told = link_refused a.symbols.now (length a.room.now) whole.long (omega arith) c.in_err-received.field-0.0 received in
    record { value = refused_as _ c.from_residual.ensures.1 told; room_after = sym (room_kept a.symbols.now a.room.now _ told) }

pub returns-in_err-reading : goal.returns-in_err-reading
returns-in_err-reading c =
    let a = c.args in
    let whole = c.in-Some.ensures.cases in
    let told = link_read a.symbols.now (length a.room.now) whole.long (omega arith) whole.same c.receive.ensures c.in_ok-received.was c.reading.ensures ∙ c.in_err-reading.was in
    record { value = refused_as _ c.from_residual-in_err-reading.ensures.1 told; room_after = sym (room_kept a.symbols.now a.room.now _ told) }

pub returns : goal.returns
returns c =
    let a = c.args in
    let whole = c.in-Some.ensures.cases in
    let told = link_read a.symbols.now (length a.room.now) whole.long (omega arith) whole.same c.receive.ensures c.in_ok-received.was c.reading.ensures ∙ c.in_ok-reading.was in
    let word = ap word_in (sym c.in_ok-received.was ∙ c.receive.ensures ∙ ap (receive_of 1) whole.same) in
    let put = c.put.ensures ∙ ap (λ (l : List ℕ). l ++ drop (length l) a.room.now) (c.pack.ensures ∙ ap packed word) in
    record {
      value = sym told;
      room_after =
          put ∙ ap (λ (n : ℕ). packed (word_in (receive_of 1 a.symbols.now)) ++ drop n a.room.now) (packed_long _)
          ∙ sym (room_put a.symbols.now a.room.now _ told);
    }
