-- What the code of the reader and of the writer returns, as the definitions have it.
-- Assumes nothing.
use mathlib.Core.Path.{◌≡◌, refl, sym, ap, ◌∙◌}
use mathlib.Core.Bool.{Bool, true, false}
use mathlib.Core.List.{List, ◌++◌}
use Prim.Native.Nat.{ℕ, ◌≤◌, ◌<◌}
use native.Mathlib.Decide.{dec_le}
use native.Mathlib.Omega.{arith}
use borrow.Author.Tests.{le-leb, lt-leb}
use lib.Dec.{eqb}
use lib.ListN.{length, drop}
use Rattle.std.specs.Prelude.{Option, Some, None, Result, Ok, Err, IsErrAnd}
use Rattle.bits.specs.Lists.{pick}
use Rattle.bits.proofs.Build.{build_long}
use Rattle.crc24q.specs.Check.{with_check}
use Rattle.link.specs.declared.LinkRefusal.{LinkRefusal}
use Rattle.link.specs.declared.LinkRefusal.TheVariants as link
use Rattle.link.specs.declared.Received.{Received}
use Rattle.link.specs.Link.{sent_of, receive_of, word_in}
use Rattle.link.proofs.Recovered.{sent_long}
use Rattle.weektime.specs.Time.{towc_refused}
use Rattle.fields.specs.Patterns.{unless_0}
use Rattle.message.specs.declared.Entry.{Entry}
use Rattle.message.specs.Records.{to_body, towc_in, id_refused, fault_of}
use Rattle.navic.specs.declared.Reading.{Reading}
use Rattle.navic.specs.declared.ReadRefusal.{ReadRefusal}
use Rattle.navic.specs.declared.ReadRefusal.TheVariants as reading
use Rattle.navic.specs.declared.WriteRefusal.{WriteRefusal}
use Rattle.navic.specs.declared.WriteRefusal.TheVariants as writing
use Rattle.demands.specs.Family as any
use Rattle.navic.specs.Navic.{family, of_link, read_of, answer, lent_after_read, entry_refusal, entry_beside, write_answer}
use Rattle.demands.proofs.Ordered.{not_600, little_room_lem, by_link_lem}
use Rattle.std.proofs.lemmas.Bool.{true≢false}
use Rattle.std.proofs.lemmas.Result.{err_from_is_err_and}

-- what `?` gives back is the answer where the answer is that error
pub refused_as : {T E : Type 0} {answer : Result T E} {e : E} (r : Result T E) → IsErrAnd r (λ y. y ≡ e) → answer ≡ Err e → r ≡ answer
refused_as r h told = let p = err_from_is_err_and r h in p.1 ∙ ap Err p.2 ∙ sym told

-- ---- the reader
module _ (s : List ℕ) (room : ℕ) where
  pub length_answer : (length s ≡ 600 → ⊥) → answer s room ≡ Err reading.Length
  unfolding answer
  length_answer h = ap read_of (not_600 family s room h)

  pub room_answer : length s ≡ 600 → room < 36 → answer s room ≡ Err reading.Room
  unfolding answer
  room_answer long h = ap read_of (little_room_lem family s room long h)

  pub link_answer : length s ≡ 600 → 36 ≤ room → (r : Result Received LinkRefusal) → r ≡ receive_of 1 s → answer s room ≡ read_of (any.by_link family r)
  unfolding answer
  link_answer long enough r e = ap read_of (by_link_lem family s room long enough r (sym e))

  -- as the code comes to it: what the link received of the same symbols, and what the reader made of that
  pub link_read : length s ≡ 600 → 36 ≤ room → {came : List ℕ} → came ≡ s → {link : Result Received LinkRefusal} → link ≡ receive_of 1 came
      → {r : Received} → link ≡ Ok r → {read : Result Reading ReadRefusal} → read ≡ read_of (any.by_link family (Ok r)) → answer s room ≡ read
  link_read long enough same e {r} was f = link_answer long enough (Ok r) (sym was ∙ e ∙ ap (receive_of 1) same) ∙ sym f

  pub link_refused : length s ≡ 600 → 36 ≤ room → (y : LinkRefusal) → Err y ≡ receive_of 1 s → answer s room ≡ Err (of_link y)
  link_refused long enough y e = link_answer long enough (Err y) e ∙ same y
    where
      same : (y : LinkRefusal) → read_of (any.by_link family (Err y)) ≡ Err (of_link y)
      same link.BadSymbol = refl
      same link.NoSync = refl
      same link.NoWord = refl

-- the packed bits
pub packed_long : (w : List ℕ) → length (any.packed w) ≡ 36
unfolding any.packed
packed_long w = build_long 36 _

-- the lent bytes, by what was read
module _ (s lent : List ℕ) where
  w : List ℕ
  w = word_in (receive_of 1 s)

  put_by : (y : any.Reading family) (r : Reading) → read_of y ≡ Ok r → any.after_reading family y w lent ≡ any.packed w ++ drop 36 lent
  put_by (any.done e n t) r q = refl
  put_by (any.refused y n t) r q = absurd (true≢false (cc))

  kept_by : (y : any.Reading family) (x : ReadRefusal) → read_of y ≡ Err x → any.after_reading family y w lent ≡ lent
  kept_by (any.done e n t) x q = absurd (true≢false (cc))
  kept_by (any.refused y n t) x q = refl

  pub room_put : (r : Reading) → answer s (length lent) ≡ Ok r → lent_after_read s lent ≡ any.packed (word_in (receive_of 1 s)) ++ drop 36 lent
  unfolding answer lent_after_read any.read_into w
  room_put r q = put_by (any.reading_of family s (length lent)) r q

  pub room_kept : (x : ReadRefusal) → answer s (length lent) ≡ Err x → lent_after_read s lent ≡ lent
  unfolding answer lent_after_read any.read_into w
  room_kept x q = kept_by (any.reading_of family s (length lent)) x q

  pub length_kept : (length s ≡ 600 → ⊥) → lent_after_read s lent ≡ lent
  length_kept h = room_kept reading.Length (length_answer s (length lent) h)

  pub little_kept : length s ≡ 600 → length lent < 36 → lent_after_read s lent ≡ lent
  little_kept long h = room_kept reading.Room (room_answer s (length lent) long h)

-- ---- the writer
-- its answer to a fault, or to none
abbrev pub written_at : Option ℕ → Result (Unit {0}) WriteRefusal
written_at None = Ok tt
written_at (Some k) = Err (writing.Field k)

-- its 600 symbols
pub symbols_answer : (e : Entry) → any.symbols_of family e ≡ sent_of (with_check (to_body e.«record» e.beside))
unfolding any.symbols_of
symbols_answer e = refl

pub symbols_long : (e : Entry) → length (any.symbols_of family e) ≡ 600
unfolding any.symbols_of
symbols_long e = sent_long (with_check (to_body e.«record» e.beside))

module _ (e : Entry) (room : ℕ) where
  pub little : room < 600 → write_answer e room ≡ Err writing.Room
  unfolding write_answer any.writing_of
  little h = rw (lt-leb 600 room h) refl

  -- what the writer takes was lent room
  pub accepted_room : write_answer e room ≡ Ok tt → 600 ≤ room
  accepted_room h = elim (dec_le 600 room) [
    | yes enough ↦ enough
    | no other ↦ let less : room < 600 = omega arith in
        let clash = sym (little less) ∙ h in
        absurd (true≢false (cc))
  ]

  module _ (enough : 600 ≤ room) where
    pub foreign : id_refused e.«record» ≡ true → write_answer e room ≡ Err writing.Id
    unfolding write_answer any.writing_of entry_refusal
    foreign h = rw (le-leb 600 room enough, h) refl

    module _ (own : id_refused e.«record» ≡ false) where
      pub untimely : towc_refused (towc_in e.«record») ≡ true → write_answer e room ≡ Err writing.Time
      unfolding write_answer any.writing_of entry_refusal
      untimely h = rw (le-leb 600 room enough, own, h) refl

      module _ (timely : towc_refused (towc_in e.«record») ≡ false) where
        by_fault : (t : Bool) → eqb (fault_of e.«record» e.beside) 0 ≡ t → write_answer e room ≡ pick t (Ok tt) (Err (writing.Field (fault_of e.«record» e.beside)))
        unfolding write_answer any.writing_of entry_refusal entry_beside
        by_fault true h = rw (le-leb 600 room enough, own, timely, h) refl
        by_fault false h = rw (le-leb 600 room enough, own, timely, h) refl

        -- as the fault is told: none, or its first bit
        told : (t : Bool) (f : ℕ) (o : Option ℕ) → pick t None (Some f) ≡ o → pick t (Ok tt) (Err (writing.Field f)) ≡ written_at o
        told true f o h = ap written_at h
        told false f o h = ap written_at h

        pub faulty : (k : ℕ) → unless_0 (fault_of e.«record» e.beside) ≡ Some k → write_answer e room ≡ Err (writing.Field k)
        faulty k h = by_fault _ refl ∙ told (eqb (fault_of e.«record» e.beside) 0) (fault_of e.«record» e.beside) (Some k) h

        pub sound : unless_0 (fault_of e.«record» e.beside) ≡ None → write_answer e room ≡ Ok tt
        sound h = by_fault _ refl ∙ told (eqb (fault_of e.«record» e.beside) 0) (fault_of e.«record» e.beside) None h
