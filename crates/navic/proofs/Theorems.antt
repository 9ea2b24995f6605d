-- The demands, for the public calls. Nothing is assumed of records, symbols or lent bytes beyond what each statement says.
-- Assumes nothing.
use mathlib.Core.Path.{◌≡◌, refl, sym, ap, subst, ◌∙◌}
use mathlib.Core.Bool.{Bool, true, false}
use mathlib.Core.List.{List, ◌++◌}
use Prim.Native.Nat.{ℕ, ◌≤◌}
use native.Mathlib.Omega.{arith}
use lib.Dec.{eqb, leb}
use lib.ListN.{length, drop}
use borrow.Author.Tests.{eq-eqb, ne_eqb, le-leb}
use Rattle.std.specs.Prelude.{Result, Ok, Err}
use Rattle.bits.specs.Lists.{pick, differences}
use Rattle.convolution.specs.Code.{coded_form}
use Rattle.convolution.proofs.Distance.{distance}
use Rattle.crc24q.specs.Check.{agrees_of}
use Rattle.framing.specs.Frame.{turned_if}
use Rattle.link.specs.Link.{sent_of, receive_of, word_in}
use Rattle.link.specs.Promise.{IsWord, altered_coded, Altered, Taken}
use Rattle.message.specs.declared.Entry.{Entry}
use Rattle.message.specs.Records.{id_refused, towc_in, fault_of}
use Rattle.weektime.specs.Time.{towc_refused}
use Rattle.navic.specs.declared.Quality.{Quality}
use Rattle.navic.specs.declared.Reading.{Reading}
use Rattle.navic.specs.declared.ReadRefusal.{ReadRefusal}
use Rattle.navic.specs.declared.ReadRefusal.TheVariants as reading
use Rattle.navic.specs.declared.WriteRefusal.{WriteRefusal}
use Rattle.navic.specs.declared.WriteRefusal.TheVariants as writing
use Rattle.demands.specs.Refusals.{Given}
use Rattle.demands.specs.Family as any
use Rattle.demands.specs.Family.{reader_conditions, writer_conditions}
use Rattle.navic.specs.Navic.{family, quality, answer, read_of, number_in, quality_in, line_of, lent_after_read, write_answer, written_by, written_number, written_beside, entry_refusal, entry_beside, lent_after_write}
use Rattle.navic.proofs.Answers.{room_put, room_kept}
use Rattle.demands.proofs.Besides as besides
use Rattle.demands.proofs.Demands as demands
use Rattle.navic.proofs.Instance.{lawful}
use Rattle.demands.proofs.Ordered.{reader_ordered, writer_ordered}
use Rattle.std.proofs.lemmas.Bool.{true≢false}

-- the 600 upright symbols of a record and what stands beside it
abbrev pub symbols_of : Entry → List ℕ
symbols_of e = any.symbols_of family e

-- ---- demand 1
number_kept : (y : any.Reading family) → number_in (read_of y) ≡ any.reading_number y
number_kept (any.done e n t) = refl
number_kept (any.refused any.not_of_600 n t) = refl
number_kept (any.refused any.little_room n t) = refl
number_kept (any.refused any.bad_symbol n t) = refl
number_kept (any.refused any.no_sync n t) = refl
number_kept (any.refused any.no_word n t) = refl
number_kept (any.refused any.is_idle n t) = refl
number_kept (any.refused any.bad_check n t) = refl
number_kept (any.refused any.bad_time n t) = refl

-- the reader gives each refusal exactly when its condition holds and no earlier one's does
pub read_refuses : (s : List ℕ) (room : ℕ) → Given (reader_conditions family s room) (number_in (answer s room))
unfolding answer
read_refuses s room =
    subst (Given (reader_conditions family s room)) (sym (number_kept (any.reading_of family s room))) (reader_ordered family s room)

-- the count and the polarity are those of the nearest word
abbrev pub IsNearest : List ℕ → Quality → Type 0
IsNearest s q = Taken s q.turned_over (word_in (receive_of 1 s)) q.corrected (agrees_of (word_in (receive_of 1 s)))

-- the numbers beside the reader's answer: beside 0, 5, 6 and 7 the count and the polarity of the nearest word; 1, 2, 3, 4 and 10 carry none, and
-- `quality_in` reads zeros there
abbrev pub ReadBeside : List ℕ → Result Reading ReadRefusal → Type 0
ReadBeside s (Ok r) = IsNearest s r.quality
ReadBeside s (Err reading.Length) = Unit {0}
ReadBeside s (Err reading.Room) = Unit {0}
ReadBeside s (Err reading.BadSymbol) = Unit {0}
ReadBeside s (Err reading.NoSync) = Unit {0}
ReadBeside s (Err reading.NoWord) = Unit {0}
ReadBeside s (Err (reading.Idle q)) = IsNearest s q
ReadBeside s (Err (reading.BadCheck q)) = IsNearest s q
ReadBeside s (Err (reading.BadTime q)) = IsNearest s q

beside_kept : (s : List ℕ) (y : any.Reading family) → besides.Beside family s y → ReadBeside s (read_of y)
beside_kept s (any.done e n t) b = b
beside_kept s (any.refused any.not_of_600 n t) b = tt
beside_kept s (any.refused any.little_room n t) b = tt
beside_kept s (any.refused any.bad_symbol n t) b = tt
beside_kept s (any.refused any.no_sync n t) b = tt
beside_kept s (any.refused any.no_word n t) b = tt
beside_kept s (any.refused any.is_idle n t) b = b
beside_kept s (any.refused any.bad_check n t) b = b
beside_kept s (any.refused any.bad_time n t) b = b

pub read_beside : (s : List ℕ) (room : ℕ) → ReadBeside s (answer s room)
unfolding answer
read_beside s room = beside_kept s (any.reading_of family s room) (besides.read_beside family s room)

module _ (e : Entry) where
  -- the writer's number is one of its own
  own_number : (i l f : Bool) (k : ℕ) → written_number (written_by (pick i 9 (pick l 7 (pick {A = ℕ} f 0 8))) k) ≡ pick i 9 (pick l 7 (pick f 0 8))
  own_number true l f k = refl
  own_number false true f k = refl
  own_number false false true k = refl
  own_number false false false k = refl

  number_written : (room : ℕ) → written_number (write_answer e room) ≡ any.writing_of family e room
  unfolding write_answer any.writing_of entry_refusal
  number_written room = go (leb 600 room)
    where
      go : (t : Bool) → written_number (written_by (pick t (entry_refusal e) 2) (entry_beside e)) ≡ pick t (entry_refusal e) 2
      go true = own_number (id_refused e.«record») (towc_refused (towc_in e.«record»)) (eqb (fault_of e.«record» e.beside) 0) (entry_beside e)
      go false = refl

  -- the writer gives each refusal exactly when its condition holds and no earlier one's does
  pub write_refuses : (room : ℕ) → Given (writer_conditions family e room) (written_number (write_answer e room))
  write_refuses room = subst (Given (writer_conditions family e room)) (sym (number_written room)) (writer_ordered family lawful e room)

  takes : entry_refusal e ≡ 0 → (room : ℕ) → 600 ≤ room → write_answer e room ≡ Ok tt
  unfolding write_answer any.writing_of
  takes z room enough = rw (le-leb 600 room enough, z) refl

  -- what the writer takes, with whatever room
  module _ (room : ℕ) (taken : write_answer e room ≡ Ok tt) where
    no_refusal : entry_refusal e ≡ 0
    unfolding any.writing_of
    no_refusal = go (leb 600 room) refl (sym (number_written room) ∙ ap written_number taken)
      where
        go : (t : Bool) → leb 600 room ≡ t → any.writing_of family e room ≡ 0 → entry_refusal e ≡ 0
        go true q z = rw q at z
        go false q z = absurd (let y : ◌≡◌ {A = ℕ} 2 0 = rw q at z in omega arith)

    -- DEMAND 2: what is written is read back equal, upright and with nothing corrected
    pub read_back : (lent : ℕ) → 36 ≤ lent → answer (symbols_of e) lent ≡ Ok (record { entry = e; quality = quality 0 false })
    unfolding answer
    read_back lent enough = ap read_of (demands.read_back family lawful e no_refusal lent enough)

    -- DEMAND 3: with up to four altered coded symbols, any four, and up to two altered sync symbols, turned over or not, the reader gives the
    -- record, what stands beside it, the exact number of altered coded symbols and the polarity
    pub read_altered : (s : List ℕ) → Altered (symbols_of e) s → (t : Bool) (lent : ℕ) → 36 ≤ lent
        → answer (turned_if t 1 s) lent ≡ Ok (record { entry = e; quality = quality (altered_coded (symbols_of e) s) t })
    unfolding answer
    read_altered s a t lent enough = ap read_of (demands.read_altered family lawful e no_refusal s a t lent enough)

-- DEMAND 3: two different words of 286 bits, each followed by six zeros, differ in at least ten of their 584 coded symbols
pub words_apart : (w v : List ℕ) → IsWord w → IsWord v → (w ≡ v → ⊥) → 10 ≤ differences (coded_form w) (coded_form v)
words_apart w v a b = distance w v a.bits b.bits (a.long ∙ sym b.long)

-- DEMAND 2, the other way
pub record WrittenAgain (s : List ℕ) (e : Entry) (q : Quality) : Type 0 where
  -- the writer takes the record, and gives the 600 upright symbols of the word that was read
  pub taken : (room : ℕ) → 600 ≤ room → write_answer e room ≡ Ok tt
  pub symbols : symbols_of e ≡ sent_of (word_in (receive_of 1 s))
  -- that word is the nearest to what came, as many of whose symbols as are said differ from its code, and its check agrees
  pub nearest : Taken s q.turned_over (word_in (receive_of 1 s)) q.corrected true

module _ (s : List ℕ) (room : ℕ) (r : Reading) (read : answer s room ≡ Ok r) where
  -- the answer tells the reading
  told : (y : any.Reading family) → read_of y ≡ Ok r → y ≡ any.done r.entry r.quality.corrected r.quality.turned_over
  told (any.done e n t) q =
      let same : record { entry = e; quality = quality n t } ≡ r = (cc) in
      λ i. any.done (same i).entry (same i).quality.corrected (same i).quality.turned_over
  told (any.refused y n t) q = absurd (true≢false (cc))

  pub write_again : WrittenAgain s r.entry r.quality
  unfolding answer
  write_again =
      let a = demands.write_again family lawful s room r.entry r.quality.corrected r.quality.turned_over (told (any.reading_of family s room) read) in
      record { taken = takes r.entry a.accepted; symbols = a.symbols; nearest = a.nearest }

-- ---- the lent bytes
module _ (e : Entry) (lent : List ℕ) where
  -- done, the writer puts the 600 upright symbols, and what was lent beyond them stays
  pub lent_written : write_answer e (length lent) ≡ Ok tt → lent_after_write e lent ≡ symbols_of e ++ drop 600 lent
  unfolding lent_after_write any.write_into
  lent_written d = rw (eq-eqb _ 0 (sym (number_written e (length lent)) ∙ ap written_number d)) refl

  -- refused, it writes nothing
  pub lent_kept : (written_number (write_answer e (length lent)) ≡ 0 → ⊥) → lent_after_write e lent ≡ lent
  unfolding lent_after_write any.write_into
  lent_kept h = rw (ne_eqb _ 0 (λ z. h (number_written e (length lent) ∙ z))) refl

  -- the same, by the refusal
  refused_number : (x : WriteRefusal) → written_number (Err x) ≡ 0 → ⊥
  refused_number writing.Room z = omega arith
  refused_number writing.Id z = omega arith
  refused_number writing.Time z = omega arith
  refused_number (writing.Field k) z = omega arith

  pub lent_unwritten : (x : WriteRefusal) → write_answer e (length lent) ≡ Err x → lent_after_write e lent ≡ lent
  lent_unwritten x d = lent_kept (λ z. refused_number x (sym (ap written_number d) ∙ z))

  -- the number beside the writer's refusal: beside 8 the first bit of the lowest field at fault, or 293; beside all else 0
  pub write_beside : written_beside (write_answer e (length lent)) ≡ pick (eqb (written_number (write_answer e (length lent))) 8) (fault_of e.«record» e.beside) 0
  unfolding write_answer any.writing_of entry_refusal entry_beside
  write_beside = go (leb 600 (length lent)) (id_refused e.«record») (towc_refused (towc_in e.«record»)) (eqb k 0)
    where
      k : ℕ
      k = fault_of e.«record» e.beside

      go : (room i l f : Bool)
          → let n = pick room (pick i 9 (pick l 7 (pick {A = ℕ} f 0 8))) 2 in
          let m = pick (eqb (pick i 9 (pick l 7 (pick {A = ℕ} f 0 8))) 8) k 0 in
          written_beside (written_by n m) ≡ pick (eqb (written_number (written_by n m)) 8) k 0
      go false i l f = refl
      go true true l f = refl
      go true false true f = refl
      go true false false true = refl
      go true false false false = refl

module _ (s lent : List ℕ) where
  -- done, the reader puts bits 1 to 286 of the nearest word into the first 36 bytes; refused, it writes nothing
  pub lent_read : (r : Reading) → answer s (length lent) ≡ Ok r → lent_after_read s lent ≡ any.packed (word_in (receive_of 1 s)) ++ drop 36 lent
  lent_read r = room_put s lent r

  pub lent_unread : (y : ReadRefusal) → answer s (length lent) ≡ Err y → lent_after_read s lent ≡ lent
  lent_unread y = room_kept s lent y

-- the program's line says the answer's number, count and polarity
pub line_says : (r : Result Reading ReadRefusal) → ((line_of r).refusal ≡ number_in r) × ((line_of r).corrected ≡ (quality_in r).corrected) × ((line_of r).polarity ≡ pick (quality_in r).turned_over 1 0)
line_says (Ok r) = (refl, refl, refl)
line_says (Err y) = (refl, refl, refl)
