-- This family of messages, and what the public calls answer (01, "Numbers that the calls give"). Assumes nothing.
use Rattle.std.specs.Prelude.{◌≡◌, Bool, true, false, List, [], ◌∷◌, ◌++◌, ℕ, eqb, Result, Ok, Err, codes}
use Rattle.std.specs.Fmt.{decimal}
use Rattle.bits.specs.Lists.{pick}
use Rattle.idle.specs.Idle.{idle_of}
use Rattle.weektime.specs.Time.{towc_refused}
use Rattle.link.specs.declared.LinkRefusal.{LinkRefusal}
use Rattle.link.specs.declared.LinkRefusal.TheVariants as link
use Rattle.message.specs.declared.Entry.{Entry}
use Rattle.message.specs.Records.{from_body, to_body, fault_of, id_refused, towc_in, subframe_of, message_id_of}
use Rattle.navic.specs.declared.Quality.{Quality}
use Rattle.navic.specs.declared.Reading.{Reading}
use Rattle.navic.specs.declared.ReadRefusal.{ReadRefusal}
use Rattle.navic.specs.declared.ReadRefusal.TheVariants as reading
use Rattle.navic.specs.declared.WriteRefusal.{WriteRefusal}
use Rattle.navic.specs.declared.WriteRefusal.TheVariants as writing
use Rattle.navic.specs.declared.Numbers.{Numbers}
use Rattle.demands.specs.Refusals.{Refusal}
use Rattle.demands.specs.Family as any
use Rattle.demands.specs.Family.{Family, Why, done, refused, not_of_600, little_room, bad_symbol, no_sync, no_word, is_idle, bad_check, bad_time}

-- ---- the family
-- the writer's own refusals of an entry, in their order
abbrev pub entry_conditions : Entry → List Refusal
entry_conditions e =
    record { number = 9; condition = id_refused e.«record» ≡ true } ∷
    record { number = 7; condition = towc_refused (towc_in e.«record») ≡ true } ∷
    record { number = 8; condition = fault_of e.«record» e.beside ≡ 0 → ⊥ } ∷
    []

unfoldable pub entry_refusal : Entry → ℕ
entry_refusal e =
    pick (id_refused e.«record») 9
    (pick (towc_refused (towc_in e.«record»)) 7 (pick (eqb (fault_of e.«record» e.beside) 0) 0 8))

-- beside 8 stands the fault's first bit, beside all else 0
unfoldable pub entry_beside : Entry → ℕ
entry_beside e = pick (eqb (entry_refusal e) 8) (fault_of e.«record» e.beside) 0

abbrev pub family : Family
family =
    record {
      Entry = Entry;
      from_body = from_body;
      to_body = λ e. to_body e.«record» e.beside;
      idle = idle_of;
      untimely = λ e. towc_refused (towc_in e.«record»);
      conditions = entry_conditions;
      refusal = entry_refusal;
      beside = entry_beside;
    }

-- ---- the reader
abbrev pub quality : ℕ → Bool → Quality
quality n t = record { corrected = n; turned_over = t }

abbrev pub refusal_of : Why → Quality → ReadRefusal
refusal_of not_of_600 q = reading.Length
refusal_of little_room q = reading.Room
refusal_of bad_symbol q = reading.BadSymbol
refusal_of no_sync q = reading.NoSync
refusal_of no_word q = reading.NoWord
refusal_of is_idle q = reading.Idle q
refusal_of bad_check q = reading.BadCheck q
refusal_of bad_time q = reading.BadTime q

-- the link's refusals are the reader's
abbrev pub of_link : LinkRefusal → ReadRefusal
of_link link.BadSymbol = reading.BadSymbol
of_link link.NoSync = reading.NoSync
of_link link.NoWord = reading.NoWord

abbrev pub read_of : any.Reading family → Result Reading ReadRefusal
read_of (done e n t) = Ok (record { entry = e; quality = quality n t })
read_of (refused y n t) = Err (refusal_of y (quality n t))

-- what the reader answers to the symbols s, lent `room` bytes
unfoldable pub answer : List ℕ → ℕ → Result Reading ReadRefusal
answer s room = read_of (any.reading_of family s room)

-- the lent bytes after reading
unfoldable pub lent_after_read : List ℕ → List ℕ → List ℕ
lent_after_read s lent = any.read_into family s lent

-- README's number of a refusal, and the corrected count and polarity beside it
abbrev pub refusal_number : ReadRefusal → ℕ
refusal_number reading.Length = 1
refusal_number reading.Room = 2
refusal_number reading.BadSymbol = 3
refusal_number reading.NoSync = 4
refusal_number reading.NoWord = 10
refusal_number (reading.Idle q) = 5
refusal_number (reading.BadCheck q) = 6
refusal_number (reading.BadTime q) = 7

abbrev pub refusal_quality : ReadRefusal → Quality
refusal_quality reading.Length = quality 0 false
refusal_quality reading.Room = quality 0 false
refusal_quality reading.BadSymbol = quality 0 false
refusal_quality reading.NoSync = quality 0 false
refusal_quality reading.NoWord = quality 0 false
refusal_quality (reading.Idle q) = q
refusal_quality (reading.BadCheck q) = q
refusal_quality (reading.BadTime q) = q

-- the same of an answer
abbrev pub number_in : Result Reading ReadRefusal → ℕ
number_in (Ok r) = 0
number_in (Err y) = refusal_number y

abbrev pub quality_in : Result Reading ReadRefusal → Quality
quality_in (Ok r) = r.quality
quality_in (Err y) = refusal_quality y

-- the program's line: refusal, corrected count, polarity (1 is turned over), subframe, TOWC, message ID; the last three 0 unless it is done
abbrev pub line_from : ℕ → Quality → ℕ → ℕ → ℕ → Numbers
line_from n q subframe towc id =
    record {
      refusal = n;
      corrected = q.corrected;
      polarity = pick q.turned_over 1 0;
      subframe = subframe;
      towc = towc;
      message_id = id;
    }

abbrev pub line_of : Result Reading ReadRefusal → Numbers
line_of (Ok r) = let c = r.entry.«record» in line_from 0 r.quality (subframe_of c) (towc_in c) (message_id_of c)
line_of (Err y) = line_from (refusal_number y) (refusal_quality y) 0 0 0

-- its text: the six numbers, with a blank between them
abbrev pub text_of : Numbers → List ℕ
text_of n =
    decimal n.refusal
    ++ (codes " "
    ++ (decimal n.corrected
    ++ (codes " " ++ (decimal n.polarity ++ (codes " " ++ (decimal n.subframe ++ (codes " " ++ (decimal n.towc ++ (codes " " ++ decimal n.message_id)))))))))

-- ---- the writer
-- README's number and the number beside it, of an answer
abbrev pub written_number : Result (Unit {0}) WriteRefusal → ℕ
written_number (Ok u) = 0
written_number (Err writing.Room) = 2
written_number (Err writing.Id) = 9
written_number (Err writing.Time) = 7
written_number (Err (writing.Field k)) = 8

abbrev pub written_beside : Result (Unit {0}) WriteRefusal → ℕ
written_beside (Ok u) = 0
written_beside (Err writing.Room) = 0
written_beside (Err writing.Id) = 0
written_beside (Err writing.Time) = 0
written_beside (Err (writing.Field k)) = k

-- the answer of a number, where k stands beside 8
abbrev pub written_by : ℕ → ℕ → Result (Unit {0}) WriteRefusal
written_by n k =
    pick (eqb n 0) (Ok tt)
    (pick (eqb n 2) (Err writing.Room)
    (pick (eqb n 9) (Err writing.Id)
    (pick (eqb n 7) (Err writing.Time) (Err (writing.Field k)))))

-- what the writer answers to a record and what stands beside it, lent `room` bytes
unfoldable pub write_answer : Entry → ℕ → Result (Unit {0}) WriteRefusal
write_answer e room = written_by (any.writing_of family e room) (entry_beside e)

-- the lent bytes after writing
unfoldable pub lent_after_write : Entry → List ℕ → List ℕ
lent_after_write e lent = any.write_into family e lent
