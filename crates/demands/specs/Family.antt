-- Reading and writing for any family of messages: what a family brings, and what the reader and the writer answer and leave in the lent bytes
-- (01, "Numbers that the calls give"). Assumes nothing.
use Rattle.std.specs.Prelude.{◌≡◌, Bool, true, false, List, [], ◌∷◌, ◌++◌, ℕ, ◌*◌, ◌<◌, eqb, leb, length, take, drop, None, Result, Ok, Err}
use Rattle.bits.specs.Lists.{at, pick, part, build, Bits}
use Rattle.bits.specs.Numbers.{number}
use Rattle.crc24q.specs.Check.{agrees_of, with_check}
use Rattle.framing.specs.Sync.{sync_of}
use Rattle.link.specs.declared.LinkRefusal.{LinkRefusal}
use Rattle.link.specs.declared.LinkRefusal.TheVariants as link
use Rattle.link.specs.declared.Received.{Received}
use Rattle.link.specs.Link.{sent_of, receive_of, word_in}
use Rattle.link.specs.Promise.{NoWordEnds}
use Rattle.demands.specs.Refusals.{Refusal, Given}

-- a body: 262 bits
pub record IsBody (body : List ℕ) : Type 0 where
  pub bits : Bits body
  pub long : length body ≡ 262

-- ---- what a family brings
pub record Family : Type 1 where
  -- a record and what stands beside it
  pub Entry : Type 0
  pub from_body : List ℕ → Entry
  pub to_body : Entry → List ℕ
  -- whether a word is idle where its check disagrees
  pub idle : List ℕ → Bool
  -- whether its time is refused
  pub untimely : Entry → Bool
  -- the writer's own refusals, with their conditions; the number that is given, 0 where none is; and the number beside it
  pub conditions : Entry → List Refusal
  pub refusal : Entry → ℕ
  pub beside : Entry → ℕ

-- what is asked of it
pub record Lawful (f : Family) : Type 1 where
  pub ordered : (e : f.Entry) → Given (f.conditions e) (f.refusal e)
  pub body : (e : f.Entry) → f.refusal e ≡ 0 → IsBody (f.to_body e)
  pub back : (e : f.Entry) → f.refusal e ≡ 0 → f.from_body (f.to_body e) ≡ e
  pub again : (b : List ℕ) → IsBody b → f.to_body (f.from_body b) ≡ b
  pub timely : (e : f.Entry) → f.refusal e ≡ 0 → f.untimely e ≡ false
  pub taken : (b : List ℕ) → IsBody b → f.untimely (f.from_body b) ≡ false → f.refusal (f.from_body b) ≡ 0

-- ---- the reader's list
-- a symbol above p stands at some place
pub record SymbolAbove (p : ℕ) (s : List ℕ) : Type 0 where
  pub place : ℕ
  pub inside : place < length s
  pub above : p < at s place

-- the reader's refusals of the symbols s, lent `room` bytes, in their order; w is the nearest word
unfoldable pub reader_conditions : Family → List ℕ → ℕ → List Refusal
reader_conditions f s room =
    let w = word_in (receive_of 1 s) in
    record { number = 1; condition = length s ≡ 600 → ⊥ } ∷
    record { number = 2; condition = room < 36 } ∷
    record { number = 3; condition = SymbolAbove 1 s } ∷
    record { number = 4; condition = sync_of 1 (take 16 s) ≡ None } ∷
    record { number = 10; condition = NoWordEnds } ∷
    record { number = 5; condition = (agrees_of w ≡ false) × (f.idle w ≡ true) } ∷
    record { number = 6; condition = (agrees_of w ≡ false) × (f.idle w ≡ false) } ∷
    record { number = 7; condition = f.untimely (f.from_body (take 262 w)) ≡ true } ∷
    []

unfoldable pub writer_conditions : (f : Family) → f.Entry → ℕ → List Refusal
writer_conditions f e room = record { number = 2; condition = room < 600 } ∷ f.conditions e

-- ---- the reader
-- why it refuses
pub data Why : Type 0 where
  not_of_600 : Why
  little_room : Why
  bad_symbol : Why
  no_sync : Why
  no_word : Why
  is_idle : Why
  bad_check : Why
  bad_time : Why

-- README's numbers
abbrev pub number_of : Why → ℕ
number_of not_of_600 = 1
number_of little_room = 2
number_of bad_symbol = 3
number_of no_sync = 4
number_of no_word = 10
number_of is_idle = 5
number_of bad_check = 6
number_of bad_time = 7

-- what it answers, with the corrected count and whether it was turned over; beside 1, 2, 3, 4 and 10 these are zeros
pub data Reading (f : Family) : Type 0 where
  done : f.Entry → ℕ → Bool → Reading f
  refused : Why → ℕ → Bool → Reading f

abbrev pub reading_number : {f : Family} → Reading f → ℕ
reading_number (done e n t) = 0
reading_number (refused y n t) = number_of y

-- bits 1 to 286 in 36 bytes, most significant first, the two lowest bits of the last 0
unfoldable pub packed : List ℕ → List ℕ
packed w = build 36 (λ i. number (part (w ++ (0 ∷ 0 ∷ [])) (8 * i) 8))

module _ (f : Family) where
  abbrev pub by_time : f.Entry → ℕ → Bool → Reading f
  by_time e n t = pick (f.untimely e) (refused bad_time n t) (done e n t)

  -- 5 or 6 where the check disagrees, and then 7
  abbrev pub by_check : Bool → List ℕ → ℕ → Bool → Reading f
  by_check true w n t = by_time (f.from_body (take 262 w)) n t
  by_check false w n t = refused (pick (f.idle w) is_idle bad_check) n t

  abbrev pub by_link : Result Received LinkRefusal → Reading f
  by_link (Err link.BadSymbol) = refused bad_symbol 0 false
  by_link (Err link.NoSync) = refused no_sync 0 false
  by_link (Err link.NoWord) = refused no_word 0 false
  by_link (Ok r) = by_check r.agrees r.word r.corrected r.turned_over

  -- reading the symbols s, lent `room` bytes
  unfoldable pub reading_of : List ℕ → ℕ → Reading f
  reading_of s room =
      pick (eqb (length s) 600)
      (pick (leb 36 room) (by_link (receive_of 1 s)) (refused little_room 0 false))
      (refused not_of_600 0 false)

  -- the lent bytes afterwards: where it is done, the word's bits and what was lent beyond them; else as they were
  abbrev pub after_reading : Reading f → List ℕ → List ℕ → List ℕ
  after_reading (done e n t) w lent = packed w ++ drop 36 lent
  after_reading (refused y n t) w lent = lent

  unfoldable pub read_into : List ℕ → List ℕ → List ℕ
  read_into s lent = after_reading (reading_of s (length lent)) (word_in (receive_of 1 s)) lent

  -- ---- the writer
  -- the 600 upright symbols of an entry
  unfoldable pub symbols_of : f.Entry → List ℕ
  symbols_of e = sent_of (with_check (f.to_body e))

  -- its refusal: 2 for little room, else the family's own; 0 where it is done
  unfoldable pub writing_of : f.Entry → ℕ → ℕ
  writing_of e room = pick (leb 600 room) (f.refusal e) 2

  unfoldable pub write_into : f.Entry → List ℕ → List ℕ
  write_into e lent = pick (eqb (writing_of e (length lent)) 0) (symbols_of e ++ drop 600 lent) lent
