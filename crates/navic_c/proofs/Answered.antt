-- What the calls answer, by the tests that the code makes. Assumes nothing.
use mathlib.Core.Path.{◌≡◌, refl, sym, ap, ap₂, ◌∙◌}
use Rattle.std.specs.Prelude.{Result, Ok, Err, Some, None}
use mathlib.Core.Bool.{Bool, true, false}
use mathlib.Core.List.{List, ◌∷◌, ◌++◌, map, map-append}
use Prim.Native.Nat.{ℕ, zero, suc, ◌+◌, ◌-◌, ◌≤◌, ◌<◌}
use native.Mathlib.Decide.{ℕ_discrete}
use native.Mathlib.Omega.{arith}
use borrow.Author.Tests.{eq-eqb, ne_eqb, le-leb, lt-leb}
use lib.IntN.{ℤ, pos}
use lib.ListN.{length, drop, replicate, length-append, length-map, length-replicate}
use lib.Seq.{}
use mir.Syntax.{w64}
use mir.Val.{to_z}
use Rattle.bits.specs.Lists.{at_most, pick}
use Rattle.bits.proofs.Both.{both_false}
use Rattle.ephemeris.specs.Pairing.{pair_of, idle_in}
use Rattle.convolution.specs.Code.{cost}
use Rattle.convolution.specs.Trellis.{decode}
use Rattle.fields.specs.Patterns.{pattern, patterns}
use Rattle.fields.proofs.Rules.{few}
use Rattle.link.specs.Link.{receive_of, word_in}
use Rattle.link.proofs.Recovered.{sent_long}
use Rattle.message.specs.declared.Record.{Record}
use Rattle.message.specs.declared.Beside.{Beside}
use Rattle.message.specs.Records.{layout_of, numbers_of}
use Rattle.message.proofs.Laws.{numbers_long}
use Rattle.navic.specs.declared.Reading as navic
use Rattle.navic.specs.declared.ReadRefusal.{ReadRefusal}
use Rattle.navic.specs.declared.WriteRefusal.{WriteRefusal}
use Rattle.navic.specs.declared.WriteRefusal.TheVariants as writing
use Rattle.navic.specs.declared.Numbers.{Numbers}
use Rattle.demands.specs.Family.{Reading, done, refused, reading_of, after_reading, read_into, writing_of, write_into, symbols_of}
use Rattle.navic.specs.Navic.{family, read_of, answer, lent_after_read, line_of, written_number}
use Rattle.demands.proofs.Ordered.{not_600, little_room_lem}
use Rattle.navic_c.specs.declared.Written.{Written}
use Rattle.navic_c.specs.declared.Refusal.TheVariants as why
use Rattle.navic_c.specs.Numbers.{padded, refusal, beside, numbered}
use Rattle.navic_c.specs.Calls.{int64, line_of_numbers, read_from, word_after, numbers_after, numbers_by, written_as, judged_as, judged_of, written_of, fitting, record_of, record_in, pair_in, idle_of_numbers, nearest_answer, nearest_into}
use Rattle.navic_c.proofs.ReadAsRecords.{as_numbers, reading_same, line_read}

-- ---- the writer
-- a refusal is none of 0
refusal_not_0 : (e : WriteRefusal) → written_number (Err e) ≡ 0 → ⊥
refusal_not_0 writing.Room z = omega arith
refusal_not_0 writing.Id z = omega arith
refusal_not_0 writing.Time z = omega arith
refusal_not_0 (writing.Field k) z = omega arith

pub symbols_600 : (zs : List ℤ) → length (symbols_of numbered zs) ≡ 600
unfolding symbols_of
symbols_600 zs = sent_long _

module _ (zs : List ℤ) (lent : List ℕ) where
  pub too_little : length lent < 600 → written_as (Err (why.Record writing.Room)) ≡ written_of zs (length lent)
  unfolding written_of writing_of
  too_little h = rw (lt-leb 600 (length lent) h) refl

  pub too_little_after : length lent < 600 → lent ≡ write_into numbered zs lent
  unfolding writing_of write_into
  too_little_after h = rw (lt-leb 600 (length lent) h) refl

  module _ (enough : 600 ≤ length lent) where
    module _ (y : Result (Unit {0}) WriteRefusal) (judged : judged_as y ≡ judged_of zs) where
      pub answers : judged_as y ≡ written_of zs (length lent)
      unfolding written_of writing_of judged_of beside
      answers = rw (le-leb 600 (length lent) enough) judged

      number : written_number y ≡ refusal zs
      unfolding judged_of
      number = ap (λ (w : Written). w.refusal) judged

      pub kept : (e : WriteRefusal) → y ≡ Err e → lent ≡ write_into numbered zs lent
      unfolding writing_of write_into
      kept e is = rw (le-leb 600 (length lent) enough, ne_eqb (refusal zs) 0 (λ z. refusal_not_0 e (ap written_number (sym is) ∙ number ∙ z))) refl

      pub put : (sent : List ℕ) → y ≡ Ok tt → sent ≡ symbols_of numbered zs → sent ++ drop 600 lent ≡ write_into numbered zs lent
      unfolding writing_of write_into
      put sent is e = rw (le-leb 600 (length lent) enough, eq-eqb (refusal zs) 0 (sym number ∙ ap written_number is)) (ap (λ (l : List ℕ). l ++ drop 600 lent) e)

    module _ (h : length zs ≡ 42 → ⊥) where
      pub other_count : written_as (Err why.Count) ≡ written_of zs (length lent)
      unfolding written_of writing_of refusal
      other_count = rw (le-leb 600 (length lent) enough, ne_eqb (length zs) 42 h) refl

      pub other_count_after : lent ≡ write_into numbered zs lent
      unfolding writing_of write_into refusal
      other_count_after = rw (le-leb 600 (length lent) enough, ne_eqb (length zs) 42 h) refl

-- numbers as C has them are as many as they are here
pub no_42 : (ns : List ℕ) → (length ns ≡ 42 → ⊥) → length (int64 ns) ≡ 42 → ⊥
no_42 ns h e = h (sym (length-map ns (to_z w64)) ∙ e)

-- ---- the reader, lent too few numbers
module _ (s word ns : List ℕ) where
  -- nothing is put anywhere
  none_put : (w lent : List ℕ) → (after_reading numbered (reading_of numbered s 0) w lent ≡ lent) × (numbers_after (reading_of numbered s 0) ns ≡ ns)
  none_put w lent = elim (ℕ_discrete (length s) 600) [
    | yes e ↦ rw (little_room_lem numbered s 0 e (omega arith)) (refl, refl)
    | no h ↦ rw (not_600 numbered s 0 h) (refl, refl)
  ]

  module _ (h : length ns < 42) where
    few_read : read_from s (length word) (length ns) ≡ reading_of numbered s 0
    unfolding read_from
    few_read = rw (lt-leb 42 (length ns) h) refl

    pub few_value : (v : Numbers) → v ≡ line_of_numbers (reading_of numbered s 0) → v ≡ line_of_numbers (read_from s (length word) (length ns))
    few_value v e = e ∙ sym (ap line_of_numbers few_read)

    pub few_word : word ≡ word_after s word (length ns)
    unfolding word_after
    few_word = rw few_read (sym (none_put (word_in (receive_of 1 s)) word).0)

    pub few_numbers : ns ≡ numbers_after (read_from s (length word) (length ns)) ns
    few_numbers = rw few_read (sym (none_put (word_in (receive_of 1 s)) word).1)

-- ---- the record's numbers
zero_patterns : (k : ℕ) → map pattern (replicate k (pos 0)) ≡ replicate k 0
zero_patterns zero = refl
zero_patterns (suc k) = ap (λ (l : List ℕ). 0 ∷ l) (zero_patterns k)

padded_patterns : (zs : List ℤ) → patterns zs ≡ map pattern (padded zs)
unfolding patterns
padded_patterns zs =
    sym (map-append pattern zs (replicate (42 - length zs) (pos 0)) ∙ ap (λ (l : List ℕ). map pattern zs ++ l) (zero_patterns (42 - length zs)))

pub patterns_42 : (r : Record) (b : Beside) → length (patterns (numbers_of r b)) ≡ 42
unfolding patterns
patterns_42 r b =
    let zs = numbers_of r b in
    length-append (map pattern zs) (replicate (42 - length zs) 0)
    ∙ ap₂ ◌+◌ (length-map zs pattern) (length-replicate {A = ℕ} (42 - length zs) 0)
    ∙ omega (arith, numbers_long r b, few (layout_of r))

-- where no record was read, the lent numbers stay
pub not_done : (q : Result navic.Reading ReadRefusal) (lent : List ℕ) → ((r : navic.Reading) → q ≡ Ok r → ⊥) → lent ≡ numbers_by q lent
not_done (Ok r) lent h = absurd (h r refl)
not_done (Err y) lent h = refl

lent_alike : (y : Reading family) (lent : List ℕ) → numbers_by (read_of y) lent ≡ numbers_after (as_numbers y) lent
lent_alike (done e n t) lent = ap (λ (l : List ℕ). l ++ drop 42 lent) (padded_patterns (numbers_of e.«record» e.beside))
lent_alike (refused y n t) lent = refl

-- ---- the reader, lent enough numbers
module _ (s word ns : List ℕ) (h : 42 ≤ length ns) where
  enough_read : read_from s (length word) (length ns) ≡ reading_of numbered s (length word)
  unfolding read_from
  enough_read = rw (le-leb 42 (length ns) h) refl

  put_alike : (y : Reading family) (w : List ℕ) → after_reading numbered (as_numbers y) w word ≡ after_reading family y w word
  put_alike (done e n t) w = refl
  put_alike (refused y n t) w = refl

  pub enough_word : lent_after_read s word ≡ word_after s word (length ns)
  unfolding lent_after_read read_into word_after
  enough_word = rw (enough_read, reading_same s (length word)) (sym (put_alike (reading_of family s (length word)) (word_in (receive_of 1 s))))

  module _ (q : Result navic.Reading ReadRefusal) (e : q ≡ answer s (length word)) where
    pub enough_value : line_of q ≡ line_of_numbers (read_from s (length word) (length ns))
    enough_value = ap line_of e ∙ sym (line_read s (length word)) ∙ sym (ap line_of_numbers enough_read)

    pub enough_numbers : numbers_by q ns ≡ numbers_after (read_from s (length word) (length ns)) ns
    unfolding answer
    enough_numbers =
        ap (λ (q : Result navic.Reading ReadRefusal). numbers_by q ns) e
        ∙ rw (enough_read, reading_same s (length word)) (lent_alike (reading_of family s (length word)) ns)

-- ---- the decoder alone
module _ (coded lent : List ℕ) where
  -- the answer, and the lent bytes afterwards
  pub not_584 : (length coded ≡ 584 → ⊥) → record { refusal = 1; corrected = 0 } ≡ nearest_answer coded (length lent)
  unfolding nearest_answer
  not_584 h = rw (ne_eqb (length coded) 584 h) refl

  pub not_584_after : (length coded ≡ 584 → ⊥) → lent ≡ nearest_into coded lent
  unfolding nearest_into
  not_584_after h = rw (ne_eqb (length coded) 584 h) refl

  module _ (long : length coded ≡ 584) where
    pub word_room : length lent < 286 → record { refusal = 2; corrected = 0 } ≡ nearest_answer coded (length lent)
    unfolding nearest_answer
    word_room h = rw (eq-eqb (length coded) 584 long, lt-leb 286 (length lent) h) refl

    pub word_room_after : length lent < 286 → lent ≡ nearest_into coded lent
    unfolding nearest_into
    word_room_after h = rw (eq-eqb (length coded) 584 long, lt-leb 286 (length lent) h) refl

    module _ (enough : 286 ≤ length lent) where
      pub bad_symbols : at_most 1 coded ≡ false → record { refusal = 3; corrected = 0 } ≡ nearest_answer coded (length lent)
      unfolding nearest_answer
      bad_symbols h = rw (eq-eqb (length coded) 584 long, le-leb 286 (length lent) enough, h) refl

      pub bad_symbols_after : at_most 1 coded ≡ false → lent ≡ nearest_into coded lent
      unfolding nearest_into
      bad_symbols_after h = rw (eq-eqb (length coded) 584 long, le-leb 286 (length lent) enough, h) refl

      pub decoded : at_most 1 coded ≡ true → record { refusal = 0; corrected = cost 1 coded (decode 1 286 coded) } ≡ nearest_answer coded (length lent)
      unfolding nearest_answer
      decoded h = rw (eq-eqb (length coded) 584 long, le-leb 286 (length lent) enough, h) refl

      pub decoded_after : at_most 1 coded ≡ true → decode 1 286 coded ++ drop 286 lent ≡ nearest_into coded lent
      unfolding nearest_into
      decoded_after h = rw (eq-eqb (length coded) 584 long, le-leb 286 (length lent) enough, h) refl

-- ---- pairing and the idle pattern
module _ (zs : List ℤ) where
  unfit : None ≡ record_in zs → fitting zs ≡ false
  unfolding record_in
  unfit e = go (fitting zs) e
    where
      go : (t : Bool) → None ≡ pick t (Some (record_of zs)) None → t ≡ false
      go true e = absurd (cc)
      go false e = refl

  module _ (r : Record) (e : Some r ≡ record_in zs) where
    told_by : (t : Bool) → Some r ≡ pick t (Some (record_of zs)) None → (t ≡ true) × (r ≡ record_of zs)
    told_by true e = (refl, cc)
    told_by false e = absurd (cc)

    fits : (fitting zs ≡ true) × (r ≡ record_of zs)
    unfolding record_in
    fits = told_by (fitting zs) e

  pub idle_unfit : None ≡ record_in zs → false ≡ idle_of_numbers zs
  unfolding idle_of_numbers
  idle_unfit e = rw (unfit e) refl

  pub idle_told : (r : Record) → Some r ≡ record_in zs → idle_in r ≡ idle_of_numbers zs
  unfolding idle_of_numbers
  idle_told r e = let f = fits r e in rw (f.0) (ap idle_in f.1)

module _ (zs ys : List ℤ) where
  pub first_unfit : None ≡ record_in zs → None ≡ pair_in zs ys
  unfolding pair_in
  first_unfit e = rw (unfit zs e) refl

  pub second_unfit : None ≡ record_in ys → None ≡ pair_in zs ys
  unfolding pair_in
  second_unfit e = rw (unfit ys e, both_false (fitting zs)) refl

  pub pair_told : (r s : Record) → Some r ≡ record_in zs → Some s ≡ record_in ys → pair_of r s ≡ pair_in zs ys
  unfolding pair_in
  pair_told r s e f = let one = fits zs r e in let two = fits ys s f in rw (one.0, two.0) (ap₂ pair_of one.1 two.1)
