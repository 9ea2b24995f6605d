-- The laws of pairing: what pair_of means, and that nothing else means it. Assumes nothing.
use mathlib.Core.Path.{◌≡◌, refl, sym, ap, subst, ◌∙◌}
use mathlib.Core.Bool.{true}
use mathlib.Core.List.{List, map}
use native.Mathlib.Omega.{arith}
use lib.Dec.{T}
use lib.IntN.{negsuc}
use lib.Count.{count_trailing_zeros}
use lib.Ieee.{Float, fin, odd}
use Rattle.fields.specs.declared.Layout.TheVariants as layout
use Rattle.fields.specs.Table.{head, subframe1, subframe2, rows_of}
use Rattle.fields.proofs.Bodies.{no_fault}
use Rattle.fields.proofs.Rules.{tiled}
use Rattle.message.specs.declared.Subframe1.{Subframe1}
use Rattle.message.specs.declared.Subframe2.{Subframe2}
use Rattle.message.specs.declared.Record.{Record}
use Rattle.message.specs.declared.Record.TheVariants as case
use Rattle.message.specs.Numbers.{nothing}
use Rattle.message.specs.Records.{layout_of, numbers_of, record_fault}
use Rattle.ephemeris.specs.declared.Ephemeris.{Ephemeris}
use Rattle.std.specs.Prelude.{Option, Some, None}
use Rattle.ephemeris.specs.Exactly.{times, exactly}
use Rattle.ephemeris.specs.Meaning.{numbers_in, terms_in, terms_of, Each, Pair, Means, done, refused}
use Rattle.ephemeris.specs.Pairing.{scale_at, ephemeris_of, no_ephemeris, Halves, halves, none, paired?, answer, pair_of, paired_number, paired_ephemeris}
use Rattle.ephemeris.proofs.Fitting.{apart, pair_if, pair_only}
use Rattle.ephemeris.proofs.Numbers.{scaled, narrow?, Small, each_exact, each_one, small_append, small_terms, same_numbers}

-- the ephemeris holds every field from bit 31 to bit 260 of both subframes except the ten reserved bits, in order, each times its own row's scale
pub every_field : (a : Subframe1) (b : Subframe2) → numbers_in (ephemeris_of a b) ≡ map scaled (terms_of a b)
unfolding ephemeris_of scale_at terms_of head subframe1 subframe2
every_field a b = refl

-- all ones in af0, -1, is -2 ^ -31
pub af0_ones : exactly (negsuc 0) (scale_at layout.Subframe1 7) ≡ fin true 1 (negsuc 30)
unfolding scale_at head subframe1 exactly times odd count_trailing_zeros
af0_ones = refl

-- ---- when it is done
module _ (one two : Record) where
  -- done exactly where the two are paired
  pub paired_exactly : (paired_number (pair_of one two) ≡ 0 → (a : Subframe1) × (b : Subframe2) × Pair one two a b)
      × ((a : Subframe1) (b : Subframe2) → Pair one two a b → pair_of one two ≡ Some (ephemeris_of a b))
  unfolding pair_of
  paired_exactly = (go (paired? one two) refl, λ a b p. ap answer (pair_if one two a b p))
    where
      go : (h : Halves) → paired? one two ≡ h → paired_number (answer h) ≡ 0 → (a : Subframe1) × (b : Subframe2) × Pair one two a b
      go (halves a b) q e = (a, b, pair_only one two a b q)
      go none q e = absurd (omega arith)

  pub refused_zeros : paired_number (pair_of one two) ≡ 11 → paired_ephemeris (pair_of one two) ≡ no_ephemeris
  unfolding pair_of
  refused_zeros = go (paired? one two)
    where
      go : (h : Halves) → paired_number (answer h) ≡ 11 → paired_ephemeris (answer h) ≡ no_ephemeris
      go (halves a b) e = absurd (omega arith)
      go none e = refl

-- ---- what it means
small_in : (r : Record) → T (narrow? (rows_of (layout_of r))) → record_fault r nothing ≡ 0 → Small (terms_in r)
unfolding record_fault
small_in r t e = small_terms (rows_of (layout_of r)) (numbers_of r nothing) t (no_fault 0 (rows_of (layout_of r)) (numbers_of r nothing) (tiled (layout_of r)) e)

small_of : (one two : Record) (a : Subframe1) (b : Subframe2) → Pair one two a b → Small (terms_of a b)
unfolding terms_of head subframe1 subframe2
small_of one two a b p =
    small_append (terms_in (case.Subframe1 a)) (terms_in (case.Subframe2 b))
    (small_in (case.Subframe1 a) tt (rw p.first at p.sound_first.held))
    (small_in (case.Subframe2 b) tt (rw p.second at p.sound_second.held))

each_of : (one two : Record) (a : Subframe1) (b : Subframe2) → Pair one two a b → Each (numbers_in (ephemeris_of a b)) (terms_of a b)
each_of one two a b p =
    subst (λ (l : List Float). Each l (terms_of a b)) (sym (every_field a b)) (each_exact (terms_of a b) (small_of one two a b p))

pub pair_means : (one two : Record) → Means one two (pair_of one two)
unfolding pair_of no_ephemeris
pair_means one two = go (paired? one two) refl
  where
    go : (h : Halves) → paired? one two ≡ h → Means one two (answer h)
    go (halves a b) q = let p = pair_only one two a b q in done a b p refl (each_of one two a b p)
    go none q = refused (λ a b p. apart (sym q ∙ pair_if one two a b p)) refl refl

-- an answer is its number and its ephemeris
same_answers : (r s : Option Ephemeris) → paired_number r ≡ paired_number s → paired_ephemeris r ≡ paired_ephemeris s → r ≡ s
same_answers (Some n) (Some m) e f = ap Some f
same_answers (Some n) None e f = absurd (omega (arith, e))
same_answers None (Some m) e f = absurd (omega (arith, e))
same_answers None None e f = refl

-- two answers that mean it are the same, to the last bit
pub pair_decides : (one two : Record) (r s : Option Ephemeris) → Means one two r → Means one two s → r ≡ s
pair_decides one two r s (done a b p e f) (done c d q g h) =
    let h1 = p.first in
    let h2 = q.first in
    let h3 = p.second in
    let h4 = q.second in
    let x : a ≡ c = (cc) in
    let y : b ≡ d = (cc) in
    same_answers r s (e ∙ sym g) (same_numbers (paired_ephemeris r) (paired_ephemeris s) (each_one _ _ (terms_of c d) (rw (x, y) at f) h))
pair_decides one two r s (done a b p e f) (refused q g h) = absurd (q a b p)
pair_decides one two r s (refused p e f) (done c d q g h) = absurd (p c d q)
pair_decides one two r s (refused p e f) (refused q g h) =
    same_answers r s (e ∙ sym g) (same_numbers (paired_ephemeris r) (paired_ephemeris s) (f ∙ sym h))
