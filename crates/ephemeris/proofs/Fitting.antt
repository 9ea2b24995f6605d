-- When two records are paired. Assumes nothing.
use mathlib.Core.Path.{◌≡◌, refl, sym}
use mathlib.Core.Bool.{Bool, true, false}
use Prim.Native.Nat.{ℕ}
use native.Mathlib.Omega.{arith}
use borrow.Author.Tests.{eqb-true, eq-eqb}
use lib.Dec.{eqb}
use Rattle.std.proofs.lemmas.Bool.{false≢true}
use Rattle.bits.specs.Lists.{pick}
use Rattle.bits.proofs.Both.{both_holds}
use Rattle.weektime.specs.Time.{towc_refused}
use Rattle.weektime.proofs.Counts.{taken, within}
use Rattle.message.specs.declared.Subframe1.{Subframe1}
use Rattle.message.specs.declared.Subframe2.{Subframe2}
use Rattle.message.specs.declared.Record.{Record}
use Rattle.message.specs.declared.Record.TheVariants as case
use Rattle.message.specs.Numbers.{nothing}
use Rattle.message.specs.Records.{towc_in, record_fault}
use Rattle.ephemeris.specs.Meaning.{Sound, Pair}
use Rattle.ephemeris.specs.Pairing.{sound, halves, none, fit, paired?}
use Rattle.ephemeris.proofs.Cases.{both_halves}

sound_only : (r : Record) → sound r ≡ true → Sound r
unfolding sound
sound_only r e = go (towc_refused (towc_in r)) refl e
  where
    go : (t : Bool) → towc_refused (towc_in r) ≡ t → pick t false (eqb (record_fault r nothing) 0) ≡ true → Sound r
    go true q f = absurd (false≢true f)
    go false q f = let k = taken (towc_in r) q in record { early = omega (arith, k.0); late = omega (arith, k.1); held = eqb-true (record_fault r nothing) 0 f }

sound_if : (r : Record) → Sound r → sound r ≡ true
unfolding sound
sound_if r s = rw (within (towc_in r) s.early s.late, eq-eqb (record_fault r nothing) 0 s.held)

fit_if : (a : Subframe1) (b : Subframe2) → a.toc ≡ b.toe → Sound (case.Subframe1 a) → Sound (case.Subframe2 b) → fit a b ≡ true
unfolding fit
fit_if a b e s t = rw (eq-eqb a.toc b.toe e, sound_if (case.Subframe1 a) s) (sound_if (case.Subframe2 b) t)

fit_only : (a : Subframe1) (b : Subframe2) → fit a b ≡ true → Pair (case.Subframe1 a) (case.Subframe2 b) a b
unfolding fit
fit_only a b e =
    let k = both_holds (eqb a.toc b.toe) _ e in
    let l = both_holds (sound (case.Subframe1 a)) _ k.1 in
    record {
      first = refl;
      second = refl;
      together = eqb-true a.toc b.toe k.0;
      sound_first = sound_only (case.Subframe1 a) l.0;
      sound_second = sound_only (case.Subframe2 b) l.1;
    }

pub apart : {a : Subframe1} {b : Subframe2} → none ≡ halves a b → ⊥
apart e = let z : ◌≡◌ {A = ℕ} 0 1 = (cc) in omega arith

pub pair_if : (one two : Record) (a : Subframe1) (b : Subframe2) → Pair one two a b → paired? one two ≡ halves a b
pair_if one two a b p =
    sym
    (both_halves p.first p.second
    (fit_if a b p.together (rw p.first at p.sound_first) (rw p.second at p.sound_second)))

pub pair_only : (one two : Record) (a : Subframe1) (b : Subframe2) → paired? one two ≡ halves a b → Pair one two a b
pair_only (case.Subframe1 c) (case.Subframe2 d) a b e = go (fit c d) refl e
  where
    go : (t : Bool) → fit c d ≡ t → pick t (halves c d) none ≡ halves a b → Pair (case.Subframe1 c) (case.Subframe2 d) a b
    go true q f =
        let g : c ≡ a = (cc) in
        let h : d ≡ b = (cc) in
        rw (← g, ← h) (fit_only c d q)
    go false q f = absurd (apart f)
pair_only (case.Subframe1 c) (case.Subframe1 d) a b e = absurd (apart e)
pair_only (case.Subframe1 c) (case.IonoGrid d) a b e = absurd (apart e)
pair_only (case.Subframe1 c) (case.Almanac d) a b e = absurd (apart e)
pair_only (case.Subframe1 c) (case.GpsTime d) a b e = absurd (apart e)
pair_only (case.Subframe1 c) (case.EarthIono d) a b e = absurd (apart e)
pair_only (case.Subframe1 c) (case.GnssTime d) a b e = absurd (apart e)
pair_only (case.Subframe1 c) (case.Null d) a b e = absurd (apart e)
pair_only (case.Subframe1 c) (case.Unread d) a b e = absurd (apart e)
pair_only (case.Subframe2 c) two a b e = absurd (apart e)
pair_only (case.IonoGrid c) two a b e = absurd (apart e)
pair_only (case.Almanac c) two a b e = absurd (apart e)
pair_only (case.GpsTime c) two a b e = absurd (apart e)
pair_only (case.EarthIono c) two a b e = absurd (apart e)
pair_only (case.GnssTime c) two a b e = absurd (apart e)
pair_only (case.Null c) two a b e = absurd (apart e)
pair_only (case.Unread c) two a b e = absurd (apart e)
