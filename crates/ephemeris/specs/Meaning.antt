-- What the answers of `pair` and `is_idle_pattern` mean, said plainly. `pair_means` of proofs/Laws: pair_of means `Means`, and `pair_decides`: no
-- other answer does. `idle_exactly` of proofs/Idling: idle_in tells whether `Idle` holds. Assumes nothing.
use Rattle.std.specs.Prelude.{◌≡◌, Bool, true, not, List, [], ◌∷◌, ◌++◌, ℕ, ◌+◌, ◌-◌, ◌%◌, ◌≤◌, T, eqb, leb, ℤ, pos, get_or, drop, replicate, Float, Option}
use Rattle.std.specs.Float.Ieee as ieee
use Rattle.std.specs.Float.{binary64}
use Rattle.bits.specs.Lists.{pick, both, at}
use Rattle.fields.specs.declared.Row.{Row}
use Rattle.fields.specs.Table.{first, width, scale, rows_of}
use Rattle.message.specs.declared.Subframe1.{Subframe1}
use Rattle.message.specs.declared.Subframe2.{Subframe2}
use Rattle.message.specs.declared.Record.{Record}
use Rattle.message.specs.declared.Record.TheVariants as case
use Rattle.message.specs.Numbers.{nothing}
use Rattle.message.specs.Records.{layout_of, head_in, towc_in, numbers_of, record_fault, to_body}
use Rattle.ephemeris.specs.declared.Ephemeris.{Ephemeris}
use Rattle.ephemeris.specs.Exactly.{Exactly}
use Rattle.ephemeris.specs.Pairing.{plus_zero, paired_number, paired_ephemeris}

-- the numbers of an ephemeris, in order
abbrev pub numbers_in : Ephemeris → List Float
numbers_in n =
    n.wn ∷
    n.af0 ∷
    n.af1 ∷
    n.af2 ∷
    n.ura ∷
    n.toc ∷
    n.tgd ∷
    n.delta_n ∷
    n.iodec ∷
    n.l5_flag ∷
    n.s_flag ∷
    n.cuc ∷
    n.cus ∷
    n.cic ∷
    n.cis ∷
    n.crc ∷
    n.crs ∷
    n.idot ∷
    n.m0 ∷
    n.toe ∷
    n.e ∷
    n.root_a ∷
    n.omega0 ∷
    n.omega ∷
    n.omega_dot ∷
    n.i0 ∷
    []

-- a row whose field lies in bits 31 to 260 and is not the ten reserved bits from 145 on
abbrev pub kept : Row → Bool
kept r = both (leb 31 (first r)) (both (leb (first r + width r) 261) (not (both (eqb (first r) 145) (eqb (width r) 10))))

-- the raw numbers of such rows, each with its row's scale
abbrev pub terms : List Row → List ℤ → List (ℤ × ℤ)
terms [] zs = []
terms (r ∷ rs) zs = pick (kept r) ((get_or zs 0 (pos 0), scale r) ∷ []) [] ++ terms rs (drop 1 zs)

abbrev pub terms_in : Record → List (ℤ × ℤ)
terms_in r = terms (rows_of (layout_of r)) (numbers_of r nothing)

unfoldable pub terms_of : Subframe1 → Subframe2 → List (ℤ × ℤ)
terms_of a b = terms_in (case.Subframe1 a) ++ terms_in (case.Subframe2 b)

-- each is a number that binary64 holds, written in lib.Ieee's one way, and exactly its raw number times its scale
abbrev pub Each : List Float → List (ℤ × ℤ) → Type 0
Each [] [] = Unit {0}
Each [] (t ∷ ts) = ⊥
Each (x ∷ xs) [] = ⊥
Each (x ∷ xs) (t ∷ ts) = (T (ieee.fits binary64 x) × Exactly x t.0 t.1) × Each xs ts

-- a record alone, nothing beside it counted, has no fault of 7 and none of 8
pub record Sound (r : Record) : Type 0 where
  pub early : 1 ≤ towc_in r
  pub late : towc_in r ≤ 50400
  pub held : record_fault r nothing ≡ 0

-- two records that are paired
pub record Pair (one two : Record) (a : Subframe1) (b : Subframe2) : Type 0 where
  pub first : one ≡ case.Subframe1 a
  pub second : two ≡ case.Subframe2 b
  pub together : a.toc ≡ b.toe
  pub sound_first : Sound one
  pub sound_second : Sound two

-- what an answer means, by the paper's number and the ephemeris beside it
pub data Means (one two : Record) (r : Option Ephemeris) : Type 0 where
  done : (a : Subframe1) (b : Subframe2) → Pair one two a b → paired_number r ≡ 0 → Each (numbers_in (paired_ephemeris r)) (terms_of a b) → Means one two r
  refused : ((a : Subframe1) (b : Subframe2) → Pair one two a b → ⊥) → paired_number r ≡ 11 → numbers_in (paired_ephemeris r) ≡ replicate 26 plus_zero → Means one two r

-- ---- a record with the idle pattern, from the bit `from` on
pub record IdleFrom (from : ℕ) (r : Record) : Type 0 where
  pub held : record_fault r nothing ≡ 0
  pub alert : (head_in r).alert ≡ true
  pub pattern : (bit : ℕ) → from ≤ bit → bit ≤ 262 → at (to_body r nothing) (bit - 1) ≡ (bit - from) % 2

abbrev pub Idle : Record → Type 0
Idle (case.Subframe1 a) = IdleFrom 41 (case.Subframe1 a)
Idle (case.Subframe2 b) = IdleFrom 31 (case.Subframe2 b)
Idle (case.IonoGrid c) = ⊥
Idle (case.Almanac c) = ⊥
Idle (case.GpsTime c) = ⊥
Idle (case.EarthIono c) = ⊥
Idle (case.GnssTime c) = ⊥
Idle (case.Null c) = ⊥
Idle (case.Unread c) = ⊥
