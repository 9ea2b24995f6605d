-- The numbers of a pair: each is one that binary64 holds and exactly what it must be, and no two lists of such numbers differ. Assumes nothing.
use mathlib.Core.Path.{◌≡◌, refl, ap, ap₂}
use mathlib.Core.Bool.{Bool, true, false, ◌&&◌}
use mathlib.Core.List.{List, [], ◌∷◌, ◌++◌, map}
use Prim.Native.Nat.{ℕ, suc, ◌-◌, ◌^◌, ◌≤◌, ◌<◌}
use native.Mathlib.Nat.{lt_of_lt_of_le}
use native.Mathlib.Omega.{arith}
use borrow.Author.Tests.{ltb-true}
use lib.Dec.{T, leb, ltb, leb→le}
use lib.IntN.{ℤ, pos, negsuc, nat_abs}
use lib.ListN.{get_or, drop}
use lib.Pow.{pow_mono}
use lib.Signed.{mag}
use lib.Ieee.{Float, nan}
use mir.Facts.{and_yes}
use Rattle.bits.specs.Lists.{pick}
use Rattle.fields.specs.declared.Row.{Row}
use Rattle.fields.specs.Table.{width, signed}
use Rattle.fields.specs.Fields.{holds, in_unsigned}
use Rattle.fields.proofs.Bodies.{AllHold}
use Rattle.ephemeris.specs.declared.Ephemeris.{Ephemeris}
use Rattle.ephemeris.specs.Exactly.{exactly}
use Rattle.ephemeris.specs.Meaning.{numbers_in, kept, terms, Each}
use Rattle.ephemeris.specs.Scales.{Near}
use Rattle.ephemeris.proofs.Rows.{near?, near_of}
use Rattle.ephemeris.proofs.Exact.{exactly_is, exactly_one, exactly_fits}

abbrev pub scaled : ℤ × ℤ → Float
scaled t = exactly t.0 t.1

-- raw numbers and scales whose products binary64 holds
abbrev pub Small : List (ℤ × ℤ) → Type 0
Small [] = Unit {0}
Small (t ∷ ts) = ((nat_abs t.0 < 2 ^ 53) × Near t.1) × Small ts

pub each_exact : (ts : List (ℤ × ℤ)) → Small ts → Each (map scaled ts) ts
each_exact [] s = tt
each_exact (t ∷ ts) s = ((exactly_fits t.0 t.1 s.0.0 s.0.1, exactly_is t.0 t.1), each_exact ts s.1)

pub each_one : (xs ys : List Float) (ts : List (ℤ × ℤ)) → Each xs ts → Each ys ts → xs ≡ ys
each_one [] [] [] p q = refl
each_one [] [] (t ∷ ts) p q = absurd p
each_one [] (y ∷ ys) [] p q = absurd q
each_one [] (y ∷ ys) (t ∷ ts) p q = absurd p
each_one (x ∷ xs) [] [] p q = absurd p
each_one (x ∷ xs) [] (t ∷ ts) p q = absurd q
each_one (x ∷ xs) (y ∷ ys) [] p q = absurd p
each_one (x ∷ xs) (y ∷ ys) (t ∷ ts) p q =
    ap₂ ◌∷◌ (exactly_one x y t.0 t.1 p.0.0 q.0.0 p.0.1 q.0.1) (each_one xs ys ts p.1 q.1)

-- ---- a field of at most 32 bits
below : (n w : ℕ) → w ≤ 32 → n < 2 ^ w → suc n < 2 ^ 53
below n w h l = let k : n < 2 ^ 32 = lt_of_lt_of_le l (pow_mono {i = w} {j = 32} h) in omega arith

small_field : (r : Row) (z : ℤ) → width r ≤ 32 → holds r z ≡ true → nat_abs z < 2 ^ 53
unfolding holds
small_field r z h e = go (signed r) z e
  where
    go : (s : Bool) (z : ℤ) → pick s (ltb (mag z) (2 ^ (width r - 1))) (in_unsigned (width r) z) ≡ true → nat_abs z < 2 ^ 53
    go true (pos n) e = omega (arith, below n (width r - 1) (omega arith) (ltb-true n (2 ^ (width r - 1)) e))
    go true (negsuc n) e = below n (width r - 1) (omega arith) (ltb-true n (2 ^ (width r - 1)) e)
    go false (pos n) e = omega (arith, below n (width r) h (ltb-true n (2 ^ width r) e))
    go false (negsuc n) e = absurd (let z : ◌≡◌ {A = ℕ} 0 1 = (cc) in omega arith)

pub small_append : (s t : List (ℤ × ℤ)) → Small s → Small t → Small (s ++ t)
small_append [] t p q = q
small_append (x ∷ s) t p q = (p.0, small_append s t p.1 q)

-- rows of at most 32 bits and a near scale, tested
abbrev pub narrow? : List Row → Bool
narrow? [] = true
narrow? (r ∷ rs) = (leb (width r) 32 && near? r.3) && narrow? rs

pub small_terms : (rs : List Row) (zs : List ℤ) → T (narrow? rs) → AllHold rs zs → Small (terms rs zs)
small_terms [] zs t h = tt
small_terms (r ∷ rs) zs t h =
    let a = and_yes (leb (width r) 32 && near? r.3) (narrow? rs) t in
    let b = and_yes (leb (width r) 32) (near? r.3) a.0 in
    small_append (pick (kept r) ((get_or zs 0 (pos 0), r.3) ∷ []) []) (terms rs (drop 1 zs))
    (go (kept r) (small_field r (get_or zs 0 (pos 0)) (leb→le (width r) 32 b.0) h.0) (near_of r.3 b.1))
    (small_terms rs (drop 1 zs) a.1 h.1)
  where
    go : (k : Bool) → nat_abs (get_or zs 0 (pos 0)) < 2 ^ 53 → Near r.3 → Small (pick k ((get_or zs 0 (pos 0), r.3) ∷ []) [])
    go true l n = ((l, n), tt)
    go false l n = tt

-- ---- an ephemeris is its numbers
of_numbers : List Float → Ephemeris
of_numbers l =
    record {
      wn = get_or l 0 nan;
      af0 = get_or l 1 nan;
      af1 = get_or l 2 nan;
      af2 = get_or l 3 nan;
      ura = get_or l 4 nan;
      toc = get_or l 5 nan;
      tgd = get_or l 6 nan;
      delta_n = get_or l 7 nan;
      iodec = get_or l 8 nan;
      l5_flag = get_or l 9 nan;
      s_flag = get_or l 10 nan;
      cuc = get_or l 11 nan;
      cus = get_or l 12 nan;
      cic = get_or l 13 nan;
      cis = get_or l 14 nan;
      crc = get_or l 15 nan;
      crs = get_or l 16 nan;
      idot = get_or l 17 nan;
      m0 = get_or l 18 nan;
      toe = get_or l 19 nan;
      e = get_or l 20 nan;
      root_a = get_or l 21 nan;
      omega0 = get_or l 22 nan;
      omega = get_or l 23 nan;
      omega_dot = get_or l 24 nan;
      i0 = get_or l 25 nan;
    }

pub same_numbers : (n m : Ephemeris) → numbers_in n ≡ numbers_in m → n ≡ m
unfolding of_numbers
same_numbers n m e = ap of_numbers e
