-- Numbers that a pattern of 64 bits carries: what the code does with patterns is what the definitions say of the numbers. Assumes nothing.
use mathlib.Core.Bool.{Bool, true, false}
use mathlib.Core.Path.{◌≡◌, refl, sym, ap, ap₂, ◌∙◌}
use mathlib.Core.List.{List, [], ◌∷◌, ◌++◌, map}
use Prim.Native.Nat.{ℕ, zero, suc, ◌+◌, ◌-◌, ◌^◌, ◌≤◌, ◌<◌}
use native.Mathlib.Omega.{arith}
use borrow.Author.Tests.{le-ltb, le-leb, lt-leb, ltb-true, ltb-false}
use lib.Dec.{ltb, leb}
use lib.IntN.{ℤ, pos, negsuc}
use lib.ListN.{length, get_or, drop, replicate}
use lib.Signed.{mag}
use Rattle.bits.proofs.Complement.{bits_complement}
use Rattle.bits.specs.Lists.{pick}
use Rattle.bits.specs.Numbers.{bits_of}
use Rattle.fields.specs.declared.Row.{Row}
use Rattle.fields.specs.declared.Layout.{Layout}
use Rattle.fields.specs.Fields.{field_bits, body_of, in_unsigned, holds, fault_in}
use Rattle.fields.specs.Patterns.{pattern, patterns, packed, in_signed, fits, pattern_fault}
use Rattle.fields.specs.Table.{first, width, signed, rows_of}
use Rattle.fields.proofs.Bodies.{AllHold, no_fault}
use Rattle.fields.proofs.Halves.{half_small, whole_small}
use Rattle.fields.proofs.Rules.{Tiles, tiled}

-- z is a number that the code's pattern of a signed or an unsigned field carries; below 0 it is outside the unsigned one, and its pattern too
abbrev pub Carried : Bool → ℤ → Type 0
Carried true z = mag z < 2 ^ 63
Carried false (pos n) = n < 2 ^ 64
Carried false (negsuc n) = n < 2 ^ 63

abbrev pub Held : Row → ℤ → Type 0
Held r z = Carried (signed r) z

abbrev pub AllHeld : List Row → List ℤ → Type 0
AllHeld [] zs = Unit {0}
AllHeld (r ∷ rs) zs = Held r (get_or zs 0 (pos 0)) × AllHeld rs (drop 1 zs)

-- a number within its field is carried
pub holds_held : (r : Row) (z : ℤ) → width r ≤ 63 → holds r z ≡ true → Held r z
unfolding holds
holds_held r z m h = go (signed r) z h
  where
    go : (s : Bool) (z : ℤ) → pick s (ltb (mag z) (2 ^ (width r - 1))) (in_unsigned (width r) z) ≡ true → Carried s z
    go true z e = omega (arith, ltb-true (mag z) (2 ^ (width r - 1)) e, half_small (width r) m)
    go false (pos n) e = omega (arith, ltb-true n (2 ^ width r) e, whole_small (width r) m)
    go false (negsuc n) e = absurd (cc)

fit_held : (at : ℕ) (rs : List Row) (zs : List ℤ) → Tiles at rs → AllHold rs zs → AllHeld rs zs
fit_held at [] zs t h = tt
fit_held at (r ∷ rs) zs t h = (holds_held r (get_or zs 0 (pos 0)) t.0.most h.0, fit_held (at + width r) rs (drop 1 zs) t.1 h.1)

pub all_held : (l : Layout) (zs : List ℤ) → fault_in (rows_of l) zs ≡ 0 → AllHeld (rows_of l) zs
all_held l zs e = fit_held 0 (rows_of l) zs (tiled l) (no_fault 0 (rows_of l) zs (tiled l) e)

-- ---- one field
below_carried : (s : Bool) (n : ℕ) → Carried s (negsuc n) → n < 2 ^ 63
below_carried true n h = h
below_carried false n h = h

pattern_bits : (s : Bool) (w : ℕ) (z : ℤ) → w ≤ 63 → Carried s z → bits_of w (pattern z) ≡ field_bits w z
unfolding field_bits
pattern_bits s w (pos n) m h = refl
pattern_bits s w (negsuc n) m h =
    let k = below_carried s n h in
    let e : 2 ^ 64 - suc n ≡ 2 ^ 64 - 1 - n = omega (arith, k) in
    ap (bits_of w) e ∙ bits_complement 64 w n (omega arith) (omega (arith, k))

signed_fits : (w : ℕ) (z : ℤ) → w ≤ 63 → mag z < 2 ^ 63 → in_signed w (pattern z) ≡ ltb (mag z) (2 ^ (w - 1))
signed_fits w (pos n) m h =
    let s : 2 ^ (w - 1) ≤ 4611686018427387904 = half_small w m in
    go (ltb n (2 ^ (w - 1))) (lt-leb (2 ^ 64 - 2 ^ (w - 1)) n (omega arith))
  where
    go : (t : Bool) → leb (2 ^ 64 - 2 ^ (w - 1)) n ≡ false → pick t true (leb (2 ^ 64 - 2 ^ (w - 1)) n) ≡ t
    go true e = refl
    go false e = e
signed_fits w (negsuc n) m h =
    let s : 2 ^ (w - 1) ≤ 4611686018427387904 = half_small w m in
    ap (λ (t : Bool). pick t true (leb (2 ^ 64 - 2 ^ (w - 1)) (2 ^ 64 - suc n))) (le-ltb (2 ^ 64 - suc n) (2 ^ (w - 1)) (omega arith))
    ∙ go (ltb n (2 ^ (w - 1))) refl
  where
    go : (t : Bool) → ltb n (2 ^ (w - 1)) ≡ t → leb (2 ^ 64 - 2 ^ (w - 1)) (2 ^ 64 - suc n) ≡ t
    go true e = le-leb (2 ^ 64 - 2 ^ (w - 1)) (2 ^ 64 - suc n) (omega (arith, ltb-true n (2 ^ (w - 1)) e))
    go false e = lt-leb (2 ^ 64 - 2 ^ (w - 1)) (2 ^ 64 - suc n) (omega (arith, ltb-false n (2 ^ (w - 1)) e, half_small w m))

pub pattern_fits : (r : Row) (z : ℤ) → width r ≤ 63 → Held r z → fits r (pattern z) ≡ holds r z
unfolding fits holds
pattern_fits r z m h = go (signed r) z h
  where
    go : (s : Bool) (z : ℤ) → Carried s z → pick s (in_signed (width r) (pattern z)) (ltb (pattern z) (2 ^ width r)) ≡ pick s (ltb (mag z) (2 ^ (width r - 1))) (in_unsigned (width r) z)
    go true z k = signed_fits (width r) z m k
    go false (pos n) k = refl
    go false (negsuc n) k = le-ltb (2 ^ 64 - suc n) (2 ^ width r) (omega (arith, whole_small (width r) m))

-- ---- all fields
-- the patterns of zs, and any number of zeros behind them
abbrev spread : List ℤ → ℕ → List ℕ
spread zs k = map pattern zs ++ replicate k 0

spread_first : (zs : List ℤ) (k : ℕ) → get_or (spread zs k) 0 0 ≡ pattern (get_or zs 0 (pos 0))
spread_first [] zero = refl
spread_first [] (suc k) = refl
spread_first (z ∷ zs) k = refl

-- how many zeros are left when a number was taken
abbrev left : List ℤ → ℕ → ℕ
left [] k = k - 1
left (z ∷ zs) k = k

spread_rest : (zs : List ℤ) (k : ℕ) → drop 1 (spread zs k) ≡ spread (drop 1 zs) (left zs k)
spread_rest [] zero = refl
spread_rest [] (suc k) = let e : suc k - 1 ≡ k = omega arith in ap (λ (n : ℕ). replicate n 0) (sym e)
spread_rest (z ∷ zs) k = refl

packed_spread : (at : ℕ) (rs : List Row) (zs : List ℤ) (k : ℕ) → Tiles at rs → AllHeld rs zs → packed rs (spread zs k) ≡ body_of rs zs
unfolding packed body_of
packed_spread at [] zs k t h = refl
packed_spread at (r ∷ rs) zs k t h =
    ap₂ ◌++◌
    (ap (bits_of (width r)) (spread_first zs k) ∙ pattern_bits (signed r) (width r) (get_or zs 0 (pos 0)) t.0.most h.0)
    (ap (packed rs) (spread_rest zs k) ∙ packed_spread (at + width r) rs (drop 1 zs) (left zs k) t.1 h.1)

pub packed_body : (l : Layout) (zs : List ℤ) → AllHeld (rows_of l) zs → packed (rows_of l) (patterns zs) ≡ body_of (rows_of l) zs
unfolding patterns
packed_body l zs h = packed_spread 0 (rows_of l) zs (42 - length zs) (tiled l) h

fault_spread : (at : ℕ) (rs : List Row) (zs : List ℤ) (k : ℕ) → Tiles at rs → AllHeld rs zs → pattern_fault rs (spread zs k) ≡ fault_in rs zs
unfolding pattern_fault fault_in
fault_spread at [] zs k t h = refl
fault_spread at (r ∷ rs) zs k t h =
    ap₂ (λ (b : Bool) (n : ℕ). pick b n (first r))
    (ap (fits r) (spread_first zs k) ∙ pattern_fits r (get_or zs 0 (pos 0)) t.0.most h.0)
    (ap (pattern_fault rs) (spread_rest zs k) ∙ fault_spread (at + width r) rs (drop 1 zs) (left zs k) t.1 h.1)

pub pattern_fault_lem : (l : Layout) (zs : List ℤ) → AllHeld (rows_of l) zs → pattern_fault (rows_of l) (patterns zs) ≡ fault_in (rows_of l) zs
unfolding patterns
pattern_fault_lem l zs h = fault_spread 0 (rows_of l) zs (42 - length zs) (tiled l) h
