-- Numbers of 64 bits read as C's int64_t: what the code does with the bits is what the definitions say of the numbers. Assumes nothing.
use mathlib.Core.Path.{◌≡◌, refl, sym, ap, ap₂, subst, ◌∙◌}
use mathlib.Core.Bool.{Bool, true, false}
use mathlib.Core.List.{List, [], ◌∷◌, ◌++◌, map, append-nil}
use Prim.Native.Nat.{ℕ, zero, suc, ◌-◌, ◌^◌, ◌≤◌, ◌<◌}
use native.Mathlib.Decide.{dec_le}
use native.Mathlib.Omega.{arith}
use borrow.Author.Tests.{ltb-false, ne_eqb}
use lib.Dec.{eqb, ltb}
use lib.IntN.{ℤ, pos, negsuc}
use lib.ListN.{length, drop, replicate, length-map}
use lib.Signed.{mag}
use Rattle.std.specs.List.{list_all}
use mir.Facts.{sfits_to_z, of_z-to_z}
use mir.Syntax.{w64}
use mir.Val.{to_z}
use Rattle.bits.specs.Lists.{at, both}
use Rattle.fields.specs.declared.Layout.{Layout}
use Rattle.fields.specs.declared.Row.{Row}
use Rattle.fields.specs.Fields.{body_of, fault_in}
use Rattle.fields.specs.Patterns.{pattern, patterns, packed, pattern_fault}
use Rattle.fields.specs.Table.{signed, rows_of}
use Rattle.fields.proofs.Held.{Carried, AllHeld, packed_body, pattern_fault_lem}
use Rattle.message.specs.Numbers.{nth, nat, unsigned}
use Rattle.message.proofs.Laying.{map_at}
use Rattle.navic_c.specs.Numbers.{is_zero, all_zero}
use Rattle.navic_c.specs.Calls.{int64, Words}

-- ---- one number
-- whether all 64 bits are 0
abbrev pub zero? : ℕ → Bool
zero? n = eqb n 0

zero_test : (n : ℕ) → zero? n ≡ is_zero (to_z w64 n)
zero_test n = go (ltb n (2 ^ 63)) refl
  where
    go : (t : Bool) → ltb n (2 ^ 63) ≡ t → zero? n ≡ is_zero (to_z w64 n)
    go true e = rw e refl
    go false e = rw e (ne_eqb n 0 (λ (z : n ≡ 0). omega (arith, ltb-false n (2 ^ 63) e)))

-- ---- at a place
int64_at : (ns : List ℕ) (i : ℕ) → nth (int64 ns) i ≡ to_z w64 (at ns i)
int64_at ns i = map_at (to_z w64) ns 0 i

pub unsigned_at : (ns : List ℕ) (i : ℕ) → unsigned (int64 ns) i ≡ nat (to_z w64 (at ns i))
unsigned_at ns i = ap nat (int64_at ns i)

-- ---- all of them
past_end : (ns : List ℕ) (i : ℕ) → length ns ≤ i → at ns i ≡ 0
past_end [] i h = refl
past_end (n ∷ ns) zero h = absurd (omega arith)
past_end (n ∷ ns) (suc i) h = past_end ns i (omega arith)

every_64 : (ns : List ℕ) → Words ns → (i : ℕ) → at ns i < 2 ^ 64
every_64 ns w i = elim (dec_le 42 i) [
  | no h ↦ w.few i (omega arith)
  | yes h ↦ omega (arith, past_end ns i (omega (arith, w.long)))
]

patterns_back : (ns : List ℕ) → ((i : ℕ) → at ns i < 2 ^ 64) → map pattern (int64 ns) ≡ ns
patterns_back [] h = refl
patterns_back (n ∷ ns) h = ap₂ ◌∷◌ (of_z-to_z {w = w64} {n = n} (record { fits = h 0 })) (patterns_back ns (λ i. h (suc i)))

pub patterns_words : (ns : List ℕ) → Words ns → patterns (int64 ns) ≡ ns
unfolding patterns
patterns_words ns w =
    let none : 42 - length (int64 ns) ≡ 0 = omega (arith, length-map ns (to_z w64), w.long) in
    ap (λ (k : ℕ). map pattern (int64 ns) ++ replicate k 0) none ∙ append-nil (map pattern (int64 ns)) ∙ patterns_back ns (every_64 ns w)

-- each is one that a row's pattern carries
small_carried : (s : Bool) (z : ℤ) → mag z < 2 ^ 63 → Carried s z
small_carried true z h = h
small_carried false (pos n) h = omega arith
small_carried false (negsuc n) h = h

all_carried : (rs : List Row) (zs : List ℤ) → ((i : ℕ) → mag (nth zs i) < 2 ^ 63) → AllHeld rs zs
all_carried [] zs h = tt
all_carried (r ∷ rs) [] h = (small_carried (signed r) (pos 0) (h 0), all_carried rs [] h)
all_carried (r ∷ rs) (z ∷ zs) h = (small_carried (signed r) z (h 0), all_carried rs zs (λ i. h (suc i)))

words_held : (l : Layout) (ns : List ℕ) → Words ns → AllHeld (rows_of l) (int64 ns)
words_held l ns w =
    all_carried (rows_of l) (int64 ns) (λ i. subst (λ (z : ℤ). mag z < 2 ^ 63) (sym (int64_at ns i)) (sfits_to_z {w = w64} {n = at ns i} (record { fits = every_64 ns w i })).sfits)

pub packed_words : (l : Layout) (ns : List ℕ) → Words ns → packed (rows_of l) ns ≡ body_of (rows_of l) (int64 ns)
packed_words l ns w = ap (packed (rows_of l)) (sym (patterns_words ns w)) ∙ packed_body l (int64 ns) (words_held l ns w)

pub fault_words : (l : Layout) (ns : List ℕ) → Words ns → pattern_fault (rows_of l) ns ≡ fault_in (rows_of l) (int64 ns)
fault_words l ns w = ap (pattern_fault (rows_of l)) (sym (patterns_words ns w)) ∙ pattern_fault_lem l (int64 ns) (words_held l ns w)

-- those from a place on are all 0
pub rest_words : (k : ℕ) (ns : List ℕ) → list_all zero? (drop k ns) ≡ all_zero (drop k (int64 ns))
unfolding all_zero
rest_words zero [] = refl
rest_words zero (n ∷ ns) = ap₂ both (zero_test n) (rest_words zero ns)
rest_words (suc k) [] = refl
rest_words (suc k) (n ∷ ns) = rest_words k ns
