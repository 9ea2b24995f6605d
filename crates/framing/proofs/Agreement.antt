-- The sync rule: what sixteen symbols say by the number that disagree with EB90, and what the chains over them compute.
-- Assumes nothing.
use mathlib.Core.Path.{◌≡◌, refl, sym, ap, ap₂, ◌∙◌}
use mathlib.Core.Bool.{Bool, true, false}
use mathlib.Core.List.{List, [], ◌∷◌, ◌++◌, map}
use mathlib.Core.Logic.{◌⊎◌, inl, inr}
use Prim.Native.Nat.{ℕ, ◌+◌, ◌-◌, ◌≤◌, ◌<◌}
use native.Mathlib.Omega.{arith}
use borrow.Author.Tests.{le-leb, lt-leb, eq-eqb, ne_eqb}
use lib.ListN.{length, take, drop, set, length-drop}
use lib.Seq.{take_all}
use Rattle.std.specs.Prelude.{Some, None, not, cond, max, fold, count_by, eqb, leb}
use Rattle.std.specs.List.{zip, slice_range}
use Rattle.std.proofs.lemmas.Bool.Decides.{nat_tests}
use Rattle.bits.specs.Lists.{at, both, pick, part, AtMost, at_most, Bits, unlike, differences}
use Rattle.bits.proofs.Both.{both_false}
use Rattle.bits.proofs.Lists.{at_most_true, at_most_false}
use Rattle.bits.proofs.Parts.{part_short}
use Rattle.bits.proofs.Test.{bit_cases, two_bits, same_test}
use Rattle.framing.specs.declared.Polarity.TheVariants.{Upright, TurnedOver}
use Rattle.framing.specs.Frame.{turned_levels}
use Rattle.framing.specs.Sync.{eb90, bit_at, disagreeing, judged, sync_of}
use Rattle.framing.proofs.Subframe.{eb90_long, eb90_bits, turned_long, turned_at_most}

-- ---- the number of disagreeing symbols
pub judged_upright : (d : ℕ) → d ≤ 2 → judged d ≡ Some Upright
unfolding judged
judged_upright d h = rw (le-leb d 2 h) refl

pub judged_turned : (d : ℕ) → 14 ≤ d → judged d ≡ Some TurnedOver
unfolding judged
judged_turned d h = rw (lt-leb d 2 (omega arith), le-leb 14 d h) refl

pub judged_missing : (d : ℕ) → 2 < d → d < 14 → judged d ≡ None
unfolding judged
judged_missing d h k = rw (lt-leb d 2 h, lt-leb 14 d k) refl

-- ---- when there are sixteen symbols of which none is above p, and when not
module _ (p : ℕ) (s : List ℕ) where
  pub sync_held : length s ≡ 16 → AtMost p s → sync_of p s ≡ judged (disagreeing p s)
  unfolding sync_of
  sync_held e h = rw (eq-eqb (length s) 16 e, at_most_true p s h) refl

  pub sync_short : length s < 16 → sync_of p s ≡ None
  unfolding sync_of
  sync_short h = rw (ne_eqb (length s) 16 (λ e. omega arith)) refl

  pub sync_unclean : at_most p s ≡ false → sync_of p s ≡ None
  unfolding sync_of
  sync_unclean e = rw e (ap (λ (t : Bool). pick t (judged (disagreeing p s)) None) (both_false (eqb (length s) 16)))

  pub sync_above : length s ≡ 16 → (k : ℕ) → k < 16 → p < at s k → sync_of p s ≡ None
  sync_above e k l h = sync_unclean (at_most_false p s k (rw e l) h)

-- what sixteen symbols w of l from the place a on say is what its part there says
pub chunk_part : (l rest w : List ℕ) (a : ℕ) → rest ≡ slice_range l a (length l) → w ≡ take 16 rest → w ≡ part l a 16
chunk_part l rest w a e f = f ∙ ap (take 16) (e ∙ take_all (length l - a) (drop a l) (omega (arith, length-drop a l)))

pub too_few : (p : ℕ) (l : List ℕ) (a : ℕ) → length l < a + 16 → sync_of p (part l a 16) ≡ None
too_few p l a h = sync_short p (part l a 16) (part_short l a 16 (omega arith) h)

-- ---- counting the symbols that disagree
-- whether a symbol, beside one of EB90, disagrees
abbrev pub disagrees : ℕ → ℕ × ℕ → Bool
disagrees p x = not (eqb (bit_at p x.1) x.0)

one_more : (b x : ℕ) → unlike b x ≡ cond (not (eqb x b)) 1 0
one_more b x = rw (same_test b x x b sym sym) (go (eqb x b))
  where
    go : (t : Bool) → pick {A = ℕ} t 0 1 ≡ cond (not t) 1 0
    go true = refl
    go false = refl

counted_from : (p : ℕ) (u s : List ℕ) (n : ℕ) → fold (λ a x. a + cond (disagrees p x) 1 0) n (zip u s) ≡ n + differences u (map (bit_at p) s)
unfolding differences
counted_from p [] s n = omega arith
counted_from p (b ∷ u) [] n = omega arith
counted_from p (b ∷ u) (l ∷ s) n = omega (arith, one_more b (bit_at p l), counted_from p u s (n + cond (disagrees p (b, l)) 1 0))

pub counted : (p : ℕ) (s : List ℕ) → count_by (disagrees p) (zip eb90 s) ≡ disagreeing p s
unfolding disagreeing
counted p s = omega (arith, counted_from p eb90 s 0)

-- ---- no symbol above p
highest_both : (p a b : ℕ) → leb (max a b) p ≡ both (leb a p) (leb b p)
highest_both p a b = grind (arith, nat_tests)

highest_from : (p : ℕ) (s : List ℕ) (a : ℕ) → leb (fold max a s) p ≡ both (leb a p) (at_most p s)
unfolding at_most
highest_from p [] a = go (leb a p)
  where
    go : (t : Bool) → t ≡ both t true
    go true = refl
    go false = refl
highest_from p (b ∷ s) a = highest_from p s (max a b) ∙ ap (λ (t : Bool). both t (at_most p s)) (highest_both p a b) ∙ go (leb a p) (leb b p) (at_most p s)
  where
    go : (s t u : Bool) → both (both s t) u ≡ both s (both t u)
    go true t u = refl
    go false t u = refl

pub highest_at_most : (p : ℕ) (s : List ℕ) → leb (fold max 0 s) p ≡ at_most p s
highest_at_most p s = highest_from p s 0 ∙ ap (λ (t : Bool). both t (at_most p s)) (le-leb 0 p (omega arith))

-- ---- bits
bit_read : (b : ℕ) → b ≤ 1 → bit_at 1 b ≡ b
unfolding bit_at
bit_read b h = go (bit_cases b h)
  where
    go : (b ≡ 0) ⊎ (b ≡ 1) → bit_at 1 b ≡ b
    go (inl e) = rw e refl
    go (inr e) = rw e refl

pub bits_read : (s : List ℕ) → Bits s → map (bit_at 1) s ≡ s
bits_read [] h = refl
bits_read (b ∷ s) h = ap₂ ◌∷◌ (bit_read b h.0) (bits_read s h.1)

pub disagreeing_bits : (s : List ℕ) → Bits s → disagreeing 1 s ≡ differences eb90 s
unfolding disagreeing
disagreeing_bits s h = ap (differences eb90) (bits_read s h)

-- of a bit and its opposite, one differs from a bit
differ_other : (x y : ℕ) → x ≤ 1 → y ≤ 1 → unlike x (1 - y) + unlike x y ≡ 1
differ_other = two_bits (λ x y. unlike x (1 - y) + unlike x y ≡ 1) refl refl refl refl

-- turned over, bits differ where they did not
pub differences_turned : (a b : List ℕ) → Bits a → Bits b → length a ≡ length b → differences a (turned_levels 1 b) + differences a b ≡ length a
unfolding differences turned_levels
differences_turned [] b h k e = refl
differences_turned (x ∷ a) [] h k e = absurd (omega arith)
differences_turned (x ∷ a) (y ∷ b) h k e =
    omega (arith, differ_other x y h.0 k.0, differences_turned a b h.1 k.1 (omega arith))

module _ (s : List ℕ) (bits : Bits s) (long : length s ≡ 16) (near : differences eb90 s ≤ 2) where
  pub sync_upright : sync_of 1 s ≡ Some Upright
  sync_upright = sync_held 1 s long bits ∙ judged_upright _ (rw (disagreeing_bits s bits) near)

  pub sync_turned : sync_of 1 (turned_levels 1 s) ≡ Some TurnedOver
  sync_turned =
      sync_held 1 (turned_levels 1 s) (turned_long 1 s ∙ long) (turned_at_most 1 s)
      ∙ judged_turned _
      (rw (disagreeing_bits (turned_levels 1 s) (turned_at_most 1 s)) (omega (arith, differences_turned eb90 s eb90_bits bits (eb90_long ∙ sym long), eb90_long)))

-- ---- the edges
-- EB90 with its first n symbols turned over
unfoldable pub amiss : ℕ → List ℕ
amiss n = turned_levels 1 (take n eb90) ++ drop n eb90

-- 0 and 2 disagreeing symbols upright, 3 and 13 no sync, 14 and 16 turned over; and no sync where a symbol is above 1
pub edge_syncs :
    map (sync_of 1) (amiss 0 ∷ amiss 2 ∷ amiss 3 ∷ amiss 13 ∷ amiss 14 ∷ amiss 16 ∷ set eb90 15 2 ∷ [])
    ≡ Some Upright ∷ Some Upright ∷ None ∷ None ∷ Some TurnedOver ∷ Some TurnedOver ∷ None ∷ []
unfolding amiss turned_levels sync_of at_most judged disagreeing differences bit_at eb90
edge_syncs = refl
