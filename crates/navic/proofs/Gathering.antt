-- An input gathered in pieces is gathered as a whole: its symbols are kept from the first place on, and all are counted.
-- Assumes nothing.
use mathlib.Core.Path.{◌≡◌, refl, sym, ap, ap₂, ◌∙◌}
use mathlib.Core.Bool.{Bool, true, false}
use mathlib.Core.List.{List, [], ◌∷◌, ◌++◌, append-nil}
use Prim.Native.Nat.{ℕ, ◌+◌, ◌-◌, ◌^◌, ◌≤◌, ◌<◌, min}
use native.Mathlib.Decide.{ℕ_discrete, dec_le}
use native.Mathlib.Nat.{add-zero}
use native.Mathlib.Numerals.{add-one}
use native.Mathlib.Omega.{arith}
use borrow.Author.Tests.{eq-eqb, ne_eqb}
use lib.Dec.{eqb}
use lib.ListN.{length, set, take, replicate, length-append, length-set, length-replicate}
use lib.Seq.{set_out, set-append_seam, take-suc, take_at, append_snoc}
use Rattle.std.specs.Prelude.{Option, Some, None, Err, IfSome}
use Rattle.std.specs.Io.KnownBytes.{Consumes}
use Rattle.bits.specs.Lists.{at, pick}
use Rattle.navic.specs.Input.{symbol_of, symbols_in, kept_after, count_after, Gathered, line_after}
use Rattle.navic.specs.declared.ReadRefusal.TheVariants.{Length}
use Rattle.navic.specs.Navic.{answer, line_of}
use Rattle.navic.proofs.Answers.{length_answer}
use Rattle.std.proofs.lemmas.List.{replicate-append-replicate}

-- ---- two pieces, one after the other
pick_append : (t : Bool) (x y b : List ℕ) → pick t (x ++ b) (y ++ b) ≡ pick t x y ++ b
pick_append true x y b = refl
pick_append false x y b = refl

pub symbols_append : (a b : List ℕ) → symbols_in (a ++ b) ≡ symbols_in a ++ symbols_in b
unfolding symbols_in
symbols_append [] b = refl
symbols_append (x ∷ a) b = rw (symbols_append a b) (pick_append (eqb x 10) (symbols_in a) (symbol_of x ∷ symbols_in a) (symbols_in b))

pub kept_append : (k : List ℕ) (n : ℕ) (a b : List ℕ) → kept_after (kept_after k n a) (n + length a) b ≡ kept_after k n (a ++ b)
unfolding kept_after
kept_append k n [] b = rw add-zero refl
kept_append k n (x ∷ a) b =
    ap (λ (m : ℕ). kept_after (kept_after (set k n x) (n + 1) a) m b) (omega arith) ∙ kept_append (set k n x) (n + 1) a b

pub count_append : (n : ℕ) (a b : List ℕ) → count_after (count_after n a) b ≡ count_after n (a ++ b)
unfolding count_after
count_append n a b = omega (arith, length-append a b)

-- ---- a count that has stopped
pub kept_long : (k : List ℕ) (n : ℕ) (s : List ℕ) → length (kept_after k n s) ≡ length k
unfolding kept_after
kept_long k n [] = refl
kept_long k n (x ∷ s) = kept_long (set k n x) (n + 1) s ∙ length-set k n x

-- nothing more is kept where no place is left
kept_full : (k : List ℕ) (n : ℕ) (s : List ℕ) → length k ≤ n → kept_after k n s ≡ k
unfolding kept_after
kept_full k n [] h = refl
kept_full k n (x ∷ s) h = rw (set_out k n x h) (kept_full k (n + 1) s (omega arith))

-- so it does not matter that the count stops past the last place
kept_stopped : (k : List ℕ) (n : ℕ) (s : List ℕ) → length k < 2 ^ 64 → kept_after k (min n (2 ^ 64 - 1)) s ≡ kept_after k n s
kept_stopped k n s few = elim (dec_le (length k) n) [
  | yes h ↦ kept_full k (min n (2 ^ 64 - 1)) s (omega arith) ∙ sym (kept_full k n s h)
  | no h ↦ ap (λ (m : ℕ). kept_after k m s) (omega arith)
]

-- ---- what has come so far
pub gathered_none : {k : List ℕ} {n : ℕ} → n < 2 ^ 64 → Gathered k n [] k n
unfolding symbols_in kept_after count_after
gathered_none h = record { keeps = refl; counts = omega arith }

-- ANY PIECES: one after another they are gathered as one
pub gathered_more : {k a kept b later : List ℕ} {n count last : ℕ} → length k < 2 ^ 64 → Gathered k n a kept count → Gathered kept count b later last
    → Gathered k n (a ++ b) later last
unfolding count_after
gathered_more {k} {a} {kept} {b} {later} {n} few g h =
    let long : length (kept_after k n (symbols_in a)) < 2 ^ 64 = omega (arith, kept_long k n (symbols_in a)) in
    record {
      keeps = rw (h.keeps, g.keeps, g.counts, kept_stopped, kept_append, symbols_append) refl;
      counts = rw (h.counts, g.counts, count_append, symbols_append) refl;
    }

-- one byte after another
pub gathered_next : {k kept later : List ℕ} {n count last : ℕ} (bytes : List ℕ) (i : ℕ) → length k < 2 ^ 64 → i < length bytes
    → Gathered k n (take i bytes) kept count → Gathered kept count (at bytes i ∷ []) later last → Gathered k n (take (i + 1) bytes) later last
gathered_next bytes i few h g one = rw (add-one i, take-suc bytes i 0 h) (gathered_more few g one)

-- ---- a whole input
-- what stands from a place on gives way to as many symbols, and what stands behind it stays
kept_front : (p r q s : List ℕ) → length r ≡ length s → kept_after (p ++ (r ++ q)) (length p) s ≡ p ++ (s ++ q)
unfolding kept_after
kept_front p [] q [] e = refl
kept_front p (y ∷ r) q [] e = absurd (omega arith)
kept_front p [] q (x ∷ s) e = absurd (omega arith)
kept_front p (y ∷ r) q (x ∷ s) e =
    let one : length p + 1 ≡ length (p ++ (x ∷ [])) = omega (arith, length-append p (x ∷ [])) in
    rw (set-append_seam p y (r ++ q) x, ← append_snoc p x (r ++ q), one) (kept_front (p ++ (x ∷ [])) r q s (omega arith) ∙ append_snoc p x (s ++ q))

-- symbols for which there is room are kept as they came
kept_first : (n : ℕ) (s : List ℕ) → length s ≤ n → kept_after (replicate n 0) 0 s ≡ s ++ replicate (n - length s) 0
kept_first n s h =
    let e : n ≡ length s + (n - length s) = omega arith in
    ap (λ (l : List ℕ). kept_after l 0 s) (ap (λ (k : ℕ). replicate k 0) e ∙ sym (replicate-append-replicate (length s) (n - length s) 0))
    ∙ kept_front [] (replicate (length s) 0) (replicate (n - length s) 0) s (length-replicate {A = ℕ} (length s) 0)

-- 600 symbols are kept as they came
pub kept_600 : (s : List ℕ) → length s ≡ 600 → kept_after (replicate 600 0) 0 s ≡ s
kept_600 s e =
    let z : 600 - length s ≡ 0 = omega arith in
    kept_first 600 s (omega arith) ∙ ap (λ (k : ℕ). s ++ replicate k 0) z ∙ append-nil s

-- and an input for which there is room, of any number of symbols, is what stands at the front
pub gathered_part : (n : ℕ) → n < 2 ^ 64 - 1 → (bytes kept : List ℕ) (count : ℕ) → Gathered (replicate n 0) 0 bytes kept count → count ≤ n
    → take count kept ≡ symbols_in bytes
unfolding count_after
gathered_part n few bytes kept count g h =
    let s = symbols_in bytes in
    let all : count ≡ length s = omega (arith, g.counts) in
    ap₂ take all (g.keeps ∙ kept_first n s (omega arith)) ∙ take_at s (replicate (n - length s) 0) (length s) refl

-- what is gathered is one outcome only
pub gathered_one : {k bytes kept later : List ℕ} {n count last : ℕ} → Gathered k n bytes kept count → Gathered k n bytes later last → (kept ≡ later) × (count ≡ last)
gathered_one g h = (g.keeps ∙ sym h.keeps, g.counts ∙ sym h.counts)

-- and the count tells whether there were 600
pub count_600 : (s : List ℕ) → count_after 0 s ≡ 600 → length s ≡ 600
unfolding count_after
count_600 s e = omega arith

pub count_of_600 : (s : List ℕ) → length s ≡ 600 → count_after 0 s ≡ 600
unfolding count_after
count_of_600 s e = omega arith

-- no input of fewer bytes has given so many
pub fewer : (a b : Option (List ℕ)) (bytes : List ℕ) (n : ℕ) (P : List ℕ → Type 0) → Consumes a b bytes → n ≤ length bytes
    → IfSome a (λ all. length all < n → P all)
fewer None b bytes n P read h = tt
fewer (Some all) None bytes n P read h = absurd read
fewer (Some all) (Some rest) bytes n P read h = λ few. absurd (omega (arith, ap length read, length-append bytes rest))

-- the line, by the count
module _ (kept : List ℕ) (count : ℕ) where
  pub line_other : (count ≡ 600 → ⊥) → line_after kept count ≡ line_of (Err Length)
  unfolding line_after
  line_other d = rw (ne_eqb count 600 d) refl

  pub line_600 : count ≡ 600 → line_after kept count ≡ line_of (answer kept 36)
  unfolding line_after
  line_600 e = rw (eq-eqb count 600 e) refl

-- A WHOLE INPUT, gathered from nothing: it had 600 symbols exactly where 600 are counted, and then they are what is kept
module _ (bytes kept : List ℕ) (count : ℕ) (g : Gathered (replicate 600 0) 0 bytes kept count) where
  pub gathered_whole : count ≡ 600 → kept ≡ symbols_in bytes
  gathered_whole e = g.keeps ∙ kept_600 (symbols_in bytes) (count_600 (symbols_in bytes) (sym g.counts ∙ e))

  pub gathered_other : (count ≡ 600 → ⊥) → length (symbols_in bytes) ≡ 600 → ⊥
  gathered_other no-600 e = no-600 (g.counts ∙ count_of_600 (symbols_in bytes) e)

  -- its line is that of what the reader answers to its symbols
  pub whole_line : line_after kept count ≡ line_of (answer (symbols_in bytes) 36)
  whole_line = elim (ℕ_discrete count 600) [
    | yes e ↦ line_600 kept count e ∙ ap (λ (s : List ℕ). line_of (answer s 36)) (gathered_whole e)
    | no d ↦ line_other kept count d ∙ sym (ap line_of (length_answer (symbols_in bytes) 36 (gathered_other d)))
  ]
