-- One turn of the loops over a layout's rows, and what they have done at the end. Assumes nothing.
use mathlib.Core.Bool.{Bool}
use mathlib.Core.Path.{◌≡◌, refl, sym, ap, ap₂, subst, ◌∙◌}
use mathlib.Core.List.{List, [], ◌∷◌, ◌++◌, map, map-append, map-map, append_assoc, append-nil}
use Prim.Native.Nat.{ℕ, suc, ◌+◌, ◌-◌, ◌≤◌, ◌<◌}
use mathlib.Core.Logic.{◌⊎◌, inl, inr}
use native.Mathlib.Nat.{add-zero, zero-add}
use native.Mathlib.Numerals.{add-one}
use native.Mathlib.Omega.{arith}
use lib.ListN.{length, get_or, set, take, drop, replicate, length-append, length-drop, length-map}
use lib.Seq.{take-suc, set_at, length-take-le, take-length, get_or-drop, drop-cons, drop-drop}
use Rattle.bits.proofs.Numbers.{bits_long}
use borrow.Rule.Slice.PartMut.{put_mid}
use Rattle.std.proofs.lemmas.Slice.{take-put_mid}
use Rattle.bits.specs.Lists.{pick}
use Rattle.bits.specs.Numbers.{bits_of}
use Rattle.fields.specs.declared.Row.{Row}
use Rattle.fields.specs.declared.Layout.{Layout}
use Rattle.fields.specs.Fields.{value_at, values}
use Rattle.fields.specs.Patterns.{no_row, pattern, patterns, packed, fits, pattern_fault}
use Rattle.fields.specs.Table.{first, width, rows_of}
use Rattle.fields.proofs.Rules.{Next, Tiles, tiled, total, tile_at, tiles_end, inside, few}

-- ---- what the loops use of a row
pub record Sound (rows : List Row) (i : ℕ) : Type 0 where
  pub next : Next (total (take i rows)) (get_or rows i no_row)
  pub within : first (get_or rows i no_row) - 1 + width (get_or rows i no_row) ≤ 262
  pub few : i < 42

sound_row : (l : Layout) (i : ℕ) → i < length (rows_of l) → Sound (rows_of l) i
sound_row l i h =
    record {
      next = rw (zero-add (total (take i (rows_of l)))) at (tile_at 0 (rows_of l) i (tiled l) h);
      within = inside (rows_of l) i (tiled l) h;
      few = omega (arith, few l);
    }

pub sound : (l : Layout) (rows : List Row) (i : ℕ) → rows ≡ rows_of l → i < length rows → Sound rows i
sound l rows i e h = rw e (sound_row l i (rw e at h))

-- ---- reading: the patterns of the first i rows, and zeros
unfoldable pub reading : List ℕ → List Row → ℕ → List ℕ
reading body rows i = map (λ (r : Row). pattern (value_at body r)) (take i rows) ++ replicate (42 - i) 0

pub read_none : (body : List ℕ) (rows : List Row) → replicate 42 0 ≡ reading body rows 0
unfolding reading
read_none body rows = refl

pub read_turn : (body : List ℕ) (rows : List Row) (i : ℕ) → i < 42 → i < length rows
    → set (reading body rows i) i (pattern (value_at body (get_or rows i no_row))) ≡ reading body rows (i + 1)
unfolding reading
read_turn body rows i h g =
    let f : Row → ℕ = λ r. pattern (value_at body r) in
    let e : 42 - i ≡ suc (42 - (i + 1)) = omega arith in
    let m : length (map f (take i rows)) ≡ i = length-map (take i rows) f ∙ length-take-le i rows (omega arith) in
    rw (e, add-one, take-suc rows i no_row g, map-append, append_assoc)
    (set_at (map f (take i rows)) 0 (replicate (42 - suc i) 0) (f (get_or rows i no_row)) i m)

pub read_all : (body : List ℕ) (rows : List Row) (i : ℕ) → i ≤ length rows → length rows ≤ i → reading body rows i ≡ patterns (values rows body)
unfolding reading patterns
read_all body rows i h k =
    let e : i ≡ length rows = omega arith in
    rw (e, take-length)
    (ap₂ (λ (x : List ℕ) (n : ℕ). x ++ replicate (42 - n) 0) (sym (map-map pattern (value_at body) rows)) (sym (length-map rows (value_at body))))

-- ---- the rows left, which lie one behind the other up to bit 262, and a number left for each
pub record Left (rows : List Row) (ns : List ℕ) : Type 0 where
  pub tiles : Tiles (262 - total rows) rows
  pub enough : length rows ≤ length ns

pub all_left : (l : Layout) (rows : List Row) (ns : List ℕ) → rows ≡ rows_of l → length ns ≡ 42 → Left rows ns
all_left l rows ns e n =
    let t : Tiles 0 rows = rw e (tiled l) in
    let z : 0 ≡ 262 - total rows = omega (arith, tiles_end 0 rows t) in
    record { tiles = subst (λ (at : ℕ). Tiles at rows) z t; enough = rw e (omega (arith, few l)) }

-- a row and a number are taken
pub left_taken : {rs : List Row} {ms : List ℕ} {r : Row} {rows : List Row} {n : ℕ} {ns : List ℕ} → (rs ≡ r ∷ rows) × (ms ≡ n ∷ ns) → Left rs ms → Left (r ∷ rows) (n ∷ ns)
left_taken e h = rw (e.0, e.1) at h

pub next_left : {r : Row} {rows : List Row} {n : ℕ} {ns : List ℕ} → Left (r ∷ rows) (n ∷ ns) → Left rows ns
unfolding total
next_left {r} {rows} h =
    let e : 262 - total (r ∷ rows) + width r ≡ 262 - total rows = omega (arith, tiles_end _ rows h.tiles.1) in
    record { tiles = subst (λ (at : ℕ). Tiles at rows) e h.tiles.1; enough = omega (arith, h.enough) }

pub row_within : {r : Row} {rows : List Row} {n : ℕ} {ns : List ℕ} → Left (r ∷ rows) (n ∷ ns) → (0 < first r) × (first r - 1 + width r ≤ 262)
row_within {r} {rows} h = (omega (arith, h.tiles.0.place), omega (arith, h.tiles.0.place, tiles_end _ rows h.tiles.1))

pub no_row_left : (rows : List Row) (ns : List ℕ) → Left rows ns → (rows ≡ []) ⊎ (ns ≡ []) → rows ≡ []
no_row_left [] ns h e = refl
no_row_left (r ∷ rows) [] h e = absurd (omega (arith, h.enough))
no_row_left (r ∷ rows) (n ∷ ns) h (inl e) = e
no_row_left (r ∷ rows) (n ∷ ns) h (inr e) = (cc)

-- ---- writing: the bits of the rows so far, and behind them those of the rows left
abbrev pub Written : List Row → List ℕ → List ℕ → List Row → List ℕ → Type 0
Written all numbers body rows ns = packed all numbers ≡ take (262 - total rows) body ++ packed rows ns

pub write_none : (l : Layout) (numbers body : List ℕ) (rows : List Row) (ns : List ℕ) → rows ≡ rows_of l → ns ≡ numbers → Written (rows_of l) numbers body rows ns
write_none l numbers body rows ns e f =
    let z : 0 ≡ 262 - total rows = rw e (omega (arith, tiles_end 0 (rows_of l) (tiled l))) in
    (λ i. packed (sym e i) (sym f i)) ∙ ap (λ (k : ℕ). take k body ++ packed rows ns) z

part_long : (body : List ℕ) (a k : ℕ) → a + k ≤ length body → length (take (a + k - a) (drop a body)) ≡ k
part_long body a k h = length-take-le (a + k - a) (drop a body) (omega (arith, length-drop a body)) ∙ omega arith

pub put_long : (body bits : List ℕ) (a k : ℕ) → a + k ≤ length body → length bits ≡ length (take (a + k - a) (drop a body)) → length (put_mid a (a + k - a) body bits) ≡ length body
put_long body bits a k h e =
    length-append (take a body) (bits ++ drop (a + k - a) (drop a body))
    ∙ omega (arith, e, part_long body a k h, length-take-le a body (omega arith), length-append bits (drop (a + k - a) (drop a body)), length-drop (a + k - a) (drop a body), length-drop a body)

pub write_turn : (all : List Row) (numbers body : List ℕ) → length body ≡ 262 → (r : Row) (rows : List Row) (n : ℕ) (ns bits : List ℕ) → Left (r ∷ rows) (n ∷ ns)
    → bits ≡ bits_of (length (take (first r - 1 + width r - (first r - 1)) (drop (first r - 1) body))) n
    → Written all numbers body (r ∷ rows) (n ∷ ns) → Written all numbers (put_mid (first r - 1) (first r - 1 + width r - (first r - 1)) body bits) rows ns
unfolding total packed
write_turn all numbers body l r rows n ns bits h b w =
    let a = first r - 1 in
    let s = row_within h in
    let e : bits ≡ bits_of (width r) n = b ∙ ap (λ (k : ℕ). bits_of k n) (part_long body a (width r) (omega (arith, s.1))) in
    let p : 262 - total (r ∷ rows) ≡ a = omega (arith, h.tiles.0.place) in
    let q : 262 - total rows ≡ a + length bits = omega (arith, h.tiles.0.place, ap length e, bits_long (width r) n, tiles_end _ rows h.tiles.1) in
    w
    ∙ ap (λ (k : ℕ). take k body ++ (bits_of (width r) n ++ packed rows ns)) p
    ∙ ap (λ (x : List ℕ). take a body ++ (x ++ packed rows ns)) (sym e)
    ∙ sym (append_assoc (take a body) bits (packed rows ns))
    ∙ ap (λ (x : List ℕ). x ++ packed rows ns) (sym (take-put_mid a (a + width r - a) body bits (262 - total rows) q (omega (arith, s.1))))

pub write_all : (all : List Row) (numbers body : List ℕ) (rows : List Row) (ns : List ℕ) → length body ≡ 262 → rows ≡ [] → Written all numbers body rows ns → body ≡ packed all numbers
unfolding total packed
write_all all numbers body rows ns l e w =
    let v : Written all numbers body [] ns = subst (λ (rs : List Row). Written all numbers body rs ns) e w in
    sym (v ∙ append-nil (take 262 body) ∙ (ap (λ (k : ℕ). take k body) (sym l) ∙ take-length body))

-- ---- the range check: the fault is one of the rows that are left
pub fault_turn : (rs : List Row) (ns : List ℕ) (i : ℕ) (b : Bool) → i < length rs → fits (get_or rs i no_row) (get_or ns i 0) ≡ b
    → pattern_fault (drop i rs) (drop i ns) ≡ pick b (pattern_fault (drop (i + 1) rs) (drop (i + 1) ns)) (first (get_or rs i no_row))
unfolding pattern_fault
fault_turn rs ns i b h e =
    let f : get_or (drop i ns) 0 0 ≡ get_or ns i 0 = get_or-drop i ns 0 0 ∙ ap (λ (k : ℕ). get_or ns k 0) (add-zero i) in
    let d : drop i rs ≡ get_or rs i no_row ∷ drop (i + 1) rs = rw (add-one, drop-cons rs i no_row h) in
    ap (λ (l : List Row). pattern_fault l (drop i ns)) d
    ∙ (λ j. pick ((ap (fits (get_or rs i no_row)) f ∙ e) j) (pattern_fault (drop (i + 1) rs) (drop-drop 1 i ns j)) (first (get_or rs i no_row)))

-- where a row and a number are taken
pub fault_taken : (rs : List Row) (ms : List ℕ) {r : Row} {rows : List Row} {n : ℕ} {ns : List ℕ} (b : Bool) → (rs ≡ r ∷ rows) × (ms ≡ n ∷ ns) → fits r n ≡ b
    → pattern_fault rs ms ≡ pick b (pattern_fault rows ns) (first r)
fault_taken rs ms {r} {rows} {n} {ns} b e f = rw (e.0, e.1) (fault_turn (r ∷ rows) (n ∷ ns) 0 b (omega arith) f)

pub fault_none : (rows : List Row) (ns : List ℕ) → rows ≡ [] → pattern_fault rows ns ≡ 0
unfolding pattern_fault
fault_none rows ns e = ap (λ (rs : List Row). pattern_fault rs ns) e
