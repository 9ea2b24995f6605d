-- A body and its numbers, each from the other: rows that lie one behind the other take a body apart and put it together. Assumes nothing.
use mathlib.Core.Bool.{true}
use mathlib.Core.Path.{◌≡◌, refl, sym, ap, ap₂, subst, ◌∙◌}
use mathlib.Core.List.{List, [], ◌∷◌, ◌++◌}
use Prim.Native.Nat.{ℕ, suc, ◌+◌, ◌-◌, ◌<◌}
use native.Mathlib.Nat.{le_refl}
use native.Mathlib.Omega.{arith}
use lib.IntN.{ℤ, pos}
use lib.ListN.{length, get_or, take, drop, length-append, length-drop, take-append-drop}
use lib.Seq.{take_at, drop_at, drop-drop, length-take-le}
use Rattle.bits.proofs.Lists.{at_most_append, at_most_take, at_most_drop}
use Rattle.bits.proofs.Numbers.{number_few}
use Rattle.bits.specs.Lists.{Bits}
use Rattle.bits.specs.Numbers.{number}
use Rattle.fields.specs.declared.Row.{Row}
use Rattle.fields.specs.declared.Layout.{Layout}
use Rattle.fields.specs.Fields.{value_of, value_at, values, field_bits, body_of, holds, fault_in}
use Rattle.fields.specs.Table.{first, width, signed, rows_of}
use Rattle.fields.proofs.Faults.{HoldsAt, rest, faults}
use Rattle.fields.proofs.Rules.{Tiles, tiled, total, tiles_end}
use Rattle.fields.proofs.Twos.{field_long, field_bits_lem, field_round, bits_round, value_holds}

-- each row holds its number
abbrev pub AllHold : List Row → List ℤ → Type 0
AllHold [] zs = Unit {0}
AllHold (r ∷ rs) zs = (holds r (get_or zs 0 (pos 0)) ≡ true) × AllHold rs (drop 1 zs)

all_at : (rs : List Row) (zs : List ℤ) → ((i : ℕ) → i < length rs → HoldsAt rs zs i ≡ true) → AllHold rs zs
all_at [] zs h = tt
all_at (r ∷ rs) zs h = (h 0 (omega arith), all_at rs (drop 1 zs) (λ i l. rest rs r zs i ∙ h (suc i) (omega arith)))

pub no_fault : (at : ℕ) (rs : List Row) (zs : List ℤ) → Tiles at rs → fault_in rs zs ≡ 0 → AllHold rs zs
no_fault at rs zs t e = all_at rs zs (λ i l. (faults at rs zs t).none e i l)

pub all_hold : (rs : List Row) (zs : List ℤ) → AllHold rs zs → fault_in rs zs ≡ 0
unfolding fault_in
all_hold [] zs h = refl
all_hold (r ∷ rs) zs h = rw h.0 (all_hold rs (drop 1 zs) h.1)

-- ---- taking apart from the front
abbrev unpacked : List Row → List ℕ → List ℤ
unpacked [] x = []
unpacked (r ∷ rs) x = value_of (signed r) (width r) (number (take (width r) x)) ∷ unpacked rs (drop (width r) x)

values_unpacked : (at : ℕ) (rs : List Row) (body : List ℕ) → Tiles at rs → values rs body ≡ unpacked rs (drop at body)
unfolding value_at
values_unpacked at [] body t = refl
values_unpacked at (r ∷ rs) body t =
    let e : first r - 1 ≡ at = omega (arith, t.0.place) in
    ap₂ ◌∷◌ (ap (λ (k : ℕ). value_of (signed r) (width r) (number (take (width r) (drop k body)))) e)
    (values_unpacked (at + width r) rs body t.1 ∙ ap (unpacked rs) (sym (drop-drop (width r) at body)))

unpacked_body : (at : ℕ) (rs : List Row) (zs : List ℤ) → Tiles at rs → length zs ≡ length rs → AllHold rs zs → unpacked rs (body_of rs zs) ≡ zs
unfolding body_of
unpacked_body at [] [] t e h = refl
unpacked_body at [] (z ∷ zs) t e h = absurd (omega arith)
unpacked_body at (r ∷ rs) [] t e h = absurd (omega arith)
unpacked_body at (r ∷ rs) (z ∷ zs) t e h =
    let x = field_bits (width r) z in
    ap₂ ◌∷◌
    (ap (λ (l : List ℕ). value_of (signed r) (width r) (number l)) (take_at x (body_of rs zs) (width r) (field_long (width r) z))
    ∙ field_round r z t.0.wide h.0)
    (ap (unpacked rs) (drop_at x (body_of rs zs) (width r) (field_long (width r) z)) ∙ unpacked_body (at + width r) rs zs t.1 (omega arith) h.1)

body_unpacked : (rs : List Row) (x : List ℕ) → length x ≡ total rs → Bits x → body_of rs (unpacked rs x) ≡ x
unfolding body_of total
body_unpacked [] [] e b = refl
body_unpacked [] (y ∷ x) e b = absurd (omega arith)
body_unpacked (r ∷ rs) x e b =
    let w = width r in
    let l : length (take w x) ≡ w = length-take-le w x (omega arith) in
    let f : field_bits w (value_of (signed r) w (number (take w x))) ≡ take w x =
    subst (λ (k : ℕ). field_bits k (value_of (signed r) k (number (take w x))) ≡ take w x) l
    (bits_round (signed r) (take w x) (at_most_take 1 w x b)) in
    ap₂ ◌++◌ f (body_unpacked rs (drop w x) (length-drop w x ∙ omega arith) (at_most_drop 1 w x b)) ∙ take-append-drop w x

-- ---- the laws
pub values_body : (l : Layout) (zs : List ℤ) → length zs ≡ length (rows_of l) → fault_in (rows_of l) zs ≡ 0 → values (rows_of l) (body_of (rows_of l) zs) ≡ zs
values_body l zs e f =
    values_unpacked 0 (rows_of l) (body_of (rows_of l) zs) (tiled l)
    ∙ unpacked_body 0 (rows_of l) zs (tiled l) e (no_fault 0 (rows_of l) zs (tiled l) f)

pub body_values : (l : Layout) (body : List ℕ) → length body ≡ 262 → Bits body → body_of (rows_of l) (values (rows_of l) body) ≡ body
body_values l body e b =
    ap (body_of (rows_of l)) (values_unpacked 0 (rows_of l) body (tiled l))
    ∙ body_unpacked (rows_of l) body (omega (arith, tiles_end 0 (rows_of l) (tiled l))) b

body_total : (rs : List Row) (zs : List ℤ) → length (body_of rs zs) ≡ total rs
unfolding body_of total
body_total [] zs = refl
body_total (r ∷ rs) zs =
    length-append (field_bits (width r) (get_or zs 0 (pos 0))) (body_of rs (drop 1 zs))
    ∙ ap₂ ◌+◌ (field_long (width r) (get_or zs 0 (pos 0))) (body_total rs (drop 1 zs))

pub body_long : (l : Layout) (zs : List ℤ) → length (body_of (rows_of l) zs) ≡ 262
body_long l zs = omega (arith, body_total (rows_of l) zs, tiles_end 0 (rows_of l) (tiled l))

pub body_bits : (rs : List Row) (zs : List ℤ) → Bits (body_of rs zs)
unfolding body_of
body_bits [] zs = tt
body_bits (r ∷ rs) zs =
    at_most_append 1 (field_bits (width r) (get_or zs 0 (pos 0))) (body_of rs (drop 1 zs)) (field_bits_lem (width r) (get_or zs 0 (pos 0))) (body_bits rs (drop 1 zs))

values_hold : (at : ℕ) (rs : List Row) (body : List ℕ) → Tiles at rs → AllHold rs (values rs body)
unfolding value_at
values_hold at [] body t = tt
values_hold at (r ∷ rs) body t = (
  value_holds r (number (take (width r) (drop (first r - 1) body))) t.0.wide (number_few (drop (first r - 1) body) (width r) (width r) (le_refl (width r))),
  values_hold (at + width r) rs body t.1,
)

pub values_fit : (l : Layout) (body : List ℕ) → fault_in (rows_of l) (values (rows_of l) body) ≡ 0
values_fit l body = all_hold (rows_of l) (values (rows_of l) body) (values_hold 0 (rows_of l) body (tiled l))
