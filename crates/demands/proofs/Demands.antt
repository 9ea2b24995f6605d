-- Demands 2 and 3, for any family of messages.
-- Assumes nothing.
use mathlib.Core.Path.{◌≡◌, refl, sym, ap, subst, ◌∙◌}
use mathlib.Core.Bool.{Bool, true, false}
use mathlib.Core.List.{List}
use Prim.Native.Nat.{ℕ, ◌≤◌}
use native.Mathlib.Decide.{ℕ_discrete, dec_le}
use native.Mathlib.Omega.{arith}
use lib.ListN.{length, take, drop}
use lib.Seq.{length-take-le}
use Rattle.bits.specs.Lists.{pick}
use Rattle.bits.proofs.Lists.{at_most_take}
use Rattle.bits.proofs.Sum.{differences_none}
use Rattle.crc24q.specs.Check.{agrees_of, with_check}
use Rattle.crc24q.proofs.Word.{with_check_long, with_check_bits, with_check_agrees, take_with_check, agrees_with_check}
use Rattle.framing.specs.Frame.{turned_if}
use Rattle.framing.proofs.Subframe.{turned_long}
use Rattle.link.specs.Link.{sent_of, receive_of, word_in}
use Rattle.link.specs.Promise.{IsWord, altered_coded, Altered, Taken}
use Rattle.link.proofs.Recovered.{recovered, unaltered}
use Rattle.link.proofs.Taken as taken
use Rattle.link.proofs.Taken.{Outcome, outcome}
use Rattle.demands.specs.Family.{IsBody, Family, Lawful, Why, done, refused, bad_time, by_check, by_time, reading_of, symbols_of}
use Rattle.demands.proofs.Ordered.{word_taken, by_link_lem, by_word, not_600, little_room_lem}
use Rattle.std.proofs.lemmas.Bool.{true≢false}

module _ (f : Family) (l : Lawful f) where
  -- the word of an entry that the writer takes
  module _ (e : f.Entry) (ok : f.refusal e ≡ 0) where
    body : IsBody (f.to_body e)
    body = l.body e ok

    sealed : IsWord (with_check (f.to_body e))
    sealed =
        record {
          bits = with_check_bits (f.to_body e) body.bits;
          long = with_check_long (f.to_body e) ∙ omega (arith, body.long);
        }

    -- an entry of its own body, whose time is right
    read_entry : (n : ℕ) (t : Bool) → by_check f (agrees_of (with_check (f.to_body e))) (with_check (f.to_body e)) n t ≡ done e n t
    read_entry n t =
        ap (λ (a : Bool). by_check f a (with_check (f.to_body e)) n t) (with_check_agrees (f.to_body e) body.long)
        ∙ ap (λ (b : List ℕ). by_time f (f.from_body b) n t) (take_with_check (f.to_body e) body.long)
        ∙ ap (λ (x : f.Entry). by_time f x n t) (l.back e ok)
        ∙ ap (λ (b : Bool). pick b (refused bad_time n t) (done e n t)) (l.timely e ok)

    -- DEMAND 3: up to four altered coded symbols and up to two altered sync symbols, turned over or not, give the entry, the exact count and the
    -- polarity
    module _ (s : List ℕ) (a : Altered (symbols_of f e) s) (t : Bool) (room : ℕ) (enough : 36 ≤ room) where
      turned_600 : (b : Bool) → length (turned_if b 1 s) ≡ 600
      turned_600 true = turned_long 1 s ∙ a.long
      turned_600 false = a.long

      pub read_altered : reading_of f (turned_if t 1 s) room ≡ done e (altered_coded (symbols_of f e) s) t
      unfolding symbols_of
      read_altered =
          by_link_lem f (turned_if t 1 s) room (turned_600 t) enough _ (recovered (with_check (f.to_body e)) s sealed a t)
          ∙ read_entry (altered_coded (symbols_of f e) s) t

    -- DEMAND 2: what is written is read back equal, upright and with nothing corrected
    pub read_back : (room : ℕ) → 36 ≤ room → reading_of f (symbols_of f e) room ≡ done e 0 false
    unfolding symbols_of
    read_back room enough =
        read_altered (symbols_of f e) (unaltered (with_check (f.to_body e))) false room enough
        ∙ ap (λ (n : ℕ). done e n false) (differences_none (drop 16 (symbols_of f e)))

  -- DEMAND 2, the other way: what the reader takes, written again, gives the nearest word's 600 upright symbols
  module _ (s : List ℕ) (room : ℕ) (e : f.Entry) (n : ℕ) (t : Bool) (read : reading_of f s room ≡ done e n t) where
    w : List ℕ
    w = word_in (receive_of 1 s)

    pub record Again : Type 0 where
      pub accepted : f.refusal e ≡ 0
      pub symbols : symbols_of f e ≡ sent_of (word_in (receive_of 1 s))
      pub nearest : Taken s t (word_in (receive_of 1 s)) n true

    never : (y : Why) (m : ℕ) (b : Bool) → reading_of f s room ≡ refused y m b → Again
    never y m b q = absurd (true≢false (cc))

    -- the entry is that of the nearest word's body
    module _ (m : ℕ) (b : Bool) (near : Taken s b w m (agrees_of w)) (good : agrees_of w ≡ true) where
      taken_body : IsBody (take 262 w)
      taken_body =
          record {
            bits = at_most_take 1 262 w near.nearest.bits;
            long = length-take-le 262 w (omega (arith, near.nearest.long));
          }

      same_symbols : f.from_body (take 262 w) ≡ e → symbols_of f e ≡ sent_of w
      unfolding symbols_of
      same_symbols q =
          ap (λ (x : f.Entry). sent_of (with_check (f.to_body x))) (sym q)
          ∙ ap (λ (x : List ℕ). sent_of (with_check x)) (l.again (take 262 w) taken_body)
          ∙ ap sent_of (agrees_with_check w near.nearest.long near.nearest.bits good)

      by_time_lem : (u : Bool) → f.untimely (f.from_body (take 262 w)) ≡ u → reading_of f s room ≡ pick u (refused bad_time m b) (done (f.from_body (take 262 w)) m b) → Again
      unfolding w
      by_time_lem true late q = never bad_time m b q
      by_time_lem false timely q =
          let same : f.from_body (take 262 w) ≡ e = (cc) in
          let count : m ≡ n = (cc) in
          let turn : b ≡ t = (cc) in
          record {
            accepted = subst (λ (x : f.Entry). f.refusal x ≡ 0) same (l.taken (take 262 w) taken_body timely);
            symbols = same_symbols same;
            nearest = rw (← count, ← turn, ← good) near;
          }

    by_check_lem : (a : Bool) (m : ℕ) (b : Bool) → agrees_of w ≡ a → Taken s b w m (agrees_of w) → reading_of f s room ≡ by_check f a w m b → Again
    by_check_lem true m b good near q = by_time_lem m b near good (f.untimely (f.from_body (take 262 w))) refl q
    by_check_lem false m b bad near q = never _ m b q

    by_outcome : length s ≡ 600 → 36 ≤ room → Outcome s → Again
    unfolding w
    by_outcome long enough (taken.symbol c r) = never _ _ _ (by_link_lem f s room long enough _ r)
    by_outcome long enough (taken.no_sync c m r) = never _ _ _ (by_link_lem f s room long enough _ r)
    by_outcome long enough (taken.word b bits sync r) =
        by_check_lem (agrees_of w) _ b refl (word_taken s _ _ b r) (by_word f s room long enough _ b _ r)

    pub write_again : Again
    write_again = elim (ℕ_discrete (length s) 600) [
      | no other ↦ never _ _ _ (not_600 f s room other)
      | yes long ↦ elim (dec_le 36 room) [
        | no less ↦ never _ _ _ (little_room_lem f s room long (omega arith))
        | yes enough ↦ by_outcome long enough (outcome s)
      ]
    ]
