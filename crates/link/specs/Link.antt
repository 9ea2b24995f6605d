-- Between a word of 286 bits and the 600 symbols of a subframe (01, "From symbols to 292 bits"), for levels from 0 to p; at p = 1 levels are
-- symbols. Assumes nothing.
use Rattle.std.specs.Prelude.{Bool, true, false, List, map, ℕ, ◌*◌, leb, take, replicate, Option, Some, None, Result, Ok, Err}
use Rattle.bits.specs.Lists.{pick, at_most, differences}
use Rattle.convolution.specs.Code.{coded_form, cost}
use Rattle.convolution.specs.Trellis.{decode}
use Rattle.crc24q.specs.Check.{agrees_of}
use Rattle.framing.specs.Frame.{framed, coded_of}
use Rattle.framing.specs.Sync.{bit_at, sync_of}
use Rattle.framing.specs.declared.Polarity.{Polarity}
use Rattle.framing.specs.declared.Polarity.TheVariants.{Upright, TurnedOver}
use Rattle.link.specs.declared.LinkRefusal.{LinkRefusal}
use Rattle.link.specs.declared.LinkRefusal.TheVariants.{BadSymbol, NoSync, NoWord}
use Rattle.link.specs.declared.Received.{Received}

-- the 600 upright symbols of the word w
unfoldable pub sent_of : List ℕ → List ℕ
sent_of w = framed (coded_form w)

-- the corrected count: the places at which the coded form of w differs from what came, each level read as a bit; the sync symbols aren't in it
unfoldable pub corrected_of : ℕ → List ℕ → List ℕ → ℕ
corrected_of p coded w = differences (coded_form w) (map (bit_at p) coded)

-- the nearest word of what came: it is `Nearest` (`nearest_decode` of crate convolution), and no other is (`nearest_one`)
abbrev pub word_of : ℕ → List ℕ → List ℕ
word_of p coded = decode p 286 coded

-- whether its price is one that a word can have, at most p for each coded symbol; were it not, no word would end in six
-- zeros (`no_word` of proofs/)
unfoldable pub ends : ℕ → List ℕ → Bool
ends p coded = leb (cost p coded (word_of p coded)) (584 * p)

abbrev pub found : ℕ → Bool → List ℕ → Received
found p t coded =
    record {
      word = word_of p coded;
      corrected = corrected_of p coded (word_of p coded);
      turned_over = t;
      agrees = agrees_of (word_of p coded);
    }

unfoldable pub nearest_of : ℕ → Bool → List ℕ → Result Received LinkRefusal
nearest_of p t s = pick (ends p (coded_of p t s)) (Ok (found p t (coded_of p t s))) (Err NoWord)

abbrev pub by_sync : ℕ → List ℕ → Option Polarity → Result Received LinkRefusal
by_sync p s (Some Upright) = nearest_of p false s
by_sync p s (Some TurnedOver) = nearest_of p true s
by_sync p s None = Err NoSync

-- what 600 symbols say: 3 where a symbol is above p, then 4 where there is no sync, then 10 where no word ends in six zeros, and else the nearest
-- word
unfoldable pub receive_of : ℕ → List ℕ → Result Received LinkRefusal
receive_of p s = pick (at_most p s) (by_sync p s (sync_of p (take 16 s))) (Err BadSymbol)

-- the word that was received; zeros beside a refusal
abbrev pub word_in : Result Received LinkRefusal → List ℕ
word_in (Ok r) = r.word
word_in (Err y) = replicate 286 0
