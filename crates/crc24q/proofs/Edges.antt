-- The generator as a number, and the checks at the edges (01, "Values at the edges"), computed.
-- Assumes nothing.
use mathlib.Core.Path.{◌≡◌, refl}
use mathlib.Core.List.{List, [], ◌∷◌, ◌++◌, map}
use Prim.Native.Nat.{ℕ}
use lib.ListN.{replicate}
use Rattle.crc24q.specs.Check.{◌⊕◌, generator, reduce, step, divide, check_of}

pub generator_number : generator ≡ 0x1864CFB
unfolding generator
generator_number = refl

-- bodies of 262 bits: all 0; only bit 262 set; only bit 261 set
abbrev pub edges : List (List ℕ)
edges = replicate 262 0 ∷ (replicate 261 0 ++ (1 ∷ [])) ∷ (replicate 260 0 ++ (1 ∷ 0 ∷ [])) ∷ []

pub edge_checks : map check_of edges ≡ 0 ∷ 0x864CFB ∷ 0x8AD50D ∷ []
unfolding check_of divide step reduce generator ◌⊕◌
edge_checks = refl
