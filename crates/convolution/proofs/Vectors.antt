-- Worked examples of the nearest word.
-- Assumes nothing.
use mathlib.Core.Path.{◌≡◌, refl}
use mathlib.Core.List.{[], ◌∷◌}
use Rattle.convolution.specs.Code.{price}
use Rattle.convolution.specs.Trellis.{out1, out2, toll, via, better, choice, start, metric, mark, survivor, pairs, decode}

-- two symbols wrong, and still the one
one_back : decode 1 1 (1 ∷ 1 ∷ 1 ∷ 0 ∷ 1 ∷ 0 ∷ 1 ∷ 1 ∷ 1 ∷ 0 ∷ 0 ∷ 1 ∷ 1 ∷ 1 ∷ []) ≡ 1 ∷ []
unfolding decode survivor mark metric better choice via start toll price pairs out1 out2
one_back = refl

-- levels from 0 to 7 of no word
noise : decode 7 3 (7 ∷ 5 ∷ 4 ∷ 2 ∷ 2 ∷ 0 ∷ 5 ∷ 7 ∷ 1 ∷ 5 ∷ 0 ∷ 6 ∷ 2 ∷ 7 ∷ 6 ∷ 2 ∷ 2 ∷ 3 ∷ []) ≡ 1 ∷ 0 ∷ 0 ∷ []
unfolding decode survivor mark metric better choice via start toll price pairs out1 out2
noise = refl

-- 01 and 10 are equally near, 5 symbols from each: compared from the last bit back, 10 has the zero where they first part
tie : decode 1 2 (1 ∷ 1 ∷ 1 ∷ 1 ∷ 1 ∷ 0 ∷ 1 ∷ 1 ∷ 1 ∷ 0 ∷ 0 ∷ 0 ∷ 0 ∷ 1 ∷ 0 ∷ 0 ∷ []) ≡ 1 ∷ 0 ∷ []
unfolding decode survivor mark metric better choice via start toll price pairs out1 out2
tie = refl
