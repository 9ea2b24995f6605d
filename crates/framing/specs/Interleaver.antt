-- The interleaver (01, "Interleaver"): 584 symbols, 73 columns by 8 rows, written by columns, read by rows. Assumes nothing.
use Rattle.std.specs.Prelude.{List, ℕ, ◌+◌, ◌*◌, ◌/◌, ◌%◌}
use Rattle.bits.specs.Lists.{at, build}

-- counting from 0, the place at which coded symbol i travels
abbrev pub place : ℕ → ℕ
place i = i % 8 * 73 + i / 8

-- the coded symbol that travels at place k; `place_home` and `home_place` of proofs/: each undoes the other; `travels`: coded symbol i travels at
-- place i
abbrev pub home : ℕ → ℕ
home k = k % 73 * 8 + k / 73

unfoldable pub interleaved : List ℕ → List ℕ
interleaved coded = build 584 (λ k. at coded (home k))

unfoldable pub deinterleaved : List ℕ → List ℕ
deinterleaved sent = build 584 (λ i. at sent (place i))
