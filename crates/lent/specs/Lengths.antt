-- The lengths in bytes of what the caller lends: a state of 34 words, the last one its number (W7). "Input, store and output
-- maps: 32 bytes." "An instant, a run and a journal check shall work in 128 bytes of scratch" (W4).
--     unnumbered_bytes                     a state's 33 words without its number
--     state_bytes, map_bytes, scratch_bytes
--     no_scratch                           a scratch that is all zero
use Rattle.std.specs.Prelude.{List, ℕ, ◌+◌, replicate}

abbrev pub unnumbered_bytes : ℕ
unnumbered_bytes = 132

abbrev pub state_bytes : ℕ
state_bytes = unnumbered_bytes + 4

abbrev pub map_bytes : ℕ
map_bytes = 32

abbrev pub scratch_bytes : ℕ
scratch_bytes = 128

abbrev pub no_scratch : List ℕ
no_scratch = replicate scratch_bytes 0
