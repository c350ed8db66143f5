-- Contracts of inner functions: words put into bytes.
--     put            the bytes, with words from a word on, and all others as they were
use Rattle.std.specs.Prelude.{List, ◌++◌, ℕ, ◌+◌, ◌*◌, length, take, drop}
use Rattle.bits.specs.Bits.{bytes_of}

abbrev pub put : ℕ → List ℕ → List ℕ → List ℕ
put from ws bytes = take (4 * from) bytes ++ bytes_of ws ++ drop (4 * (from + length ws)) bytes
