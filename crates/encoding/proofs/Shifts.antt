-- Parts of a word that are shifted past each other add up.
--     or_above          a part shifted past all that stands below it
use mathlib.Core.Path.{◌≡◌, ap₂, ◌∙◌}
use Prim.Native.Nat.{ℕ, ◌+◌, ◌*◌, ◌%◌, ◌^◌, ◌<◌}
use native.Mathlib.Nat.{add_comm, mod-eq_of_lt}
use lib.Bits.{bit_or, or_shifted_r}

pub or_above : {w : ℕ} (low part k : ℕ) → w ≡ low → low < 2 ^ k → part * 2 ^ k < 2 ^ 32 → bit_or w (part * 2 ^ k % 2 ^ 32) ≡ low + part * 2 ^ k
or_above low part k is under fits = ap₂ bit_or is (mod-eq_of_lt fits) ∙ or_shifted_r part k low under ∙ add_comm (part * 2 ^ k) low
