-- The bytes of a draft, with each watch as a when.
--     byte_kept            a byte stays that is not the highest of an agent word, or is below 240
--     byte_less            any other is less by 128
--     as_whens_length      as many bytes
--     as_whens_at          byte n
--     as_whens_filled      a buffer in which each byte is so begins with them
use mathlib.Core.Path.{◌≡◌, refl, sym, ap, ◌∙◌}
use mathlib.Core.Bool.{Bool, true, false, cond, ◌&&◌}
use mathlib.Core.List.{List, [], ◌∷◌}
use Prim.Native.Nat.{ℕ, zero, suc, ◌+◌, ◌*◌, ◌-◌, ◌%◌, ◌<◌, ◌≤◌}
use native.Mathlib.Nat.{not-suc-le-zero, le_of_suc-le-suc}
use native.Mathlib.Omega.{arith}
use borrow.Author.Tests.{eqb-true, leb-true, ltb-true, eq-eqb, le-leb, lt-ltb}
use lib.Dec.{eqb, leb, ltb}
use lib.ListN.{length, get_or, take}
use lib.Seq.{length-take-le, get_or-take, ext_get_or}
use Rattle.laws.proofs.Booleans.{and_both}
use Rattle.format.specs.Decode.{sizes}
use Rattle.draft_format.specs.DraftFile.{when_byte, as_whens_from, as_whens}

module _ (agents n b : ℕ) where
  pub byte_kept : (n % 4 ≡ 3 → 8 ≤ n → n < 8 + 4 * agents → 240 ≤ b → ⊥) → when_byte agents n b ≡ b
  byte_kept h = go (eqb (n % 4) 3 && leb 8 n && ltb n (8 + 4 * agents) && leb 240 b) refl
    where
      go : (t : Bool) → (eqb (n % 4) 3 && leb 8 n && ltb n (8 + 4 * agents) && leb 240 b) ≡ t → cond t (b - 128) b ≡ b
      go true e =
          let all = and_both (eqb (n % 4) 3 && leb 8 n && ltb n (8 + 4 * agents)) (leb 240 b) e in
          let place = and_both (eqb (n % 4) 3 && leb 8 n) (ltb n (8 + 4 * agents)) all.0 in
          let start = and_both (eqb (n % 4) 3) (leb 8 n) place.0 in
          absurd (h (eqb-true (n % 4) 3 start.0) (leb-true 8 n start.1) (ltb-true n (8 + 4 * agents) place.1) (leb-true 240 b all.1))
      go false e = refl

  pub byte_less : n % 4 ≡ 3 → 8 ≤ n → n < 8 + 4 * agents → 240 ≤ b → when_byte agents n b ≡ b - 128
  byte_less top from to high = rw (eq-eqb (n % 4) 3 top, le-leb 8 n from, lt-ltb n (8 + 4 * agents) to, le-leb 240 b high)

from_length : (agents n : ℕ) (s : List ℕ) → length (as_whens_from agents n s) ≡ length s
unfolding as_whens_from
from_length agents n [] = refl
from_length agents n (b ∷ s) = ap suc (from_length agents (suc n) s)

from_at : (agents m k : ℕ) (s : List ℕ) (n : ℕ) → m + n ≡ k → n < length s → get_or (as_whens_from agents m s) n 0 ≡ when_byte agents k (get_or s n 0)
unfolding as_whens_from
from_at agents m k [] n e h = absurd (not-suc-le-zero h)
from_at agents m k (b ∷ s) zero e h = let z : m ≡ k = omega arith in ap (λ j. when_byte agents j b) z
from_at agents m k (b ∷ s) (suc n) e h = from_at agents (suc m) k s n (omega arith) (le_of_suc-le-suc h)

module _ (s : List ℕ) where
  pub as_whens_length : length (as_whens s) ≡ length s
  as_whens_length = from_length (sizes s).agents 0 s

  pub as_whens_at : (n : ℕ) → n < length s → get_or (as_whens s) n 0 ≡ when_byte (sizes s).agents n (get_or s n 0)
  as_whens_at n h = from_at (sizes s).agents 0 n s n (omega arith) h

  pub as_whens_filled : (buffer : List ℕ) → length s ≤ length buffer →
      ((n : ℕ) → n < length s → get_or buffer n 0 ≡ when_byte (sizes s).agents n (get_or s n 0)) → take (length s) buffer ≡ as_whens s
  as_whens_filled buffer room filled =
      let long : length (take (length s) buffer) ≡ length s = length-take-le (length s) buffer room in
      ext_get_or 0 (take (length s) buffer) (as_whens s) (long ∙ sym as_whens_length)
      (λ n lt. let h : n < length s = omega arith in get_or-take (length s) buffer n 0 h ∙ filled n h ∙ sym (as_whens_at n h))
