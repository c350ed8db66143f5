-- The words before the first zero, counted.
--     shown_here     none from word k on, where word k is zero
--     shown_more     one more than from word k + 1 on, where it is not
--     shown_end      none past the last word
--     shown_few      no more than there are words
use mathlib.Core.Path.{◌≡◌}
use mathlib.Core.Bool.{Bool, true, false, cond}
use mathlib.Core.List.{List, [], ◌∷◌}
use Prim.Native.Nat.{ℕ, suc, ◌+◌, ◌<◌, ◌≤◌}
use borrow.Author.Tests.{eq-eqb, ne_eqb}
use native.Mathlib.Numerals.{add-one}
use native.Mathlib.Omega.{arith}
use lib.Dec.{eqb}
use lib.ListN.{length, get_or, drop, drop_of_length-le}
use lib.Seq.{drop-cons}
use Rattle.runner_text.specs.Shown.{shown}

module _ (ws : List ℕ) (k : ℕ) where
  pub shown_here : k < length ws → get_or ws k 0 ≡ 0 → length (shown (drop k ws)) ≡ 0
  shown_here lt z = rw (drop-cons ws k 0 lt, eq-eqb (get_or ws k 0) 0 z)

  pub shown_more : k < length ws → (get_or ws k 0 ≡ 0 → ⊥) → length (shown (drop k ws)) ≡ suc (length (shown (drop (k + 1) ws)))
  shown_more lt n = rw (add-one k, drop-cons ws k 0 lt, ne_eqb (get_or ws k 0) 0 n)

  pub shown_end : length ws ≤ k → length (shown (drop k ws)) ≡ 0
  shown_end le = rw (drop_of_length-le ws le)

pub shown_few : (ws : List ℕ) → length (shown ws) ≤ length ws
shown_few [] = omega arith
shown_few (w ∷ ws) = go (eqb w 0) (shown_few ws)
  where
    go : (b : Bool) → length (shown ws) ≤ length ws → length (cond b [] (w ∷ shown ws)) ≤ suc (length ws)
    go true le = omega arith
    go false le = omega arith
