-- "They hold one bit for each agent reduced in the instant, and the count is proved to be the bits set before they are
-- cleared, status 2 aside" (W4). At the contracts of the functions that play an instant: marks to which nothing can be added
-- (Fixed), the scratch as the reading of the live agents leaves it (Ended), and as the one function that counts its bits
-- and clears them leaves it (Tallied).
--     Counted          the bits set are the agents reduced and their number is the count; at status 2 the count is 0; in
--                      either case the scratch is then zero
--     ScratchCount     it is so of every instant
use Rattle.std.specs.Prelude.{◌≡◌, Bool, List, ℕ, Option}
use Rattle.tcc.specs.Score.{Score}
use Rattle.tcc.specs.Instant.{Answer, count, instant}
use Rattle.lent.specs.Lengths.{no_scratch}
use Rattle.lent.specs.Scratch.{reduced_in}
use Rattle.instant_count.specs.Tallied.{Tallied}
use Rattle.instant_end.specs.Ended.{Ended}
use Rattle.instant_engine.specs.Marks.{Fixed}

pub record Counted (a : Answer) (marked cleared : List ℕ) (number : ℕ) : Type 0 where
  pub bits : (a.status ≡ 2 → ⊥) → reduced_in marked ≡ a.reduced
  pub counted : (a.status ≡ 2 → ⊥) → number ≡ count a
  pub aborted : a.status ≡ 2 → count a ≡ 0
  pub zero : cleared ≡ no_scratch

abbrev pub ScratchCount : Type 0
ScratchCount =
    (sc : Score) (agents inputs live held marked cleared : List ℕ) (end : Option (List Bool)) (number : ℕ) →
    Fixed sc agents inputs live held → Ended sc live held marked end → Tallied marked cleared number →
    Counted (instant sc agents inputs) marked cleared number
