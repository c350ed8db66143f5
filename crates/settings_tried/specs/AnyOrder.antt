-- The order in which the switches are listed changes none of the three numbers.
--     Reordered     one list is the other in another order: each number is as often in both
--     AnyOrder      the claim
use Rattle.std.specs.Prelude.{◌≡◌, List, ℕ}
use Rattle.tcc.specs.Score.{Score}
use Rattle.tcc.specs.Instant.{State}
use Rattle.tcc.specs.SameCopies.{copies_of}
use Rattle.settings_tried.specs.Settings.{settings, counts}

abbrev pub Reordered : List ℕ → List ℕ → Type 0
Reordered l m = (t : ℕ) → copies_of t l ≡ copies_of t m

abbrev pub AnyOrder : Type 0
AnyOrder =
    (sc : Score) (st : State) (k : ℕ) (switches others : List ℕ) → Reordered switches others →
    counts sc st (settings k switches) ≡ counts sc st (settings k others)
