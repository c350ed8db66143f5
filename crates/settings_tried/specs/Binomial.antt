-- "together they are the number of settings" (W6): the binomial coefficient.
--     choose      how many ways there are to choose k of n, by Pascal's rule
--     AddUp       of any switches, distinct or not, the settings are so many, and the three numbers add up to it
use Rattle.std.specs.Prelude.{◌≡◌, List, ℕ, zero, suc, ◌+◌, length}
use Rattle.tcc.specs.Score.{Score}
use Rattle.tcc.specs.Instant.{State}
use Rattle.settings_tried.specs.Settings.{settings, counts}

abbrev pub choose : ℕ → ℕ → ℕ
choose n zero = 1
choose zero (suc k) = 0
choose (suc n) (suc k) = choose n k + choose n (suc k)

abbrev pub AddUp : Type 0
AddUp =
    (sc : Score) (st : State) (k : ℕ) (switches : List ℕ) →
    let c = counts sc st (settings k switches) in
    (length (settings k switches) ≡ choose (length switches) k) × (c.quiet + c.clashed + c.aborted ≡ choose (length switches) k)
