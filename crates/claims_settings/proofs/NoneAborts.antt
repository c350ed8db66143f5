-- Where no setting is counted under 2, none aborts.
--     no_call_aborts, no_order_aborts      of the instant call, and of any order
--     none_aborts                          both: the theorem
use mathlib.Core.Path.{◌≡◌, refl, sym, ap, ◌∙◌}
use mathlib.Core.Bool.{Bool, true, false, cond}
use mathlib.Core.List.{List}
use Prim.Native.Nat.{ℕ}
use native.Mathlib.Omega.{arith}
use lib.Dec.{eqb}
use Rattle.tcc.specs.Instant.{running, aborted, answer, instant}
use Rattle.tcc.proofs.Confluence.{confluence}
use Rattle.words.specs.Word.{word_at}
use Rattle.format.specs.Decode.{decode}
use Rattle.lent.specs.States.{aborted_word, agents_in, state_of}
use Rattle.settings_tried.specs.AllSettings.{Setting}
use Rattle.score_answer.specs.Answer.{settings_in}
use Rattle.claims_settings.specs.NoneAborts.{NoCallAborts, NoOrderAborts, NoneAborts}
use Rattle.claims_settings.proofs.Counts.{Found, found}
use Rattle.claims_settings.proofs.Tried.{tried_ends, as_tried, ending_some}

module _ {score state switches : List ℕ} {k answered : ℕ} (f : Found score state switches k answered) (none : settings_in answered 2 ≡ 0) (set : List ℕ) (setting : Setting k switches set) where
  unaborted : (answer (decode score) (state_of state) set).status ≡ 2 → ⊥
  unaborted e =
      let (s, m, same) = as_tried f.accepts set setting in
      omega (arith, none, f.counts 2 (omega arith), ending_some (decode score) (state_of state) 2 m (sym same ∙ e))

pub no_call_aborts : NoCallAborts
no_call_aborts score state switches k a c n none set setting status t =
    let f = found c n in
    let (accepted, is) = tried_ends f.accepts set setting t in
    (accepted, λ two. unaborted f none set setting (sym is ∙ two))

-- an instant that aborts from the agents awake in a state aborts in it
aborts_too : (score state set : List ℕ) → (instant (decode score) (agents_in state) set).status ≡ 2 → (answer (decode score) (state_of state) set).status ≡ 2
unfolding answer state_of
aborts_too score state set e = go (eqb (word_at state 0) aborted_word)
  where
    go : (b : Bool) → (answer (decode score) (cond b aborted (running (agents_in state))) set).status ≡ 2
    go true = refl
    go false = e

pub no_order_aborts : NoOrderAborts
no_order_aborts score state switches k a c n none set setting copies s steps same closes order =
    unaborted (found c n) none set setting
    (aborts_too score state set (ap (λ x. x.status) (confluence (decode score) (agents_in state) copies set s steps _ same closes order tt)))

pub none_aborts : NoneAborts
none_aborts = (no_call_aborts, no_order_aborts)
