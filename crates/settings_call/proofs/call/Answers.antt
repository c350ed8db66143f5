-- `call`: each test in the order of the table, then the settings.
--     fault                                          the test of the list alone, at the sizes that the score says
--     pressed_faulty, pressed_over, pressed_well     number 17 by its two tests
use mathlib.Core.Bool.{not}
use mathlib.Core.Logic.{⊎_elim}
use borrow.Author.Tests.{eq-eqb, ne_eqb, le-leb, lt-leb}
use Rattle.std.proofs.Common.{◌≡◌, sym, ap, ◌∙◌, ℕ, ◌<◌, ◌≤◌, Bool, true, false, List, length, arith}
use Rattle.format.specs.Decode.{sizes}
use Rattle.check_score.proofs.Stages.{playable}
use Rattle.refusals.proofs.ByVerdict.{by_question}
use Rattle.refusals.proofs.ByVerdict as stages
use Rattle.lent.specs.Lengths.{state_bytes}
use Rattle.lent.specs.States.{state_fault}
use Rattle.settings_switches.specs.Switches.{switch_fault}
use Rattle.settings_switches.proofs.Listed.{faultless}
use Rattle.settings_call.specs.SettingsCall.{press_fault}
use Rattle.settings_call.proofs.Replies.{turned, lengths, state, switched, counts_all, from_standing}
use Rattle.settings_call.proofs.call.Goals as goal

module _ (score switches : List ℕ) (k n : ℕ) (f : Bool) (f_is : f ≡ switch_fault n switches) (n_is : n ≡ (sizes score).tokens) where
  fault : f ≡ switch_fault (sizes score).tokens switches
  fault = f_is ∙ ap (λ n. switch_fault n switches) n_is

  pressed_faulty : f ≡ true → press_fault (sizes score).tokens switches k ≡ true
  pressed_faulty e = rw (← fault, e)

  pressed_over : f ≡ false → length switches < k → press_fault (sizes score).tokens switches k ≡ true
  pressed_over e over = rw (← fault, e) (le-leb _ _ over)

  pressed_well : f ≡ false → k ≤ length switches → press_fault (sizes score).tokens switches k ≡ false
  pressed_well e few = rw (← fault, e) (lt-leb _ _ (omega arith))

pub returns-in_err-check : goal.returns-in_err-check
returns-in_err-check c =
    let a = c.args in
    record { replies = by_question c.from_residual.result c.from_residual.ensures.1 ∙ turned a.score.now a.state.now a.switches.now a.k (sym c.in_err-check.was ∙ c.check.ensures) }

pub returns-then-state-ne-STATE_BYTES : goal.returns-then-state-ne-STATE_BYTES
returns-then-state-ne-STATE_BYTES c =
    let a = c.args in
    let accepted = stages.accepted c.check.ensures c.in_ok-check.was in
    record { replies = lengths a.score.now a.state.now a.switches.now a.k accepted (ap not (ne_eqb (length a.state.now) state_bytes c.if-state-ne-STATE_BYTES.true)) }

pub prepare-prepared-requires : goal.prepare-prepared-requires
prepare-prepared-requires c =
    let a = c.args in
    playable a.score.now (stages.accepted c.check.ensures c.in_ok-check.was)

pub returns-then-state_fault : goal.returns-then-state_fault
returns-then-state_fault c =
    let a = c.args in
    let accepted = stages.accepted c.check.ensures c.in_ok-check.was in
    let long = ap not (eq-eqb (length a.state.now) state_bytes c.if-state-ne-STATE_BYTES.false) in
    let agents = c.agents.ensures ∙ ap (λ s. (sizes s).agents) c.prepare-prepared.ensures in
    let fault_is = c.state_fault.ensures ∙ ap (λ n. state_fault n a.state.now) agents in
    record { replies = state a.score.now a.state.now a.switches.now a.k accepted long (sym fault_is ∙ c.if-state_fault.true) }

pub returns-then-switch_fault : goal.returns-then-switch_fault
returns-then-switch_fault c =
    let a = c.args in
    let accepted = stages.accepted c.check.ensures c.in_ok-check.was in
    let long = ap not (eq-eqb (length a.state.now) state_bytes c.if-state-ne-STATE_BYTES.false) in
    let agents = c.agents.ensures ∙ ap (λ s. (sizes s).agents) c.prepare-prepared.ensures in
    let fault_is = c.state_fault.ensures ∙ ap (λ n. state_fault n a.state.now) agents in
    let tokens = c.tokens.ensures ∙ ap (λ s. (sizes s).tokens) c.prepare-prepared.ensures in
    let pressed : press_fault (sizes a.score.now).tokens a.switches.now a.k ≡ true =
    ⊎_elim (λ e. pressed_faulty _ _ _ _ _ c.switch_fault.ensures tokens e) (λ e. pressed_over _ _ _ _ _ c.switch_fault.ensures tokens e.0 e.1) c.then-switch_fault.either in
    record { replies = switched a.score.now a.state.now a.switches.now a.k accepted long (sym fault_is ∙ c.if-state_fault.false) pressed }

pub try_settings-requires : goal.try_settings-requires
try_settings-requires c = (faultless _ c.args.switches.now (sym c.switch_fault.ensures ∙ c.if-switch_fault.false)).0

pub returns : goal.returns
returns c =
    let a = c.args in
    let accepted = stages.accepted c.check.ensures c.in_ok-check.was in
    let long = ap not (eq-eqb (length a.state.now) state_bytes c.if-state-ne-STATE_BYTES.false) in
    let agents = c.agents.ensures ∙ ap (λ s. (sizes s).agents) c.prepare-prepared.ensures in
    let fault_is = c.state_fault.ensures ∙ ap (λ n. state_fault n a.state.now) agents in
    let tokens = c.tokens.ensures ∙ ap (λ s. (sizes s).tokens) c.prepare-prepared.ensures in
    let pressed = pressed_well _ _ a.k _ _ c.switch_fault.ensures tokens c.if-switch_fault.false (omega arith) in
    record {
      replies =
          counts_all a.score.now a.state.now a.switches.now a.k accepted long (sym fault_is ∙ c.if-state_fault.false) pressed _
          ((rw c.prepare-prepared.ensures at c.try_settings.ensures.value) ∙ from_standing a.score.now a.state.now a.switches.now a.k _ c.standing_in-running.ensures);
    }
