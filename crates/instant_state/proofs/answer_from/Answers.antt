-- By whether the score is running.
use Rattle.std.proofs.Common.{◌≡◌, sym, ap, ◌∙◌, true, false, cond, Bool, ℕ, List, replicate}
use mathlib.Core.Path.{ap₂}
use Rattle.tcc.specs.Score.{Score}
use Rattle.tcc.specs.Instant.{running, aborted, aborted_answer, instant, answer}
use Rattle.format.specs.Decode.{decode}
use Rattle.flags.specs.Flags.{set_of}
use Rattle.instant_engine.specs.declared.Outcome.{Outcome}
use Rattle.instant_engine.specs.Outcome.{outcome_of}
use Rattle.instant_engine.proofs.Outcomes.{flags_none}
use Rattle.instant_state.specs.declared.Standing.{Standing}
use Rattle.instant_state.specs.Standing.{state_in}
use Rattle.instant_state.proofs.answer_from.Goals as goal

none_outcome : ◌≡◌ {A = Outcome} (record { status = 2; count = 0; store = replicate 256 false; awake = replicate 1024 false }) (outcome_of aborted_answer)
unfolding outcome_of
none_outcome = ap₂ (λ (s w : List Bool). record { status = 2; count = 0; store = s; awake = w }) (flags_none 256) (flags_none 1024)

running_answer : (sc : Score) (s : Standing) (inputs : List ℕ) → s.running ≡ true → answer sc (state_in s) inputs ≡ instant sc (set_of s.awake) inputs
unfolding state_in answer
running_answer sc s inputs e = ap (λ b. answer sc (cond b (running (set_of s.awake)) aborted) inputs) e

aborted_answer_lem : (sc : Score) (s : Standing) (inputs : List ℕ) → s.running ≡ false → answer sc (state_in s) inputs ≡ aborted_answer
unfolding state_in answer
aborted_answer_lem sc s inputs e = ap (λ b. answer sc (cond b (running (set_of s.awake)) aborted) inputs) e

pub returns-then-standing-clause-value : goal.returns-then-standing-clause-value
returns-then-standing-clause-value c =
    c.play.ensures.value ∙ sym (ap outcome_of (running_answer (decode c.args.prepared.now.bytes.now) c.args.standing (set_of c.args.inputs) c.if-standing.true))

pub returns-else-standing-clause-value : goal.returns-else-standing-clause-value
returns-else-standing-clause-value c =
    none_outcome ∙ sym (ap outcome_of (aborted_answer_lem (decode c.args.prepared.now.bytes.now) c.args.standing (set_of c.args.inputs) c.if-standing.false))
