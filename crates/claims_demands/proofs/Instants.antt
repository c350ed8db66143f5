-- Answered instants, held against the definition of an instant.
--     made_by              the instant that the definition gives from a state on input tokens
--     IsInstant            the score is accepted, the state has its length, no fault and is not at the last number, the
--                          inputs are the score's tokens, and the definition gives the instant
--     accepted_instant     an accepted instant call's instant is one
--     refused_state        any other instant call leaves the state as it was
--     instant_eleven       no instant call answers 11
--     settled_instant      where all that is lent is right, a call that meets the contract is accepted
--     instant_inside       the agents and tokens of an instant are the score's
--     after_round          the state after an instant stands for the one that the definition gives
--     sent_back            the output map has the tokens of the definition's output
--     instant_shown        a journal shows its status, inputs and output
use mathlib.Core.Path.{◌≡◌, refl, sym, ap, ap₂, subst⁻¹, ◌∙◌}
use mathlib.Core.Bool.{false}
use mathlib.Core.List.{List}
use Prim.Native.Nat.{ℕ, suc}
use native.Mathlib.Omega.{arith}
use lib.ListN.{length}
use Rattle.tcc.specs.Instant.{output, after}
use Rattle.format.specs.Decode.{sizes, decode}
use Rattle.check_verdicts.specs.Verdicts.{verdict_number}
use Rattle.check_score.specs.Check as check
use Rattle.lent.specs.Lengths.{state_bytes}
use Rattle.lent.specs.States.{state_fault, state_of, instant_number, next_bytes, at_last, SameState}
use Rattle.lent.proofs.Numbered.{numbered_round}
use Rattle.lent_maps.specs.Maps.{tokens_in, map_of}
use Rattle.instant_state.proofs.Inside.{Inside, after_lawful}
use Rattle.instant_call.specs.InstantCall.{Lent, Exit, exit}
use Rattle.instant_call.proofs.Exits.{right_lengths}
use Rattle.journal_words.specs.History.{instant_words, entry}
use Rattle.journal_words.proofs.Rising.{output_rising, rising_map}
use Rattle.score_answer.specs.Answer.{number_of, status_of, number_in, status_in}
use Rattle.score_answer.specs.Replies.{of_reply}
use Rattle.score.specs.ScoreInstant.{ScoreInstant}
use Rattle.score.proofs.ScoreInstant.{read}
use Rattle.claims_demands.specs.Calls.{Answered, answered_by}
use Rattle.claims_demands.proofs.Accepted.{given, Known, input_known, lawful, given_inside}
use Rattle.claims_demands.proofs.InstantExit.{Fit, Outcome, refuses, answers, outcome, fit_answered}

abbrev pub made_by : List ℕ → List ℕ → List ℕ → Answered
made_by score s inputs =
    record {
      before = s;
      inputs = inputs;
      status = (given score s inputs).status;
      store = map_of (given score s inputs).store;
      output = map_of (output (decode score) (given score s inputs).status (given score s inputs).store);
      after = next_bytes s (given score s inputs);
    }

pub record IsInstant (score : List ℕ) (p : Answered) : Type 0 where
  pub accepted : verdict_number (check.verdict score) ≡ 0
  pub long : length p.before ≡ state_bytes
  pub faultless : state_fault (sizes score).agents p.before ≡ false
  pub known : Known score p.inputs
  pub below : at_last p.before ≡ false
  pub is : p ≡ made_by score p.before p.inputs

module _ {score input : List ℕ} {l m : Lent} {a : ℕ} (c : ScoreInstant score input l m a) where
  number_is : (e : Exit) → exit score input l ≡ e → number_in a ≡ number_of (of_reply e.reply)
  number_is e q = (read score input l m a c).number ∙ ap (λ x. number_of (of_reply x.reply)) q

  pub accepted_instant : number_in a ≡ 0 → IsInstant score (answered_by (tokens_in input) l m a)
  accepted_instant n = go (exit score input l) refl (outcome score input l)
    where
      go : (e : Exit) → exit score input l ≡ e → Outcome score input l e → IsInstant score (answered_by (tokens_in input) l m a)
      go e q (refuses r not-zero not_eleven) = absurd (not-zero (sym (number_is e q) ∙ n))
      go e q (answers f) =
          let status : status_in a ≡ (given score l.state (tokens_in input)).status = (read score input l m a c).status ∙ ap (λ x. status_of (of_reply x.reply)) q in
          let lent : m ≡ e.lent = c.written ∙ ap (λ x. x.lent) q in
          record {
            accepted = f.accepted;
            long = (right_lengths input l f.long).state_long;
            faultless = f.faultless;
            known = input_known score input f.known;
            below = f.below;
            is = λ i. record { before = l.state; inputs = tokens_in input; status = status i; store = (lent i).store; output = (lent i).output; after = (lent i).state };
          }

  pub refused_state : (number_in a ≡ 0 → ⊥) → m.state ≡ l.state
  refused_state n = go (exit score input l) refl (outcome score input l)
    where
      go : (e : Exit) → exit score input l ≡ e → Outcome score input l e → m.state ≡ l.state
      go e q (refuses r not-zero not_eleven) = ap (λ x. x.state) c.written ∙ ap (λ x. x.lent.state) q
      go e q (answers f) = absurd (n (number_is e q))

  pub instant_eleven : number_in a ≡ 11 → ⊥
  instant_eleven n = go (exit score input l) refl (outcome score input l)
    where
      go : (e : Exit) → exit score input l ≡ e → Outcome score input l e → ⊥
      go e q (refuses r not-zero not_eleven) = not_eleven (sym (number_is e q) ∙ n)
      go e q (answers f) = omega (arith, number_is e q)

  pub settled_instant : Fit score input l → number_in a ≡ 0
  settled_instant f = number_is _ (sym (fit_answered score input l f))

module _ {score : List ℕ} {p : Answered} (h : IsInstant score p) where
  pub instant_inside : Inside (decode score) (given score p.before p.inputs)
  instant_inside = given_inside score h.accepted p.before h.faultless p.inputs h.known

  pub after_round : SameState (state_of p.after) (after (given score p.before p.inputs))
  after_round =
      let a = given score p.before p.inputs in
      subst⁻¹ (λ (q : Answered). SameState (state_of q.after) (after a)) h.is (numbered_round (after a) (suc (instant_number p.before)) (after_lawful (decode score) a 1024 (lawful score h.accepted).agents_at_most instant_inside))

  pub sent_back : tokens_in p.output ≡ output (decode score) (given score p.before p.inputs).status (given score p.before p.inputs).store
  sent_back =
      let sc = decode score in
      let a = given score p.before p.inputs in
      let law = lawful score h.accepted in
      ap (λ q. tokens_in q.output) h.is
      ∙ rising_map sc.tokens (output sc a.status a.store) law.tokens_at_most (output_rising sc a.status a.store law.ports_ordered law.ports_known)

  pub instant_shown : instant_words p.status p.inputs (tokens_in p.output) ≡ entry (decode score) p.inputs (given score p.before p.inputs)
  instant_shown = ap₂ (λ status sent. instant_words status p.inputs sent) (ap (λ q. q.status) h.is) sent_back
