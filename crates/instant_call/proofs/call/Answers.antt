-- `call`: each test in the order of the table, then the answer.
--     state_tested, tokens_read, input_tested     the tests of the state and of the input, at the sizes that the score says
--     inside, outcome_is                          the answer that is given, once 1 to 10 have been tried
use mathlib.Core.Bool.{true≢false}
use native.Mathlib.Numerals.{add-one}
use Rattle.std.proofs.Common.{◌≡◌, refl, sym, ap, ◌∙◌, ℕ, suc, Bool, false, List, length, get_or, arith}
use mathlib.Core.Path.{ap₂, subst⁻¹}
use lib.Dec.{leb}
use Rattle.laws.specs.Sets.{any}
use Rattle.laws.proofs.Sets.{none_above}
use Rattle.tcc.specs.Instant.{Answer, answer}
use Rattle.format.specs.Decode.{sizes, decode}
use Rattle.format.proofs.Decode.{decode_tokens, sizes_few, playable_agents}
use Rattle.check_verdicts.specs.Verdicts.{verdict_number}
use Rattle.check_score.specs.Check.{verdict}
use Rattle.check_score.proofs.Stages.{playable}
use Rattle.refusals.proofs.ByVerdict.{accepted, by_question}
use Rattle.flags.specs.Flags.{set_of}
use Rattle.instant_engine.specs.declared.Outcome.{Outcome}
use Rattle.instant_engine.specs.Outcome.{outcome_of}
use Rattle.bits.proofs.Filled.{none_from, from_none}
use Rattle.lent.specs.States.{state_fault, state_of, LawfulState}
use Rattle.lent.proofs.Round.{faultless_lawful}
use Rattle.lent_maps.specs.Maps.{tokens_in}
use Rattle.lent_maps.proofs.Tokens.{tokens_set}
use Rattle.instant_state.proofs.Inside.{Inside, answer_inside, next_lawful, flags_known}
use Rattle.instant_call.specs.InstantCall.{lent, token_fault}
use Rattle.instant_call.proofs.Exits.{turned, lengths, state, input, last, settled, handed}
use Rattle.instant_call.proofs.call.Goals as goal

module _ (score given old : List ℕ) where
  module _ {s : List ℕ} (same : s ≡ score) {n : ℕ} {f : Bool} where
    state_tested : n ≡ (sizes s).agents → f ≡ state_fault n old → f ≡ state_fault (sizes score).agents old
    state_tested agents is = is ∙ ap (λ n. state_fault n old) (agents ∙ ap (λ s. (sizes s).agents) same)

    input_tested : n ≡ (sizes s).tokens → (inputs : List Bool) → set_of inputs ≡ tokens_in given → f ≡ any (λ t. leb n t) (set_of inputs) → f ≡ token_fault score given
    input_tested tokens inputs read is = is ∙ ap₂ (λ n l. any (λ t. leb n t) l) (tokens ∙ ap (λ s. (sizes s).tokens) same) read

  abbrev answer_here : Answer
  answer_here = answer (decode score) (state_of old) (tokens_in given)

  outcome_is : {s : List ℕ} → s ≡ score → {o : Outcome} (inputs : List Bool) → set_of inputs ≡ tokens_in given → o ≡ outcome_of (answer (decode s) (state_of old) (set_of inputs)) → o ≡ outcome_of answer_here
  outcome_is same inputs read is = is ∙ ap₂ (λ s l. outcome_of (answer (decode s) (state_of old) l)) same read

  inside : verdict_number (verdict score) ≡ 0 → state_fault (sizes score).agents old ≡ false → token_fault score given ≡ false → Inside (decode score) answer_here
  inside accepted lawful known =
      let p = playable score accepted in
      answer_inside (decode score) (state_of old) (tokens_in given) p.lawful
      (subst⁻¹ (λ n. LawfulState n (state_of old)) (playable_agents score p) (faultless_lawful (sizes score).agents old lawful))
      (λ t m. omega (arith, decode_tokens score, none_above (sizes score).tokens (tokens_in given) known t m))

pub returns-in_err-check : goal.returns-in_err-check
returns-in_err-check c =
    let a = c.args in
    let l = lent a.state.now a.store.now a.output.now a.scratch.now in
    record { exits = ap (λ r. record { lent = l; reply = r }) (by_question c.from_residual.result c.from_residual.ensures.1) ∙ turned a.score.now a.input.now l (sym c.in_err-check.was ∙ c.check.ensures) }

pub returns-then-wrong_length : goal.returns-then-wrong_length
returns-then-wrong_length c =
    let a = c.args in
    let l = lent a.state.now a.store.now a.output.now a.scratch.now in
    record { exits = lengths a.score.now a.input.now l (accepted c.check.ensures c.in_ok-check.was) (sym c.wrong_length.ensures ∙ c.if-wrong_length.true) }

pub prepare-prepared-requires : goal.prepare-prepared-requires
prepare-prepared-requires c = playable c.args.score.now (accepted c.check.ensures c.in_ok-check.was)

pub returns-then-state_fault : goal.returns-then-state_fault
returns-then-state_fault c =
    let a = c.args in
    let l = lent a.state.now a.store.now a.output.now a.scratch.now in
    let long = sym c.wrong_length.ensures ∙ c.if-wrong_length.false in
    let same = c.prepare-prepared.ensures in
    let faulty = sym (state_tested a.score.now a.input.now a.state.now same c.agents.ensures c.state_fault.ensures) ∙ c.if-state_fault.true in
    record { exits = state a.score.now a.input.now l (accepted c.check.ensures c.in_ok-check.was) long faulty }

pub returns-then-any_from : goal.returns-then-any_from
returns-then-any_from c =
    let a = c.args in
    let l = lent a.state.now a.store.now a.output.now a.scratch.now in
    let long = sym c.wrong_length.ensures ∙ c.if-wrong_length.false in
    let same = c.prepare-prepared.ensures in
    let lawful = sym (state_tested a.score.now a.input.now a.state.now same c.agents.ensures c.state_fault.ensures) ∙ c.if-state_fault.false in
    let read = ap set_of c.read_map-inputs.ensures ∙ tokens_set a.input.now in
    let unknown = sym (input_tested a.score.now a.input.now a.state.now same c.tokens.ensures _ read c.any_from.ensures) ∙ c.if-any_from.true in
    record { exits = input a.score.now a.input.now l (accepted c.check.ensures c.in_ok-check.was) long lawful unknown }

pub returns-then-number : goal.returns-then-number
returns-then-number c =
    let a = c.args in
    let l = lent a.state.now a.store.now a.output.now a.scratch.now in
    let long = sym c.wrong_length.ensures ∙ c.if-wrong_length.false in
    let same = c.prepare-prepared.ensures in
    let lawful = sym (state_tested a.score.now a.input.now a.state.now same c.agents.ensures c.state_fault.ensures) ∙ c.if-state_fault.false in
    let read = ap set_of c.read_map-inputs.ensures ∙ tokens_set a.input.now in
    let known = sym (input_tested a.score.now a.input.now a.state.now same c.tokens.ensures _ read c.any_from.ensures) ∙ c.if-any_from.false in
    record { exits = last a.score.now a.input.now l (accepted c.check.ensures c.in_ok-check.was) long lawful known c.number_in-number.ensures c.if-number.true }

-- 11 is not met
pub returns-then-any_from-2 : goal.returns-then-any_from-2
unfolding outcome_of
returns-then-any_from-2 c =
    let s = c.args.score.now in
    let given = c.args.input.now in
    let old = c.args.state.now in
    let ok = accepted c.check.ensures c.in_ok-check.was in
    let same = c.prepare-prepared.ensures in
    let lawful = sym (state_tested s given old same c.agents.ensures c.state_fault.ensures) ∙ c.if-state_fault.false in
    let read = ap set_of c.read_map-inputs.ensures ∙ tokens_set given in
    let known = sym (input_tested s given old same c.tokens.ensures _ read c.any_from.ensures) ∙ c.if-any_from.false in
    let is = outcome_is s given old same _ read c.answer_in-outcome.ensures.value in
    let h = c.agents-2.ensures ∙ ap (λ s. (sizes s).agents) same in
    let e = playable_agents s (playable s ok) in
    let none : any (λ i. leb c.agents-2.result i) (set_of c.answer_in-outcome.result.awake) ≡ false =
    from_none _ _ (λ i le. ap (λ o. get_or o.awake i false) is ∙ flags_known 1024 (length (decode s).agents) (answer_here s given old).awake (inside s given old ok lawful known).agents i (omega (arith, h, e))) in
    absurd (true≢false (sym c.if-any_from-2.true ∙ c.any_from-2.ensures ∙ none))

pub hand_over-requires-clause-known : goal.hand_over-requires-clause-known
unfolding outcome_of
hand_over-requires-clause-known c =
    let s = c.args.score.now in
    let given = c.args.input.now in
    let old = c.args.state.now in
    let ok = accepted c.check.ensures c.in_ok-check.was in
    let same = c.prepare-prepared.ensures in
    let lawful = sym (state_tested s given old same c.agents.ensures c.state_fault.ensures) ∙ c.if-state_fault.false in
    let read = ap set_of c.read_map-inputs.ensures ∙ tokens_set given in
    let known = sym (input_tested s given old same c.tokens.ensures _ read c.any_from.ensures) ∙ c.if-any_from.false in
    let is = outcome_is s given old same _ read c.answer_in-outcome.ensures.value in
    record {
      agents = λ i le. none_from _ _ (sym c.any_from-2.ensures ∙ c.if-any_from-2.false) i (omega (arith, c.agents-2.ensures));
      tokens =
          λ t le.
          ap (λ o. get_or o.store t false) is
          ∙ flags_known 256 (decode s).tokens (answer_here s given old).store (inside s given old ok lawful known).tokens t (omega (arith, decode_tokens s, ap (λ s. (sizes s).tokens) same));
    }

pub returns : goal.returns
returns c =
    let a = c.args in
    let s = a.score.now in
    let given = a.input.now in
    let old = a.state.now in
    let l = lent old a.store.now a.output.now a.scratch.now in
    let ok = accepted c.check.ensures c.in_ok-check.was in
    let long = sym c.wrong_length.ensures ∙ c.if-wrong_length.false in
    let same = c.prepare-prepared.ensures in
    let lawful = sym (state_tested s given old same c.agents.ensures c.state_fault.ensures) ∙ c.if-state_fault.false in
    let read = ap set_of c.read_map-inputs.ensures ∙ tokens_set given in
    let known = sym (input_tested s given old same c.tokens.ensures _ read c.any_from.ensures) ∙ c.if-any_from.false in
    let is = outcome_is s given old same _ read c.answer_in-outcome.ensures.value in
    let sc = decode s in
    let answered = answer_here s given old in
    let i = inside s given old ok lawful known in
    let few = sizes_few s in
    let n = playable_agents s (playable s ok) in
    let t = decode_tokens s in
    record {
      exits =
          handed sc answered (omega arith) (omega arith) i is (rw same at c.hand_over.ensures) old (add-one c.number_in-number.result ∙ ap suc c.number_in-number.ensures) c.answer_in-outcome.ensures.scratch_after
          (settled s given l ok long lawful known c.number_in-number.ensures c.if-number.false answered refl (next_lawful sc answered (sizes s).agents n (omega arith) i));
    }
