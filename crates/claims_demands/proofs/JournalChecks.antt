-- Journal checks of an accepted score, held against the history from the start state.
--     start_stands         the start state's bytes stand for it
--     check_reply          with a scratch of its length, the reply is by the journal's form, then instant by instant
--     history_accepted     a history's journal is accepted, with its instants, if they are not past the last number
--     accepted_history     a journal that is accepted is a history's
use mathlib.Core.Path.{◌≡◌, refl, sym, ap, ap₂, subst⁻¹, ◌∙◌}
use mathlib.Core.Bool.{Bool, true, false, cond, not, ◌&&◌}
use mathlib.Core.List.Memᴰ
use mathlib.Core.List.{List, [], ◌∷◌, map, flatten}
use Prim.Native.Nat.{ℕ, suc, ◌≤◌}
use native.Mathlib.Omega.{arith}
use lib.ListN.{length, length-map}
use Rattle.laws.proofs.Sets.{Within, on_cons, on_map}
use Rattle.tcc.specs.Instant.{start_state, after}
use Rattle.words.specs.Word.{words}
use Rattle.format.specs.Decode.{sizes, decode}
use Rattle.format.proofs.Decode.{decode_tokens}
use Rattle.check_verdicts.specs.Verdicts.{verdict_number}
use Rattle.check_verdicts.proofs.Verdicts.{accepted_only}
use Rattle.check_score.specs.Check as check
use Rattle.bits.specs.Bits.{bytes_of}
use Rattle.lent.specs.States.{state_fault, as_bytes, instant_number, start_bytes, next_bytes, last_number, at_last, LawfulState}
use Rattle.lent.proofs.Numbered.{number_round}
use Rattle.lent.specs.Lengths.{scratch_bytes, no_scratch}
use Rattle.journal_form.specs.Form.{Form, Good, Bytes, Word, form_of}
use Rattle.journal_instants.specs.Instants.{instants_in, inputs_in}
use Rattle.journal_words.specs.History.{entry, RisingBelow, IsHistory}
use Rattle.journal_words.proofs.Forms.{good_whole, good_instants, good_words, bytes_words}
use Rattle.journal_words.proofs.Histories.{history_joined, history_good, history_instants}
use Rattle.journal_step.specs.Reply.{Reply}
use Rattle.refusals.specs.Refused.{Next as Unlawful, Differs}
use Rattle.journal_step.specs.Reply.{Accepted}
use Rattle.journal_step.specs.AnswerIn.{answer_in}
use Rattle.journal_step.specs.ByForm.{by_form}
use Rattle.journal_step.proofs.Stands.{Stands, written_stands}
use Rattle.journal_check.specs.Check.{same, check_from}
use Rattle.journal_check.specs.JournalCheckCall.{left, checked, exit}
use Rattle.journal_check.proofs.Exact.{check_entries, check_exact}
use Rattle.score_answer.specs.Answer.{number_of, value_of}
use Rattle.score_answer.specs.Replies.{of_run_reply}
use Rattle.score.specs.Slice.{Slice}
use Rattle.claims_demands.proofs.Accepted.{lawful, agents_counted}

-- a check's number is 0 only where it accepts
zero_accepted : (score state : List ℕ) (read : ℕ) (instants : List (List ℕ)) → number_of (of_run_reply (check_from score state read instants)) ≡ 0 →
    check_from score state read instants ≡ Accepted (value_of (of_run_reply (check_from score state read instants)))
unfolding check_from
zero_accepted score state read [] = λ z. refl
zero_accepted score state read (ws ∷ more) =
    let a = answer_in score state (inputs_in ws) in
    go (state_fault (sizes score).agents (as_bytes (after a))) (not (at_last state) && same ws (entry (decode score) (inputs_in ws) a))
    (check_from score (next_bytes state a) (suc read) more) (zero_accepted score (next_bytes state a) (suc read) more)
  where
    go : (faulty as-run : Bool) (r : Reply) → (number_of (of_run_reply r) ≡ 0 → r ≡ Accepted (value_of (of_run_reply r))) →
        number_of (of_run_reply (cond faulty Unlawful (cond as-run r (Differs read)))) ≡ 0 →
        cond faulty Unlawful (cond as-run r (Differs read)) ≡ Accepted (value_of (of_run_reply (cond faulty Unlawful (cond as-run r (Differs read)))))
    go true s r rest z = absurd (omega arith)
    go false true r rest z = rest z
    go false false r rest z = absurd (omega arith)

module _ (score : List ℕ) (accepted : verdict_number (check.verdict score) ≡ 0) where
  pub start_stands : Stands score (lawful score accepted) (agents_counted score accepted) (start_bytes (decode score)) (start_state (decode score))
  unfolding LawfulState
  start_stands =
      let law = lawful score accepted in
      written_stands score law (agents_counted score accepted) (start_state (decode score)) 0
      (on_cons (law.roots_known 0 law.some_roots) (λ i m. absurd (Memᴰ.not-nil m)))

  module _ (journal scratch : List ℕ) (long : length scratch ≡ scratch_bytes) where
    pub check_reply : (exit score journal scratch).reply ≡ (by_form (form_of true (sizes score).tokens journal) (left scratch) (left no_scratch (checked score journal))).reply
    unfolding exit
    check_reply = rw (accepted_only (check.verdict score) accepted, long)

    pub history_accepted : (n : ℕ) → IsHistory (decode score) (start_state (decode score)) journal n → n ≤ last_number → (exit score journal scratch).reply ≡ Accepted n
    history_accepted n h few =
        let sc = decode score in
        let law = lawful score accepted in
        let good : form_of true (sizes score).tokens journal ≡ Good =
        ap₂ (form_of true) (sym (decode_tokens score)) h.is ∙ history_good sc law (start_state sc) h.inputs h.rising in
        let read = ap (λ x. instants_in (words x)) h.is ∙ history_instants sc law (start_state sc) h.inputs h.rising in
        check_reply
        ∙ ap (λ f. (by_form f (left scratch) (left no_scratch (checked score journal))).reply) good
        ∙ ap (check_from score (start_bytes sc) 0) read
        ∙ check_entries score law (agents_counted score accepted) h.inputs h.rising (start_bytes sc) (start_state sc) start_stands 0 (omega (arith, number_round (start_state sc) 0 (omega arith), h.instants))
        ∙ ap Accepted (omega (arith, h.instants))

    pub accepted_history : Slice journal → (n : ℕ) → number_of (of_run_reply (exit score journal scratch).reply) ≡ 0 → value_of (of_run_reply (exit score journal scratch).reply) ≡ n → IsHistory (decode score) (start_state (decode score)) journal n × (n ≤ last_number)
    accepted_history lent n z v =
        go (form_of true (sizes score).tokens journal) refl (ap (λ r. number_of (of_run_reply r)) (sym check_reply) ∙ z) (ap (λ r. value_of (of_run_reply r)) (sym check_reply) ∙ v)
      where
        is_history : form_of true (sizes score).tokens journal ≡ Good → checked score journal ≡ Accepted n → IsHistory (decode score) (start_state (decode score)) journal n × (n ≤ last_number)
        is_history g e =
            let sc = decode score in
            let instants = instants_in (words journal) in
            let zero : instant_number (start_bytes sc) ≡ 0 = number_round (start_state sc) 0 (omega arith) in
            let rising : Within (λ ws. RisingBelow sc.tokens (inputs_in ws)) instants = λ ws m. subst⁻¹ (λ t. RisingBelow t (inputs_in ws)) (decode_tokens score) (good_instants true (sizes score).tokens journal g lent.small ws m).formed.inputs in
            let x = check_exact score (lawful score accepted) (agents_counted score accepted) instants rising (start_bytes sc) (start_state sc) start_stands 0 n (omega (arith, zero)) e in (
              record {
                inputs = map inputs_in instants;
                rising = on_map (RisingBelow sc.tokens) inputs_in instants rising;
                instants = length-map instants inputs_in ∙ omega arith;
                is =
                    sym (bytes_words journal lent.small (good_whole true (sizes score).tokens journal g))
                    ∙ ap bytes_of (good_words true (sizes score).tokens journal g ∙ ap flatten x.0 ∙ sym (history_joined sc (start_state sc) (map inputs_in instants)));
              },
              omega (arith, x.1, x.2, zero),
            )

        go : (f : Form) → form_of true (sizes score).tokens journal ≡ f →
            number_of (of_run_reply (by_form f (left scratch) (left no_scratch (checked score journal))).reply) ≡ 0 → value_of (of_run_reply (by_form f (left scratch) (left no_scratch (checked score journal))).reply) ≡ n → IsHistory (decode score) (start_state (decode score)) journal n × (n ≤ last_number)
        go Good g z v = is_history g (zero_accepted score (start_bytes (decode score)) 0 (instants_in (words journal)) z ∙ ap Accepted v)
        go Bytes g z v = absurd (omega arith)
        go (Word k) g z v = absurd (omega arith)
