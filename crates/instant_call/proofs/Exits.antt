-- The call's exits, one for each reply.
--     turned, lengths, state, input, last, settled
--     handed           an answer handed over leaves as it says
--     Lengths-are      the five lengths, where none is wrong
use mathlib.Core.Path.{◌≡◌, refl, sym, ap, ap₂, ◌∙◌}
use mathlib.Core.Bool.{true, false, cond, not}
use mathlib.Core.List.{List, [], ◌∷◌, ◌++◌}
use Prim.Native.Nat.{ℕ, suc, ◌≤◌}
use borrow.Author.Tests.{eq-eqb, ne_eqb}
use lib.Dec.{eqb}
use lib.ListN.{length}
use Rattle.std.proofs.Common.{Ok, Err}
use Rattle.laws.proofs.Booleans.{cond_true, cond_false, neither}
use Rattle.tcc.specs.Score.{Score}
use Rattle.tcc.specs.Instant.{Answer, output, answer, after}
use Rattle.format.specs.Decode.{sizes, decode}
use Rattle.check_verdicts.specs.declared.Fault.{Fault}
use Rattle.check_verdicts.specs.Verdicts.{verdict_number}
use Rattle.check_score.specs.Check.{verdict}
use Rattle.refusals.specs.Refused.{Turned, Lengths, State, Input, Last}
use Rattle.refusals.proofs.ByVerdict.{passed}
use Rattle.refusals.proofs.ByVerdict as stages
use Rattle.flags.specs.Flags.{set_of}
use Rattle.instant_engine.specs.declared.Outcome.{Outcome}
use Rattle.instant_engine.specs.Outcome.{outcome_of}
use Rattle.bits.specs.Bits.{bytes_of}
use Rattle.lent.specs.Lengths.{state_bytes, map_bytes, scratch_bytes, no_scratch}
use Rattle.lent.specs.States.{state_fault, state_of, as_bytes, running_word, aborted_word, agent_words, instant_number, next_bytes, last_number}
use Rattle.lent.proofs.Lengths.{right}
use Rattle.lent_maps.specs.Maps.{tokens_in, map_of}
use Rattle.instant_state.proofs.Inside.{Inside}
use Rattle.instant_buffers.specs.HandedOver.{HandedOver}
use Rattle.instant_buffers.proofs.AnswerBytes.{state_written_lem, store_written, output_written}
use Rattle.instant_call.specs.InstantCall.{Lent, Exit, length_fault, token_fault, kept, answered, exit, lent, played}

module _ (score given : List ℕ) (l : Lent) where
  abbrev down : Fault → Exit
  down f = kept l (Turned f)

  pub turned : {f : Fault} → Err f ≡ verdict score → kept l (Turned f) ≡ exit score given l
  unfolding exit
  turned is = stages.turned down _ (verdict score) is

  module _ (accepted : verdict_number (verdict score) ≡ 0) where
    pub lengths : length_fault given l ≡ true → kept l Lengths ≡ exit score given l
    unfolding exit
    lengths e = passed down (verdict score) accepted (cond_true _ e refl)

    module _ (long : length_fault given l ≡ false) where
      pub state : state_fault (sizes score).agents l.state ≡ true → kept l State ≡ exit score given l
      unfolding exit
      state e = passed down (verdict score) accepted (cond_false _ long (cond_true _ e refl))

      module _ (lawful : state_fault (sizes score).agents l.state ≡ false) where
        pub input : token_fault score given ≡ true → kept l Input ≡ exit score given l
        unfolding exit
        input e = passed down (verdict score) accepted (cond_false _ long (cond_false _ lawful (cond_true _ e refl)))

        module _ (known : token_fault score given ≡ false) where
          pub last : {n : ℕ} → n ≡ instant_number l.state → n ≡ last_number → kept l (Last 0) ≡ exit score given l
          unfolding exit
          last is at = passed down (verdict score) accepted (cond_false _ long (cond_false _ lawful (cond_false _ known (cond_true _ (eq-eqb (instant_number l.state) last_number (sym is ∙ at)) refl))))

          pub settled : {n : ℕ} → n ≡ instant_number l.state → (n ≡ last_number → ⊥) → (a : Answer) → a ≡ answer (decode score) (state_of l.state) (tokens_in given) →
              state_fault (sizes score).agents (as_bytes (after a)) ≡ false → answered (decode score) l.state a ≡ exit score given l
          unfolding exit
          settled is below a e n =
              passed down (verdict score) accepted (cond_false _ long (cond_false _ lawful (cond_false _ known (cond_false _ (ne_eqb (instant_number l.state) last_number (λ at. below (is ∙ at))) (settles ∙ ap (played score l) e)))))
            where
              settles : answered (decode score) l.state a ≡ played score l a
              settles = cond_false _ n refl

-- what handing an outcome over leaves, where it is an answer's
module _ (sc : Score) (a : Answer) (few : length sc.agents ≤ 1024) (known : sc.tokens ≤ 256) (inside : Inside sc a) {o : Outcome} (is : o ≡ outcome_of a)
    {number : ℕ} {state store sent : List ℕ} (h : HandedOver sc o number state store sent) where
  pub handed : (before : List ℕ) → number ≡ suc (instant_number before) → {scratch : List ℕ} → scratch ≡ no_scratch → {e : Exit} → answered sc before a ≡ e → ◌≡◌ {A = Exit} (record { lent = lent state store sent scratch; reply = Ok (record { status = o.status; count = o.count }) }) e
  unfolding outcome_of
  handed before next z leaves = (λ i. record { lent = lent (state_is i) (store_is i) (sent_is i) (z i); reply = Ok (record { status = (is i).status; count = (is i).count }) }) ∙ leaves
    where
      state_is : state ≡ next_bytes before a
      state_is =
          h.state_is
          ∙ ap₂ (λ x n. bytes_of ((cond (eqb x.status 2) aborted_word running_word ∷ agent_words (set_of x.awake)) ++ n ∷ [])) is next
          ∙ state_written_lem sc a (suc (instant_number before)) few inside

      store_is : store ≡ map_of a.store
      store_is = h.store_is ∙ ap (λ x. map_of (set_of x.store)) is ∙ store_written sc a known inside

      sent_is : sent ≡ map_of (output sc a.status a.store)
      sent_is = h.output_is ∙ ap (λ x. map_of (output sc x.status (set_of x.store))) is ∙ output_written sc a known inside

-- the five lengths, where none is wrong
pub record Lengths-are (given : List ℕ) (l : Lent) : Type 0 where
  pub state_long : length l.state ≡ state_bytes
  pub input_long : length given ≡ map_bytes
  pub store_long : length l.store ≡ map_bytes
  pub output_long : length l.output ≡ map_bytes
  pub scratch_long : length l.scratch ≡ scratch_bytes

pub right_lengths : (given : List ℕ) (l : Lent) → length_fault given l ≡ false → Lengths-are given l
right_lengths given l e =
    let d = neither _ (not (eqb (length l.scratch) scratch_bytes)) e in
    let c = neither _ (not (eqb (length l.output) map_bytes)) d.0 in
    let b = neither _ (not (eqb (length l.store) map_bytes)) c.0 in
    let a = neither _ (not (eqb (length given) map_bytes)) b.0 in
    record {
      state_long = right (length l.state) state_bytes a.0;
      input_long = right (length given) map_bytes a.1;
      store_long = right (length l.store) map_bytes b.1;
      output_long = right (length l.output) map_bytes c.1;
      scratch_long = right (length l.scratch) scratch_bytes d.1;
    }
