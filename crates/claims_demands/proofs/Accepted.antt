-- What an accepted score says of its instants.
--     given                what the definition of an instant answers, from the bytes of a state
--     lawful               the facts of acceptance
--     agents_counted       the score's agents are as many as its head says
--     given_inside         from a state without fault, on tokens of the score, the agents and tokens of an answer are the score's
--     next_faultless       so the next state has no fault
--     input_known          an input map without fault has tokens of the score alone; known_input, the converse
use mathlib.Core.Path.{◌≡◌, refl, sym, subst}
use mathlib.Core.Bool.{Bool, true, false}
use mathlib.Core.List.{List, Memᴰ}
use Prim.Native.Nat.{ℕ, ◌<◌}
use native.Mathlib.Omega.{arith}
use borrow.Author.Tests.{leb-true}
use lib.Dec.{leb}
use lib.ListN.{length}
use Rattle.laws.proofs.Sets.{any_some, none_above}
use Rattle.tcc.specs.Lawful.{Lawful}
use Rattle.tcc.specs.Instant.{Answer, answer, after}
use Rattle.format.specs.Decode.{sizes, decode}
use Rattle.format.proofs.Decode.{decode_tokens, sizes_few, playable_agents}
use Rattle.check_verdicts.specs.Verdicts.{verdict_number}
use Rattle.check_score.specs.Check.{verdict}
use Rattle.check_score.proofs.Stages.{playable}
use Rattle.lent.specs.States.{state_fault, state_of, as_bytes, LawfulState}
use Rattle.lent.proofs.Round.{faultless_lawful}
use Rattle.lent_maps.specs.Maps.{tokens_in}
use Rattle.instant_state.proofs.Inside.{Inside, answer_inside, next_lawful}
use Rattle.instant_call.specs.InstantCall.{token_fault}

abbrev pub given : List ℕ → List ℕ → List ℕ → Answer
given score s inputs = answer (decode score) (state_of s) inputs

abbrev pub Known : List ℕ → List ℕ → Type 0
Known score inputs = (t : ℕ) → Memᴰ t inputs → t < (decode score).tokens

module _ (score : List ℕ) where
  pub input_known : (input : List ℕ) → token_fault score input ≡ false → Known score (tokens_in input)
  input_known input e t m = omega (arith, decode_tokens score, none_above (sizes score).tokens (tokens_in input) e t m)

  pub known_input : (input : List ℕ) → Known score (tokens_in input) → token_fault score input ≡ false
  known_input input known = go (token_fault score input) refl
    where
      go : (b : Bool) → token_fault score input ≡ b → token_fault score input ≡ false
      go true e = let x = any_some (λ t. leb (sizes score).tokens t) (tokens_in input) e in absurd (omega (arith, decode_tokens score, known x.0 x.1, leb-true (sizes score).tokens x.0 x.2))
      go false e = e

module _ (score : List ℕ) (accepted : verdict_number (verdict score) ≡ 0) where
  pub lawful : Lawful (decode score)
  lawful = (playable score accepted).lawful

  pub agents_counted : length (decode score).agents ≡ (sizes score).agents
  agents_counted = playable_agents score (playable score accepted)

  module _ (s : List ℕ) (faultless : state_fault (sizes score).agents s ≡ false) where
    pub state_lawful : LawfulState (length (decode score).agents) (state_of s)
    state_lawful = subst (λ n. LawfulState n (state_of s)) (sym agents_counted) (faultless_lawful (sizes score).agents s faultless)

    module _ (inputs : List ℕ) (known : Known score inputs) where
      pub given_inside : Inside (decode score) (given score s inputs)
      given_inside = answer_inside (decode score) (state_of s) inputs lawful state_lawful known

      pub next_faultless : state_fault (sizes score).agents (as_bytes (after (given score s inputs))) ≡ false
      next_faultless = next_lawful (decode score) (given score s inputs) (sizes score).agents agents_counted (sizes_few score).1 given_inside
