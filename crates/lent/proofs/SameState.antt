-- States with the same agents.
--     state_refl, state_sym, state_trans     `SameState` is an equivalence
--     state_running                          bytes that stand for the same state as a running one are running, with its agents
--     state_aborted                          and with an aborted one there is none but it
--     answer_same                            they give the same answers, on inputs with the same members
--     after_same                             the same answers leave states with the same agents
--     along_same                             so do instants, one after the other
use mathlib.Core.Path.{◌≡◌, refl}
use mathlib.Core.Bool.{Bool, true, false, cond}
use mathlib.Core.List.{List, [], ◌∷◌}
use Prim.Native.Nat.{ℕ}
use lib.Dec.{eqb}
use Rattle.laws.specs.Sets.{Same}
use Rattle.laws.proofs.Sets.{same_refl, same_sym, same_trans}
use Rattle.tcc.specs.Score.{Score}
use Rattle.tcc.specs.Instant.{Answer, aborted_answer, State, running, aborted, answer, after, state_after}
use Rattle.tcc.proofs.SameAnswer.{SameAnswer, answer_refl, instant_same}
use Rattle.words.specs.Word.{word_at}
use Rattle.lent.specs.States.{aborted_word, agents_in, state_of, SameState}

pub state_refl : (a : State) → SameState a a
unfolding SameState
state_refl (running l) = same_refl l
state_refl aborted = tt

pub state_sym : (a b : State) → SameState a b → SameState b a
unfolding SameState
state_sym (running l) (running k) h = same_sym h
state_sym (running l) aborted h = h
state_sym aborted (running k) h = h
state_sym aborted aborted h = h

pub state_trans : (a b c : State) → SameState a b → SameState b c → SameState a c
unfolding SameState
state_trans (running l) (running k) (running m) h g = same_trans h g
state_trans (running l) (running k) aborted h g = g
state_trans (running l) aborted (running m) h g = absurd h
state_trans (running l) aborted aborted h g = h
state_trans aborted (running k) (running m) h g = h
state_trans aborted (running k) aborted h g = absurd h
state_trans aborted aborted (running m) h g = g
state_trans aborted aborted aborted h g = g

pub state_running : (s agents : List ℕ) → SameState (state_of s) (running agents) → (state_of s ≡ running (agents_in s)) × Same (agents_in s) agents
unfolding state_of SameState
state_running s agents = go (eqb (word_at s 0) aborted_word)
  where
    go : (b : Bool) → SameState (cond b aborted (running (agents_in s))) (running agents) → (cond b aborted (running (agents_in s)) ≡ running (agents_in s)) × Same (agents_in s) agents
    go true h = absurd h
    go false h = (refl, h)

pub state_aborted : (st : State) → SameState st aborted → st ≡ aborted
unfolding SameState
state_aborted (running l) h = absurd h
state_aborted aborted h = refl

pub answer_same : (sc : Score) (a b : State) {inputs inputs' : List ℕ} → SameState a b → Same inputs inputs' → SameAnswer (answer sc a inputs) (answer sc b inputs')
unfolding SameState answer
answer_same sc (running l) (running k) h g = instant_same sc h g
answer_same sc (running l) aborted h g = absurd h
answer_same sc aborted (running k) h g = absurd h
answer_same sc aborted aborted h g = answer_refl aborted_answer

pub after_same : (a b : Answer) → SameAnswer a b → SameState (after a) (after b)
unfolding SameState
after_same a b same = rw same.status (go (eqb b.status 2))
  where
    go : (c : Bool) → SameState (cond c aborted (running a.awake)) (cond c aborted (running b.awake))
    go true = tt
    go false = same.awake

pub along_same : (sc : Score) (a b : State) → SameState a b → (before : List (List ℕ)) → SameState (state_after sc a before) (state_after sc b before)
unfolding state_after
along_same sc a b h [] = h
along_same sc a b h (inputs ∷ more) = along_same sc (after (answer sc a inputs)) (after (answer sc b inputs)) (after_same (answer sc a inputs) (answer sc b inputs) (answer_same sc a b h (same_refl inputs))) more
