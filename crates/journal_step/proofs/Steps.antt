-- One instant of a run, from flags to the definition.
--     same_running       bytes that stand for running agents stand for their flags
--     stands_after       where the score stands after an answer is what the bytes of its next state stand for
--     stands_lawful      and it is a lawful state
--     output_so          what goes to the ports, by the flags of its store
--     never_unlawful     number 11 is not met
use mathlib.Core.Path.{◌≡◌, refl, sym, ap, ◌∙◌}
use mathlib.Core.Bool.{Bool, true, false, cond, not}
use mathlib.Core.List.{List}
use Prim.Native.Nat.{ℕ, ◌≤◌}
use native.Mathlib.Omega.{arith}
use lib.Dec.{eqb, leb}
use lib.ListN.{length}
use Rattle.laws.specs.Sets.{any}
use Rattle.tcc.specs.Score.{Score}
use Rattle.tcc.specs.Lawful.{Lawful}
use Rattle.tcc.specs.Instant.{State, running, aborted, Answer, output, after}
use Rattle.tcc.proofs.Output.{output_same}
use Rattle.words.specs.Word.{word_at}
use Rattle.flags.specs.Flags.{set_of, flags_of}
use Rattle.flags.proofs.Flags.{flags_of_same}
use Rattle.bits.proofs.Filled.{from_none}
use Rattle.lent.specs.States.{aborted_word, agents_in, state_fault, state_of, as_bytes, LawfulState, SameState}
use Rattle.lent.proofs.Agents.{agents_set}
use Rattle.lent.proofs.Round.{state_round, faultless_lawful}
use Rattle.instant_state.specs.Standing.{state_in}
use Rattle.instant_state.proofs.Inside.{Inside, flags_back, flags_known, next_lawful}

same_aborted : (st : State) → SameState st aborted → st ≡ aborted
unfolding SameState
same_aborted (running l) h = absurd h
same_aborted aborted h = refl

pub same_running : (s l : List ℕ) → SameState (state_of s) (running l) → state_of s ≡ running (set_of (flags_of 1024 l))
unfolding SameState state_of
same_running s l = go (eqb (word_at s 0) aborted_word)
  where
    go : (b : Bool) → SameState (cond b aborted (running (agents_in s))) (running l) → cond b aborted (running (agents_in s)) ≡ running (set_of (flags_of 1024 l))
    go true h = absurd h
    go false h = ap running (sym (agents_set s) ∙ ap set_of (flags_of_same 1024 h))

module _ (sc : Score) (a : Answer) (few : length sc.agents ≤ 1024) (inside : Inside sc a) where
  pub stands_lawful : (n : ℕ) → length sc.agents ≡ n → LawfulState n (state_of (as_bytes (after a)))
  stands_lawful n e = faultless_lawful n (as_bytes (after a)) (next_lawful sc a n e (omega arith) inside)

  awake_within : LawfulState 1024 (running a.awake)
  unfolding LawfulState
  awake_within i m = omega (arith, inside.agents i m)

  aborted_within : LawfulState 1024 aborted
  unfolding LawfulState
  aborted_within = tt

  pub stands_after : state_in (record { running = not (eqb a.status 2); awake = flags_of 1024 a.awake }) ≡ state_of (as_bytes (after a))
  unfolding state_in
  stands_after = go (eqb a.status 2)
    where
      go : (b : Bool) → cond (not b) (running (set_of (flags_of 1024 a.awake))) aborted ≡ state_of (as_bytes (cond b aborted (running a.awake)))
      go true = sym (same_aborted _ (state_round aborted aborted_within))
      go false = sym (same_running (as_bytes (running a.awake)) a.awake (state_round (running a.awake) awake_within))

  pub output_so : Lawful sc → output sc a.status (set_of (flags_of 256 a.store)) ≡ output sc a.status a.store
  output_so law = output_same sc a.status (flags_back 256 a.store (λ t m. omega (arith, inside.tokens t m, law.tokens_at_most)))

  -- both tests of number 11, by flags and by bytes
  pub never_unlawful : (n : ℕ) → length sc.agents ≡ n → any (λ i. leb n i) (set_of (flags_of 1024 a.awake)) ≡ state_fault n (as_bytes (after a))
  never_unlawful n e =
      from_none n (flags_of 1024 a.awake) (flags_known 1024 n a.awake (λ i m. omega (arith, inside.agents i m)))
      ∙ sym (next_lawful sc a n e (omega arith) inside)
