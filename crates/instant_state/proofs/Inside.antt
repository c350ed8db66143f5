-- What an answer names, and the flags of a set.
--     flags_back       a set below n, through flags and back, has the same members
--     flags_known      no flag of a set is set from past its members on
--     Inside           an answer's agents are the score's, and its tokens too
--     answer_inside    from a lawful state, on inputs below T, it is so
--     after_lawful     so the next state is lawful
--     next_lawful      and does not meet number 9
use mathlib.Core.Path.{◌≡◌, refl}
use mathlib.Core.Bool.{Bool, true, false, cond}
use mathlib.Core.List.{List, Memᴰ}
use Prim.Native.Nat.{ℕ, ◌<◌, ◌≤◌}
use native.Mathlib.Omega.{arith}
use lib.Dec.{eqb}
use lib.ListN.{length, get_or}
use Rattle.laws.specs.Sets.{Same, any, has}
use Rattle.tcc.specs.Score.{Score, agent_at}
use Rattle.tcc.specs.Lawful.{Lawful, AgentsBelow}
use Rattle.tcc.specs.Instant.{Fact, live_in, held_in, is_abort, Answer, aborted_answer, quiet_answer, answer_of, reached, instant, State, running, aborted, answer, after}
use Rattle.tcc.proofs.FixedPoint.{stays_known}
use Rattle.flags.specs.Flags.{set_of, flags_of}
use Rattle.flags.proofs.Flags.{flag_member, flags_of_member, member_flags_of}
use Rattle.lent.specs.States.{state_fault, as_bytes, LawfulState}
use Rattle.lent.proofs.Round.{lawful_bytes}

pub flags_back : (n : ℕ) (l : List ℕ) → ((i : ℕ) → Memᴰ i l → i < n) → Same (set_of (flags_of n l)) l
flags_back n l within i = (λ m. flags_of_member n l m, λ m. member_flags_of n l (within i m) m)

pub flags_known : (n bound : ℕ) (l : List ℕ) → ((i : ℕ) → Memᴰ i l → i < bound) → (i : ℕ) → bound ≤ i → get_or (flags_of n l) i false ≡ false
flags_known n bound l within i le = go (get_or (flags_of n l) i false) refl
  where
    go : (b : Bool) → get_or (flags_of n l) i false ≡ b → get_or (flags_of n l) i false ≡ false
    go true e = absurd (let lt : i < bound = within i (flags_of_member n l (flag_member (flags_of n l) e)) in omega arith)
    go false e = e

pub record Inside (sc : Score) (a : Answer) : Type 0 where
  pub agents : AgentsBelow sc a.awake
  pub tokens : (t : ℕ) → Memᴰ t a.store → t < sc.tokens
  pub aborted_whole : a.status ≡ 2 → a ≡ aborted_answer

not_two : (b : Bool) → ◌≡◌ {A = ℕ} (cond b 1 0) 2 → ⊥
not_two true e = omega arith
not_two false e = omega arith

-- an instant with status 2 is an aborted one
two_aborts : (sc : Score) (facts : List Fact) → (answer_of sc facts).status ≡ 2 → answer_of sc facts ≡ aborted_answer
two_aborts sc facts = go (any (λ i. is_abort (agent_at sc i)) (live_in facts))
  where
    go : (b : Bool) → (cond b aborted_answer (quiet_answer sc (held_in facts) (live_in facts))).status ≡ 2 → cond b aborted_answer (quiet_answer sc (held_in facts) (live_in facts)) ≡ aborted_answer
    go true e = refl
    go false e = absurd (not_two (has 0 (held_in facts)) e)

pub answer_inside : (sc : Score) (st : State) (inputs : List ℕ) → Lawful sc → LawfulState (length sc.agents) st → ((t : ℕ) → Memᴰ t inputs → t < sc.tokens) → Inside sc (answer sc st inputs)
unfolding answer instant LawfulState
answer_inside sc aborted inputs l w k = record { agents = λ i m. elim m [ ]; tokens = λ t m. elim m [ ]; aborted_whole = λ e. refl }
answer_inside sc (running agents) inputs l w k =
    let s = stays_known sc agents inputs l w k in
    record { agents = s.0; tokens = s.1; aborted_whole = two_aborts sc (reached sc agents inputs) }

pub after_lawful : (sc : Score) (a : Answer) (n : ℕ) → length sc.agents ≤ n → Inside sc a → LawfulState n (after a)
unfolding LawfulState
after_lawful sc a n few i = go (eqb a.status 2)
  where
    go : (b : Bool) → LawfulState n (cond b aborted (running a.awake))
    go true = tt
    go false = λ j m. omega (arith, i.agents j m)

pub next_lawful : (sc : Score) (a : Answer) (n : ℕ) → length sc.agents ≡ n → n ≤ 1024 → Inside sc a → state_fault n (as_bytes (after a)) ≡ false
next_lawful sc a n e few i = lawful_bytes n few (after a) (after_lawful sc a n (omega arith) i)
