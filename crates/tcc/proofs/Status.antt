-- The status of an answer.
--     answer_status     it is 0, 1 or 2
--     status_same       inputs with the same members give the same
use mathlib.Core.Path.{◌≡◌, refl}
use mathlib.Core.Bool.{Bool, true, false, cond}
use mathlib.Core.List.{List}
use Prim.Native.Nat.{ℕ, ◌<◌}
use native.Mathlib.Omega.{arith}
use Rattle.laws.specs.Sets.{Same, any, has}
use Rattle.laws.proofs.Sets.{same_refl}
use Rattle.tcc.specs.Score.{Score, agent_at}
use Rattle.tcc.specs.Instant.{aborted_answer, quiet_answer, live_in, held_in, is_abort, reached, instant, State, running, aborted, answer}
use Rattle.tcc.proofs.SameAnswer.{instant_same}

clash_status : (b : Bool) → cond b 1 0 < 3
clash_status true = omega arith
clash_status false = omega arith

either_status : (sc : Score) (b : Bool) (store lives : List ℕ) → (cond b aborted_answer (quiet_answer sc store lives)).status < 3
either_status sc true store lives = omega arith
either_status sc false store lives = clash_status (has 0 store)

pub answer_status : (sc : Score) (st : State) (inputs : List ℕ) → (answer sc st inputs).status < 3
unfolding answer instant
answer_status sc (running agents) inputs =
    let facts = reached sc agents inputs in
    either_status sc (any (λ i. is_abort (agent_at sc i)) (live_in facts)) (held_in facts) (live_in facts)
answer_status sc aborted inputs = omega arith

pub status_same : (sc : Score) (st : State) {l k : List ℕ} → Same l k → (answer sc st l).status ≡ (answer sc st k).status
unfolding answer
status_same sc (running agents) same = (instant_same sc (same_refl agents) same).status
status_same sc aborted same = refl
