-- What a run or a journal check answers.
--     Reply          the instants written, or read, or a refusal
--     Accepted       the instants
use Rattle.std.specs.Prelude.{ℕ, Result, Ok}
use Rattle.refusals.specs.declared.Refusal.{Refusal}

abbrev pub Reply : Type 0
Reply = Result ℕ Refusal

pattern abbrev pub Accepted : ℕ → Reply
Accepted n = Ok n
