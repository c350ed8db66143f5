-- What a translation comes to.
--     Reply          how many bytes the plain score has, or a refusal
--     Translated     the bytes
use Rattle.std.specs.Prelude.{ℕ, Result, Ok}
use Rattle.refusals.specs.declared.Refusal.{Refusal}

abbrev pub Reply : Type 0
Reply = Result ℕ Refusal

pattern abbrev pub Translated : ℕ → Reply
Translated n = Ok n
