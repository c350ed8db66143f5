-- For a rigger: commands that the score's rules call a clash never reach the drives together. Where "up" and "down" lead to
-- token 0, by one rule or by many, no instant of any list of calls raises both.
--     NeverTogether    of one or more tokens: not all of them are in an output map whose score takes them for a clash
use mathlib.Core.List.{List, ◌∷◌, Memᴰ}
use Rattle.std.specs.Prelude.{ℕ}
use Rattle.tcc.specs.Store.{closure}
use Rattle.format.specs.Decode.{decode}
use Rattle.lent_maps.specs.Maps.{tokens_in}
use Rattle.claims_demands.specs.Calls.{Call, InTurn, Answered, Answers}

abbrev pub NeverTogether : Type 0
NeverTogether =
    (score first last : List ℕ) (calls : List Call) (answered : List Answered) → InTurn score first calls last → Answers score calls answered →
    (p : Answered) → Memᴰ p answered → (up : ℕ) (others : List ℕ) → Memᴰ 0 (closure (decode score) (up ∷ others)) →
    ((t : ℕ) → Memᴰ t (up ∷ others) → Memᴰ t (tokens_in p.output)) → ⊥
