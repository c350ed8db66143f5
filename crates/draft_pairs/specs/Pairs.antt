-- Pairs of an agent or a procedure and a set of tokens, and rising lists of numbers.
--     most_pairs            the most pairs that a plain score can have: of each agent and each procedure one
--     pair                  a pair as one number: pairs compare "by old number and then by set"
--     number_in, set_in      its parts
--     insert, insert_all    numbers put into a rising list, each once
--     index_of               where a number stands in a list
use Rattle.std.specs.Prelude.{cond, List, [], ◌∷◌, ℕ, suc, ◌+◌, ◌*◌, ◌/◌, ◌%◌, ◌^◌, eqb, ltb}
use Rattle.tcc.specs.Limits.{most_agents, most_procedures}

abbrev pub most_pairs : ℕ
most_pairs = most_agents + most_procedures

-- a set is a number below 2 to the power of 256
unfoldable pub pair : ℕ → ℕ → ℕ
pair number set = number * 2 ^ 256 + set

unfoldable pub number_in : ℕ → ℕ
number_in k = k / 2 ^ 256

unfoldable pub set_in : ℕ → ℕ
set_in k = k % 2 ^ 256

abbrev pub insert : ℕ → List ℕ → List ℕ
insert k [] = k ∷ []
insert k (m ∷ l) = cond (ltb k m) (k ∷ m ∷ l) (cond (eqb k m) (m ∷ l) (m ∷ insert k l))

abbrev pub insert_all : List ℕ → List ℕ → List ℕ
insert_all [] l = l
insert_all (k ∷ more) l = insert k (insert_all more l)

abbrev pub index_of : ℕ → List ℕ → ℕ
index_of k [] = 0
index_of k (m ∷ l) = cond (eqb k m) 0 (suc (index_of k l))
