-- `encoding::agent_word`: what an agent names is small, where it is known which agent it is.
use Rattle.std.proofs.Common.{◌≡◌, ℕ, ◌<◌, List, refl, arith}
use mathlib.Core.List.{Memᴰ}
use mathlib.Core.Path.{subst⁻¹}
use Rattle.laws.proofs.Sets.{Within}
use Rattle.tcc.specs.Score.{tokens_of, parts_of, procedures_of}
use Rattle.tcc.specs.declared.Agent.{Agent}
use Rattle.encoding.proofs.agent_word.Goals as goal

named : (of : Agent → List ℕ) {agent is : Agent} {n bound : ℕ} → Within (λ m. m < bound) (of agent) → agent ≡ is → Memᴰ n (of is) → n < bound
named of {n = n} within e m = within n (subst⁻¹ (λ a. Memᴰ n (of a)) e m)

pub word_of-requires-in-Tell : goal.word_of-requires-in-Tell
word_of-requires-in-Tell c = omega (arith, named tokens_of c.requires.by_index c.in-Tell.is (Memᴰ.head refl))

pub word_of-requires-in-Parallel : goal.word_of-requires-in-Parallel
word_of-requires-in-Parallel c =
    let first = named parts_of c.requires.by_index_2 c.in-Parallel.is (Memᴰ.head refl) in
    let second = named parts_of c.requires.by_index_2 c.in-Parallel.is (Memᴰ.tail (Memᴰ.head refl)) in
    omega (arith, first, second)

pub word_of-requires-in-When : goal.word_of-requires-in-When
word_of-requires-in-When c =
    let token = named tokens_of c.requires.by_index c.in-When.is (Memᴰ.head refl) in
    let body = named parts_of c.requires.by_index_2 c.in-When.is (Memᴰ.head refl) in
    omega (arith, token, body)

pub word_of-requires-in-Next : goal.word_of-requires-in-Next
word_of-requires-in-Next c = omega (arith, named parts_of c.requires.by_index_2 c.in-Next.is (Memᴰ.head refl))

pub word_of-requires-in-Unless : goal.word_of-requires-in-Unless
word_of-requires-in-Unless c =
    let token = named tokens_of c.requires.by_index c.in-Unless.is (Memᴰ.head refl) in
    let body = named parts_of c.requires.by_index_2 c.in-Unless.is (Memᴰ.head refl) in
    omega (arith, token, body)

pub word_of-requires-in-Call : goal.word_of-requires-in-Call
word_of-requires-in-Call c = omega (arith, named procedures_of c.requires.by_index_3 c.in-Call.is (Memᴰ.head refl))
