-- What an answer's flags write, held against the answer.
--     state_written_lem, store_written, output_written  the buffers of the answer
use mathlib.Core.Path.{◌≡◌, refl, ap, ◌∙◌}
use mathlib.Core.Bool.{Bool, true, false, cond}
use mathlib.Core.List.{[], ◌∷◌, ◌++◌}
use Prim.Native.Nat.{ℕ, ◌≤◌}
use native.Mathlib.Omega.{arith}
use borrow.Author.Tests.{eqb-true}
use lib.Dec.{eqb}
use lib.ListN.{length}
use Rattle.laws.specs.Sets.{Same}
use Rattle.tcc.specs.Score.{Score}
use Rattle.tcc.specs.Instant.{Answer, output, running, aborted, after}
use Rattle.tcc.proofs.Output.{output_same}
use Rattle.flags.specs.Flags.{set_of, flags_of}
use Rattle.bits.specs.Bits.{bytes_of}
use Rattle.lent.specs.States.{running_word, aborted_word, agent_words, numbered}
use Rattle.lent.proofs.Round.{agent_words_same}
use Rattle.lent_maps.specs.Maps.{map_of}
use Rattle.lent_maps.proofs.Round.{map_of_same}
use Rattle.instant_state.proofs.Inside.{flags_back, Inside}

pub state_written_lem : (sc : Score) (a : Answer) (n : ℕ) → length sc.agents ≤ 1024 → Inside sc a →
    bytes_of ((cond (eqb a.status 2) aborted_word running_word ∷ agent_words (set_of (flags_of 1024 a.awake))) ++ n ∷ []) ≡ numbered (after a) n
unfolding numbered
state_written_lem sc a n few i = go (eqb a.status 2) refl
  where
    same : Same (set_of (flags_of 1024 a.awake)) a.awake
    same = flags_back 1024 a.awake (λ j m. omega (arith, i.agents j m))

    go : (b : Bool) → eqb a.status 2 ≡ b → bytes_of ((cond b aborted_word running_word ∷ agent_words (set_of (flags_of 1024 a.awake))) ++ n ∷ []) ≡ numbered (cond b aborted (running a.awake)) n
    go true e =
        let none : a.awake ≡ [] = ap (λ x. x.awake) (i.aborted_whole (eqb-true a.status 2 e)) in
        ap (λ ws. bytes_of ((aborted_word ∷ ws) ++ n ∷ [])) (agent_words_same same ∙ ap agent_words none)
    go false e = ap (λ ws. bytes_of ((running_word ∷ ws) ++ n ∷ [])) (agent_words_same same)

pub store_written : (sc : Score) (a : Answer) → sc.tokens ≤ 256 → Inside sc a → map_of (set_of (flags_of 256 a.store)) ≡ map_of a.store
store_written sc a few i = map_of_same (flags_back 256 a.store (λ t m. omega (arith, i.tokens t m)))

pub output_written : (sc : Score) (a : Answer) → sc.tokens ≤ 256 → Inside sc a → map_of (output sc a.status (set_of (flags_of 256 a.store))) ≡ map_of (output sc a.status a.store)
output_written sc a few i = ap map_of (output_same sc a.status (flags_back 256 a.store (λ t m. omega (arith, i.tokens t m))))
