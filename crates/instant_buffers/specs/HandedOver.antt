-- Contracts of inner functions: how an outcome is written to the lent buffers.
--     Buffers        state and maps have their lengths
--     Known          no agent and no token of an outcome is from past the score's
--     HandedOver     what the buffers hold: the state with its number, the store and what goes to the ports, by the
--                    outcome's flags
use Rattle.std.specs.Prelude.{◌≡◌, false, cond, List, [], ◌∷◌, ◌++◌, ℕ, ◌≤◌, eqb, length, get_or}
use Rattle.tcc.specs.Score.{Score}
use Rattle.tcc.specs.Instant.{output}
use Rattle.format.specs.declared.Sizes.{Sizes}
use Rattle.flags.specs.Flags.{set_of}
use Rattle.instant_engine.specs.declared.Outcome.{Outcome}
use Rattle.bits.specs.Bits.{bytes_of}
use Rattle.lent.specs.Lengths.{state_bytes, map_bytes}
use Rattle.lent.specs.States.{running_word, aborted_word, agent_words}
use Rattle.lent_maps.specs.Maps.{map_of}

pub record Buffers (state store output : List ℕ) : Type 0 where
  pub state_length : length state ≡ state_bytes
  pub store_bytes : length store ≡ map_bytes
  pub output_bytes : length output ≡ map_bytes

pub record Known (head : Sizes) (o : Outcome) : Type 0 where
  pub agents : (i : ℕ) → head.agents ≤ i → get_or o.awake i false ≡ false
  pub tokens : (t : ℕ) → head.tokens ≤ t → get_or o.store t false ≡ false

pub record HandedOver (sc : Score) (o : Outcome) (number : ℕ) (state store sent : List ℕ) : Type 0 where
  pub state_is : state ≡ bytes_of ((cond (eqb o.status 2) aborted_word running_word ∷ agent_words (set_of o.awake)) ++ number ∷ [])
  pub store_is : store ≡ map_of (set_of o.store)
  pub output_is : sent ≡ map_of (output sc o.status (set_of o.store))
