-- Contracts of inner functions: one instant from where a score stands, by value. The flags of an aborted score stand for
-- nothing, so that they are left open; so in `journal_run_list/specs/Advance.antt`.
--     Stepped        it is what the definition answers: the status, what goes to the ports, whether the next state would
--                    meet 9, and where the score stands then
use Rattle.std.specs.Prelude.{◌≡◌, List, ℕ}
use Rattle.tcc.specs.Instant.{Answer, output, after}
use Rattle.format.specs.Decode.{sizes, decode}
use Rattle.flags.specs.Flags.{flags_of}
use Rattle.lent.specs.States.{state_fault, state_of, as_bytes, LawfulState}
use Rattle.instant_state.specs.Standing.{state_in}
use Rattle.journal_step.specs.declared.Step.{Step}

pub record Stepped (score : List ℕ) (a : Answer) (s : Step) : Type 0 where
  pub status_is : s.status ≡ a.status
  pub out_is : s.out ≡ flags_of 256 (output (decode score) a.status a.store)
  pub unlawful_is : s.unlawful ≡ state_fault (sizes score).agents (as_bytes (after a))
  pub stands : state_in s.standing ≡ state_of (as_bytes (after a))
  pub lawful : LawfulState (sizes score).agents (state_in s.standing)
