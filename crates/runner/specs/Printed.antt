-- What the runner prints.
--     Printed        where the journal buffer was clear, the words shown are the history, from the start state, of the
--                    instants that the run wrote: none where it was refused, those before the stop where it was stopped
use Rattle.std.specs.Prelude.{◌≡◌, List, ℕ, replicate}
use Rattle.words.specs.Word.{words}
use Rattle.claims_demands.specs.Calls.{written}
use Rattle.claims_demands.specs.JournalExact.{start_history}
use Rattle.runner_text.specs.Shown.{shown}
use Rattle.runner_run.specs.Played.{Played}

abbrev pub Printed : Type 0
Printed =
    (score inputs after : List ℕ) (room number : ℕ) (p : Played score inputs (replicate room 0) after number) →
    shown (words after) ≡ start_history score inputs (written p.answer)
