-- What a call that counts settings answers.
--     Reply          how many settings end with each status, or a refusal
use Rattle.std.specs.Prelude.{Result}
use Rattle.refusals.specs.declared.Refusal.{Refusal}
use Rattle.settings_tried.specs.declared.Counts.{Counts}

abbrev pub Reply : Type 0
Reply = Result Counts Refusal
