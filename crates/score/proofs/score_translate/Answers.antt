-- `score_translate`: the reply has room in an answer.
use Rattle.std.proofs.Common.{arith}
use Rattle.score.proofs.ScoreTranslate.{called_fits}
use Rattle.score.proofs.score_translate.Goals as goal

pub of_translation-requires : goal.of_translation-requires
of_translation-requires c = called_fits (record { few = omega (arith, c.well_formed.0.1); small = λ i. omega (arith, c.type_inv.draft i) }) c.call.ensures
