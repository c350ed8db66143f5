-- `score_check`: every verdict has room in an answer.
use Rattle.check_verdicts.specs.Verdicts.{verdict_number, verdict_value}
use Rattle.check_verdicts.proofs.Verdicts.{number_few}
use Rattle.check_score.specs.Check.{verdict}
use Rattle.check_score.proofs.Values.{verdict_small}
use Rattle.score_answer.proofs.Replies.{reply_fits}
use Rattle.score.proofs.score_check.Goals as goal

pub of_verdict-requires : goal.of_verdict-requires
of_verdict-requires c =
    let s = c.args.score.now in
    rw c.check.ensures (reply_fits (verdict_number (verdict s)) (verdict_value (verdict s)) (number_few (verdict s)) (verdict_small s))
