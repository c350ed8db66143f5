-- "A score without watches, all of whose agents and procedures lie on paths from procedure 0, is returned byte for byte."
--     Returned       at the contract of score_translate
use Rattle.std.specs.Prelude.{◌≡◌, List, ◌++◌, ℕ, length, drop}
use Rattle.format.specs.Limits.{most_bytes}
use Rattle.check_verdicts.specs.Verdict.{Accepted}
use Rattle.check_score.specs.Check.{verdict}
use Rattle.draft_plain.specs.Unchanged.{AllOnPaths}
use Rattle.draft_format.specs.DraftFile.{decode_draft}
use Rattle.score_answer.specs.Answer.{number_in, value_in}
use Rattle.score.specs.ScoreTranslate.{ScoreTranslate}

-- a score that the score check accepts has no watches
abbrev pub Returned : Type 0
Returned =
    (score before after : List ℕ) (answer : ℕ) → verdict score ≡ Accepted → AllOnPaths (decode_draft score) → length before ≡ most_bytes →
    ScoreTranslate score before after answer →
    (number_in answer ≡ 0) × (value_in answer ≡ length score) × (after ≡ score ++ drop (length score) before)
