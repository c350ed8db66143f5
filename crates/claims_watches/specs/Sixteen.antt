-- "16 is answered exactly if one of the four counts passes its limit."
--     Sixteen        of an accepted draft and a buffer of the right length, at the contract of score_translate; and what is
--                    answered 16 leaves the buffer as it was
use Rattle.std.specs.Prelude.{◌≡◌, List, ℕ, length}
use Rattle.format.specs.Limits.{most_bytes}
use Rattle.check_verdicts.specs.Verdict.{Accepted}
use Rattle.draft_plain.specs.Limits.{Passes}
use Rattle.draft_format.specs.DraftFile.{draft_verdict, decode_draft}
use Rattle.score_answer.specs.Answer.{number_in}
use Rattle.score.specs.ScoreTranslate.{ScoreTranslate}

abbrev pub Sixteen : Type 0
Sixteen =
    (draft before after : List ℕ) (answer : ℕ) → ScoreTranslate draft before after answer → draft_verdict draft ≡ Accepted → length before ≡ most_bytes →
    (number_in answer ≡ 16 → Passes (decode_draft draft) × (after ≡ before)) × (Passes (decode_draft draft) → number_in answer ≡ 16)
