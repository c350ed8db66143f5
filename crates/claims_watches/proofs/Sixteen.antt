-- 16 is answered exactly if one of the four counts passes its limit.
--     sixteen      the theorem
use mathlib.Core.Path.{◌≡◌}
use native.Mathlib.Omega.{arith}
use Rattle.laws.proofs.Booleans.{true_is_false}
use Rattle.draft_language.specs.Draft.{LawfulDraft}
use Rattle.draft_plain.specs.Limits.{Passes}
use Rattle.draft_plain.proofs.Limits.{limits}
use Rattle.draft_format.specs.DraftFile.{decode_draft}
use Rattle.draft_format.proofs.Draft.{accepted_lawful_draft}
use Rattle.score_answer.specs.Answer.{number_in}
use Rattle.score.proofs.ScoreTranslate.{bytes_below}
use Rattle.claims_watches.specs.Sixteen.{Sixteen}
use Rattle.claims_watches.proofs.Translations.{Ended, refused, over, wrote, ended}

pub sixteen : Sixteen
sixteen draft before after answer c accepted long = (answered (ended c), counted (ended c))
  where
    law : LawfulDraft (decode_draft draft)
    law = accepted_lawful_draft draft (bytes_below draft c.lent) accepted

    answered : Ended draft before after answer → number_in answer ≡ 16 → Passes (decode_draft draft) × (after ≡ before)
    answered (refused not-zero not-sixteen fault kept) n = absurd (not-sixteen n)
    answered (over unfit number kept) n = ((limits (decode_draft draft) law).0 unfit, kept)
    answered (wrote w) n = absurd (omega (arith, w.number))

    counted : Ended draft before after answer → Passes (decode_draft draft) → number_in answer ≡ 16
    counted (refused not-zero not-sixteen fault kept) p = absurd (fault accepted long)
    counted (over unfit number kept) p = number
    counted (wrote w) p = absurd (true_is_false w.fit ((limits (decode_draft draft) law).1 p))
