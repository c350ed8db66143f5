-- What a translation does with what it is lent: numbers 1 to 7 of the draft, 8, 16.
--     Exit             what they hold afterwards, and the reply
--     kept             a refusal: all as it was
--     written          the bytes of a plain score, "and bytes past it are as they were"
--     translated       the plain score, or that it passes a size limit
--     exit             the whole call
--     LeftBy           what its last part leaves
--     TranslateCall    its contract
use Rattle.std.specs.Prelude.{◌≡◌, cond, not, List, ◌++◌, ℕ, eqb, length, drop}
use Rattle.tcc.specs.Score.{Score}
use Rattle.format.specs.Limits.{most_bytes}
use Rattle.check_verdicts.specs.Verdicts.{by_verdict}
use Rattle.draft_language.specs.Draft.{Draft}
use Rattle.draft_plain.specs.Plain.{plain_of, fits}
use Rattle.encoding.specs.Encode.{score_bytes}
use Rattle.draft_format.specs.DraftFile.{draft_verdict, decode_draft}
use Rattle.draft_plain.specs.Reply.{Reply}
use Rattle.refusals.specs.Refused.{Turned, Lengths, Large}
use Rattle.draft_plain.specs.Reply.{Translated}

pub record Exit : Type 0 where
  pub plain : List ℕ
  pub reply : Reply

abbrev pub kept : List ℕ → Reply → Exit
kept plain r = record { plain = plain; reply = r }

abbrev pub written : List ℕ → Score → Exit
written plain sc = record { plain = score_bytes sc ++ drop (length (score_bytes sc)) plain; reply = Translated (length (score_bytes sc)) }

abbrev pub translated : List ℕ → Draft → Exit
translated plain d = cond (fits (plain_of d)) (written plain (plain_of d)) (kept plain Large)

unfoldable pub exit : List ℕ → List ℕ → Exit
exit draft plain =
    by_verdict (draft_verdict draft) (λ f. kept plain (Turned f))
    (cond (not (eqb (length plain) most_bytes)) (kept plain Lengths)
    (translated plain (decode_draft draft)))

-- what the translation of an accepted draft leaves in the buffer, and its reply
pub record LeftBy (d : Draft) (before after : List ℕ) (reply : Reply) : Type 0 where
  pub leaves : ◌≡◌ {A = Exit} (record { plain = after; reply = reply }) (translated before d)

-- the call's contract: over the draft, the buffer before and after, and the reply
pub record TranslateCall (draft before after : List ℕ) (reply : Reply) : Type 0 where
  pub exits : ◌≡◌ {A = Exit} (record { plain = after; reply = reply }) (exit draft before)
