-- A score without watches, all of whose agents and procedures lie on paths from procedure 0, is returned byte for byte.
--     lawful_fits      a lawful score passes no limit
--     returned         the theorem
use mathlib.Core.Path.{◌≡◌, ap, ◌∙◌}
use mathlib.Core.Bool.{true}
use mathlib.Core.List.{◌++◌}
use borrow.Author.Tests.{le-leb}
use lib.ListN.{length, drop}
use Rattle.laws.proofs.Booleans.{true_is_false, both_and}
use Rattle.tcc.specs.Score.{Score}
use Rattle.tcc.specs.Lawful.{Lawful}
use Rattle.check_verdicts.specs.Verdict.{Accepted}
use Rattle.draft_language.specs.Draft.{whens}
use Rattle.draft_plain.specs.Plain.{plain_of, fits}
use Rattle.draft_plain.proofs.Unchanged.{unchanged}
use Rattle.encoding.specs.Encode.{score_bytes}
use Rattle.encoding.proofs.ReadBack.{read_back}
use Rattle.draft_format.specs.DraftFile.{draft_verdict, decode_draft}
use Rattle.draft_format.proofs.Draft.{accepted_lawful_draft, plain_draft}
use Rattle.score_answer.specs.Answer.{number_in, value_in}
use Rattle.score.proofs.ScoreTranslate.{bytes_below}
use Rattle.claims_watches.specs.Returned.{Returned}
use Rattle.claims_watches.proofs.Translations.{Ended, refused, over, wrote, ended}

lawful_fits : (sc : Score) → Lawful sc → fits sc ≡ true
lawful_fits sc law =
    both_and (both_and (both_and (le-leb sc.tokens 256 law.tokens_at_most) (le-leb (length sc.agents) 1024 law.agents_at_most))
    (le-leb (length sc.roots) 64 law.roots_at_most)) (le-leb (length sc.rules) 256 law.rules_at_most)

pub returned : Returned
returned score before after answer accepted on long c =
    let d = decode_draft score in
    let bytes = bytes_below score c.lent in
    let plain = plain_draft score bytes accepted in
    let law = accepted_lawful_draft score bytes plain.accepted in
    let same : plain_of d ≡ whens d = unchanged d law plain.no_watch on in
    go plain.accepted (ap fits same ∙ lawful_fits (whens d) law) (ap score_bytes (same ∙ plain.decoded) ∙ read_back score bytes accepted) (ended c)
  where
    go : draft_verdict score ≡ Accepted → fits (plain_of (decode_draft score)) ≡ true → score_bytes (plain_of (decode_draft score)) ≡ score → Ended score before after answer →
        (number_in answer ≡ 0) × (value_in answer ≡ length score) × (after ≡ score ++ drop (length score) before)
    go draft fit is (refused not-zero not-sixteen fault kept) = absurd (fault draft long)
    go draft fit is (over unfit number kept) = absurd (true_is_false fit unfit)
    go draft fit is (wrote w) = (w.number, w.value ∙ ap length is, w.plain ∙ ap (λ s. s ++ drop (length s) before) is)
