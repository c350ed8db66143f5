-- The score check: the table's rows 1 to 7, in their order.
--     verdict              the check
use Rattle.std.specs.Prelude.{List, ℕ, length, drop}
use Rattle.words.specs.Word.{words, word_at}
use Rattle.format.specs.Decode.{sizes, decode}
use Rattle.check_verdicts.specs.Verdict.{Verdict}
use Rattle.check_verdicts.specs.Verdicts.{or_else}
use Rattle.check_faults.specs.Faults.{length_verdict, head_verdict, count_verdict, first_fault}
use Rattle.check_circles.specs.Circles.{circle_from}

unfoldable pub verdict : List ℕ → Verdict
verdict s =
    or_else (length_verdict (length s))
    (or_else (head_verdict (word_at s 0))
    (or_else (count_verdict (sizes s) (length (words s)))
    (or_else (first_fault (sizes s) 1 (drop 1 (words s)))
    (circle_from (decode s) 0 (length (decode s).roots)))))
