-- `check`: a draft that is too short or too long to be read is of no length that a score may have; any other is read.
use mathlib.Core.Bool.{not, or-true, ◌||◌}
use mathlib.Core.List.{List}
use mathlib.Core.Logic.{by_cases}
use native.Mathlib.Decide.{ℕ_discrete}
use borrow.Author.Tests.{eq-eqb, ne_eqb, lt-ltb}
use lib.Dec.{eqb}
use Rattle.std.proofs.Common.{◌≡◌, ap, ◌∙◌, ℕ, ◌%◌, ◌<◌, length, arith}
use Rattle.words.proofs.Words.{words_length}
use Rattle.format.specs.Format.{sizes_of}
use Rattle.format.proofs.Decode.{sizes_few}
use Rattle.check_verdicts.specs.Verdict.{Length}
use Rattle.check_faults.specs.Faults.{length_verdict}
use Rattle.check_score.specs.Check.{verdict}
use Rattle.draft_format.specs.DraftFile.{draft_verdict}
use Rattle.draft_format.proofs.AsWhens.{as_whens_length}
use Rattle.draft_format.proofs.check.Goals as goal

short : (n : ℕ) → n < 4 → length_verdict n ≡ Length
short n h = by_cases (ℕ_discrete n 0)
    (λ e. rw (eq-eqb n 0 e))
    (λ z. rw (ne_eqb n 0 z, ne_eqb (n % 4) 0 (λ e. z (omega arith))))

long : (n : ℕ) → 5384 < n → length_verdict n ≡ Length
long n h = rw (lt-ltb 5384 n h, or-true (eqb n 0 || not (eqb (n % 4) 0)))

by_length : (s : List ℕ) → length_verdict (length s) ≡ Length → Length ≡ draft_verdict s
unfolding verdict
by_length s e = rw (ap length_verdict (as_whens_length s) ∙ e)

pub returns-then-count-lt4 : goal.returns-then-count-lt4
returns-then-count-lt4 c = let s = c.args.draft.now in by_length s (short (length s) (omega arith))

pub returns-then-count-gt-MOST_BYTES : goal.returns-then-count-gt-MOST_BYTES
returns-then-count-gt-MOST_BYTES c = let s = c.args.draft.now in by_length s (long (length s) (omega arith))

pub word_at-requires : goal.word_at-requires
word_at-requires c = omega (arith, words_length c.args.draft.now)

pub read_as_whens-requires-clause-agents_le_most_agents : goal.read_as_whens-requires-clause-agents_le_most_agents
read_as_whens-requires-clause-agents_le_most_agents c =
    omega (arith, ap (λ h. h.agents) (c.sizes_of-sizes.ensures ∙ ap sizes_of c.word_at.ensures), sizes_few c.args.draft.now)
