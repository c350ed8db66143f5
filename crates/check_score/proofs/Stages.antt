-- The stages with which every call begins: the score is checked, and its head is read.
--     playable       an accepted score may be played
--     head_read      its sizes are those of its first word
use mathlib.Core.Path.{◌≡◌, ap, ◌∙◌}
use mathlib.Core.List.{List}
use Prim.Native.Nat.{ℕ}
use Rattle.words.specs.Word.{word_at}
use Rattle.format.specs.declared.Sizes.{Sizes}
use Rattle.format.specs.Format.{sizes_of}
use Rattle.format.specs.Decode.{sizes}
use Rattle.format.specs.Playable.{Playable}
use Rattle.check_verdicts.specs.Verdicts.{verdict_number}
use Rattle.check_verdicts.proofs.Verdicts.{accepted_only}
use Rattle.check_score.specs.Check.{verdict}
use Rattle.check_score.proofs.Lawful.{accepted_faultless, accepted_lawful}

module _ (score : List ℕ) (accepted : verdict_number (verdict score) ≡ 0) where
  pub playable : Playable score
  playable = let e = accepted_only (verdict score) accepted in record { whole = (accepted_faultless score e).enough; lawful = accepted_lawful score e }

pub head_read : (score : List ℕ) {w : ℕ} {h : Sizes} → w ≡ word_at score 0 → h ≡ sizes_of w → h ≡ sizes score
head_read score word-is is = is ∙ ap sizes_of word-is
