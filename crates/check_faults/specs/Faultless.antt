-- Contracts of inner functions: what the check knows once it tries 7.
--     Faultless      all words are there, and none meets 4, 5 or 6
use Rattle.std.specs.Prelude.{◌≡◌, List, ℕ, ◌+◌, ◌≤◌, length, drop}
use Rattle.words.specs.Word.{words}
use Rattle.format.specs.Decode.{sizes}
use Rattle.check_verdicts.specs.Verdict.{Accepted}
use Rattle.check_faults.specs.Faults.{first_fault}

pub record Faultless (s : List ℕ) : Type 0 where
  pub enough : 2 + (sizes s).agents + (sizes s).procedures ≤ length (words s)
  pub faultless : first_fault (sizes s) 1 (drop 1 (words s)) ≡ Accepted
