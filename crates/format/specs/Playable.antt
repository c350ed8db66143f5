-- Contracts of inner functions: bytes that an engine may play. All words are there, and the score that they stand for is
-- lawful. The score check accepts no others.
use Rattle.std.specs.Prelude.{List, ℕ, ◌+◌, ◌≤◌, length}
use Rattle.tcc.specs.Lawful.{Lawful}
use Rattle.words.specs.Word.{words}
use Rattle.format.specs.Decode.{sizes, decode}

pub record Playable (s : List ℕ) : Type 0 where
  pub whole : 2 + (sizes s).agents + (sizes s).procedures ≤ length (words s)
  pub lawful : Lawful (decode s)
