-- Contracts of inner functions: the bytes of a draft that may be translated. All words are there, and the draft that they
-- stand for is lawful. The check of drafts accepts no others.
use Rattle.std.specs.Prelude.{List, ℕ, ◌+◌, ◌≤◌, length}
use Rattle.words.specs.Word.{words}
use Rattle.format.specs.Decode.{sizes}
use Rattle.draft_language.specs.Draft.{LawfulDraft}
use Rattle.draft_format.specs.DraftFile.{decode_draft}

pub record Translatable (s : List ℕ) : Type 0 where
  pub whole : 2 + (sizes s).agents + (sizes s).procedures ≤ length (words s)
  pub lawful : LawfulDraft (decode_draft s)
