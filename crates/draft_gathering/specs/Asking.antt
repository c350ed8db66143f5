-- Contracts of inner functions: the sets that agents ask for.
--     tokens_named   the tokens that an agent of a draft names
--     asked_by       the set that an agent under a set asks for; the empty set where it asks for none
--     TokensBelow    the tokens of each set of a list are below a number
use Rattle.std.specs.Prelude.{◌≡◌, true, ℕ, ◌<◌, get_or}
use mathlib.Core.List.{List, Memᴰ}
use Rattle.tcc.specs.Score.{tokens_of}
use Rattle.draft_language.specs.Draft.{as_when}
use Rattle.draft_language.specs.declared.DraftAgent.{DraftAgent}
use Rattle.draft_pairs.specs.TokenSets.{holds}
use Rattle.draft_plain.specs.Plain.{asks_for}

abbrev pub tokens_named : DraftAgent → List ℕ
tokens_named w = tokens_of (as_when w)

abbrev pub asked_by : ℕ → DraftAgent → ℕ
asked_by set w = get_or (asks_for set (as_when w)) 0 0

abbrev pub TokensBelow : ℕ → List ℕ → Type 0
TokensBelow tokens sets = (set : ℕ) → Memᴰ set sets → (t : ℕ) → holds set t ≡ true → t < tokens
