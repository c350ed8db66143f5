-- `draft_agent_at`: agent i stands in word 2 + i.
use mathlib.Core.Path.{◌≡◌, sym, ap, ◌∙◌}
use Prim.Native.Nat.{◌+◌}
use native.Mathlib.Omega.{arith}
use borrow.Author.Rules.{rules}
use Rattle.words.specs.Word.{word_at}
use Rattle.words.proofs.Words.{words_length}
use Rattle.draft_format.specs.DraftFile.{draft_agent_of}
use Rattle.draft_format.proofs.Draft.{draft_agent}
use Rattle.draft_format.proofs.draft_agent_at.Statement.{statement}
use Rattle.draft_format.proofs.draft_agent_at.Tie as tie

add_word_at : tie.Need-overflow_add-i
add_word_at c = omega (arith, words_length c.args.draft.now)

word_at_requires : tie.Need-word_at-requires
word_at_requires c κs = search rules

draft_agent_of_requires : tie.Need-draft_agent_of-requires
draft_agent_of_requires c κs = search rules

returns : tie.Need-returns
returns c =
    let b = c in
    let s = b.args.draft.now in
    let word-is : c.word_at.result ≡ word_at s (2 + b.args.i) = c.word_at.ensures in
    c.draft_agent_of.ensures ∙ ap draft_agent_of word-is ∙ sym (draft_agent s b.args.i b.requires.1)

pub draft_agent_at_spec : {M : Type 1} → statement M
draft_agent_at_spec = tie.close (tie.spec add_word_at word_at_requires draft_agent_of_requires returns)
