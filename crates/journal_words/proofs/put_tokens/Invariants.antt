-- `journal_words::put_tokens`: the words of the tokens below `token` are put.
use Rattle.std.proofs.Common.{◌≡◌, ◌+◌, length}
use Rattle.bits.specs.Put.{put}
use Rattle.journal_words.proofs.Kept.{kept}
use Rattle.journal_words.proofs.Put.{listed}
use Rattle.journal_words.proofs.put_tokens.Given as goal

abbrev pub invariant-loop-token : goal.invariant-loop-token
invariant-loop-token l = record {
  place : l.at ≡ l.from + length (kept l.set l.token);
  words : l.journal ≡ put l.from (listed l.kind l.set l.token) l.initial.journal;
}
