-- The translation's exits, one for each reply.
--     turned, lengths, translates     those of the call, the last as its last part leaves
use mathlib.Core.Path.{◌≡◌, refl, ap}
use mathlib.Core.Bool.{not}
use mathlib.Core.List.{List}
use Prim.Native.Nat.{ℕ}
use borrow.Author.Tests.{eq-eqb, ne_eqb}
use lib.ListN.{length}
use Rattle.laws.proofs.Booleans.{cond_true, cond_false}
use Rattle.format.specs.Limits.{most_bytes}
use Rattle.std.proofs.Common.{Err}
use Rattle.check_verdicts.specs.declared.Fault.{Fault}
use Rattle.check_verdicts.specs.Verdicts.{verdict_number}
use Rattle.refusals.proofs.ByVerdict.{passed}
use Rattle.refusals.proofs.ByVerdict as stages
use Rattle.draft_plain.specs.Reply.{Reply}
use Rattle.refusals.specs.Refused.{Turned, Lengths}
use Rattle.draft_format.specs.DraftFile.{draft_verdict, decode_draft}
use Rattle.draft_call.specs.TranslateCall.{Exit, kept, exit, LeftBy, TranslateCall}

module _ (draft before : List ℕ) where
  abbrev down : Fault → Exit
  down f = kept before (Turned f)

  pub turned : {f : Fault} → Err f ≡ draft_verdict draft → kept before (Turned f) ≡ exit draft before
  unfolding exit
  turned is = stages.turned down _ (draft_verdict draft) is

  module _ (accepted : verdict_number (draft_verdict draft) ≡ 0) where
    pub lengths : (length before ≡ most_bytes → ⊥) → kept before Lengths ≡ exit draft before
    unfolding exit
    lengths other = passed down (draft_verdict draft) accepted (cond_true _ (ap not (ne_eqb (length before) most_bytes other)) refl)

    pub translates : length before ≡ most_bytes → {after : List ℕ} {reply : Reply} → LeftBy (decode_draft draft) before after reply → TranslateCall draft before after reply
    unfolding exit
    translates long l = record { exits = passed down (draft_verdict draft) accepted (cond_false _ (ap not (eq-eqb (length before) most_bytes long)) l.leaves) }
