-- `journal_words::put_tokens`: a token flagged brings one word more.
use Rattle.std.proofs.Common.{◌≡◌, ◌+◌, sym, ap, ◌∙◌, length, true, false, arith}
use Rattle.flags.specs.Flags.{set_of}
use Rattle.bits.proofs.Put.{put_none}
use Rattle.journal_words.proofs.Kept.{kept, kept_count, kept_all, kept_room}
use Rattle.journal_words.proofs.Put.{listed_more, listed_same, listed_all}
use Rattle.journal_words.proofs.put_tokens.Goals as goal
use Rattle.journal_words.proofs.put_tokens.Goals.{then-set-token, else-set-token}

pub loop-token-init : goal.loop-token-init
unfolding kept
loop-token-init c = record { place = omega arith; words = sym (put_none c.args.from c.args.journal.now) }

pub put_word-requires : goal.put_word-requires
put_word-requires c = omega (arith, kept_room c.args.set.now c.args.tokens c.requires.by_index c.loop-token.token (omega arith) c.if-set-token.true)

pub overflow_add-at : goal.overflow_add-at
overflow_add-at c = omega (arith, kept_room c.args.set.now c.args.tokens c.requires.by_index c.loop-token.token (omega arith) c.if-set-token.true)

pub loop-token-preserved : goal.loop-token-preserved
loop-token-preserved c =
    let a = c.args in
    let l = c.loop-token in
    let h = l.invariant in
    let set = a.set.now in
    elim c.if-set-token.branch [
      | then-set-token w ↦
          let flag = w.if-set-token.true in
          let room = kept_room set a.tokens c.requires.by_index l.token (omega arith) flag in
          record {
            place = omega (arith, kept_count set l.token true flag);
            words =
                w.journal-is
                ∙ listed_more a.from a.kind set l.token a.journal.now flag
                l.at w.word_of.result l.journal w.put_word.new.bytes h.place w.word_of.ensures (omega (arith, room)) h.words w.put_word.ensures;
          }
      | else-set-token w ↦
          record {
            place = omega (arith, kept_count set l.token false w.if-set-token.false);
            words = w.journal-is ∙ h.words ∙ listed_same a.from a.kind set l.token a.journal.now w.if-set-token.false;
          }
    ]

all : (c : goal.After-loop-token) → kept c.args.set.now c.loop-token.token ≡ set_of c.args.set.now
all c =
    let a = c.args in
    let t : c.loop-token.token ≡ a.tokens = omega arith in
    ap (kept a.set.now) t ∙ kept_all a.set.now a.tokens c.requires.by_index

pub returns-clause-journal_after : goal.returns-clause-journal_after
returns-clause-journal_after c =
    let a = c.args in
    c.loop-token.invariant.words ∙ listed_all a.from a.kind a.set.now c.loop-token.token a.journal.now (set_of a.set.now) (all c)

pub returns-clause-value : goal.returns-clause-value
returns-clause-value c = c.loop-token.invariant.place ∙ ap (λ k. c.args.from + length k) (all c)
