-- `put_set`: a token that is in the set has its word put, and one that is not is passed over.
use Rattle.std.proofs.Common.{◌≡◌, refl, sym, ap, ◌∙◌, ◌+◌, length, arith}
use Rattle.draft_pairs.specs.Pairs.{set_in}
use Rattle.draft_pairs.specs.Rows.{row_value}
use Rattle.bits.specs.Put.{put}
use Rattle.bits.proofs.Put.{put_none}
use Rattle.draft_rules.proofs.Members.{rule_words, held_below, held_same, held_count, held_put, held_all, held_room}
use Rattle.draft_rules.proofs.put_set.Goals as goal
use Rattle.draft_rules.proofs.put_set.Goals.{then-has_token, else-has_token}

pub loop-token-init : goal.loop-token-init
loop-token-init c = (refl, omega arith, sym (put_none c.args.from c.args.plain.now))

pub put_word-requires : goal.put_word-requires
put_word-requires c =
    let room = held_room (set_in (row_value c.args.set)) c.loop-token.token (omega arith) (sym c.has_token.ensures ∙ c.if-has_token.true) in
    omega arith

pub overflow_add-at : goal.overflow_add-at
overflow_add-at c =
    let room = held_room (set_in (row_value c.args.set)) c.loop-token.token (omega arith) (sym c.has_token.ensures ∙ c.if-has_token.true) in
    omega arith

pub loop-token-preserved : goal.loop-token-preserved
loop-token-preserved c =
    let a = c.args in
    let l = c.loop-token in
    let set = set_in (row_value a.set) in
    elim c.if-has_token.branch [
      | then-has_token w ↦
          let held = sym c.has_token.ensures ∙ w.if-has_token.true in
          let room = held_room set l.token (omega arith) held in (
            ap length w.plain-is ∙ w.put_word.auto.bytes ∙ l.invariant.0,
            omega (arith, w.at-is, l.invariant.1, held_count set l.token held),
            w.plain-is
                ∙ held_put set l.token held a.conclusion a.from l.at w.member_word.result a.plain.now l.plain w.put_word.new.bytes
                l.invariant.1 (omega arith) w.member_word.ensures l.invariant.2 w.put_word.ensures,
          )
      | else-has_token w ↦
          let same = held_same set l.token (sym c.has_token.ensures ∙ w.if-has_token.false) in (
            ap length w.plain-is ∙ l.invariant.0,
            w.at-is ∙ l.invariant.1 ∙ ap (λ k. a.from + length k) same,
            w.plain-is ∙ l.invariant.2 ∙ ap (λ k. put a.from (rule_words a.conclusion k) a.plain.now) same,
          )
    ]

pub returns : goal.returns
returns c =
    let a = c.args in
    let l = c.loop-token in
    let set = set_in (row_value a.set) in
    let e : l.token ≡ a.tokens = omega arith in
    let all = ap (held_below set) e ∙ held_all set a.tokens c.requires.tokens_le_most_tokens c.requires.by_index in
    record {
      plain_after = l.invariant.2 ∙ ap (λ k. put a.from (rule_words a.conclusion k) a.plain.now) all;
      value = l.invariant.1 ∙ ap (λ k. a.from + length k) all;
    }
