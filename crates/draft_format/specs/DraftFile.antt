-- The bytes of a draft.
--     when_byte, as_whens  a draft's bytes with each agent word of kind 15 as the same word of kind 7: byte n is the highest
--                          of word n div 4, agent words are those from word 2 on, and a byte of 240 or more has kind 15
--     draft_verdict        "a watch is tested like a when for 4, 5, 6, and is unguarded like one for 7"
--     draft_agent_of       the agent of a word: "kind 15, watch: body 9..0, token 17..10"
--     decode_draft         the draft that bytes stand for
use Rattle.std.specs.Prelude.{cond, ◌&&◌, List, [], ◌∷◌, map, ℕ, suc, ◌+◌, ◌-◌, ◌*◌, ◌%◌, eqb, leb, ltb, take, drop}
use Rattle.words.specs.Word.{field, kind, words, word_at}
use Rattle.format.specs.Format.{agent_of, rule_of}
use Rattle.format.specs.Decode.{sizes}
use Rattle.check_verdicts.specs.Verdict.{Verdict}
use Rattle.check_score.specs.Check.{verdict}
use Rattle.draft_language.specs.Draft.{Draft}
use Rattle.draft_language.specs.declared.DraftAgent.{DraftAgent}
use Rattle.draft_language.specs.declared.DraftAgent.TheVariants.{Plain, Watch}

abbrev pub when_byte : ℕ → ℕ → ℕ → ℕ
when_byte agents n b = cond (eqb (n % 4) 3 && leb 8 n && ltb n (8 + 4 * agents) && leb 240 b) (b - 128) b

unfoldable pub as_whens_from : ℕ → ℕ → List ℕ → List ℕ
as_whens_from agents n [] = []
as_whens_from agents n (b ∷ s) = when_byte agents n b ∷ as_whens_from agents (suc n) s

abbrev pub as_whens : List ℕ → List ℕ
as_whens s = as_whens_from (sizes s).agents 0 s

abbrev pub draft_verdict : List ℕ → Verdict
draft_verdict s = verdict (as_whens s)

abbrev pub draft_agent_of : ℕ → DraftAgent
draft_agent_of w = cond (eqb (kind w) 15) (Watch (field w 10 8) (field w 0 10)) (Plain (agent_of w))

unfoldable pub decode_draft : List ℕ → Draft
decode_draft s =
    record {
      tokens = (sizes s).tokens;
      lowest_port = field (word_at s 1) 0 8;
      highest_port = field (word_at s 1) 8 8;
      agents = map draft_agent_of (take (sizes s).agents (drop 2 (words s)));
      roots = map (λ w. field w 0 10) (take (sizes s).procedures (drop (2 + (sizes s).agents) (words s)));
      rules = map rule_of (drop (2 + (sizes s).agents + (sizes s).procedures) (words s));
    }
