-- "In order: head, ports, N agent words (agent i is word 2+i), P procedure words, then 0 to 256 rules."
--     decode         the score that bytes stand for
use Rattle.std.specs.Prelude.{List, map, ℕ, ◌+◌, take, drop}
use Rattle.tcc.specs.Score.{Score}
use Rattle.words.specs.Word.{field, words, word_at}
use Rattle.format.specs.declared.Sizes.{Sizes}
use Rattle.format.specs.Format.{sizes_of, agent_of, rule_of}

abbrev pub sizes : List ℕ → Sizes
sizes s = sizes_of (word_at s 0)

unfoldable pub decode : List ℕ → Score
decode s =
    record {
      tokens = (sizes s).tokens;
      lowest_port = field (word_at s 1) 0 8;
      highest_port = field (word_at s 1) 8 8;
      agents = map agent_of (take (sizes s).agents (drop 2 (words s)));
      roots = map (λ w. field w 0 10) (take (sizes s).procedures (drop (2 + (sizes s).agents) (words s)));
      rules = map rule_of (drop (2 + (sizes s).agents + (sizes s).procedures) (words s));
    }
