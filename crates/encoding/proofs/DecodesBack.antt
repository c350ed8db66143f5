-- The bytes of a lawful score are accepted, and stand for that score.
--     said, head, ports, agent_words, root_words, rule_words, word_count   its sizes, and its words
--     agents_read, roots_fit, rules_read      each agent's, procedure's and rule's word can be read
--     head_fits, head_says, ports_fit, lowest_is, highest_is      and so can the first two
--     words_small, words_are      the words of the bytes are those of the score
--     sizes_are, parts, decoded      so they stand for the score
--     ports_accepted, agent_accepted, root_accepted, rule_accepted, faultless      no word meets 4, 5 or 6
--     uncircled         no procedure lies on a circle
--     length_accepted, head_accepted, count_accepted, accepted      no test refuses the bytes
--     decodes_back      the bytes are accepted, and stand for the score
use mathlib.Core.Path.{◌≡◌, refl, sym, ap, ap₂, subst₂, ◌∙◌}
use mathlib.Core.Bool.{Bool, true, false, cond, ◌||◌}
use mathlib.Core.List.{List, [], ◌∷◌, ◌++◌, map, Memᴰ}
use Prim.Native.Nat.{ℕ, ◌+◌, ◌-◌, ◌*◌, ◌^◌, ◌<◌, ◌≤◌}
use native.Mathlib.Omega.{arith}
use borrow.Author.Tests.{lt-leb, le-ltb}
use lib.ListN.{length, get_or, drop, length-append, length-map}
use Rattle.laws.proofs.Sets.{Within, on_cons, on_append, on_map}
use Rattle.tcc.specs.Closure.{Rule}
use Rattle.tcc.specs.Score.{Score, agent_at, root_of, tokens_of, parts_of, procedures_of}
use Rattle.tcc.specs.Lawful.{Lawful}
use Rattle.tcc.specs.Unguarded.{circular}
use Rattle.tcc.specs.declared.Agent.TheVariants.{Skip}
use Rattle.tcc.proofs.Unguarded.{circular_exact}
use Rattle.words.specs.Word.{field, words, word_at}
use Rattle.format.specs.declared.Sizes.{Sizes}
use Rattle.format.specs.Format.{sizes_of, agent_in, agent_of, is_rule, rule_of}
use Rattle.format.specs.Decode.{sizes, decode}
use Rattle.check_verdicts.specs.Verdict.{Accepted, Head}
use Rattle.check_verdicts.specs.Verdicts.{or_else}
use Rattle.check_words.specs.WordFaults.{at_word, agent_verdict}
use Rattle.check_faults.specs.Faults.{length_verdict, head_verdict, count_verdict, word_verdict, first_fault}
use Rattle.check_circles.specs.Circles.{circle_from}
use Rattle.check_circles.proofs.Circle.{lowest_none}
use Rattle.check_score.specs.Check.{verdict}
use Rattle.bits.proofs.Bytes.{bytes_of_length, words_bytes}
use Rattle.encoding.specs.Encode.{head_word, ports_word, agent_word, root_word, rule_word, score_words, score_bytes, RuleFormed, DecodesBack}
use Rattle.encoding.proofs.WrittenWords.{Made, made_word, made_low, made_small, head_made, head_sizes, ports_made, ports_lowest, ports_highest, AgentFits, AgentRead, agent_read, root_made, RuleRead, rule_read}
use Rattle.encoding.proofs.Lists.{on_places, place_member, map_back, InParts, in_parts}
use Rattle.encoding.proofs.WordVerdicts.{length_fits, count_fits, agent_place_lem, root_place, rule_place, none_from, at_accepted, faultless_append, faultless_map}

module _ (sc : Score) where
  abbrev said : Sizes
  said = record { tokens = sc.tokens; agents = length sc.agents; procedures = length sc.roots }

  abbrev head : ℕ
  head = head_word said.tokens said.agents said.procedures

  abbrev ports : ℕ
  ports = ports_word sc.lowest_port sc.highest_port

  abbrev agent_words : List ℕ
  agent_words = map agent_word sc.agents

  abbrev root_words : List ℕ
  root_words = map root_word sc.roots

  abbrev rule_words : List ℕ
  rule_words = map rule_word sc.rules

  pub word_count : length (score_words sc) ≡ 2 + said.agents + said.procedures + length sc.rules
  unfolding score_words
  word_count = simp (length-append, length-map) (omega arith)

  module _ (lawful : Lawful sc) (formed : Within RuleFormed sc.rules) where
    agent_fits : (i : ℕ) → i < length sc.agents → AgentFits (agent_at sc i)
    agent_fits i lt = record {
      tokens = λ t m. omega (arith, lawful.tokens_known i t m, lawful.tokens_at_most);
      parts = λ b m. omega (arith, lawful.parts_lower i b m, lawful.agents_at_most);
      procedures = λ p m. omega (arith, lawful.procedures_known i p m, lawful.roots_at_most);
    }

    agents_read : Within AgentRead sc.agents
    agents_read = on_places AgentRead sc.agents Skip (λ i lt. agent_read (agent_at sc i) (agent_fits i lt))

    roots_fit : Within (λ i. i < 1024) sc.roots
    roots_fit = on_places (λ i. i < 1024) sc.roots 0 (λ p lt. omega (arith, lawful.roots_known p lt, lawful.agents_at_most))

    rules_read : Within RuleRead sc.rules
    rules_read r m =
        rule_read r (formed r m)
        (record {
          conclusion = omega (arith, lawful.conclusions_known r m, lawful.tokens_at_most);
          premises = λ t k. omega (arith, lawful.premises_known r t m k, lawful.tokens_at_most);
        })

    -- ---- the score that the bytes stand for

    head_fits : Made 1 24 (said.tokens - 1 + (said.agents - 1) * 2 ^ 8 + (said.procedures - 1) * 2 ^ 18) head
    head_fits = head_made said.tokens said.agents said.procedures lawful.tokens_at_most lawful.agents_at_most lawful.roots_at_most

    head_says : sizes_of head ≡ said
    head_says = head_sizes said.tokens said.agents said.procedures lawful.tokens_at_most lawful.agents_at_most lawful.roots_at_most lawful.some_tokens lawful.some_agents lawful.some_roots

    lowest_fits : sc.lowest_port < 256
    lowest_fits = omega (arith, lawful.ports_ordered, lawful.ports_known, lawful.tokens_at_most)

    highest_fits : sc.highest_port < 256
    highest_fits = omega (arith, lawful.ports_known, lawful.tokens_at_most)

    ports_fit : Made 11 16 (sc.lowest_port + sc.highest_port * 2 ^ 8) ports
    ports_fit = ports_made sc.lowest_port sc.highest_port lowest_fits highest_fits

    lowest_is : field ports 0 8 ≡ sc.lowest_port
    lowest_is = ports_lowest sc.lowest_port sc.highest_port lowest_fits highest_fits

    highest_is : field ports 8 8 ≡ sc.highest_port
    highest_is = ports_highest sc.lowest_port sc.highest_port lowest_fits highest_fits

    words_small : Within (λ w. w < 2 ^ 32) (score_words sc)
    unfolding score_words
    words_small =
        on_cons (made_small head_fits) (on_cons (made_small ports_fit)
        (on_append (agent_words ++ root_words)
        (on_append agent_words (on_map (λ w. w < 2 ^ 32) agent_word sc.agents (λ a m. (agents_read a m).small))
        (on_map (λ w. w < 2 ^ 32) root_word sc.roots (λ i m. made_small (root_made i (roots_fit i m)))))
        (on_map (λ w. w < 2 ^ 32) rule_word sc.rules (λ r m. (rules_read r m).small))))

    words_are : words (score_bytes sc) ≡ score_words sc
    words_are = words_bytes (score_words sc) words_small

    head_is : word_at (score_bytes sc) 0 ≡ head
    unfolding score_words
    head_is = ap (λ ws. get_or ws 0 0) words_are

    sizes_are : sizes (score_bytes sc) ≡ said
    sizes_are = ap sizes_of head_is ∙ head_says

    ports_are : word_at (score_bytes sc) 1 ≡ ports
    unfolding score_words
    ports_are = ap (λ ws. get_or ws 1 0) words_are

    parts : InParts (words (score_bytes sc)) (sizes (score_bytes sc)).agents (sizes (score_bytes sc)).procedures agent_words root_words rule_words
    unfolding score_words
    parts =
        subst₂ (λ ws n. InParts ws n.agents n.procedures agent_words root_words rule_words) (sym words_are) (sym sizes_are)
        (in_parts head ports agent_words root_words rule_words said.agents said.procedures (length-map sc.agents agent_word) (length-map sc.roots root_word))

    decoded : decode (score_bytes sc) ≡ sc
    unfolding decode
    decoded =
        let agents = ap (map agent_of) parts.first ∙ map_back agent_word agent_of sc.agents (λ a m. ap agent_in (agents_read a m).decoded) in
        let roots = ap (map (λ w. field w 0 10)) parts.second ∙ map_back root_word (λ w. field w 0 10) sc.roots (λ i m. made_low (root_made i (roots_fit i m))) in
        let rules = ap (map rule_of) parts.third ∙ map_back rule_word rule_of sc.rules (λ r m. (rules_read r m).same) in
        let lowest = ap (λ w. field w 0 8) ports_are ∙ lowest_is in
        let highest = ap (λ w. field w 8 8) ports_are ∙ highest_is in
        λ i. record {
          tokens = (sizes_are i).tokens;
          lowest_port = lowest i;
          highest_port = highest i;
          agents = agents i;
          roots = roots i;
          rules = rules i;
        }

    -- ---- no word meets 4, 5 or 6

    ports_accepted : word_verdict said 1 ports ≡ Accepted
    unfolding word_verdict
    ports_accepted =
        let lowest = lowest_is in
        let highest = highest_is in
        let ordered = lawful.ports_ordered in
        let known = lawful.ports_known in
        at_accepted said 1 (field ports 0 8 ∷ field ports 8 8 ∷ []) (made_word ports_fit)
        (on_cons {P = λ t. t < sc.tokens} (omega arith) (on_cons {P = λ t. t < sc.tokens} (omega arith) (λ t m. elim m [ ])))
        (le-ltb (field ports 8 8) (field ports 0 8) (omega arith))

    agent_accepted : (i n : ℕ) → n ≡ 2 + i → i < said.agents → word_verdict said n (agent_word (agent_at sc i)) ≡ Accepted
    agent_accepted i n e lt =
        let a = agent_at sc i in
        let number : n - 2 ≡ i = omega arith in
        agent_place_lem said n (agent_word a) (omega arith) (omega arith)
        ∙ ap₂ (agent_verdict said) number (agent_read a (agent_fits i lt)).decoded
        ∙ at_accepted said (2 + i) (tokens_of a) refl (lawful.tokens_known i)
        (ap₂ ◌||◌ (none_from i (parts_of a) (lawful.parts_lower i)) (none_from said.procedures (procedures_of a) (lawful.procedures_known i)))

    root_accepted : (p n : ℕ) → n ≡ 2 + said.agents + p → p < said.procedures → word_verdict said n (root_word (root_of sc p)) ≡ Accepted
    root_accepted p n e lt =
        let i = root_of sc p in
        let known : i < said.agents = lawful.roots_known p lt in
        let m = root_made i (omega (arith, lawful.agents_at_most)) in
        root_place said n (root_word i) (omega arith) (omega arith)
        ∙ at_accepted said n [] (made_word m) (λ t k. elim k [ ]) (lt-leb said.agents (field (root_word i) 0 10) (omega (arith, made_low m)))

    rule_accepted : (r : Rule ℕ) (n : ℕ) → Memᴰ r sc.rules → 2 + said.agents + said.procedures ≤ n → word_verdict said n (rule_word r) ≡ Accepted
    rule_accepted r n m le =
        let read = rules_read r m in
        rule_place said n (rule_word r) le
        ∙ ap (λ x. at_word said n (is_rule (rule_word r)) (x.conclusion ∷ x.premises) false) read.same
        ∙ at_accepted said n (r.conclusion ∷ r.premises) read.formed (on_cons {P = λ t. t < sc.tokens} (lawful.conclusions_known r m) (λ t k. lawful.premises_known r t m k)) refl

    faultless : first_fault said 1 (drop 1 (score_words sc)) ≡ Accepted
    unfolding score_words first_fault
    faultless =
        let n : length agent_words ≡ said.agents = length-map sc.agents agent_word in
        let p : length root_words ≡ said.procedures = length-map sc.roots root_word in
        rw ports_accepted
        (faultless_append said 2 (agent_words ++ root_words) rule_words
        (faultless_append said 2 agent_words root_words
        (faultless_map agent_word sc.agents Skip said 2 agent_accepted)
        (faultless_map root_word sc.roots 0 said (2 + length agent_words) (λ i k e lt. root_accepted i k (omega arith) lt)))
        (faultless_map rule_word sc.rules none said (2 + length (agent_words ++ root_words)) (λ i k e lt. rule_accepted (get_or sc.rules i none) k (place_member sc.rules i none lt) (omega (arith, length-append agent_words root_words)))))
      where
        none : Rule ℕ
        none = record { premises = []; conclusion = 0 }

    -- ---- no procedure lies on a circle

    uncircled : circle_from sc 0 said.procedures ≡ Accepted
    uncircled = lowest_none sc (record { all = free })
      where
        free : (p : ℕ) → p < said.procedures → circular sc p ≡ false
        free p lt = go (circular sc p) refl
          where
            go : (b : Bool) → circular sc p ≡ b → circular sc p ≡ false
            go true e = absurd (lawful.no_circle p lt ((circular_exact sc lawful.procedures_known p).0 e))
            go false e = e

    -- ---- each test in turn

    length_accepted : length_verdict (length (score_bytes sc)) ≡ Accepted
    length_accepted =
        let n = bytes_of_length (score_words sc) in
        let k = word_count in
        length_fits (length (score_bytes sc)) (omega arith) (omega arith) (omega (arith, lawful.agents_at_most, lawful.roots_at_most, lawful.rules_at_most))

    head_accepted : head_verdict (word_at (score_bytes sc) 0) ≡ Accepted
    head_accepted = ap head_verdict head_is ∙ ap (λ b. cond b Accepted Head) (made_word head_fits)

    count_accepted : count_verdict (sizes (score_bytes sc)) (length (words (score_bytes sc))) ≡ Accepted
    count_accepted =
        let k = word_count in
        ap₂ count_verdict sizes_are (ap length words_are) ∙ count_fits said (length (score_words sc)) (omega arith) (omega (arith, lawful.rules_at_most))

    accepted : verdict (score_bytes sc) ≡ Accepted
    unfolding verdict
    accepted =
        ap₂ or_else length_accepted
        (ap₂ or_else head_accepted
        (ap₂ or_else count_accepted
        (ap₂ or_else (ap₂ (λ h ws. first_fault h 1 (drop 1 ws)) sizes_are words_are ∙ faultless)
        (ap (λ d. circle_from d 0 (length d.roots)) decoded ∙ uncircled))))

pub decodes_back : DecodesBack
decodes_back sc lawful formed = (accepted sc lawful formed, decoded sc lawful formed)
