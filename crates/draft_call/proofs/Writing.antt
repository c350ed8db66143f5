-- What a translation writes, once the pairs and the asked sets of the draft are gathered: the words of the plain score.
--     plain_in, members_in   the plain score, and its rules from members of sets
--     head_in, ports_in      its first two words
--     members_from           the word from which on its rules from members stand
--     ports_kept             its second word is the draft's
--     Counted, counted       how many there are of each kind
--     words_few              there is room for their words
--     plain_length           the bytes that they make
--     Front                  words are put from the front of a buffer, up to a word
--     front_first            the first two words, as `bits::put_word` puts them
--     front_more             further words, right after those that were put
--     words_parted           the words of the plain score, in the parts that they are put in
--     all_put                so what is put is the plain score, "and bytes past it are as they were"
use mathlib.Core.Path.{◌≡◌, refl, sym, ap, ap₂, subst, ◌∙◌}
use mathlib.Core.Bool.{true}
use mathlib.Core.List.{List, [], ◌∷◌, ◌++◌, map, map-append, append_assoc}
use Prim.Native.Nat.{ℕ, ◌+◌, ◌-◌, ◌*◌, ◌^◌, ◌<◌, ◌≤◌}
use native.Mathlib.Omega.{arith}
use lib.ListN.{length, take, drop, length-append, length-map}
use Rattle.tcc.specs.Closure.{Rule}
use Rattle.tcc.specs.Score.{Score}
use Rattle.tcc.specs.Lawful.{Lawful}
use Rattle.words.specs.Word.{word_at}
use Rattle.format.specs.Format.{is_word}
use Rattle.check_verdicts.specs.Verdict.{Accepted}
use Rattle.bits.specs.Bits.{bytes_of}
use Rattle.bits.proofs.Bytes.{bytes_of_length}
use Rattle.draft_plain.specs.Plain.{plain_of, member_rules}
use Rattle.draft_plain.proofs.PlainLawful.{plain_lawful}
use Rattle.encoding.specs.Encode.{head_word, ports_word, agent_word, root_word, rule_word, score_words, score_bytes}
use Rattle.encoding.proofs.ReadWords.{ports_again}
use Rattle.encoding.proofs.ReadBack.{ports_formed}
use Rattle.encoding.proofs.DecodesBack.{word_count}
use Rattle.bits.specs.Put.{put}
use Rattle.bits.proofs.Put.{put_then, put_next}
use Rattle.draft_format.specs.DraftFile.{as_whens, draft_verdict, decode_draft}
use Rattle.draft_format.proofs.Draft.{words_kept}
use Rattle.draft_gathering.specs.declared.Counts.{Counts}
use Rattle.draft_gathering.specs.Gathered.{sets_in, Gathered}
use Rattle.draft_rules.proofs.Rules.{gathered_rules}
use Rattle.draft_rules.proofs.Asked.{sets_many}
use Rattle.draft_words.proofs.Pairs.{agents_many, procedures_many}

abbrev pub plain_in : List ℕ → Score
plain_in s = plain_of (decode_draft s)

abbrev pub members_in : List ℕ → Counts → List (Rule ℕ)
members_in s n = member_rules n.tokens (sets_in s)

abbrev pub head_in : Counts → ℕ
head_in n = head_word (n.tokens + n.sets) n.copied (n.pairs - n.copied)

abbrev pub ports_in : List ℕ → ℕ
ports_in s = ports_word (plain_in s).lowest_port (plain_in s).highest_port

abbrev pub members_from : Counts → ℕ
members_from n = 2 + n.pairs + (n.words - (2 + n.agents + n.procedures))

pub ports_kept : (s : List ℕ) → draft_verdict s ≡ Accepted → word_at s 1 < 2 ^ 32 → word_at s 1 ≡ ports_in s
unfolding plain_of decode_draft
ports_kept s e small = sym (ports_again (word_at s 1) small (subst (λ w. is_word 11 16 w ≡ true) (words_kept s 1 (λ from to. omega arith)) (ports_formed (as_whens s) e)))

pub record Counted (s : List ℕ) (n : Counts) : Type 0 where
  pub lawful : Lawful (plain_in s)
  pub tokens_are : (plain_in s).tokens ≡ n.tokens + n.sets
  pub agents_are : length (plain_in s).agents ≡ n.copied
  pub roots_are : length (plain_in s).roots ≡ n.pairs - n.copied
  pub copied_few : n.copied ≤ n.pairs
  pub rules_are : length (decode_draft s).rules ≡ n.words - (2 + n.agents + n.procedures)
  pub all_rules_are : (plain_in s).rules ≡ (decode_draft s).rules ++ members_in s n
  pub before_rules : 2 + n.agents + n.procedures ≤ n.words
  pub words_most : n.words ≤ 1346

pub counted : {s : List ℕ} {n : Counts} {table sets : List (List ℕ)} → Gathered s n table sets → Counted s n
unfolding plain_of decode_draft
counted {s} g =
    let d = decode_draft s in
    let ruled = gathered_rules g in
    let procedures = procedures_many g in
    record {
      lawful = plain_lawful d g.translatable.lawful g.fitting;
      tokens_are = omega (arith, g.tokens_are, sets_many g);
      agents_are = agents_many g;
      roots_are = omega arith;
      copied_few = omega arith;
      rules_are = ruled.rules_are;
      all_rules_are = ap (λ t. d.rules ++ member_rules t (sets_in s)) (sym g.tokens_are);
      before_rules = ruled.whole;
      words_most = ruled.few;
    }

module _ {s : List ℕ} {n : Counts} (k : Counted s n) where
  rules_many : length (plain_in s).rules ≡ length (decode_draft s).rules + length (members_in s n)
  rules_many = ap length k.all_rules_are ∙ length-append (decode_draft s).rules (members_in s n)

  pub words_few : members_from n + length (members_in s n) ≤ 1346
  words_few = omega (arith, k.lawful.agents_at_most, k.lawful.roots_at_most, k.lawful.rules_at_most, k.agents_are, k.roots_are, k.copied_few, k.rules_are, rules_many)

  pub plain_length : length (score_bytes (plain_in s)) ≡ 4 * (members_from n + length (members_in s n))
  plain_length = omega (arith, bytes_of_length (score_words (plain_in s)), word_count (plain_in s), k.agents_are, k.roots_are, k.copied_few, k.rules_are, rules_many)

pub record Front (b₀ ws b : List ℕ) (at : ℕ) : Type 0 where
  pub many : length ws ≡ at
  pub is_put : b ≡ put 0 ws b₀

pub front_first : {b₀ b₁ b₂ : List ℕ} (h p : ℕ) → 8 ≤ length b₀ → b₁ ≡ take (4 * 0) b₀ ++ bytes_of (h ∷ []) ++ drop (4 * 0 + 4) b₀ → b₂ ≡ take (4 * 1) b₁ ++ bytes_of (p ∷ []) ++ drop (4 * 1 + 4) b₁ → Front b₀ (h ∷ p ∷ []) b₂ 2
front_first {b₀} h p room first second = record {
  many = refl;
  is_put = second ∙ ap (λ b. take (4 * 1) b ++ bytes_of (p ∷ []) ++ drop (4 * 1 + 4) b) first ∙ put_next 0 (h ∷ []) b₀ p 1 refl (omega arith);
}

front_more : {b₀ ws b b' : List ℕ} {at : ℕ} (next : ℕ) (ys : List ℕ) → Front b₀ ws b at → 4 * at ≤ length b₀ → next ≡ at + length ys → b' ≡ put at ys b → Front b₀ (ws ++ ys) b' next
front_more {b₀} {ws} {at = at} next ys f room here then = record {
  many = omega (arith, length-append ws ys, f.many);
  is_put = then ∙ ap₂ (λ i b. put i ys b) (let e : at ≡ 0 + length ws = omega (arith, f.many) in e) f.is_put ∙ put_then 0 ws b₀ ys (omega (arith, f.many));
}

whole_put : (sc : Score) (b : List ℕ) → put 0 (score_words sc) b ≡ score_bytes sc ++ drop (length (score_bytes sc)) b
whole_put sc b = ap (λ i. score_bytes sc ++ drop i b) (let e : 4 * (0 + length (score_words sc)) ≡ length (score_bytes sc) = omega (arith, bytes_of_length (score_words sc)) in e)

module _ {s : List ℕ} {n : Counts} (k : Counted s n) where
  abbrev agents : List ℕ
  agents = map agent_word (plain_in s).agents

  abbrev roots : List ℕ
  roots = map root_word (plain_in s).roots

  abbrev rules : List ℕ
  rules = map rule_word (decode_draft s).rules

  abbrev members : List ℕ
  members = map rule_word (members_in s n)

  head_sized : head_in n ≡ head_word (plain_in s).tokens (length (plain_in s).agents) (length (plain_in s).roots)
  head_sized = rw (k.tokens_are, k.agents_are, k.roots_are)

  rules_parted : rules ++ members ≡ map rule_word (plain_in s).rules
  rules_parted = sym (map-append rule_word (decode_draft s).rules (members_in s n)) ∙ ap (map rule_word) (sym k.all_rules_are)

  words_parted : {h p : ℕ} → h ≡ head_in n → p ≡ ports_in s → (h ∷ p ∷ []) ++ agents ++ roots ++ rules ++ members ≡ score_words (plain_in s)
  unfolding score_words
  words_parted head ports = λ i. (head ∙ head_sized) i ∷ ports i ∷ (append_assoc (agents ++ roots) rules members ∙ ap (λ ws. agents ++ roots ++ ws) rules_parted) i

  pub all_put : {b₀ b₁ b₂ b₃ b₄ b₅ : List ℕ} {h p : ℕ} → length b₀ ≡ 5384 → h ≡ head_in n → p ≡ ports_in s →
      Front b₀ (h ∷ p ∷ []) b₁ 2 → b₂ ≡ put 2 agents b₁ → b₃ ≡ put (2 + n.copied) roots b₂ → b₄ ≡ put (2 + n.pairs) rules b₃ → b₅ ≡ put (members_from n) members b₄ →
      b₅ ≡ score_bytes (plain_in s) ++ drop (length (score_bytes (plain_in s))) b₀
  all_put {b₀} long head ports first second third fourth fifth =
      let few = words_few k in
      let with-agents = front_more (2 + n.copied) agents first (omega arith) (omega (arith, length-map (plain_in s).agents agent_word, k.agents_are)) second in
      let with-roots = front_more (2 + n.pairs) roots with-agents (omega (arith, k.copied_few)) (omega (arith, length-map (plain_in s).roots root_word, k.roots_are, k.copied_few)) third in
      let with-rules = front_more (members_from n) rules with-roots (omega arith) (omega (arith, length-map (decode_draft s).rules rule_word, k.rules_are)) fourth in
      let all = front_more (members_from n + length members) members with-rules (omega arith) refl fifth in
      all.is_put ∙ ap (λ ws. put 0 ws b₀) (words_parted head ports) ∙ whole_put (plain_in s) b₀
