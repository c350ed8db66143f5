-- Laws of drafts: what their words are with each watch as a when, and what holds of those that their check accepts.
--     words_kept                   a word that is no agent's stays
--     words_as_whens               an agent word of kind 15 has kind 7
--     sizes_as_whens               the head says the same
--     draft_agent                  agent i is that of word 2 + i
--     WholeDraft, accepted_whole   an accepted draft has all its words, and as many agents and procedures as its head says
--     whens_decoded                with each watch as a when, it is the score of its bytes with each watch as a when
--     accepted_lawful_draft        so it is lawful
--     plain_agent_lem              the agents of an accepted score, taken as a draft, are its own
--     PlainDraft, plain_draft      so it is an accepted draft with no watch
use mathlib.Core.Path.{◌≡◌, refl, sym, ap, subst⁻¹, ◌∙◌}
use mathlib.Core.List.{List, map}
use mathlib.Core.Logic.{by_cases}
use Prim.Native.Nat.{ℕ, ◌+◌, ◌*◌, ◌-◌, ◌/◌, ◌%◌, ◌<◌, ◌≤◌}
use native.Mathlib.Decide.{dec_lt}
use native.Mathlib.Omega.{arith}
use borrow.Author.Tests.{lt-ltb, le-ltb}
use lib.ListN.{length, get_or, take, drop, length-map, length-take, length-drop, get_or-eq_default, get_or-map}
use lib.Seq.{get_or-take, get_or-drop, ext_get_or}
use Rattle.std.proofs.Common.{None}
use Rattle.laws.proofs.Lists.{entry_member}
use Rattle.laws.proofs.Sets.{Within}
use Rattle.tcc.specs.Lawful.{Lawful}
use Rattle.tcc.specs.Score.{agent_at}
use Rattle.tcc.specs.declared.Agent.TheVariants.{Skip}
use Rattle.words.specs.Word.{joined, field, kind, words, word_at}
use Rattle.words.proofs.Words.{words_length, words_room, word_joined}
use Rattle.format.specs.Format.{sizes_of, decode_agent, agent_of, rule_of}
use Rattle.format.specs.Decode.{sizes, decode}
use Rattle.format.proofs.Decode.{decode_agent_lem, decode_agents, decode_roots, decode_rules, sizes_few}
use Rattle.check_verdicts.specs.Verdict.{Accepted, Form}
use Rattle.check_verdicts.proofs.Verdicts.{refused}
use Rattle.check_words.specs.WordFaults.{agent_verdict}
use Rattle.check_faults.specs.Faults.{word_verdict}
use Rattle.check_faults.proofs.Accepted.{word_accepted}
use Rattle.check_score.specs.Check.{verdict}
use Rattle.check_score.proofs.Lawful.{accepted_words, accepted_faultless, accepted_lawful}
use Rattle.draft_language.specs.Draft.{draft_agent_at, as_when, whens, LawfulDraft}
use Rattle.draft_language.specs.declared.DraftAgent.TheVariants.{Plain, Watch}
use Rattle.draft_language.proofs.Whens.{when_at, whens_many}
use Rattle.draft_format.specs.DraftFile.{when_byte, as_whens, draft_verdict, draft_agent_of, decode_draft}
use Rattle.draft_format.proofs.AsWhens.{byte_kept, byte_less, as_whens_length, as_whens_at}
use Rattle.draft_format.proofs.WhenWord.{when_word, plain_written, joined_kind, joined_kept, joined_less, zero_kept, watch_malformed, written_read}

-- the words
module _ (s : List ℕ) where
  words_many : length (words (as_whens s)) ≡ length (words s)
  words_many = words_length (as_whens s) ∙ ap (λ n. n / 4) (as_whens_length s) ∙ sym (words_length s)

  low_kept : (n : ℕ) → n < length s → (n % 4 ≡ 3 → ⊥) → get_or (as_whens s) n 0 ≡ get_or s n 0
  low_kept n h low = as_whens_at s n h ∙ byte_kept (sizes s).agents n (get_or s n 0) (λ top from to high. low top)

  word_rejoined : (k : ℕ) → k < length (words s) →
      word_at (as_whens s) k ≡ joined (get_or s (k * 4) 0) (get_or s (k * 4 + 1) 0) (get_or s (k * 4 + 2) 0) (when_byte (sizes s).agents (k * 4 + 3) (get_or s (k * 4 + 3) 0))
  word_rejoined k h =
      let room = words_room s k h in
      word_joined (as_whens s) k (omega (arith, words_many))
      ∙ rw (
        low_kept (k * 4) (omega arith) (λ top. omega arith),
        low_kept (k * 4 + 1) (omega arith) (λ top. omega arith),
        low_kept (k * 4 + 2) (omega arith) (λ top. omega arith),
        as_whens_at s (k * 4 + 3) room,
      )

  module _ (k : ℕ) where
    here_kept : k < length (words s) → (2 ≤ k → k < 2 + (sizes s).agents → ⊥) → word_at (as_whens s) k ≡ word_at s k
    here_kept h other =
        word_rejoined k h
        ∙ ap (joined (get_or s (k * 4) 0) (get_or s (k * 4 + 1) 0) (get_or s (k * 4 + 2) 0))
        (byte_kept (sizes s).agents (k * 4 + 3) (get_or s (k * 4 + 3) 0) (λ top from to high. other (omega arith) (omega arith)))
        ∙ sym (word_joined s k h)

    past_kept : length (words s) ≤ k → word_at (as_whens s) k ≡ word_at s k
    past_kept h = get_or-eq_default (words (as_whens s)) 0 (omega (arith, words_many)) ∙ sym (get_or-eq_default (words s) 0 h)

    pub words_kept : (2 ≤ k → k < 2 + (sizes s).agents → ⊥) → word_at (as_whens s) k ≡ word_at s k
    words_kept other = by_cases (dec_lt k (length (words s))) (λ h. here_kept h other) (λ g. past_kept (omega arith))

  pub sizes_as_whens : sizes (as_whens s) ≡ sizes s
  sizes_as_whens = ap sizes_of (words_kept 0 (λ from to. omega arith))

  same_agents : (sizes (as_whens s)).agents ≡ (sizes s).agents
  same_agents = ap (λ h. h.agents) sizes_as_whens

  same_procedures : (sizes (as_whens s)).procedures ≡ (sizes s).procedures
  same_procedures = ap (λ h. h.procedures) sizes_as_whens

  tail_kept : (m : ℕ) → 2 + (sizes s).agents ≤ m → drop m (words (as_whens s)) ≡ drop m (words s)
  tail_kept m h =
      ext_get_or 0 (drop m (words (as_whens s))) (drop m (words s)) (simp length-drop (ap (λ n. n - m) words_many))
      (λ i lt. get_or-drop m (words (as_whens s)) i 0 ∙ words_kept (m + i) (λ from to. omega arith) ∙ sym (get_or-drop m (words s) i 0))

  module _ (bytes : Within (λ b. b < 256) s) where
    bytes_below : (k : ℕ) → k < length (words s) → (get_or s (k * 4) 0 < 256) × (get_or s (k * 4 + 1) 0 < 256) × (get_or s (k * 4 + 2) 0 < 256) × (get_or s (k * 4 + 3) 0 < 256)
    bytes_below k h = let room = words_room s k h in (below (k * 4) (omega arith), below (k * 4 + 1) (omega arith), below (k * 4 + 2) (omega arith), below (k * 4 + 3) room)
      where
        below : (n : ℕ) → n < length s → get_or s n 0 < 256
        below n lt = bytes (get_or s n 0) (entry_member s n lt)

    word_kind : (k : ℕ) → k < length (words s) → kind (word_at s k) ≡ get_or s (k * 4 + 3) 0 / 16
    word_kind k h = ap kind (word_joined s k h) ∙ joined_kind (get_or s (k * 4) 0) (get_or s (k * 4 + 1) 0) (get_or s (k * 4 + 2) 0) (get_or s (k * 4 + 3) 0) (bytes_below k h)

    joined_when : (k : ℕ) → 2 ≤ k → k < 2 + (sizes s).agents → k < length (words s) → word_at (as_whens s) k ≡ when_word (word_at s k)
    joined_when k from to h =
        let a = get_or s (k * 4) 0 in
        let b = get_or s (k * 4 + 1) 0 in
        let c = get_or s (k * 4 + 2) 0 in
        let d = get_or s (k * 4 + 3) 0 in
        word_rejoined k h
        ∙ by_cases (dec_lt d 240)
        (λ low. ap (joined a b c) (byte_kept (sizes s).agents (k * 4 + 3) d (λ top start end high. omega arith)) ∙ joined_kept a b c d (bytes_below k h) low)
        (λ g. ap (joined a b c) (byte_less (sizes s).agents (k * 4 + 3) d (omega arith) (omega arith) (omega arith) (omega arith)) ∙ joined_less a b c d (bytes_below k h) (omega arith))
        ∙ ap when_word (sym (word_joined s k h))

    pub words_as_whens : (k : ℕ) → 2 ≤ k → k < 2 + (sizes s).agents → word_at (as_whens s) k ≡ when_word (word_at s k)
    words_as_whens k from to = by_cases (dec_lt k (length (words s)))
        (joined_when k from to)
        (λ g. let past : word_at s k ≡ 0 = get_or-eq_default (words s) 0 (omega arith) in past_kept k (omega arith) ∙ past ∙ zero_kept ∙ ap when_word (sym past))

-- the decoded draft
written_zero : draft_agent_of 0 ≡ Plain Skip
unfolding field decode_agent
written_zero = refl

module _ (s : List ℕ) where
  pub draft_agent : (i : ℕ) → i < (sizes s).agents → draft_agent_at (decode_draft s) i ≡ draft_agent_of (word_at s (2 + i))
  unfolding decode_draft
  draft_agent i h =
      let part = take (sizes s).agents (drop 2 (words s)) in
      ap (λ d. get_or (map draft_agent_of part) i d) (sym written_zero)
      ∙ get_or-map draft_agent_of part i 0
      ∙ ap draft_agent_of (get_or-take (sizes s).agents (drop 2 (words s)) i 0 h ∙ get_or-drop 2 (words s) i 0)

  draft_agents : 2 + (sizes s).agents ≤ length (words s) → length (decode_draft s).agents ≡ (sizes s).agents
  unfolding decode_draft
  draft_agents h = simp (length-map, length-take, length-drop) (omega arith)

  roots_read : (decode_draft s).roots ≡ (decode (as_whens s)).roots
  unfolding decode_draft decode
  roots_read = sym
      (ap (λ h. map (λ w. field w 0 10) (take h.procedures (drop (2 + h.agents) (words (as_whens s))))) (sizes_as_whens s)
      ∙ ap (λ ws. map (λ w. field w 0 10) (take (sizes s).procedures ws)) (tail_kept s (2 + (sizes s).agents) (omega arith)))

  rules_read : (decode_draft s).rules ≡ (decode (as_whens s)).rules
  unfolding decode_draft decode
  rules_read = sym
      (ap (λ h. map rule_of (drop (2 + h.agents + h.procedures) (words (as_whens s)))) (sizes_as_whens s)
      ∙ ap (map rule_of) (tail_kept s (2 + (sizes s).agents + (sizes s).procedures) (omega arith)))

-- an accepted score
module _ (s : List ℕ) (e : verdict s ≡ Accepted) where
  agent_accepted : (i : ℕ) → i < (sizes s).agents → agent_verdict (sizes s) i (decode_agent (word_at s (2 + i))) ≡ Accepted
  unfolding word_verdict
  agent_accepted i lt =
      let f = accepted_faultless s e in
      let a : (2 + i) - 2 ≡ i = omega arith in
      rw (le-ltb (2 + i) 2 (omega arith), lt-ltb (2 + i) (2 + (sizes s).agents) (omega arith), a)
      at (word_accepted s f (2 + i) (omega (arith, f.enough)) (omega arith))

  agent_whole : (i : ℕ) → i < (sizes s).agents → decode_agent (word_at s (2 + i)) ≡ None → ⊥
  agent_whole i lt malformed = refused (Form (2 + i)) (λ z. omega arith) (rw malformed at (agent_accepted i lt))

  no_watch_kind : (i : ℕ) → i < (sizes s).agents → kind (word_at s (2 + i)) ≡ 15 → ⊥
  no_watch_kind i lt is = agent_whole i lt (watch_malformed (word_at s (2 + i)) is)

  here_plain : (i : ℕ) → i < (sizes s).agents → draft_agent_at (decode_draft s) i ≡ Plain (agent_at (decode s) i)
  here_plain i lt = draft_agent s i lt ∙ sym (ap Plain (decode_agent_lem s i lt) ∙ plain_written (word_at s (2 + i)) (no_watch_kind i lt))

  past_plain : (i : ℕ) → (sizes s).agents ≤ i → draft_agent_at (decode_draft s) i ≡ Plain (agent_at (decode s) i)
  past_plain i le =
      let enough = (accepted_faultless s e).enough in
      get_or-eq_default (decode_draft s).agents (Plain Skip) (omega (arith, draft_agents s (omega arith)))
      ∙ ap Plain (sym (get_or-eq_default (decode s).agents Skip (omega (arith, decode_agents s (omega arith)))))

  pub plain_agent_lem : (i : ℕ) → draft_agent_at (decode_draft s) i ≡ Plain (agent_at (decode s) i)
  plain_agent_lem i = by_cases (dec_lt i (sizes s).agents) (here_plain i) (λ g. past_plain i (omega arith))

pub record WholeDraft (s : List ℕ) : Type 0 where
  pub enough : 2 + (sizes s).agents + (sizes s).procedures ≤ length (words s)
  pub most : length s ≤ 5384
  pub fours : length s ≡ 4 * length (words s)
  pub agents_many : length (decode_draft s).agents ≡ (sizes s).agents
  pub roots_many : length (decode_draft s).roots ≡ (sizes s).procedures

-- an accepted draft
module _ (s : List ℕ) (e : draft_verdict s ≡ Accepted) where
  whole_enough : 2 + (sizes s).agents + (sizes s).procedures ≤ length (words s)
  whole_enough = omega (arith, (accepted_faultless (as_whens s) e).enough, same_agents s, same_procedures s, words_many s)

  whole_agents : length (decode_draft s).agents ≡ (sizes s).agents
  whole_agents = draft_agents s (omega (arith, whole_enough))

  pub accepted_whole : WholeDraft s
  accepted_whole = record {
    enough = whole_enough;
    most = omega (arith, sizes_few (as_whens s), (accepted_lawful (as_whens s) e).rules_at_most, decode_rules (as_whens s), accepted_words (as_whens s) e, as_whens_length s);
    fours = omega (arith, accepted_words (as_whens s) e, as_whens_length s, words_many s);
    agents_many = whole_agents;
    roots_many = ap length (roots_read s) ∙ decode_roots (as_whens s) (accepted_faultless (as_whens s) e).enough ∙ same_procedures s;
  }

module _ (s : List ℕ) (bytes : Within (λ b. b < 256) s) (e : draft_verdict s ≡ Accepted) where
  agent_read : (i : ℕ) → i < (sizes s).agents → agent_at (whens (decode_draft s)) i ≡ agent_at (decode (as_whens s)) i
  agent_read i h =
      let read : word_at (as_whens s) (2 + i) ≡ when_word (word_at s (2 + i)) = words_as_whens s bytes (2 + i) (omega arith) (omega arith) in
      let lt : i < (sizes (as_whens s)).agents = omega (arith, same_agents s) in
      when_at (decode_draft s) i
      ∙ ap as_when (draft_agent s i h)
      ∙ written_read (word_at s (2 + i)) (λ m. agent_whole (as_whens s) e i lt (ap decode_agent read ∙ m))
      ∙ sym (decode_agent_lem (as_whens s) i lt ∙ ap agent_of read)

  agents_read : (whens (decode_draft s)).agents ≡ (decode (as_whens s)).agents
  agents_read =
      let many : length (whens (decode_draft s)).agents ≡ (sizes s).agents = whens_many (decode_draft s) ∙ whole_agents s e in
      ext_get_or Skip (whens (decode_draft s)).agents (decode (as_whens s)).agents
      (many ∙ sym (decode_agents (as_whens s) (omega (arith, (accepted_faultless (as_whens s) e).enough)) ∙ same_agents s))
      (λ i lt. agent_read i (omega arith))

  pub whens_decoded : whens (decode_draft s) ≡ decode (as_whens s)
  unfolding decode_draft decode
  whens_decoded =
      let head = sym (sizes_as_whens s) in
      let ports = sym (words_kept s 1 (λ from to. omega arith)) in
      λ j. record {
        tokens = (head j).tokens;
        lowest_port = field (ports j) 0 8;
        highest_port = field (ports j) 8 8;
        agents = agents_read j;
        roots = roots_read s j;
        rules = rules_read s j;
      }

  pub accepted_lawful_draft : LawfulDraft (decode_draft s)
  accepted_lawful_draft = subst⁻¹ Lawful whens_decoded (accepted_lawful (as_whens s) e)

pub record PlainDraft (s : List ℕ) : Type 0 where
  pub unchanged : as_whens s ≡ s
  pub accepted : draft_verdict s ≡ Accepted
  pub decoded : whens (decode_draft s) ≡ decode s
  pub no_watch : (i t b : ℕ) → draft_agent_at (decode_draft s) i ≡ Watch t b → ⊥

module _ (s : List ℕ) (bytes : Within (λ b. b < 256) s) (e : verdict s ≡ Accepted) where
  low_top : (n : ℕ) → n < length s → n % 4 ≡ 3 → 8 ≤ n → n < 8 + 4 * (sizes s).agents → 240 ≤ get_or s n 0 → ⊥
  low_top n h top from to high =
      let i = n / 4 - 2 in
      let place : (2 + i) * 4 + 3 ≡ n = omega arith in
      let within : 2 + i < length (words s) = omega (arith, words_length s) in
      let is : kind (word_at s (2 + i)) ≡ get_or s n 0 / 16 = word_kind s bytes (2 + i) within ∙ ap (λ m. get_or s m 0 / 16) place in
      no_watch_kind s e i (omega arith) (omega (arith, bytes (get_or s n 0) (entry_member s n h)))

  whens_unchanged : as_whens s ≡ s
  whens_unchanged = ext_get_or 0 (as_whens s) s (as_whens_length s)
      (λ n lt. let h : n < length s = omega (arith, as_whens_length s) in as_whens_at s n h ∙ byte_kept (sizes s).agents n (get_or s n 0) (low_top n h))

  pub plain_draft : PlainDraft s
  plain_draft =
      let accepted = ap verdict whens_unchanged ∙ e in
      record {
        unchanged = whens_unchanged;
        accepted = accepted;
        decoded = whens_decoded s bytes accepted ∙ ap decode whens_unchanged;
        no_watch = λ i t b is. let plain = plain_agent_lem s e i in let z : ◌≡◌ {A = ℕ} 0 1 = cc in omega arith;
      }
