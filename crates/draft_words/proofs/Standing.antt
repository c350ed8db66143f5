-- Where the pairs of a draft stand, and what an agent among them leads to and asks for. Of a rising list of pairs:
--     kinds_split                           the agents come first, then the procedures
--     agent_index, procedure_index          so where a pair stands among all tells where it stands among its kind
-- of pairs that are gathered:
--     table_rises, sets-rise                the two tables rise
--     agent_stands, procedure_stands        the place of a pair in the table tells where it stands among its kind
--     Listed, listing                       an agent of a pair among those of agents, by its form
--     tokens-few                            the tokens are few
--     part_known, part_stands               a body or half of it is the draft's, and what that leads to stands among the agents
--     call_few, call_stands                 a procedure that it calls is the draft's, and stands among the procedures
--     token_few                             a token that it names is one of 256
--     asks_known, asks_listed               the tokens of a set that it asks for are the draft's; a set of several stands among the sets
--     agent_becomes                         what it is in the plain score, by its form
--     next_stays, next_asks                 a next, by how many tokens its set has
--     unless_asks                           an unless
use mathlib.Core.Path.{◌≡◌, refl, sym, ap, ap₂, subst, subst⁻¹, subst₂, ◌∙◌}
use mathlib.Core.Bool.{true, false}
use mathlib.Core.List.{List, [], ◌∷◌, ◌++◌, Memᴰ}
use mathlib.Core.Logic.{by_cases}
use Prim.Native.Nat.{ℕ, ◌+◌, ◌<◌, ◌≤◌}
use native.Mathlib.Decide.{dec_lt}
use native.Mathlib.Omega.{arith}
use borrow.Author.Tests.{lt-ltb, le-ltb, le-leb, lt-leb, eq-eqb, ne_eqb}
use lib.Dec.{eqb, ltb, leb}
use lib.ListN.{length, get_or, length-append, get_or-append}
use lib.Seq.{get_or-append-add}
use Rattle.laws.specs.Rising.{Rising}
use Rattle.laws.proofs.Booleans.{true_is_false, cond_true, cond_false}
use Rattle.laws.proofs.Lists.{entry_member}
use Rattle.laws.proofs.Sets.{Among, on_keep, keep_none}
use Rattle.laws.proofs.Rising.{rising_above, rising_tail}
use Rattle.tcc.specs.Score.{tokens_of, parts_of, procedures_of}
use Rattle.tcc.specs.declared.Agent.{Agent}
use Rattle.tcc.specs.declared.Agent.TheVariants.{Next, Unless}
use Rattle.words.specs.Word.{words}
use Rattle.format.specs.Decode.{sizes}
use Rattle.draft_language.specs.Draft.{Draft, draft_agent_at, as_when, LawfulDraft}
use Rattle.draft_language.specs.declared.DraftAgent.TheVariants.{Plain, Watch}
use Rattle.draft_language.proofs.Whens.{when_is}
use Rattle.draft_pairs.specs.TokenSets.{holds, with, members, several}
use Rattle.draft_pairs.specs.Pairs.{pair, number_in, set_in, index_of}
use Rattle.draft_pairs.proofs.TokenSets.{holds_none, with_bound, member_holds, members_none, set_pair, set_bound, pair_before}
use Rattle.draft_pairs.proofs.Rising.{index_below, index_at, at_index}
use Rattle.draft_table.specs.Tables.{keys, Placed}
use Rattle.draft_table.proofs.Tables.{placed_index}
use Rattle.draft_plain.specs.Places.{procedure_at, target, places, agent_places, procedure_places}
use Rattle.draft_plain.specs.Plain.{asks_for, agent_in, asked_token, plain_agent, plain_of}
use Rattle.draft_plain.proofs.Places.{KnownAgent}
use Rattle.draft_plain.proofs.Copying.{PlacesFit, places_rising}
use Rattle.draft_plain.proofs.PlainPairs.{agent_led, led_agent, written_parts, written_tokens, part_listed, call_listed}
use Rattle.draft_plain.proofs.AskedLaws.{asked_rising, asked_listed, asks_known}
use Rattle.draft_plain.proofs.PlainScore.{score_in, fits_sizes, places_fit}
use Rattle.draft_format.specs.DraftFile.{decode_draft}
use Rattle.draft_copying.proofs.Translatable.{agents_many}
use Rattle.draft_gathering.specs.declared.Counts.{Counts}
use Rattle.draft_gathering.specs.Gathered.{Gathered, agents_in, procedures_in, sets_in}

-- ---- rising lists of pairs
number_order : (k m : ℕ) → k ≤ m → number_in k ≤ number_in m
number_order k m h = by_cases (dec_lt (number_in m) (number_in k)) (λ lt. absurd (omega (arith, pair_before m k lt))) (λ ge. omega arith)

no_agents : (m : ℕ) (l : List ℕ) → Rising (m ∷ l) → 1024 ≤ number_in m → agent_places l ≡ []
no_agents m l r high = keep_none (λ k. ltb (number_in k) 1024) l (λ k x. let above = rising_above r k x in le-ltb (number_in k) 1024 (omega (arith, number_order m k (omega arith))))

pub kinds_split : (l : List ℕ) → Rising l → l ≡ agent_places l ++ procedure_places l
kinds_split [] r = refl
kinds_split (m ∷ l) r =
    let rest = kinds_split l (rising_tail r) in
    by_cases (dec_lt (number_in m) 1024)
    (λ low. rw (lt-ltb (number_in m) 1024 low, lt-leb 1024 (number_in m) low) (ap (λ k. m ∷ k) rest))
    (λ high.
    let none = no_agents m l r (omega arith) in
    rw (le-ltb (number_in m) 1024 (omega arith), le-leb 1024 (number_in m) (omega arith), none) (ap (λ k. m ∷ k) (rest ∙ ap (λ k. k ++ procedure_places l) none)))

index_is : (l : List ℕ) → Rising l → {k : ℕ} (i : ℕ) → i < length l → get_or l i 0 ≡ k → index_of k l ≡ i
index_is l r i h e = subst (λ k. index_of k l ≡ i) e (at_index l i r h)

module _ (l : List ℕ) (r : Rising l) where
  parts_length : length l ≡ length (agent_places l) + length (procedure_places l)
  parts_length = ap length (kinds_split l r) ∙ length-append (agent_places l) (procedure_places l)

  agent_index : {k : ℕ} → Memᴰ k (agent_places l) → index_of k l ≡ index_of k (agent_places l)
  agent_index {k} m =
      let i = index_of k (agent_places l) in
      let below = index_below k (agent_places l) m in
      index_is l r i (omega (arith, parts_length))
      (ap (λ j. get_or j i 0) (kinds_split l r) ∙ get_or-append (agent_places l) (procedure_places l) 0 i below ∙ index_at k (agent_places l) m)

  procedure_index : {k : ℕ} → Memᴰ k (procedure_places l) → index_of k l ≡ length (agent_places l) + index_of k (procedure_places l)
  procedure_index {k} m =
      let i = index_of k (procedure_places l) in
      let before = length (agent_places l) in
      let below = index_below k (procedure_places l) m in
      index_is l r (before + i) (omega (arith, parts_length))
      (ap (λ j. get_or j (before + i) 0) (kinds_split l r) ∙ get_or-append-add (agent_places l) (procedure_places l) i 0 ∙ index_at k (procedure_places l) m)

-- ---- pairs that are gathered
module _ {s : List ℕ} {n : Counts} {table sets : List (List ℕ)} (g : Gathered s n table sets) where
  abbrev draft : Draft
  draft = decode_draft s

  pub table_rises : Rising (keys n.pairs table)
  table_rises = subst⁻¹ Rising g.pairs_are (places_rising draft)

  placed_at : {key k at : ℕ} → Placed (keys n.pairs table) key at → key ≡ k → Memᴰ k (places draft) → index_of k (places draft) ≡ at
  placed_at {at = at} p e m = placed_index (places_rising draft) (subst₂ (λ l key. Placed l key at) g.pairs_are e p) m

  pub agent_stands : {key k at : ℕ} → Placed (keys n.pairs table) key at → key ≡ k → Memᴰ k (agents_in s) → at ≡ index_of k (agents_in s)
  agent_stands p e m = sym (placed_at p e (among_all _ m)) ∙ agent_index (places draft) (places_rising draft) m
    where
      among_all : Among (agents_in s) (places draft)
      among_all = on_keep (λ k. ltb (number_in k) 1024) (places draft) (λ k x t. x)

  pub procedure_stands : {key k at : ℕ} → Placed (keys n.pairs table) key at → key ≡ k → Memᴰ k (procedures_in s) → at ≡ n.copied + index_of k (procedures_in s)
  procedure_stands {k = k} p e m = sym (placed_at p e (among_all _ m)) ∙ procedure_index (places draft) (places_rising draft) m ∙ ap (λ c. c + index_of k (procedures_in s)) (sym g.copied_are)
    where
      among_all : Among (procedures_in s) (places draft)
      among_all = on_keep (λ k. leb 1024 (number_in k)) (places draft) (λ k x t. x)

  places_few : PlacesFit (places draft)
  unfolding plain_of
  places_few = places_fit draft (fits_sizes (score_in draft) g.fitting)

  module _ {k : ℕ} (m : Memᴰ k (agents_in s)) where
    known : KnownAgent draft k
    known = let (led, low) = agent_led draft m in led_agent draft g.translatable.lawful led low

    pub number_known : {i : ℕ} → i ≡ number_in k → (2 + i < length (words s)) × (i < (sizes s).agents)
    number_known e = (omega (arith, known.known, agents_many g.translatable, g.translatable.whole), omega (arith, known.known, agents_many g.translatable))

    pub never_watch : {t b : ℕ} → draft_agent_at draft (number_in k) ≡ Watch t b → ⊥
    never_watch e = let is = known.is_written in let z : ◌≡◌ {A = ℕ} 0 1 = cc in omega arith

  tokens_same : n.tokens ≡ draft.tokens
  unfolding decode_draft
  tokens_same = g.tokens_are

pub record Listed (s : List ℕ) (n : Counts) (table sets : List (List ℕ)) (k : ℕ) (a : Agent) : Type 0 where
  pub gathered : Gathered s n table sets
  pub listed : Memᴰ k (agents_in s)
  pub written : draft_agent_at (decode_draft s) (number_in k) ≡ Plain a

pub listing : {s : List ℕ} {n : Counts} {table sets : List (List ℕ)} {k : ℕ} {a : Agent} →
    Gathered s n table sets → Memᴰ k (agents_in s) → draft_agent_at (decode_draft s) (number_in k) ≡ Plain a → Listed s n table sets k a
listing g m e = record { gathered = g; listed = m; written = e }

module _ {s : List ℕ} {n : Counts} {table sets : List (List ℕ)} {k : ℕ} {a : Agent} (h : Listed s n table sets k a) where
  law : LawfulDraft (decode_draft s)
  law = h.gathered.translatable.lawful

  pub part_stands : (b : ℕ) → Memᴰ b (parts_of a) → Gathered s n table sets × ((b < n.agents) × Memᴰ (target (decode_draft s) b (set_in k)) (agents_in s))
  part_stands b m = (
    h.gathered,
    (
      omega (arith, written_parts (decode_draft s) law (number_in k) h.written b m, (number_known h.gathered h.listed refl).1, h.gathered.agents_are),
      part_listed (decode_draft s) law (places_few h.gathered) k h.listed h.written m,
    ),
  )

  module _ (p : ℕ) (m : Memᴰ p (procedures_of a)) where
    pub call_few : p < 64
    call_few = omega (arith, law.roots_at_most, law.procedures_known (number_in k) p (subst⁻¹ (λ x. Memᴰ p (procedures_of x)) (when_is (decode_draft s) (number_in k) h.written) m))

    pub call_stands : Memᴰ (pair (procedure_at p) (set_in k)) (procedures_in s)
    call_stands = call_listed (decode_draft s) law (places_few h.gathered) k h.listed h.written m

  pub token_few : (t : ℕ) → Memᴰ t (tokens_of a) → t < 256
  token_few t m = omega (arith, written_tokens (decode_draft s) law (number_in k) h.written t m, law.tokens_at_most)

  -- a set that it asks for, as `asked_token` wants it
  pub asks_stands : (set : ℕ) → Memᴰ set (asks_for (set_in k) a) →
      (n.tokens ≤ 256) × (((t : ℕ) → holds set t ≡ true → t < n.tokens) × ((length sets ≡ 1088) × ((n.sets ≤ 1088) × (Rising (keys n.sets sets) × (several set ≡ true → Memᴰ set (keys n.sets sets))))))
  asks_stands set m = (omega (arith, tokens_same h.gathered, law.tokens_at_most), (known, (h.gathered.sets_long, (h.gathered.sets_fit, (rising, listed)))))
    where
      known : (t : ℕ) → holds set t ≡ true → t < n.tokens
      known t e = omega (arith, asks_known (decode_draft s) law k (agent_led (decode_draft s) h.listed).0 h.written set m t e, tokens_same h.gathered)

      rising : Rising (keys n.sets sets)
      rising = subst⁻¹ Rising h.gathered.sets_are (asked_rising (decode_draft s) (agents_in s))

      listed : several set ≡ true → Memᴰ set (keys n.sets sets)
      listed e =
          subst⁻¹ (Memᴰ set) h.gathered.sets_are
          (asked_listed (decode_draft s) h.listed (subst⁻¹ (λ w. Memᴰ set (asks_for (set_in k) (as_when w))) h.written m) e)

  asked_same : (set : ℕ) → asked_token n.tokens (keys n.sets sets) set ≡ asked_token (decode_draft s).tokens (sets_in s) set
  asked_same set = ap₂ (λ t l. asked_token t l set) (tokens_same h.gathered) h.gathered.sets_are

  -- what an agent of its form is in the plain score
  abbrev pub Becomes : Agent → Type 0
  Becomes r = r ≡ plain_agent (decode_draft s) (agents_in s) (procedures_in s) (sets_in s) (set_in k) a

  pub agent_becomes : {r : Agent} → Becomes r → r ≡ plain_agent (decode_draft s) (agents_in s) (procedures_in s) (sets_in s) (set_in k) (agent_in (decode_draft s) k)
  agent_becomes e = e ∙ sym (ap (λ w. plain_agent (decode_draft s) (agents_in s) (procedures_in s) (sets_in s) (set_in k) (as_when w)) h.written)

no_entry : (l : List ℕ) → length l ≡ 0 → l ≡ []
no_entry [] e = refl
no_entry (x ∷ l) e = absurd (omega arith)

none_empty : (k : ℕ) → length (members (set_in k)) ≡ 0 → eqb (set_in k) 0 ≡ true
none_empty k e = eq-eqb (set_in k) 0 (members_none (set_in k) (set_bound k) (no_entry (members (set_in k)) e))

some_full : (set : ℕ) → (length (members set) ≡ 0 → ⊥) → eqb set 0 ≡ false
some_full set some =
    let t = get_or (members set) 0 0 in
    ne_eqb set 0 (λ e. true_is_false (member_holds set (entry_member (members set) 0 (omega arith))).1 (ap (λ n. holds n t) e ∙ holds_none t))

module _ {s : List ℕ} {n : Counts} {table sets : List (List ℕ)} {k b : ℕ} where
  module _ (h : Listed s n table sets k (Next b)) {count i : ℕ} (many : count ≡ length (members (set_in k))) (stands : i ≡ index_of (target (decode_draft s) b (set_in k)) (agents_in s)) where
    pub next_stays : count ≡ 0 → Becomes h (Next i)
    next_stays none = cond_true _ (none_empty k (sym many ∙ none)) (ap Next stands)

    pub next_asks : {u : ℕ} → (count ≡ 0 → ⊥) → u ≡ asked_token n.tokens (keys n.sets sets) (set_in k) → Becomes h (Unless u i)
    next_asks some e = cond_false _ (some_full (set_in k) (λ none. some (many ∙ none))) (ap₂ Unless (e ∙ asked_same h (set_in k)) stands)

  module _ {t : ℕ} (h : Listed s n table sets k (Unless t b)) where
    pub unless_asked : {asked : ℕ} → asked ≡ pair (number_in k) (with t (set_in k)) → set_in asked ≡ with t (set_in k)
    unless_asked e = ap set_in e ∙ set_pair (number_in k) (with t (set_in k)) (with_bound 256 t (set_in k) (token_few h t (Memᴰ.head refl)) (set_bound k))

    pub unless_asks : {asked u i : ℕ} → asked ≡ pair (number_in k) (with t (set_in k)) → u ≡ asked_token n.tokens (keys n.sets sets) (set_in asked) →
        i ≡ index_of (target (decode_draft s) b (set_in k)) (agents_in s) → Becomes h (Unless u i)
    unless_asks {asked} is e stands = ap₂ Unless (e ∙ asked_same h (set_in asked) ∙ ap (asked_token (decode_draft s).tokens (sets_in s)) (unless_asked is)) stands
