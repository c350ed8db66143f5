-- The pairs of a draft that is gathered, by their places in the table, and what the plain score has of each.
--     agents_few, agents_many, procedures_many     how many agents and procedures it has
--     agent_of_pair               the plain agent of a pair
--     agent_rows, agent_known     the first entries, one for each agent
--     agent_entry, agent_here     each is a pair of an agent; its agent is the plain score's
--     AgentFits, agent_fits       what such an agent names fits into a word
--     procedure_rows, root_few    the others in use, one for each procedure
--     root_entry, root_here       each is a pair of a procedure; its root is the plain score's
--     root_fits                   where such a root stands fits into a word
--     agents_all, roots_all       after the last entry, no agent and no root is left
--     RootKnown, root_known       the procedure and its root are the draft's, and what the root leads to stands among the agents
--     roots_same                  the roots of a draft are those of its bytes read as a score
use mathlib.Core.Path.{◌≡◌, refl, sym, ap, subst⁻¹, ◌∙◌}
use mathlib.Core.List.{List, [], ◌++◌, Memᴰ}
use Prim.Native.Nat.{ℕ, ◌+◌, ◌-◌, ◌<◌, ◌≤◌}
use native.Mathlib.Omega.{arith}
use lib.ListN.{length, get_or, take, drop, length-append, length-drop, length-map, get_or-append}
use Rattle.std.proofs.lemmas.List.{length-take-le, get_or-take, get_or-drop}
use lib.Seq.{get_or-append-add}
use Rattle.laws.proofs.Lists.{entry_member, map_at}
use Rattle.laws.proofs.Sets.{Within}
use Rattle.tcc.specs.Lawful.{Lawful}
use Rattle.tcc.specs.Score.{agent_at, tokens_of, parts_of, procedures_of}
use Rattle.tcc.specs.Score as plain
use Rattle.tcc.specs.declared.Agent.{Agent}
use Rattle.tcc.specs.declared.Agent.TheVariants.{Skip}
use Rattle.words.specs.Word.{words}
use Rattle.format.specs.Decode.{decode, sizes}
use Rattle.draft_language.specs.Draft.{Draft, root_of, as_when}
use Rattle.draft_pairs.specs.Pairs.{number_in, set_in}
use Rattle.draft_pairs.specs.Rows.{row_value}
use Rattle.draft_table.proofs.Tables.{keys_length, keys_at}
use Rattle.draft_plain.specs.Places.{target, places}
use Rattle.draft_plain.specs.Plain.{agent_in, plain_of}
use Rattle.draft_plain.proofs.Copying.{PlacesFit, places_rising}
use Rattle.draft_plain.proofs.PlainPairs.{procedure_led, led_procedure, root_listed}
use Rattle.draft_plain.proofs.PlainScore.{agent_by, root_by, fits_sizes, places_fit, root_at, agents_length, roots_length}
use Rattle.draft_plain.proofs.PlainLawful.{plain_lawful}
use Rattle.draft_format.specs.DraftFile.{decode_draft}
use Rattle.draft_format.proofs.Draft.{accepted_whole}
use Rattle.draft_gathering.specs.declared.Counts.{Counts}
use Rattle.draft_gathering.specs.Gathered.{Gathered, agents_in, procedures_in}
use Rattle.draft_words.proofs.Standing.{kinds_split}

pub record AgentFits (a : Agent) : Type 0 where
  pub tokens : Within (λ t. t < 256) (tokens_of a)
  pub parts : Within (λ b. b < 1024) (parts_of a)
  pub procedures : Within (λ p. p < 64) (procedures_of a)

pub record RootKnown (s : List ℕ) (agents v : ℕ) : Type 0 where
  pub high : 1024 ≤ number_in v
  pub few : number_in v - 1024 < (sizes s).procedures
  pub there : 2 + agents + (number_in v - 1024) < length (words s)
  pub known : root_of (decode_draft s) (number_in v - 1024) < agents
  pub stands : Memᴰ (target (decode_draft s) (root_of (decode_draft s) (number_in v - 1024)) (set_in v)) (agents_in s)

pub roots_same : (s : List ℕ) → (decode s).roots ≡ (decode_draft s).roots
unfolding decode decode_draft
roots_same s = refl

abbrev pub agent_of_pair : Draft → ℕ → Agent
agent_of_pair d v = agent_by d (set_in v) (agent_in d v)

module _ {s : List ℕ} {n : Counts} {table sets : List (List ℕ)} (g : Gathered s n table sets) where
  abbrev draft : Draft
  draft = decode_draft s

  both_kinds : places draft ≡ agents_in s ++ procedures_in s
  both_kinds = kinds_split (places draft) (places_rising draft)

  enough : n.pairs ≤ length table
  enough = omega (arith, g.pairs_fit, g.table_long)

  pairs_many : n.pairs ≡ n.copied + length (procedures_in s)
  pairs_many = omega (arith, keys_length n.pairs table enough, ap length (g.pairs_are ∙ both_kinds) ∙ length-append (agents_in s) (procedures_in s), g.copied_are)

  entry : (k : ℕ) → k < n.pairs → row_value (get_or table k []) ≡ get_or (agents_in s ++ procedures_in s) k 0
  entry k h = sym (keys_at n.pairs table enough k h) ∙ ap (λ l. get_or l k 0) (g.pairs_are ∙ both_kinds)

  lawful : Lawful (plain_of draft)
  lawful = plain_lawful draft g.translatable.lawful g.fitting

  pub agents_many : length (plain_of draft).agents ≡ n.copied
  unfolding plain_of
  agents_many = agents_length draft ∙ sym g.copied_are

  pub agents_few : n.copied ≤ 1024
  agents_few = omega (arith, agents_many, lawful.agents_at_most)

  pub procedures_many : n.copied + length (plain_of draft).roots ≡ n.pairs
  unfolding plain_of
  procedures_many = omega (arith, pairs_many, roots_length draft)

  abbrev agent_rows : List (List ℕ)
  agent_rows = take n.copied table

  agent_rows_many : length agent_rows ≡ n.copied
  agent_rows_many = length-take-le n.copied table (omega (arith, enough, pairs_many))

  module _ (k : ℕ) (h : k < length agent_rows) where
    at_agent : row_value (get_or agent_rows k []) ≡ get_or (agents_in s) k 0
    at_agent =
        ap row_value (get_or-take n.copied table k [] (omega (arith, agent_rows_many)))
        ∙ entry k (omega (arith, agent_rows_many, pairs_many))
        ∙ get_or-append (agents_in s) (procedures_in s) 0 k (omega (arith, agent_rows_many, g.copied_are))

    pub agent_entry : Memᴰ (row_value (get_or agent_rows k [])) (agents_in s)
    agent_entry = subst⁻¹ (λ v. Memᴰ v (agents_in s)) at_agent (entry_member (agents_in s) k (omega (arith, agent_rows_many, g.copied_are)))

    pub agent_here : agent_of_pair draft (row_value (get_or agent_rows k [])) ≡ agent_at (plain_of draft) k
    unfolding plain_of
    agent_here = ap (agent_of_pair draft) at_agent ∙ sym (map_at (agent_of_pair draft) (agents_in s) k 0 Skip (omega (arith, agent_rows_many, g.copied_are)))

    pub agent_known : k < length (plain_of draft).agents
    agent_known = omega (arith, agent_rows_many, agents_many)

    pub agent_fits : AgentFits (agent_at (plain_of draft) k)
    agent_fits = record {
      tokens = λ t m. omega (arith, lawful.tokens_known k t m, lawful.tokens_at_most);
      parts = λ b m. omega (arith, lawful.parts_lower k b m, agents_few, agent_rows_many);
      procedures = λ p m. omega (arith, lawful.procedures_known k p m, lawful.roots_at_most);
    }

  abbrev procedure_rows : List (List ℕ)
  procedure_rows = take (n.pairs - n.copied) (drop n.copied table)

  procedure_rows_many : n.copied + length procedure_rows ≡ n.pairs
  procedure_rows_many =
      omega (arith, length-take-le (n.pairs - n.copied) (drop n.copied table) (omega (arith, length-drop n.copied table, enough)), pairs_many)

  module _ (k : ℕ) (h : k < length procedure_rows) where
    at_procedure : row_value (get_or procedure_rows k []) ≡ get_or (procedures_in s) k 0
    at_procedure =
        ap row_value (get_or-take (n.pairs - n.copied) (drop n.copied table) k [] (omega (arith, procedure_rows_many)))
        ∙ ap row_value (get_or-drop n.copied table k [])
        ∙ entry (n.copied + k) (omega (arith, procedure_rows_many))
        ∙ ap (λ c. get_or (agents_in s ++ procedures_in s) (c + k) 0) g.copied_are
        ∙ get_or-append-add (agents_in s) (procedures_in s) k 0

    pub root_entry : Memᴰ (row_value (get_or procedure_rows k [])) (procedures_in s)
    root_entry = subst⁻¹ (λ v. Memᴰ v (procedures_in s)) at_procedure (entry_member (procedures_in s) k (omega (arith, procedure_rows_many, pairs_many)))

    pub root_here : root_by draft (row_value (get_or procedure_rows k [])) ≡ plain.root_of (plain_of draft) k
    unfolding plain_of
    root_here = ap (root_by draft) at_procedure ∙ sym (root_at draft k (omega (arith, procedure_rows_many, pairs_many)))

    pub root_few : k < length (plain_of draft).roots
    root_few = omega (arith, procedure_rows_many, procedures_many)

    pub root_fits : plain.root_of (plain_of draft) k < 1024
    root_fits = omega (arith, lawful.roots_known k root_few, lawful.agents_at_most)

  pub agents_all : (k : ℕ) → length agent_rows ≤ k → length (plain_of draft).agents ≤ k
  agents_all k h = omega (arith, agent_rows_many, agents_many)

  pub roots_all : (k : ℕ) → length procedure_rows ≤ k → length (plain_of draft).roots ≤ k
  roots_all k h = omega (arith, procedure_rows_many, procedures_many)

  places_few : PlacesFit (places draft)
  unfolding plain_of
  places_few = places_fit draft (fits_sizes (plain_of draft) g.fitting)

  pub root_known : (v : ℕ) → Memᴰ v (procedures_in s) → RootKnown s n.agents v
  root_known v m =
      let law = g.translatable.lawful in
      let whole = accepted_whole s g.accepted in
      let (led, high) = procedure_led draft m in
      let (p, lt, e) = led_procedure draft law led high in
      let few : number_in v - 1024 < length draft.roots = omega arith in
      record {
        high = high;
        few = omega (arith, whole.roots_many);
        there = omega (arith, whole.enough, whole.roots_many, g.agents_are);
        known = omega (arith, law.roots_known (number_in v - 1024) few, length-map draft.agents as_when, whole.agents_many, g.agents_are);
        stands = root_listed draft law places_few v m;
      }
