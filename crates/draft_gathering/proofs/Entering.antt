-- Entering the asked sets, pair by pair.
--     insert_few                     inserting makes a list longer by one at most
--     Entering                       the table holds the asked sets of the pairs before k
--     entering_first                 at first it holds none
--     size, next                     the set asked for next has the tokens that were counted; the pairs before k + 1
--     entering_more, entering_same   a set of two tokens or more is entered, another is not
--     entering_rising                the table rises
--     agents_few, tokens_said        the draft has no more agents than its head says, and as many tokens
--     led, known, place_read         a pair of a plain score's agents: it is led to, of an agent of the draft, which may be read
--     names_few, asked_few           that agent names tokens below 256, and asks for a set of tokens of the draft
use mathlib.Core.Path.{◌≡◌, refl, sym, ap, ap₂, ◌∙◌}
use mathlib.Core.Bool.{true, false}
use mathlib.Core.List.{List, [], ◌∷◌, ◌++◌, Memᴰ}
use Prim.Native.Nat.{ℕ, suc, ◌+◌, ◌<◌, ◌≤◌}
use native.Mathlib.Omega.{arith}
use borrow.Author.Tests.{lt-ltb, le-ltb}
use lib.Dec.{eqb, ltb}
use Rattle.std.specs.Prelude.{Some}
use lib.ListN.{length, get_or, length-map, length-take, length-drop}
use Rattle.laws.specs.Rising.{Rising}
use Rattle.laws.proofs.Booleans.{either}
use Rattle.laws.proofs.Sets.{Within}
use Rattle.words.specs.Word.{words}
use Rattle.format.specs.Decode.{sizes}
use Rattle.draft_language.specs.Draft.{Draft, draft_agent_at}
use Rattle.draft_language.specs.declared.DraftAgent.{DraftAgent}
use Rattle.draft_pairs.specs.TokenSets.{holds, members, several}
use Rattle.draft_pairs.specs.Pairs.{number_in, set_in, insert}
use Rattle.draft_pairs.specs.Rows.{row_value}
use Rattle.draft_pairs.proofs.Rows.{members_set}
use Rattle.draft_table.specs.Tables.{keys, Entered}
use Rattle.draft_table.proofs.Tables.{keys_length}
use Rattle.draft_plain.specs.Places.{places, agent_places}
use Rattle.draft_plain.specs.Plain.{asked_sets}
use Rattle.draft_plain.specs.Led.{Led}
use Rattle.draft_plain.proofs.Places.{KnownAgent}
use Rattle.draft_plain.proofs.PlainPairs.{agent_led, led_agent}
use Rattle.draft_plain.proofs.AskedLaws.{asked_rising}
use Rattle.draft_plain.proofs.Asked.{token_known}
use Rattle.draft_format.specs.DraftFile.{decode_draft}
use Rattle.draft_format.specs.Translatable.{Translatable}
use Rattle.draft_gathering.specs.Asking.{tokens_named, asked_by}
use Rattle.draft_gathering.proofs.Members.{held_in_lem}
use Rattle.draft_gathering.proofs.Keys.{keys_more}
use Rattle.draft_gathering.proofs.AskedSets.{asked_more, asked_same, asked_tokens}

insert_few : (k : ℕ) (l : List ℕ) → length (insert k l) ≤ suc (length l)
insert_few k [] = omega arith
insert_few k (m ∷ l) =
    let Few : List ℕ → Type 0 = λ z. length z ≤ suc (suc (length l)) in
    either Few (ltb k m) (omega arith) (either Few (eqb k m) (omega arith) (omega (arith, insert_few k l)))

pub record Entering (d : Draft) (table : List (List ℕ)) (k count : ℕ) (sets : List (List ℕ)) : Type 0 where
  pub long : length sets ≡ 1088
  pub few : count ≤ k
  pub same : keys count sets ≡ asked_sets d (keys k table)

pub entering_first : (d : Draft) (table sets : List (List ℕ)) → length sets ≡ 1088 → Entering d table 0 0 sets
unfolding asked_sets
entering_first d table sets h = record { long = h; few = omega arith; same = refl }

module _ {d : Draft} {table : List (List ℕ)} {k count : ℕ} {sets : List (List ℕ)} (g : Entering d table k count sets) (h : k < length table)
    {written : DraftAgent} (is : draft_agent_at d (number_in (row_value (get_or table k []))) ≡ written)
    {asked : ℕ} (by : asked ≡ asked_by (set_in (row_value (get_or table k []))) written) where
  abbrev wanted : ℕ
  wanted = asked_by (set_in (row_value (get_or table k []))) written

  size : length (members (set_in asked)) ≡ length (members wanted)
  size = ap length (members_set asked) ∙ ap (λ n. length (members n)) by

  next : keys (k + 1) table ≡ keys k table ++ (row_value (get_or table k []) ∷ [])
  next = keys_more table k h

  pub entering_more : k < 1024 → 1 < length (members (set_in asked)) → {n : ℕ} {after : List (List ℕ)} → Entered asked count sets after (Some n) → Entering d table (k + 1) n after
  entering_more low many {n} {after} e =
      let many' : several wanted ≡ true = lt-ltb 1 (length (members wanted)) (omega (arith, size)) in
      let (fits, there, longer) = e.room in
      record {
        long = e.long ∙ g.long;
        few = omega (arith, longer, insert_few asked (keys count sets), keys_length count sets (omega (arith, g.few, g.long)), g.few);
        same = there ∙ ap₂ insert by g.same ∙ sym (ap (asked_sets d) next ∙ asked_more d (keys k table) (row_value (get_or table k [])) is many');
      }

  pub entering_same : length (members (set_in asked)) ≤ 1 → Entering d table (k + 1) count sets
  entering_same one =
      let one' : several wanted ≡ false = le-ltb 1 (length (members wanted)) (omega (arith, size)) in
      record { long = g.long; few = omega (arith, g.few); same = g.same ∙ sym (ap (asked_sets d) next ∙ asked_same d (keys k table) (row_value (get_or table k [])) is one') }

pub entering_rising : {d : Draft} {table : List (List ℕ)} {k count : ℕ} {sets : List (List ℕ)} → Entering d table k count sets → Rising (keys count sets)
entering_rising {d} {table} {k} g = rw g.same (asked_rising d (keys k table))

-- ---- a pair of a draft that may be translated

module _ (s : List ℕ) where
  agents_few : length (decode_draft s).agents ≤ (sizes s).agents
  unfolding decode_draft
  agents_few = simp (length-map, length-take, length-drop) (omega arith)

  tokens_said : (decode_draft s).tokens ≡ (sizes s).tokens
  unfolding decode_draft
  tokens_said = refl

module _ {s : List ℕ} (ok : Translatable s) {key : ℕ} (m : Memᴰ key (agent_places (places (decode_draft s)))) where
  led : Led (decode_draft s) key
  led = (agent_led (decode_draft s) m).0

  known : KnownAgent (decode_draft s) key
  known = led_agent (decode_draft s) ok.lawful led (agent_led (decode_draft s) m).1

  pub place_read : {n : ℕ} → n ≡ number_in key → (2 + n < length (words s)) × (n < (sizes s).agents)
  place_read e = omega (arith, known.known, agents_few s, ok.whole)

  module _ {written : DraftAgent} (is : draft_agent_at (decode_draft s) (number_in key) ≡ written) where
    pub names_few : Within (λ t. t < 256) (tokens_named written)
    names_few t x = omega (arith, token_known (decode_draft s) ok.lawful (number_in key) is t x, ok.lawful.tokens_at_most)

    pub asked_few : {tokens asked : ℕ} → tokens ≡ (sizes s).tokens → asked ≡ asked_by (set_in key) written → (tokens ≤ 256) × ((t : ℕ) → holds (set_in asked) t ≡ true → t < tokens)
    asked_few {tokens} {asked} e by = (omega (arith, tokens_said s, ok.lawful.tokens_at_most), below)
      where
        below : (t : ℕ) → holds (set_in asked) t ≡ true → t < tokens
        below t h = omega (arith, tokens_said s, asked_tokens (decode_draft s) ok.lawful key led known is t (rw by at (held_in_lem asked t h)))
