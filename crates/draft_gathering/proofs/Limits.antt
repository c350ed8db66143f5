-- The pairs of a table, and the limits of a plain score.
--     number_below                the pairs of agents are those below the pair of procedure 0 under no token
--     pairs_parted                so in a rising list its place parts the agents' pairs from the procedures'
--     Parted, table_parted        and in a table of all pairs of a draft
--     Few, few_fits, many_misfit  where the counts of a draft's pairs, asked sets and rules pass no limit, the plain score fits;
--                                 else it does not
--     many_agents, many_procedures      so it does not where a table has too many pairs of agents or of procedures
use mathlib.Core.Path.{◌≡◌, refl, sym, ap, subst⁻¹, ◌∙◌}
use mathlib.Core.Bool.{Bool, true, false, not}
use mathlib.Core.List.{List, [], ◌∷◌, map}
use Prim.Native.Nat.{ℕ, zero, suc, ◌+◌, ◌-◌, ◌<◌, ◌≤◌}
use native.Mathlib.Decide.{dec_lt}
use native.Mathlib.Nat.{div-lt_iff_lt-mul}
use native.Mathlib.Numerals.{unary_clauses}
use native.Mathlib.Omega.{arith}
use borrow.Author.Tests.{lt-ltb, le-ltb, le-leb, lt-leb}
use lib.Dec.{ltb, leb}
use lib.Pow.{pow_pos}
use lib.ListN.{length, take, drop, length-append, length-drop}
use lib.Seq.{take-take}
use Rattle.laws.proofs.Booleans.{both_and}
use Rattle.laws.proofs.Sets.{keep_agrees}
use Rattle.draft_language.specs.Draft.{Draft}
use Rattle.draft_pairs.specs.Pairs.{pair, number_in}
use Rattle.draft_pairs.proofs.TokenSets.{number_pair, pair_before}
use Rattle.draft_pairs.specs.Rows.{row_value}
use Rattle.draft_table.specs.Tables.{keys, Placed}
use Rattle.draft_table.proofs.Tables.{placed_keep, keys_length}
use Rattle.draft_plain.specs.Places.{places, agent_places, procedure_places}
use Rattle.draft_plain.specs.Plain.{member_rules, plain_of, fits}
use Rattle.draft_plain.proofs.PlainScore.{sets_in, score_in, agents_length, roots_length, fits_sizes}

-- two tests of numbers that hold together
same_test : {a b c d : ℕ} → (a < b → c < d) → (c < d → a < b) → ltb a b ≡ ltb c d
same_test {a} {b} {c} {d} to from = go (dec_lt a b)
  where
    go : Dec (a < b) → ltb a b ≡ ltb c d
    go (yes h) = lt-ltb a b h ∙ sym (lt-ltb c d (to h))
    go (no n) = let m : c < d → ⊥ = λ h. n (from h) in le-ltb a b (omega arith) ∙ sym (le-ltb c d (omega arith))

other_test : (n m : ℕ) → leb m n ≡ not (ltb n m)
other_test n m = go (dec_lt n m)
  where
    go : Dec (n < m) → leb m n ≡ not (ltb n m)
    go (yes h) = lt-leb m n h ∙ sym (ap not (lt-ltb n m h))
    go (no g) = le-leb m n (omega arith) ∙ sym (ap not (le-ltb n m (omega arith)))

before_number : (k n : ℕ) → k < pair n 0 → number_in k < n
unfolding pair number_in
before_number k n h = (div-lt_iff_lt-mul (pow_pos 256)).1 (simp unary_clauses at h)

number_below : (k : ℕ) → ltb (number_in k) 1024 ≡ ltb k (pair 1024 0)
number_below k = same_test (λ h. pair_before k (pair 1024 0) (subst⁻¹ (λ n. number_in k < n) (number_pair 1024 0 (pow_pos 256)) h)) (before_number k 1024)

pairs_parted : {l : List ℕ} {at : ℕ} → Placed l (pair 1024 0) at → (agent_places l ≡ take at l) × (procedure_places l ≡ drop at l)
pairs_parted {l} p =
    let (low, high) = placed_keep (λ k. ltb (number_in k) 1024) number_below p in
    (low, keep_agrees _ _ l (λ k m. other_test (number_in k) 1024) ∙ high)

map_take : {A B : Type 0} (f : A → B) (n : ℕ) (l : List A) → map f (take n l) ≡ take n (map f l)
map_take f zero l = refl
map_take f (suc n) [] = refl
map_take f (suc n) (x ∷ l) = ap (λ k. f x ∷ k) (map_take f n l)

pub record Parted (d : Draft) (table : List (List ℕ)) (pairs copied : ℕ) : Type 0 where
  pub within : copied ≤ pairs
  pub agents_are : keys copied table ≡ agent_places (places d)
  pub agents_many : length (agent_places (places d)) ≡ copied
  pub procedures_many : length (procedure_places (places d)) ≡ pairs - copied

pub table_parted : {d : Draft} {table : List (List ℕ)} {pairs copied : ℕ} → pairs ≤ length table → keys pairs table ≡ places d → Placed (keys pairs table) (pair 1024 0) copied → Parted d table pairs copied
table_parted {d} {table} {pairs} {copied} few are p =
    let many = keys_length pairs table few in
    let within : copied ≤ pairs = omega (arith, p.within) in
    let (low, high) = pairs_parted p in
    let agents : keys copied table ≡ agent_places (places d) =
    ap (map row_value) (sym (take-take copied pairs table within)) ∙ map_take row_value copied (take pairs table) ∙ sym low ∙ ap agent_places are in
    record {
      within = within;
      agents_are = agents;
      agents_many = sym (ap length agents) ∙ keys_length copied table (omega arith);
      procedures_many = ap (λ l. length (procedure_places l)) (sym are) ∙ ap length high ∙ length-drop copied (keys pairs table) ∙ ap (λ n. n - copied) many;
    }

-- the counts of the plain score
pub record Few (d : Draft) : Type 0 where
  pub few_tokens : d.tokens + length (sets_in d) ≤ 256
  pub few_agents : length (agent_places (places d)) ≤ 1024
  pub few_procedures : length (procedure_places (places d)) ≤ 64
  pub few_rules : length d.rules + length (member_rules d.tokens (sets_in d)) ≤ 256

module _ (d : Draft) where
  rules_length : length (score_in d).rules ≡ length d.rules + length (member_rules d.tokens (sets_in d))
  rules_length = length-append d.rules (member_rules d.tokens (sets_in d))

  pub few_fits : Few d → fits (plain_of d) ≡ true
  unfolding plain_of
  few_fits few =
      let sc = score_in d in
      both_and (both_and (both_and (le-leb sc.tokens 256 few.few_tokens)
      (le-leb (length sc.agents) 1024 (omega (arith, few.few_agents, agents_length d))))
      (le-leb (length sc.roots) 64 (omega (arith, few.few_procedures, roots_length d))))
      (le-leb (length sc.rules) 256 (omega (arith, few.few_rules, rules_length)))

  fits_few : fits (plain_of d) ≡ true → Few d
  unfolding plain_of
  fits_few e =
      let sizes = fits_sizes (plain_of d) e in
      record {
        few_tokens = sizes.few_tokens;
        few_agents = omega (arith, sizes.few_agents, agents_length d);
        few_procedures = omega (arith, sizes.few_roots, roots_length d);
        few_rules = omega (arith, sizes.few_rules, rules_length);
      }

  pub many_misfit : (Few d → ⊥) → fits (plain_of d) ≡ false
  many_misfit many = go (fits (plain_of d)) refl
    where
      go : (b : Bool) → fits (plain_of d) ≡ b → fits (plain_of d) ≡ false
      go true e = absurd (many (fits_few e))
      go false e = e

module _ {d : Draft} {table : List (List ℕ)} {pairs copied : ℕ} (p : Parted d table pairs copied) where
  pub many_agents : 1024 < copied → fits (plain_of d) ≡ false
  many_agents h = many_misfit d (λ few. omega (arith, few.few_agents, p.agents_many))

  pub many_procedures : 64 < pairs - copied → fits (plain_of d) ≡ false
  many_procedures h = many_misfit d (λ few. omega (arith, few.few_procedures, p.procedures_many))
