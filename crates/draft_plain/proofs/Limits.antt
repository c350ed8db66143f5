-- A plain score does not fit exactly if one of the four counts passes its limit.
--     agent_place, procedure_place    the place of a pair
--     more_than, no_more              how many there are of a kind, by a list of them, and by a list that holds them all
--     agent_is, procedure_is, asked_is      what the copying makes is of the kind that is counted
--     agents_over, procedures_over, tokens_over, rules_over      so what is too much of it is too many of them
--     agent_counted, procedure_counted, asked_counted, member_counted      whatever is of the kind is of the copying's, where that fits
--     limits                          the claim
use mathlib.Core.Path.{◌≡◌, refl, sym, ap, ap₂, subst, subst⁻¹, ◌∙◌}
use mathlib.Core.Bool.{Bool, true, false, ◌&&◌}
use mathlib.Core.List.Memᴰ
use mathlib.Core.List.{List, map, Memᴰ}
use mathlib.Core.Logic.{◌⊎◌, inl, inr, ⊎_elim}
use Prim.Native.Nat.{ℕ, ◌+◌, ◌-◌, ◌^◌, ◌<◌, ◌≤◌}
use native.Mathlib.Nat.{lt_of_lt_of_le}
use native.Mathlib.Omega.{arith}
use lib.Dec.{leb}
use lib.ListN.{length, length-append, length-map}
use lib.Pow.{pow_mono}
use borrow.Author.Tests.{leb-false}
use Rattle.laws.proofs.Sets.{Within, on_cons, on_map, map_member}
use Rattle.tcc.specs.declared.Agent.{Agent}
use Rattle.tcc.specs.declared.Agent.TheVariants.{Skip, Abort, Tell, Parallel, When, Next, Unless, Call}
use Rattle.draft_language.specs.Draft.{Draft, draft_agent_at, as_when, LawfulDraft}
use Rattle.draft_language.specs.declared.DraftAgent.TheVariants.{Plain}
use Rattle.draft_pairs.specs.TokenSets.{with, several}
use Rattle.draft_plain.specs.Stands.{Place, agent, procedure, Stands, root}
use Rattle.draft_pairs.specs.Pairs.{pair, number_in, set_in}
use Rattle.draft_plain.specs.Places.{procedure_at, places}
use Rattle.draft_plain.specs.Plain.{asks_for, agent_in, plain_of, fits, member_rules}
use Rattle.draft_plain.specs.Limits.{Different, MoreThan, AgentPair, ProcedurePair, Asked, by_next, by_unless, Asking, AskedMember, Passes, Limits}
use Rattle.draft_pairs.proofs.TokenSets.{number_pair, set_pair, pair_parts, holds_member, member_holds}
use Rattle.draft_plain.specs.Led.{Led}
use Rattle.draft_plain.proofs.Places.{KnownAgent, target_plain, stands_led_agent, stands_led_procedure, led_stands_agent, led_stands_procedure, stands_bound_agent}
use Rattle.draft_plain.proofs.Copying.{PlacesFit}
use Rattle.draft_plain.proofs.PlainPairs.{draft_agents, led_agent, agent_led, procedure_led, agent_listed, procedure_listed}
use Rattle.draft_plain.proofs.AskedLaws.{asked_rising, asked_listed, on_asked, asked_known}
use Rattle.draft_plain.proofs.PlainScore.{agents_in, procedures_in, sets_in, score_in, agents_rising, procedures_rising, agents_length, roots_length, Sizes, fits_sizes, places_fit}
use Rattle.draft_plain.proofs.Different.{rising_different, different_map, different_few}
use Rattle.draft_plain.proofs.Askings.{askings_of, askings_many, askings_different, asking_listed, on_askings}

abbrev agent_place : ℕ → Place
agent_place k = agent (number_in k) (set_in k)

abbrev procedure_place : ℕ → Place
procedure_place k = procedure (number_in k - 1024) (set_in k)

-- a place back as a pair
abbrev pair_at : Place → ℕ
pair_at (agent i set) = pair i set
pair_at (procedure p set) = pair (procedure_at p) set

agents_apart : (k m : ℕ) → agent_place k ≡ agent_place m → k ≡ m
agents_apart k m e = sym (pair_parts k) ∙ ap pair_at e ∙ pair_parts m

not_both : (a b : Bool) → (a && b) ≡ false → (a ≡ false) ⊎ (b ≡ false)
not_both true b e = inr e
not_both false b e = inl refl

-- of a list of different things of a kind, more than n
more_than : {A : Type 0} {n before : ℕ} {Is : A → Type 0} (l : List A) → Different l → Within Is l → n < before + length l → MoreThan n before Is
more_than l apart are many = record { those = l; different = apart; are = are; many = many }

-- and no more of them than a list has that holds them all
no_more : {A : Type 0} {n before : ℕ} {Is : A → Type 0} (l : List A) → ((x : A) → Is x → Memᴰ x l) → before + length l ≤ n → MoreThan n before Is → ⊥
no_more l listed few m = omega (arith, different_few m.different (λ x n. listed x (m.are x n)), m.many)

module _ (d : Draft) (law : LawfulDraft d) where
  agent_stands : (k : ℕ) → Memᴰ k (agents_in d) → KnownAgent d k × Stands d (agent_place k)
  agent_stands k m =
      let (led, low) = agent_led d m in
      let known = led_agent d law led low in
      (known, led_stands_agent d law k led known)

  agent_is : (k : ℕ) → Memᴰ k (agents_in d) → AgentPair d (agent_place k)
  agent_is k m = let (known, stands) = agent_stands k m in (number_in k, set_in k, known.written, refl, known.is_written, stands)

  procedure_is : (k : ℕ) → Memᴰ k (procedures_in d) → ProcedurePair d (procedure_place k)
  procedure_is k m =
      let (led, high) = procedure_led d m in
      (number_in k - 1024, set_in k, refl, led_stands_procedure d law k (number_in k - 1024) led (omega arith))

  procedures_apart : (k m : ℕ) → Memᴰ k (procedures_in d) → Memᴰ m (procedures_in d) → procedure_place k ≡ procedure_place m → k ≡ m
  procedures_apart k m a b e = sym (procedure_parts k a) ∙ ap pair_at e ∙ procedure_parts m b
    where
      procedure_parts : (j : ℕ) → Memᴰ j (procedures_in d) → pair_at (procedure_place j) ≡ j
      procedure_parts j n =
          let high = (procedure_led d n).1 in
          let number : procedure_at (number_in j - 1024) ≡ number_in j = omega arith in
          ap (λ i. pair i (set_in j)) number ∙ pair_parts j

  asks_asked : (k : ℕ) → Stands d (agent_place k) → (a : Agent) → draft_agent_at d (number_in k) ≡ Plain a → Within (λ set. several set ≡ true → Asked d set) (asks_for (set_in k) a)
  asks_asked k s Skip e = λ set m. elim m [ ]
  asks_asked k s Abort e = λ set m. elim m [ ]
  asks_asked k s (Tell t) e = λ set m. elim m [ ]
  asks_asked k s (Parallel a b) e = λ set m. elim m [ ]
  asks_asked k s (When t b) e = λ set m. elim m [ ]
  asks_asked k s (Next b) e = on_cons (by_next s e) (λ set m. elim m [ ])
  asks_asked k s (Unless t b) e = on_cons (by_unless s e) (λ set m. elim m [ ])
  asks_asked k s (Call p) e = λ set m. elim m [ ]

  asked_is : Within (Asked d) (sets_in d)
  asked_is = on_asked d (Asked d) (agents_in d) each
    where
      each : (k : ℕ) → Memᴰ k (agents_in d) → Within (λ set. several set ≡ true → Asked d set) (asks_for (set_in k) (agent_in d k))
      each k m =
          let (known, stands) = agent_stands k m in
          subst⁻¹ (λ w. Within (λ set. several set ≡ true → Asked d set) (asks_for (set_in k) (as_when w))) known.is_written (asks_asked k stands known.written known.is_written)

  -- each count of the copying is one of what is counted
  agents_over : 1024 < length (score_in d).agents → MoreThan 1024 0 (AgentPair d)
  agents_over h = more_than (map agent_place (agents_in d)) (different_map agent_place (rising_different (agents_rising d)) (λ k m a b. agents_apart k m)) (on_map (AgentPair d) agent_place (agents_in d) agent_is) (omega (arith, agents_length d, length-map (agents_in d) agent_place))

  procedures_over : 64 < length (score_in d).roots → MoreThan 64 0 (ProcedurePair d)
  procedures_over h = more_than (map procedure_place (procedures_in d)) (different_map procedure_place (rising_different (procedures_rising d)) procedures_apart) (on_map (ProcedurePair d) procedure_place (procedures_in d) procedure_is) (omega (arith, roots_length d, length-map (procedures_in d) procedure_place))

  tokens_over : 256 < (score_in d).tokens → MoreThan 256 d.tokens (Asked d)
  tokens_over h = more_than (sets_in d) (rising_different (asked_rising d (agents_in d))) asked_is h

  rules_length : length (score_in d).rules ≡ length d.rules + length (askings_of (sets_in d))
  rules_length = omega (arith, length-append d.rules (member_rules d.tokens (sets_in d)), askings_many d.tokens (sets_in d))

  rules_over : 256 < length (score_in d).rules → MoreThan 256 (length d.rules) (AskedMember d)
  rules_over h = more_than (askings_of (sets_in d)) (askings_different (sets_in d) (asked_rising d (agents_in d))) (on_askings (AskedMember d) (sets_in d) (λ set t m n. (asked_is set m, (member_holds set n).1))) (omega (arith, rules_length))

  -- and what is counted is one of the copying's, where that fits
  set_small : {i set : ℕ} → Stands d (agent i set) → set < 2 ^ 256
  set_small {i} {set} s = lt_of_lt_of_le (stands_bound_agent d law i set s).0 (pow_mono law.tokens_at_most)

  module _ (fit : PlacesFit (places d)) where
    pair_listed : (i set : ℕ) (a : Agent) → draft_agent_at d i ≡ Plain a → Stands d (agent i set) → Memᴰ (pair i set) (agents_in d)
    pair_listed i set a e s = agent_listed d law fit (subst (Led d) (target_plain d i set a e) (stands_led_agent d law i set s)) (omega (arith, number_pair i set (set_small s), (stands_bound_agent d law i set s).1, draft_agents d law))

    agent_counted : (x : Place) → AgentPair d x → Memᴰ x (map agent_place (agents_in d))
    agent_counted x (i, set, a, is, e, stands) =
        let s : Stands d (agent i set) = subst (Stands d) is stands in
        Memᴰ.cast (is ∙ sym (ap₂ agent (number_pair i set (set_small s)) (set_pair i set (set_small s)))) (map_member agent_place (pair_listed i set a e s))

    procedure_counted : (x : Place) → ProcedurePair d x → Memᴰ x (map procedure_place (procedures_in d))
    procedure_counted x (p, set, is, stands) =
        let s : Stands d (procedure p set) = subst (Stands d) is stands in
        let number = number_pair (procedure_at p) set (set_small (root s)) in
        let listed = procedure_listed d law fit (stands_led_procedure d law p set s) (omega arith) in
        let back : number_in (pair (procedure_at p) set) - 1024 ≡ p = omega arith in
        Memᴰ.cast (is ∙ sym (ap₂ procedure back (set_pair (procedure_at p) set (set_small (root s))))) (map_member procedure_place listed)

    asks_listed : (i set asked : ℕ) (a : Agent) → draft_agent_at d i ≡ Plain a → Stands d (agent i set) → Memᴰ asked (asks_for set a) → several asked ≡ true → Memᴰ asked (sets_in d)
    asks_listed i set asked a e s m = asked_listed d (pair_listed i set a e s) (subst⁻¹ (λ l. Memᴰ asked l) asks m)
      where
        asks : asks_for (set_in (pair i set)) (agent_in d (pair i set)) ≡ asks_for set a
        asks = ap₂ asks_for (set_pair i set (set_small s)) (ap (λ n. as_when (draft_agent_at d n)) (number_pair i set (set_small s)) ∙ ap as_when e)

    asked_counted : (set : ℕ) → Asked d set → Memᴰ set (sets_in d)
    asked_counted set (by_next {i = i} {b = b} s e h) = asks_listed i set set (Next b) e s (Memᴰ.head refl) h
    asked_counted asked (by_unless {i = i} {t = t} {b = b} {set = set} s e h) = asks_listed i set (with t set) (Unless t b) e s (Memᴰ.head refl) h

    member_counted : (x : Asking) → AskedMember d x → Memᴰ x (askings_of (sets_in d))
    member_counted x (asked, h) =
        let listed = asked_counted x.set asked in
        asking_listed listed (holds_member x.set (omega (arith, asked_known d law x.set listed x.token h, law.tokens_at_most)) h)

  two_over : (leb (score_in d).tokens 256 && leb (length (score_in d).agents) 1024) ≡ false → Passes d
  two_over e = ⊎_elim (λ q. inr (inr (inl (tokens_over (leb-false (score_in d).tokens 256 q))))) (λ q. inl (agents_over (leb-false (length (score_in d).agents) 1024 q))) (not_both _ _ e)

  three_over : (leb (score_in d).tokens 256 && leb (length (score_in d).agents) 1024 && leb (length (score_in d).roots) 64) ≡ false → Passes d
  three_over e = ⊎_elim two_over (λ q. inr (inl (procedures_over (leb-false (length (score_in d).roots) 64 q)))) (not_both _ _ e)

  over_passes : fits (score_in d) ≡ false → Passes d
  over_passes e = ⊎_elim three_over (λ q. inr (inr (inr (rules_over (leb-false (length (score_in d).rules) 256 q))))) (not_both _ _ e)

  passes_over : Sizes (score_in d) → Passes d → ⊥
  passes_over sizes (inl m) = no_more (map agent_place (agents_in d)) (agent_counted (places_fit d sizes)) (omega (arith, sizes.few_agents, agents_length d, length-map (agents_in d) agent_place)) m
  passes_over sizes (inr (inl m)) = no_more (map procedure_place (procedures_in d)) (procedure_counted (places_fit d sizes)) (omega (arith, sizes.few_roots, roots_length d, length-map (procedures_in d) procedure_place)) m
  passes_over sizes (inr (inr (inl m))) = no_more (sets_in d) (asked_counted (places_fit d sizes)) sizes.few_tokens m
  passes_over sizes (inr (inr (inr m))) = no_more (askings_of (sets_in d)) (member_counted (places_fit d sizes)) (omega (arith, sizes.few_rules, rules_length)) m

pub limits : Limits
unfolding plain_of
limits d law = (over_passes d law, λ passes. go passes (fits (score_in d)) refl)
  where
    go : Passes d → (b : Bool) → fits (score_in d) ≡ b → b ≡ false
    go passes true e = absurd (passes_over d law (fits_sizes (score_in d) e) passes)
    go passes false e = refl
