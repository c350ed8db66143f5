-- Laws of a decoded score.
--     decode_agent_lem   agent i is that of word 2 + i
--     decode_root        the root of procedure p stands in word 2 + N + p
--     decode_agents      where the words are there, N agents
--     playable_agents    so of a playable score
--     decode_roots       and P procedures
--     decode_tokens, decode_lowest, decode_highest     T, and the ports of word 1
--     decode_rules       the words past the procedures are the rules
--     rules_from         the first word that is a rule
--     rule_member        the rule of each word from there on is one of the score's
--     on_rules           what holds of the rule of each of those words holds of each rule
--     sizes_few          no more tokens, agents or procedures than a head can say
use mathlib.Core.Path.{◌≡◌, refl, sym, ap, subst, subst⁻¹, ◌∙◌}
use mathlib.Core.List.{List, map, Memᴰ}
use Prim.Native.Nat.{ℕ, ◌+◌, ◌-◌, ◌<◌, ◌≤◌}
use native.Mathlib.Omega.{arith}
use lib.ListN.{length, get_or, take, drop, length-map, length-take, length-drop, get_or-map}
use lib.Seq.{get_or-take, get_or-drop}
use Rattle.laws.proofs.Lists.{entry_member, on_entries}
use Rattle.laws.proofs.Sets.{Within, on_map, map_member}
use Rattle.tcc.specs.Closure.{Rule}
use Rattle.tcc.specs.Score.{agent_at, root_of}
use Rattle.tcc.specs.declared.Agent.TheVariants.{Skip}
use Rattle.words.specs.Word.{field, words, word_at}
use Rattle.words.proofs.Field.{field_below}
use Rattle.format.specs.Format.{agent_of, rule_of, decode_agent}
use Rattle.format.specs.Decode.{sizes, decode}
use Rattle.format.specs.Playable.{Playable}

-- entry i of n words from word k on
part_at : (s : List ℕ) (k n i : ℕ) → i < n → get_or (take n (drop k (words s))) i 0 ≡ word_at s (k + i)
part_at s k n i h = get_or-take n (drop k (words s)) i 0 h ∙ get_or-drop k (words s) i 0

part_length : (s : List ℕ) (k n : ℕ) → k + n ≤ length (words s) → length (take n (drop k (words s))) ≡ n
part_length s k n h = simp (length-take, length-drop) (omega arith)

agent_of_zero : agent_of 0 ≡ Skip
unfolding decode_agent field
agent_of_zero = refl

pub decode_agent_lem : (s : List ℕ) (i : ℕ) → i < (sizes s).agents → agent_at (decode s) i ≡ agent_of (word_at s (2 + i))
unfolding decode
decode_agent_lem s i h =
    ap (λ d. get_or (map agent_of (take (sizes s).agents (drop 2 (words s)))) i d) (sym agent_of_zero)
    ∙ get_or-map agent_of (take (sizes s).agents (drop 2 (words s))) i 0
    ∙ ap agent_of (part_at s 2 (sizes s).agents i h)

root_zero : field 0 0 10 ≡ 0
unfolding field
root_zero = refl

pub decode_root : (s : List ℕ) (p : ℕ) → p < (sizes s).procedures → root_of (decode s) p ≡ field (word_at s (2 + (sizes s).agents + p)) 0 10
unfolding decode
decode_root s p h =
    ap (λ d. get_or (map (λ w. field w 0 10) (take (sizes s).procedures (drop (2 + (sizes s).agents) (words s)))) p d) (sym root_zero)
    ∙ get_or-map (λ w. field w 0 10) (take (sizes s).procedures (drop (2 + (sizes s).agents) (words s))) p 0
    ∙ ap (λ w. field w 0 10) (part_at s (2 + (sizes s).agents) (sizes s).procedures p h)

pub decode_agents : (s : List ℕ) → 2 + (sizes s).agents ≤ length (words s) → length (decode s).agents ≡ (sizes s).agents
unfolding decode
decode_agents s h = length-map (take (sizes s).agents (drop 2 (words s))) agent_of ∙ part_length s 2 (sizes s).agents h

pub playable_agents : (s : List ℕ) → Playable s → length (decode s).agents ≡ (sizes s).agents
playable_agents s p = decode_agents s (omega (arith, p.whole))

pub decode_roots : (s : List ℕ) → 2 + (sizes s).agents + (sizes s).procedures ≤ length (words s) → length (decode s).roots ≡ (sizes s).procedures
unfolding decode
decode_roots s h =
    length-map (take (sizes s).procedures (drop (2 + (sizes s).agents) (words s))) (λ w. field w 0 10)
    ∙ part_length s (2 + (sizes s).agents) (sizes s).procedures h

pub decode_tokens : (s : List ℕ) → (decode s).tokens ≡ (sizes s).tokens
unfolding decode
decode_tokens s = refl

pub decode_lowest : (s : List ℕ) → (decode s).lowest_port ≡ field (word_at s 1) 0 8
unfolding decode
decode_lowest s = refl

pub decode_highest : (s : List ℕ) → (decode s).highest_port ≡ field (word_at s 1) 8 8
unfolding decode
decode_highest s = refl

pub decode_rules : (s : List ℕ) → length (decode s).rules ≡ length (words s) - (2 + (sizes s).agents + (sizes s).procedures)
unfolding decode
decode_rules s =
    length-map (drop (2 + (sizes s).agents + (sizes s).procedures) (words s)) rule_of
    ∙ length-drop (2 + (sizes s).agents + (sizes s).procedures) (words s)

abbrev pub rules_from : List ℕ → ℕ
rules_from s = 2 + (sizes s).agents + (sizes s).procedures

pub rule_member : (s : List ℕ) (k : ℕ) → rules_from s ≤ k → k < length (words s) → Memᴰ (rule_of (word_at s k)) (decode s).rules
unfolding decode
rule_member s k from within =
    let start = rules_from s in
    let j = k - start in
    let e : start + j ≡ k = omega arith in
    let m : Memᴰ (get_or (drop start (words s)) j 0) (drop start (words s)) = entry_member (drop start (words s)) j (omega (arith, length-drop start (words s))) in
    map_member rule_of (subst (λ w. Memᴰ w (drop start (words s))) (rw e at (get_or-drop start (words s) j 0)) m)

pub on_rules : (s : List ℕ) (P : Rule ℕ → Type 0) →
    ((k : ℕ) → 2 + (sizes s).agents + (sizes s).procedures ≤ k → k < length (words s) → P (rule_of (word_at s k))) → Within P (decode s).rules
unfolding decode
on_rules s P f =
    let start = 2 + (sizes s).agents + (sizes s).procedures in
    on_map P rule_of (drop start (words s))
    (on_entries (λ w. P (rule_of w)) (drop start (words s))
    (λ j lt. subst⁻¹ (λ w. P (rule_of w)) (get_or-drop start (words s) j 0) (f (start + j) (omega arith) (omega (arith, length-drop start (words s))))))

pub sizes_few : (s : List ℕ) → ((sizes s).tokens ≤ 256) × ((sizes s).agents ≤ 1024) × ((sizes s).procedures ≤ 64)
sizes_few s = omega (arith, field_below (word_at s 0) 0 8, field_below (word_at s 0) 8 10, field_below (word_at s 0) 18 6)
