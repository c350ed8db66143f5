-- The values of verdicts are small.
--     verdict_small      the word or procedure of a verdict is below 2 ^ 24
use mathlib.Core.Path.{◌≡◌}
use mathlib.Core.Bool.{Bool, true, false, cond, not, ◌||◌}
use mathlib.Core.List.{List, [], ◌∷◌}
use Prim.Native.Nat.{ℕ, zero, suc, ◌+◌, ◌-◌, ◌%◌, ◌^◌, ◌<◌, ◌≤◌}
use native.Mathlib.Decide.{ℕ_discrete}
use native.Mathlib.Omega.{arith}
use lib.Dec.{eqb, leb, ltb}
use lib.ListN.{length, drop, length-map, length-take, length-drop}
use Rattle.std.proofs.Common.{Option, Some, None, Err}
use Rattle.laws.specs.Sets.{any}
use Rattle.tcc.specs.Score.{Score, tokens_of, parts_of, procedures_of}
use Rattle.tcc.specs.Unguarded.{circular}
use Rattle.tcc.specs.declared.Agent.{Agent}
use Rattle.words.specs.Word.{field, words, word_at}
use Rattle.words.proofs.Words.{words_length}
use Rattle.format.specs.declared.Sizes.{Sizes}
use Rattle.format.specs.Format.{is_word, decode_agent, is_rule, rule_of}
use Rattle.format.specs.Decode.{sizes, decode}
use Rattle.format.proofs.Decode.{sizes_few}
use Rattle.check_verdicts.specs.Verdict.{Verdict, Accepted}
use Rattle.check_verdicts.specs.Verdicts.{verdict_number, verdict_value, or_else}
use Rattle.check_verdicts.proofs.Verdicts.{or_else_accepted, or_else_refused}
use Rattle.check_words.specs.WordFaults.{at_word, agent_verdict}
use Rattle.check_faults.specs.Faults.{word_verdict, first_fault, length_verdict, head_verdict, count_verdict}
use Rattle.check_faults.proofs.Accepted.{length_accepted}
use Rattle.check_circles.specs.Circles.{circle_from}
use Rattle.check_score.specs.Check.{verdict}

record Small (n : ℕ) (v : Verdict) : Type 0 where
  small : verdict_value v ≤ n

either_small : (b : Bool) {v w : Verdict} {n : ℕ} → Small n v → Small n w → Small n (cond b v w)
either_small true hv hw = hv
either_small false hv hw = hw

or_else_small : {v w : Verdict} {n : ℕ} → Small n v → Small n w → Small n (or_else v w)
or_else_small {v} {w} {n} hv hw = go v hv
  where
    go : (v : Verdict) → Small n v → Small n (or_else v w)
    go Accepted h = hw
    go (Err f) h = h

at_small : (h : Sizes) (k : ℕ) (formed : Bool) (tokens : List ℕ) (astray : Bool) (n : ℕ) → k ≤ n → Small n (at_word h k formed tokens astray)
at_small h k formed tokens astray n le =
    either_small formed
    (either_small (any (λ t. leb h.tokens t) tokens) (record { small = le }) (either_small astray (record { small = le }) (record { small = omega arith })))
    (record { small = le })

agent_small : (h : Sizes) (i : ℕ) (d : Option Agent) (n : ℕ) → 2 + i ≤ n → Small n (agent_verdict h i d)
agent_small h i None n le = record { small = le }
agent_small h i (Some a) n le = at_small h (2 + i) true (tokens_of a) (any (λ b. leb i b) (parts_of a) || any (λ p. leb h.procedures p) (procedures_of a)) n le

word_small : (h : Sizes) (k w n : ℕ) → k ≤ n → 2 ≤ n → Small n (word_verdict h k w)
unfolding word_verdict
word_small h k w n le two =
    either_small (ltb k 2) (at_small h k (is_word 11 16 w) (field w 0 8 ∷ field w 8 8 ∷ []) (ltb (field w 8 8) (field w 0 8)) n le)
    (either_small (ltb k (2 + h.agents)) (agent_small h (k - 2) (decode_agent w) n (omega arith))
    (either_small (ltb k (2 + h.agents + h.procedures)) (at_small h k (is_word 3 10 w) [] (leb h.agents (field w 0 10)) n le)
    (at_small h k (is_rule w) ((rule_of w).conclusion ∷ (rule_of w).premises) false n le)))

fault_small : (h : Sizes) (k : ℕ) (ws : List ℕ) (n : ℕ) → k + length ws ≤ n → 2 ≤ n → Small n (first_fault h k ws)
unfolding first_fault
fault_small h k [] n le two = record { small = omega arith }
fault_small h k (w ∷ ws) n le two = or_else_small (word_small h k w n (omega arith) two) (fault_small h (suc k) ws n (omega arith) two)

circle_small : (sc : Score) (p left n : ℕ) → p + left ≤ n → Small n (circle_from sc p left)
unfolding circle_from
circle_small sc p zero n le = record { small = omega arith }
circle_small sc p (suc left) n le = either_small (circular sc p) (record { small = omega arith }) (circle_small sc (suc p) left n (omega arith))

roots_few : (s : List ℕ) → length (decode s).roots ≤ 64
unfolding decode
roots_few s = simp (length-map, length-take) (omega (arith, sizes_few s))

rest_small : (s : List ℕ) → verdict_number (length_verdict (length s)) ≡ 0 →
    Small 1400 (or_else (head_verdict (word_at s 0)) (or_else (count_verdict (sizes s) (length (words s))) (or_else (first_fault (sizes s) 1 (drop 1 (words s))) (circle_from (decode s) 0 (length (decode s).roots)))))
rest_small s e =
    let short : 1 + length (drop 1 (words s)) ≤ 1400 = simp length-drop (omega (arith, length_accepted (length s) e, words_length s)) in
    or_else_small (either_small (is_word 1 24 (word_at s 0)) (record { small = omega arith }) (record { small = omega arith }))
    (or_else_small (either_small (ltb (length (words s)) (2 + (sizes s).agents + (sizes s).procedures) || ltb (2 + (sizes s).agents + (sizes s).procedures + 256) (length (words s))) (record { small = omega arith }) (record { small = omega arith }))
    (or_else_small (fault_small (sizes s) 1 (drop 1 (words s)) 1400 short (omega arith))
    (circle_small (decode s) 0 (length (decode s).roots) 1400 (omega (arith, roots_few s)))))

length_small : (n : ℕ) → Small 1400 (length_verdict n)
length_small n = either_small (eqb n 0 || not (eqb (n % 4) 0) || ltb 5384 n) (record { small = omega arith }) (record { small = omega arith })

pub verdict_small : (s : List ℕ) → verdict_value (verdict s) < 2 ^ 24
unfolding verdict
verdict_small s = go (ℕ_discrete (verdict_number (length_verdict (length s))) 0)
  where
    go : Dec (verdict_number (length_verdict (length s)) ≡ 0) → verdict_value (verdict s) < 2 ^ 24
    go (yes e) = rw (or_else_accepted (length_verdict (length s)) _ e) (omega (arith, (rest_small s e).small))
    go (no n) = rw (or_else_refused (length_verdict (length s)) _ n) (omega (arith, (length_small (length s)).small))
