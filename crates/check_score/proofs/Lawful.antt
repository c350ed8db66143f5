-- An accepted score is lawful: what the check has found of the bytes, said of the score that they stand for.
--     accepted_words         an accepted score has four bytes for each word
--     accepted_faultless     all its words are there, and each is as its place asks
--     accepted_lawful        it has every fact of acceptance
use mathlib.Core.Path.{◌≡◌, refl, sym, ap, ◌∙◌}
use mathlib.Core.Bool.{true, false, true≢false}
use mathlib.Core.List.{List, Memᴰ}
use Prim.Native.Nat.{ℕ, ◌+◌, ◌*◌, ◌<◌, ◌≤◌}
use native.Mathlib.Nat.{zero-add}
use native.Mathlib.Omega.{arith}
use lib.ListN.{length, drop}
use Rattle.laws.proofs.Sets.{Within}
use Rattle.tcc.specs.Lawful.{Lawful}
use Rattle.tcc.specs.Unguarded.{Reaches, circular}
use Rattle.tcc.proofs.Unguarded.{circular_exact}
use Rattle.words.specs.Word.{field, words, word_at}
use Rattle.words.proofs.Words.{words_length}
use Rattle.format.specs.Decode.{sizes, decode}
use Rattle.format.proofs.Decode.{decode_agents, decode_roots, decode_tokens, decode_lowest, decode_highest, decode_rules, on_rules, sizes_few}
use Rattle.check_verdicts.specs.Verdict.{Accepted}
use Rattle.check_verdicts.specs.Verdicts.{verdict_number, or_else}
use Rattle.check_verdicts.proofs.Verdicts.{both_accepted}
use Rattle.check_faults.specs.Faults.{length_verdict, head_verdict, count_verdict, first_fault}
use Rattle.check_faults.specs.Faultless.{Faultless}
use Rattle.check_faults.proofs.Accepted.{length_accepted, count_accepted, tokens_known, parts_lower, roots_known, ports_known, ports_ordered, rules_known}
use Rattle.check_circles.specs.Circles.{circle_from}
use Rattle.check_circles.proofs.Circle.{calls_known, circle_free}
use Rattle.check_score.specs.Check.{verdict}

-- each test in turn
record Passed (s : List ℕ) : Type 0 where
  length_passed : length_verdict (length s) ≡ Accepted
  count_passed : count_verdict (sizes s) (length (words s)) ≡ Accepted
  faults_passed : first_fault (sizes s) 1 (drop 1 (words s)) ≡ Accepted
  circles_passed : circle_from (decode s) 0 (length (decode s).roots) ≡ Accepted

passed : (s : List ℕ) → verdict s ≡ Accepted → Passed s
unfolding verdict
passed s e =
    let last = circle_from (decode s) 0 (length (decode s).roots) in
    let faults = first_fault (sizes s) 1 (drop 1 (words s)) in
    let count = count_verdict (sizes s) (length (words s)) in
    let head = head_verdict (word_at s 0) in
    let a = both_accepted (length_verdict (length s)) (or_else head (or_else count (or_else faults last))) e in
    let b = both_accepted head (or_else count (or_else faults last)) a.1 in
    let c = both_accepted count (or_else faults last) b.1 in
    let d = both_accepted faults last c.1 in
    record { length_passed = a.0; count_passed = c.0; faults_passed = d.0; circles_passed = d.1 }

module _ (s : List ℕ) (e : verdict s ≡ Accepted) where
  pub accepted_words : length s ≡ 4 * length (words s)
  accepted_words = omega (arith, length_accepted (length s) (ap verdict_number (passed s e).length_passed), words_length s)

  counted : (2 + (sizes s).agents + (sizes s).procedures ≤ length (words s)) × (length (words s) ≤ 2 + (sizes s).agents + (sizes s).procedures + 256)
  counted = count_accepted (sizes s) (length (words s)) (ap verdict_number (passed s e).count_passed)

  pub accepted_faultless : Faultless s
  accepted_faultless = record { enough = counted.0; faultless = (passed s e).faults_passed }

  agents_counted : length (decode s).agents ≡ (sizes s).agents
  agents_counted = let h = counted.0 in decode_agents s (omega arith)

  roots_counted : length (decode s).roots ≡ (sizes s).procedures
  roots_counted = decode_roots s counted.0

  uncircled : (p : ℕ) → p < length (decode s).roots → Reaches (decode s) p p → ⊥
  uncircled p lt r =
      let t : circular (decode s) p ≡ true = (circular_exact (decode s) (calls_known s accepted_faultless) p).1 r in
      let f : circular (decode s) p ≡ false = rw zero-add at (circle_free (decode s) 0 (length (decode s).roots) (passed s e).circles_passed p lt) in
      true≢false (sym t ∙ f)

  conclusions : Within (λ r. r.conclusion < (sizes s).tokens) (decode s).rules
  conclusions = on_rules s (λ r. r.conclusion < (sizes s).tokens) (λ k le lt. rules_known s accepted_faultless k le lt (field (word_at s k) 0 8) (Memᴰ.head refl))

  premises : Within (λ r. (t : ℕ) → Memᴰ t r.premises → t < (sizes s).tokens) (decode s).rules
  premises =
      on_rules s (λ r. (t : ℕ) → Memᴰ t r.premises → t < (sizes s).tokens)
      (λ k le lt t m. rules_known s accepted_faultless k le lt t (Memᴰ.tail m))

  pub accepted_lawful : Lawful (decode s)
  accepted_lawful =
      let f = accepted_faultless in
      let few = sizes_few s in
      let t = decode_tokens s in
      let a = agents_counted in
      let p = roots_counted in
      record {
        some_tokens = omega arith;
        tokens_at_most = omega arith;
        some_agents = omega arith;
        agents_at_most = omega arith;
        some_roots = omega arith;
        roots_at_most = omega arith;
        rules_at_most = omega (arith, decode_rules s, counted.1);
        ports_ordered = omega (arith, decode_lowest s, decode_highest s, ports_ordered s f);
        ports_known = omega (arith, decode_highest s, ports_known s f);
        tokens_known = λ i n m. omega (arith, tokens_known s f i n m);
        parts_lower = parts_lower s f;
        procedures_known = calls_known s f;
        roots_known = λ n lt. omega (arith, roots_known s f n (omega arith));
        conclusions_known = λ r m. omega (arith, conclusions r m);
        premises_known = λ r n m k. omega (arith, premises r m n k);
        no_circle = uncircled;
      }
