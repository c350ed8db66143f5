-- The members of a set of tokens, taken one by one, and the rules from them.
--     rule_words                            the words of the rules from some tokens to one
--     held_below                            the members below t
--     held_same, held_count, held_put       one token further on: where it is no member, and where it is and its word is put
--     held_all                              where each member is below T, those below T are all
--     held_room                             before the last, there are fewer
--     sets_count, sets_put, sets_room       the rules from the sets of a list, one set further on, and room for it
use mathlib.Core.Path.{◌≡◌, refl, sym, ap, ap₂, ◌∙◌}
use mathlib.Core.Bool.{Bool, true, false, cond}
use mathlib.Core.List.{List, [], ◌∷◌, ◌++◌, map, map-append, append_assoc, append-nil, Memᴰ}
use Prim.Native.Nat.{ℕ, zero, suc, ◌+◌, ◌*◌, ◌-◌, ◌<◌, ◌≤◌}
use native.Mathlib.Nat.{add-zero, add-suc}
use native.Mathlib.Numerals.{add-one}
use native.Mathlib.Omega.{arith}
use lib.ListN.{length, take, drop, get_or, length-append, length-map, take-append-drop}
use lib.Seq.{take-suc, length-take-le}
use Rattle.laws.specs.Sets.{below, keep}
use Rattle.laws.proofs.Lists.{map_snoc}
use Rattle.laws.proofs.Sets.{keep_append, keep_none, on_map, below_lt}
use Rattle.tcc.specs.Closure.{Rule}
use Rattle.bits.specs.Bits.{bytes_of}
use Rattle.draft_language.proofs.Carries.{member_rule}
use Rattle.encoding.specs.Encode.{rule_word}
use Rattle.bits.specs.Put.{put}
use Rattle.bits.proofs.Put.{put_then, put_next}
use Rattle.draft_pairs.specs.TokenSets.{holds, members}
use Rattle.draft_pairs.proofs.TokenSets.{holds_member}
use Rattle.draft_plain.specs.Plain.{member_rules}
use Rattle.draft_rules.specs.SetRules.{set_rules}

below_add : (m n : ℕ) → below (m + n) ≡ below m ++ map (λ j. m + j) (below n)
below_add m zero = ap below (add-zero m) ∙ sym (append-nil (below m))
below_add m (suc n) =
    ap below (add-suc m n)
    ∙ ap (λ l. l ++ ((m + n) ∷ [])) (below_add m n)
    ∙ append_assoc (below m) (map (λ j. m + j) (below n)) ((m + n) ∷ [])
    ∙ ap (λ l. below m ++ l) (sym (map_snoc (λ j. m + j) (below n) n))

abbrev pub rule_words : ℕ → List ℕ → List ℕ
rule_words u l = map rule_word (map (member_rule u) l)

words_length : (u : ℕ) (l : List ℕ) → length (rule_words u l) ≡ length l
words_length u l = length-map (map (member_rule u) l) rule_word ∙ length-map l (member_rule u)

words_more : (u : ℕ) (l : List ℕ) (m : ℕ) → rule_words u (l ++ (m ∷ [])) ≡ rule_words u l ++ (rule_word (member_rule u m) ∷ [])
words_more u l m = ap (map rule_word) (map_snoc (member_rule u) l m) ∙ map_snoc rule_word (map (member_rule u) l) (member_rule u m)

module _ (set : ℕ) where
  abbrev pub held_below : ℕ → List ℕ
  held_below t = keep (λ u. holds set u) (below t)

  held_step : (t : ℕ) (b : Bool) → holds set t ≡ b → held_below (t + 1) ≡ held_below t ++ cond b (t ∷ []) []
  held_step t b e =
      ap held_below (add-one t)
      ∙ keep_append (λ u. holds set u) (below t) (t ∷ [])
      ∙ ap (λ x. held_below t ++ cond x (t ∷ []) []) e

  pub held_same : (t : ℕ) → holds set t ≡ false → held_below t ≡ held_below (t + 1)
  held_same t e = sym (held_step t false e ∙ append-nil (held_below t))

  module _ (t : ℕ) (e : holds set t ≡ true) where
    pub held_count : length (held_below (t + 1)) ≡ length (held_below t) + 1
    held_count = ap length (held_step t true e) ∙ length-append (held_below t) (t ∷ [])

    pub held_put : (u from at w : ℕ) (bytes now next : List ℕ) →
        at ≡ from + length (held_below t) → 4 * at ≤ length bytes → w ≡ rule_word (member_rule u t) →
        now ≡ put from (rule_words u (held_below t)) bytes → next ≡ take (4 * at) now ++ bytes_of (w ∷ []) ++ drop (4 * at + 4) now →
        next ≡ put from (rule_words u (held_below (t + 1))) bytes
    held_put u from at w bytes now next here room word before after =
        after
        ∙ ap₂ (λ v s. take (4 * at) s ++ bytes_of (v ∷ []) ++ drop (4 * at + 4) s) word before
        ∙ put_next from (rule_words u (held_below t)) bytes (rule_word (member_rule u t)) at (omega (arith, words_length u (held_below t))) room
        ∙ ap (λ ws. put from ws bytes) (sym (ap (rule_words u) (held_step t true e) ∙ words_more u (held_below t) t))

  -- those from m on
  held_apart : (m : ℕ) → m ≤ 256 → members set ≡ held_below m ++ keep (λ u. holds set u) (map (λ j. m + j) (below (256 - m)))
  unfolding members
  held_apart m h =
      let e : 256 ≡ m + (256 - m) = omega arith in
      ap held_below e
      ∙ ap (keep (λ u. holds set u)) (below_add m (256 - m))
      ∙ keep_append (λ u. holds set u) (below m) (map (λ j. m + j) (below (256 - m)))

  pub held_all : (tokens : ℕ) → tokens ≤ 256 → ((t : ℕ) → Memᴰ t (members set) → t < tokens) → held_below tokens ≡ members set
  held_all tokens h known =
      sym
      (held_apart tokens h
      ∙ ap (λ l. held_below tokens ++ l) (keep_none (λ u. holds set u) later (on_map (λ u. holds set u ≡ false) (λ j. tokens + j) (below (256 - tokens)) clear))
      ∙ append-nil (held_below tokens))
    where
      later : List ℕ
      later = map (λ j. tokens + j) (below (256 - tokens))

      go : (u : ℕ) → u < 256 → tokens ≤ u → (b : Bool) → holds set u ≡ b → holds set u ≡ false
      go u few from true e = absurd (let lt = known u (holds_member set few e) in omega arith)
      go u few from false e = e

      clear : (j : ℕ) → Memᴰ j (below (256 - tokens)) → holds set (tokens + j) ≡ false
      clear j m = let lt = below_lt (256 - tokens) j m in go (tokens + j) (omega arith) (omega arith) (holds set (tokens + j)) refl

  pub held_room : (t : ℕ) → t < 256 → holds set t ≡ true → length (held_below t) < length (members set)
  held_room t h e =
      let later : List ℕ = keep (λ u. holds set u) (map (λ j. t + 1 + j) (below (256 - (t + 1)))) in
      omega (arith, ap length (held_apart (t + 1) (omega arith)) ∙ length-append (held_below (t + 1)) later, held_count t e)

-- the rules from sets
rules_append : (u : ℕ) (xs ys : List ℕ) → member_rules u (xs ++ ys) ≡ member_rules u xs ++ member_rules (u + length xs) ys
rules_append u [] ys = ap (λ n. member_rules n ys) (sym (add-zero u))
rules_append u (x ∷ xs) ys =
    let e : suc u + length xs ≡ u + suc (length xs) = omega arith in
    ap (λ l. set_rules u x ++ l) (rules_append (suc u) xs ys ∙ ap (λ n. member_rules (suc u) xs ++ member_rules n ys) e)
    ∙ sym (append_assoc (set_rules u x) (member_rules (suc u) xs) (member_rules (u + suc (length xs)) ys))

module _ (u : ℕ) (sets : List ℕ) (k : ℕ) (h : k < length sets) where
  sets_more : member_rules u (take (k + 1) sets) ≡ member_rules u (take k sets) ++ set_rules (u + k) (get_or sets k 0)
  sets_more =
      let last : List ℕ = get_or sets k 0 ∷ [] in
      ap (member_rules u) (ap (λ n. take n sets) (add-one k) ∙ take-suc sets k 0 h)
      ∙ rules_append u (take k sets) last
      ∙ ap (λ n. member_rules u (take k sets) ++ member_rules (u + n) last) (length-take-le k sets (omega arith))
      ∙ ap (λ l. member_rules u (take k sets) ++ l) (append-nil (set_rules (u + k) (get_or sets k 0)))

  pub sets_count : length (member_rules u (take (k + 1) sets)) ≡ length (member_rules u (take k sets)) + length (members (get_or sets k 0))
  sets_count =
      let set : ℕ = get_or sets k 0 in
      omega (arith, ap length sets_more ∙ length-append (member_rules u (take k sets)) (set_rules (u + k) set), length-map (members set) (member_rule (u + k)))

  pub sets_put : (from at : ℕ) (rules : List (Rule ℕ)) (bytes now next : List ℕ) →
      at ≡ from + length (member_rules u (take k sets)) → 4 * at ≤ length bytes → rules ≡ set_rules (u + k) (get_or sets k 0) →
      now ≡ put from (map rule_word (member_rules u (take k sets))) bytes → next ≡ put at (map rule_word rules) now →
      next ≡ put from (map rule_word (member_rules u (take (k + 1) sets))) bytes
  sets_put from at rules bytes now next here room these before after =
      let old : List (Rule ℕ) = member_rules u (take k sets) in
      let new : List (Rule ℕ) = set_rules (u + k) (get_or sets k 0) in
      let place : at ≡ from + length (map rule_word old) = omega (arith, length-map old rule_word) in
      after
      ∙ ap₂ (λ r s. put at (map rule_word r) s) these before
      ∙ ap (λ i. put i (map rule_word new) (put from (map rule_word old) bytes)) place
      ∙ put_then from (map rule_word old) bytes (map rule_word new) (omega arith)
      ∙ ap (λ ws. put from ws bytes) (sym (map-append rule_word old new) ∙ ap (map rule_word) (sym sets_more))

  pub sets_room : length (member_rules u (take k sets)) + length (members (get_or sets k 0)) ≤ length (member_rules u sets)
  sets_room =
      let front : List ℕ = take (k + 1) sets in
      let rest : List ℕ = drop (k + 1) sets in
      omega (
        arith,
        ap (λ l. length (member_rules u l)) (sym (take-append-drop (k + 1) sets)) ∙ ap length (rules_append u front rest) ∙ length-append (member_rules u front) (member_rules (u + length front) rest),
        sets_count,
      )
