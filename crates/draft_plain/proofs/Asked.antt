-- The sets that a plain score asks for at quiet, and the tokens that stand for them.
--     Known                         every token of a list is the draft's
--     token_known, known_bound      so of the tokens that an agent names; the set of such tokens is below 2 to the power of 256
--     sets_several                  each asked set has two tokens or more
--     MemberFrom                    the new tokens of a list of sets, numbered from n, and their members
--     member_ruled, ruled_member    the new rules are those from each member to its new token
--     Member                        the new token u of a draft has the member m
--     member_old, member_some       its members are the draft's tokens, and it has one
--     sum_some                      a set with a token is not empty
--     StandsFor                     a token of the plain score is in exactly where a token of a set is
--     asked_token_lem               so is the token that is asked for a set: a new one, or the only token of the set
use mathlib.Core.Path.{◌≡◌, refl, sym, ap, ◌∙◌, subst⁻¹}
use mathlib.Core.Bool.{true, false}
use mathlib.Core.List.{List, [], ◌∷◌, map, Memᴰ}
use Prim.Native.Nat.{ℕ, zero, suc, ◌+◌, ◌-◌, ◌^◌, ◌<◌, ◌≤◌}
use native.Mathlib.Nat.{not-suc-le-zero}
use native.Mathlib.Omega.{arith}
use lib.Dec.{ltb}
use lib.ListN.{length, get_or}
use borrow.Author.Tests.{ltb-true, ltb-false}
use Rattle.laws.proofs.Booleans.{true_is_false, by_test}
use Rattle.laws.proofs.Lists.{entry_member}
use Rattle.laws.proofs.Sets.{Within, on_append, on_map, map_member, has_member, member_has}
use Rattle.tcc.specs.Closure.{Rule}
use Rattle.tcc.specs.Score.{tokens_of}
use Rattle.draft_language.specs.Draft.{Draft, draft_agent_at, as_when, LawfulDraft}
use Rattle.draft_language.specs.declared.DraftAgent.{DraftAgent}
use Rattle.draft_language.proofs.Whens.{when_is}
use Rattle.draft_language.proofs.Carries.{Extends, member_rule}
use Rattle.draft_pairs.specs.TokenSets.{holds, members, several}
use Rattle.draft_pairs.specs.Pairs.{index_of}
use Rattle.draft_plain.specs.Plain.{asked_token, member_rules}
use Rattle.draft_pairs.proofs.TokenSets.{holds_none, member_holds, holds_member, members_none, sum_of, sum_holds, sum_bound}
use Rattle.draft_pairs.proofs.Rising.{index_below, index_at}
use Rattle.draft_plain.proofs.AskedLaws.{on_asked, asked_known}
use Rattle.draft_plain.proofs.PlainScore.{agents_in, sets_in}

abbrev pub Known : Draft → List ℕ → Type 0
Known d l = Within (λ t. t < d.tokens) l

module _ (d : Draft) (law : LawfulDraft d) where
  pub token_known : (i : ℕ) {w : DraftAgent} → draft_agent_at d i ≡ w → Known d (tokens_of (as_when w))
  token_known i e t m = law.tokens_known i t (subst⁻¹ (λ a. Memᴰ t (tokens_of a)) (when_is d i e) m)

  known_few : (l : List ℕ) → Known d l → Within (λ t. t < 256) l
  known_few l known t m = let h : t < d.tokens = known t m in omega (arith, law.tokens_at_most)

  pub known_bound : (set : List ℕ) → Known d set → sum_of set < 2 ^ 256
  known_bound set known = sum_bound 256 set (known_few set known)

sets_several : (d : Draft) → Within (λ set. several set ≡ true) (sets_in d)
sets_several d = on_asked d (λ set. several set ≡ true) (agents_in d) (λ k at set m s. s)

abbrev pub MemberFrom : ℕ → List ℕ → ℕ → ℕ → Type 0
MemberFrom n l u m = (k : ℕ) × (k < length l) × (u ≡ n + k) × (holds (get_or l k 0) m ≡ true)

pub member_ruled : (n : ℕ) (l : List ℕ) (u m : ℕ) → m < 256 → MemberFrom n l u m → Memᴰ (member_rule u m) (member_rules n l)
member_ruled n [] u m h (k, lt, e, is) = absurd (not-suc-le-zero lt)
member_ruled n (set ∷ l) u m h (zero, lt, e, is) =
    let q : u ≡ n = omega arith in
    mathlib.Core.List.Memᴰ.append_left (member_rules (suc n) l) (mathlib.Core.List.Memᴰ.cast (ap (λ v. member_rule v m) q) (map_member (member_rule n) (holds_member set h is)))
member_ruled n (set ∷ l) u m h (suc k, lt, e, is) =
    mathlib.Core.List.Memᴰ.append_right (map (member_rule n) (members set)) (member_ruled (suc n) l u m h (k, omega arith, omega arith, is))

pub ruled_member : (n : ℕ) (l : List ℕ) → Within (λ r. (u : ℕ) × (m : ℕ) × MemberFrom n l u m × (r ≡ member_rule u m)) (member_rules n l)
ruled_member n [] r x = elim x [ ]
ruled_member n (set ∷ l) r x =
    on_append {P = From} (map (member_rule n) (members set))
    (on_map From (member_rule n) (members set) (λ m at. (n, m, (0, omega arith, omega arith, (member_holds set at).1), refl)))
    (λ r at. let (u, m, (k, lt, e, is), same) = ruled_member (suc n) l r at in (u, m, (suc k, omega arith, omega arith, is), same))
    r x
  where
    From : Rule ℕ → Type 0
    From r = (u : ℕ) × (m : ℕ) × MemberFrom n (set ∷ l) u m × (r ≡ member_rule u m)

abbrev pub Member : Draft → ℕ → ℕ → Type 0
Member d u m = MemberFrom d.tokens (sets_in d) u m

module _ (d : Draft) where
  pub member_old : LawfulDraft d → (u m : ℕ) → Member d u m → m < d.tokens
  member_old law u m (k, lt, e, is) = asked_known d law (get_or (sets_in d) k 0) (entry_member (sets_in d) k lt) m is

  pub member_some : (u : ℕ) → d.tokens ≤ u → u < d.tokens + length (sets_in d) → (m : ℕ) × Member d u m
  member_some u le lt =
      let k_lt : u - d.tokens < length (sets_in d) = omega arith in
      let set = get_or (sets_in d) (u - d.tokens) 0 in
      let many : 1 < length (members set) = ltb-true 1 (length (members set)) (sets_several d set (entry_member (sets_in d) (u - d.tokens) k_lt)) in
      (get_or (members set) 0 0, (u - d.tokens, k_lt, omega arith, (member_holds set (entry_member (members set) 0 (omega arith))).1))

abbrev pub StandsFor : Draft → ℕ → List ℕ → Type 0
StandsFor d u set =
    (s p : List ℕ) → Extends d (Member d) s p →
    ((m : ℕ) → Memᴰ m set → Memᴰ m s → Memᴰ u p) × (Memᴰ u p → (m : ℕ) × Memᴰ m set × Memᴰ m s)

-- a list that has one member or none, and is not empty
one_alone : (l : List ℕ) → ltb 1 (length l) ≡ false → (l ≡ [] → ⊥) → Within (λ m. m ≡ get_or l 0 0) l × Memᴰ (get_or l 0 0) l
one_alone [] few some = absurd (some refl)
one_alone (x ∷ []) few some = (λ m at. mathlib.Core.List.Memᴰ.eq_of_singleton at, mathlib.Core.List.Memᴰ.head refl)
one_alone (x ∷ y ∷ l) few some = absurd (omega (arith, ltb-false 1 (length (x ∷ y ∷ l)) few))

module _ (set : List ℕ) where
  sum_member : (m : ℕ) → Memᴰ m set → holds (sum_of set) m ≡ true
  sum_member m at = sum_holds set m ∙ member_has at

  member_sum : (m : ℕ) → holds (sum_of set) m ≡ true → Memᴰ m set
  member_sum m e = has_member m set (sym (sum_holds set m) ∙ e)

  pub sum_some : (m : ℕ) → Memᴰ m set → sum_of set ≡ 0 → ⊥
  sum_some m at e = true_is_false (sum_member m at) (ap (λ n. holds n m) e ∙ holds_none m)

module _ (d : Draft) (set : List ℕ) where
  new_token : Memᴰ (sum_of set) (sets_in d) → StandsFor d (d.tokens + index_of (sum_of set) (sets_in d)) set
  new_token at s p e = (λ m in-set held. e.new u m (index_of (sum_of set) (sets_in d), index_below (sum_of set) (sets_in d) at, refl, ap (λ n. holds n m) is_set ∙ sum_member set m in-set) held, from)
    where
      u : ℕ
      u = d.tokens + index_of (sum_of set) (sets_in d)

      is_set : get_or (sets_in d) (index_of (sum_of set) (sets_in d)) 0 ≡ sum_of set
      is_set = index_at (sum_of set) (sets_in d) at

      from : Memᴰ u p → (m : ℕ) × Memᴰ m set × Memᴰ m s
      from held =
          let (m, (k, lt, u-is, is), in-s) = e.from_new u (omega arith) held in
          let k-is : index_of (sum_of set) (sets_in d) ≡ k = omega arith in
          (m, member_sum set m (ap (λ n. holds n m) (sym is_set ∙ ap (λ j. get_or (sets_in d) j 0) k-is) ∙ is), in-s)

  only_token : LawfulDraft d → Known d set → several (sum_of set) ≡ false → (sum_of set ≡ 0 → ⊥) → StandsFor d (get_or (members (sum_of set)) 0 0) set
  only_token law known few some s p e =
      let (alone, first) = one_alone (members (sum_of set)) few (λ none. some (members_none (sum_of set) (known_bound d law set known) none)) in
      let u-in : Memᴰ (get_or (members (sum_of set)) 0 0) set = member_sum set _ (member_holds (sum_of set) first).1 in (
        λ m in-set held. mathlib.Core.List.Memᴰ.cast (sym (alone m (holds_member (sum_of set) (known_few d law set known m in-set) (sum_member set m in-set)))) (e.old m held),
        λ held. (get_or (members (sum_of set)) 0 0, u-in, e.back _ (known _ u-in) held),
      )

  pub asked_token_lem : LawfulDraft d → Known d set → (sum_of set ≡ 0 → ⊥) → (several (sum_of set) ≡ true → Memᴰ (sum_of set) (sets_in d)) → StandsFor d (asked_token d.tokens (sets_in d) (sum_of set)) set
  unfolding asked_token
  asked_token_lem law known some asked = by_test (λ u. StandsFor d u set) (several (sum_of set)) (λ e. new_token (asked e)) (λ e. only_token law known e some)
