-- The asked sets with their members, one for each new rule.
--     askings_of             each set of a list with each of its members
--     askings_many           they are as many as the new rules
--     askings_different      of a rising list they differ
--     asking_listed, on_askings      they are just these
use mathlib.Core.Path.{◌≡◌, refl, ap, subst}
use mathlib.Core.List.Memᴰ
use mathlib.Core.List.{List, [], ◌∷◌, ◌++◌, map, Memᴰ}
use Prim.Native.Nat.{ℕ, suc, ◌<◌}
use native.Mathlib.Omega.{arith}
use lib.ListN.{length, length-append, length-map}
use Rattle.laws.specs.Rising.{Rising}
use Rattle.laws.proofs.Sets.{Within, on_append, on_map, map_member}
use Rattle.laws.proofs.Rising.{rising_above, rising_tail}
use Rattle.tcc.specs.Closure.{Rule}
use Rattle.draft_pairs.specs.TokenSets.{members}
use Rattle.draft_pairs.proofs.TokenSets.{members_rising}
use Rattle.draft_plain.specs.Plain.{member_rules}
use Rattle.draft_plain.specs.Limits.{Different, none, Asking}
use Rattle.draft_plain.proofs.Different.{rising_different, different_map, different_append}

abbrev pub asking : ℕ → ℕ → Asking
asking set t = record { set = set; token = t }

abbrev pub askings_of : List ℕ → List Asking
askings_of [] = []
askings_of (set ∷ sets) = map (asking set) (members set) ++ askings_of sets

pub askings_many : (u : ℕ) (sets : List ℕ) → length (member_rules u sets) ≡ length (askings_of sets)
askings_many u [] = refl
askings_many u (set ∷ sets) =
    let rule_from : ℕ → Rule ℕ = λ m. record { premises = m ∷ m ∷ []; conclusion = u } in
    omega (arith, length-append (map rule_from (members set)) (member_rules (suc u) sets), length-map (members set) rule_from, length-append (map (asking set) (members set)) (askings_of sets), length-map (members set) (asking set), askings_many (suc u) sets)

pub asking_listed : {set t : ℕ} {sets : List ℕ} → Memᴰ set sets → Memᴰ t (members set) → Memᴰ (asking set t) (askings_of sets)
asking_listed {t = t} (Memᴰ.head {x = s} {xs = sets} e) n = Memᴰ.append_left (askings_of sets) (Memᴰ.cast (ap (λ s. asking s t) e) (map_member (asking s) (subst (λ s. Memᴰ t (members s)) e n)))
asking_listed (Memᴰ.tail {x = s} m) n = Memᴰ.append_right (map (asking s) (members s)) (asking_listed m n)

pub on_askings : (P : Asking → Type 0) (sets : List ℕ) → ((set t : ℕ) → Memᴰ set sets → Memᴰ t (members set) → P (asking set t)) → Within P (askings_of sets)
on_askings P [] h = λ x m. elim m [ ]
on_askings P (set ∷ sets) h = on_append (map (asking set) (members set)) (on_map P (asking set) (members set) (λ t n. h set t (Memᴰ.head refl) n)) (on_askings P sets (λ s t m n. h s t (Memᴰ.tail m) n))

pub askings_different : (sets : List ℕ) → Rising sets → Different (askings_of sets)
askings_different [] r = none
askings_different (set ∷ sets) r = different_append (different_map (asking set) (rising_different (members_rising set)) (λ t u m n e. ap (λ x. x.token) e)) (askings_different sets (rising_tail r)) apart
  where
    above : Within (λ x. set < x.set) (askings_of sets)
    above = on_askings (λ x. set < x.set) sets (λ s t m n. rising_above r s m)

    apart : Within (λ x. Memᴰ x (askings_of sets) → ⊥) (map (asking set) (members set))
    apart = on_map (λ x. Memᴰ x (askings_of sets) → ⊥) (asking set) (members set) (λ t n m. let high : set < set = above (asking set t) m in omega arith)
