-- Laws of the pairs of a table in use, one after the other.
--     keys_more          one row more is one pair more
--     row_member         a row has its pair among those of all rows
--     keys_all           all rows in use
--     rules_counted      one set more, its members counted, is its rules more
use mathlib.Core.Path.{◌≡◌, sym, ap, ap₂, subst, ◌∙◌}
use mathlib.Core.List.{List, [], ◌∷◌, ◌++◌, map, Memᴰ}
use Prim.Native.Nat.{ℕ, ◌+◌, ◌<◌, ◌≤◌}
use native.Mathlib.Numerals.{add-one}
use lib.ListN.{length, take, get_or, length-map}
use lib.Seq.{take-suc, take_all}
use Rattle.laws.proofs.Lists.{entry_member, map_at, map_snoc}
use Rattle.draft_pairs.specs.TokenSets.{members}
use Rattle.draft_pairs.specs.Pairs.{set_in}
use Rattle.draft_pairs.specs.Rows.{row_value}
use Rattle.draft_pairs.proofs.Rows.{members_set}
use Rattle.draft_table.specs.Tables.{keys}
use Rattle.draft_plain.specs.Plain.{member_rules}
use Rattle.draft_gathering.proofs.Members.{rules_more}

pub keys_more : (table : List (List ℕ)) (k : ℕ) → k < length table → keys (k + 1) table ≡ keys k table ++ (row_value (get_or table k []) ∷ [])
keys_more table k h = ap (λ n. keys n table) (add-one k) ∙ ap (map row_value) (take-suc table k [] h) ∙ map_snoc row_value (take k table) (get_or table k [])

pub row_member : (rows : List (List ℕ)) (k : ℕ) → k < length rows → Memᴰ (row_value (get_or rows k [])) (map row_value rows)
row_member rows k h = subst (λ x. Memᴰ x (map row_value rows)) (map_at row_value rows k [] 0 h) (entry_member (map row_value rows) k (rw length-map h))

pub keys_all : (n : ℕ) (rows : List (List ℕ)) → length rows ≤ n → keys n rows ≡ map row_value rows
keys_all n rows h = ap (map row_value) (take_all n rows h)

pub rules_counted : (u : ℕ) (table : List (List ℕ)) (k : ℕ) {n m : ℕ} → k < length table →
    n ≡ length (member_rules u (keys k table)) → m ≡ length (members (set_in (row_value (get_or table k [])))) → n + m ≡ length (member_rules u (keys (k + 1) table))
rules_counted u table k h before here =
    let key = row_value (get_or table k []) in
    ap₂ ◌+◌ before (here ∙ ap length (members_set key))
    ∙ sym (ap (λ l. length (member_rules u l)) (keys_more table k h) ∙ rules_more u (keys k table) key)
