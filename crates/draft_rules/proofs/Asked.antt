-- The asked sets of a draft that is gathered.
--     sets_many          as many as are counted
--     tokens_fit         their new tokens are below 256
--     set_rows           the entries of the table that are in use
--     sets_all           after the last of them, no set is left
--     set_there, set_token_fits     entry k has its set, and its new token is below 256
--     set_members        those of entry k
--     set_known          its members are tokens of the draft
use mathlib.Core.Path.{◌≡◌, sym, ap, subst, ◌∙◌}
use mathlib.Core.List.{List, [], Memᴰ}
use Prim.Native.Nat.{ℕ, ◌+◌, ◌<◌, ◌≤◌}
use native.Mathlib.Omega.{arith}
use lib.ListN.{length, get_or, take}
use Rattle.std.proofs.lemmas.List.{length-take-le, get_or-take}
use Rattle.laws.proofs.Lists.{entry_member}
use Rattle.draft_pairs.specs.TokenSets.{members}
use Rattle.draft_pairs.specs.Pairs.{set_in}
use Rattle.draft_pairs.proofs.TokenSets.{member_holds}
use Rattle.draft_pairs.specs.Rows.{row_value}
use Rattle.draft_pairs.proofs.Rows.{members_set}
use Rattle.draft_table.proofs.Tables.{keys_length, keys_at}
use Rattle.draft_plain.specs.Plain.{plain_of}
use Rattle.draft_plain.proofs.PlainScore.{fits_sizes}
use Rattle.draft_plain.proofs.AskedLaws.{asked_known}
use Rattle.draft_format.specs.DraftFile.{decode_draft}
use Rattle.draft_gathering.specs.declared.Counts.{Counts}
use Rattle.draft_gathering.specs.Gathered.{Gathered, sets_in}

module _ {s : List ℕ} {n : Counts} {table sets : List (List ℕ)} (g : Gathered s n table sets) where
  tokens_read : (decode_draft s).tokens ≡ n.tokens
  unfolding decode_draft
  tokens_read = sym g.tokens_are

  pub sets_many : length (sets_in s) ≡ n.sets
  sets_many = sym (ap length g.sets_are) ∙ keys_length n.sets sets (omega (arith, g.sets_fit, g.sets_long))

  pub tokens_fit : n.tokens + n.sets ≤ 256
  unfolding plain_of
  tokens_fit = omega (arith, (fits_sizes (plain_of (decode_draft s)) g.fitting).few_tokens, tokens_read, sets_many)

  abbrev set_rows : List (List ℕ)
  set_rows = take n.sets sets

  set_rows_many : length set_rows ≡ n.sets
  set_rows_many = length-take-le n.sets sets (omega (arith, g.sets_fit, g.sets_long))

  pub sets_all : (k : ℕ) → length set_rows ≤ k → length (sets_in s) ≤ k
  sets_all k h = omega (arith, set_rows_many, sets_many)

  module _ (k : ℕ) (h : k < length set_rows) where
    pub set_there : k < length (sets_in s)
    set_there = omega (arith, set_rows_many, sets_many)

    pub set_token_fits : n.tokens + k < 256
    set_token_fits = omega (arith, set_rows_many, tokens_fit)

    pub set_members : members (set_in (row_value (get_or set_rows k []))) ≡ members (get_or (sets_in s) k 0)
    set_members =
        let lt : k < n.sets = omega (arith, set_rows_many) in
        ap (λ r. members (set_in (row_value r))) (get_or-take n.sets sets k [] lt)
        ∙ members_set (row_value (get_or sets k []))
        ∙ ap members (sym (keys_at n.sets sets (omega (arith, g.sets_fit, g.sets_long)) k lt) ∙ ap (λ l. get_or l k 0) g.sets_are)

    pub set_known : (t : ℕ) → Memᴰ t (members (set_in (row_value (get_or set_rows k [])))) → t < n.tokens
    set_known t m =
        let set : ℕ = get_or (sets_in s) k 0 in
        let there : Memᴰ t (members set) = subst (Memᴰ t) set_members m in
        omega (arith, asked_known (decode_draft s) g.translatable.lawful set (entry_member (sets_in s) k set_there) t (member_holds set there).1, tokens_read)
