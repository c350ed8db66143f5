-- What is known of a draft as it is gathered: each stage, and what follows where a limit is passed.
--     accepted_translatable     an accepted draft may be translated
--     pairs_gathered            the pairs stand in a table, and fit
--     Bounds, fit_bounds        how large a head and a draft can be
--     AskedIn                   the pairs and the asked sets stand in two tables
--     sets_fit                  their table has room for the sets
--     tokens_below              the asked sets have the draft's tokens alone
--     many_tokens, many_rules   where a limit of tokens or rules is passed, the plain score does not fit
--     all_gathered              where none is, all is gathered
use mathlib.Core.Path.{◌≡◌, sym, ap, ap₂, subst, subst⁻¹, ◌∙◌}
use mathlib.Core.Bool.{false}
use mathlib.Core.List.{List}
use Prim.Native.Nat.{ℕ, ◌+◌, ◌-◌, ◌<◌, ◌≤◌}
use native.Mathlib.Omega.{arith}
use Rattle.std.specs.Prelude.{Some}
use lib.ListN.{length, get_or, drop, length-map, length-drop}
use Rattle.laws.proofs.Lists.{on_entries}
use Rattle.words.specs.Word.{words}
use Rattle.format.specs.declared.Sizes.{Sizes}
use Rattle.format.specs.Format.{rule_of}
use Rattle.format.specs.Decode.{sizes}
use Rattle.format.proofs.Decode.{sizes_few}
use Rattle.draft_table.specs.Tables.{keys}
use Rattle.draft_table.proofs.Tables.{keys_length}
use Rattle.draft_plain.specs.Plain.{member_rules, plain_of, fits}
use Rattle.draft_plain.proofs.AskedLaws.{asked_known}
use Rattle.draft_format.specs.DraftFile.{decode_draft, draft_verdict}
use Rattle.draft_format.specs.Translatable.{Translatable}
use Rattle.draft_format.proofs.Draft.{accepted_whole, accepted_lawful_draft}
use Rattle.check_verdicts.specs.Verdict.{Accepted}
use Rattle.draft_copying.specs.Copied.{PlacesIn}
use Rattle.draft_gathering.specs.Asking.{TokensBelow}
use Rattle.draft_gathering.specs.Gathered.{agents_in, sets_in, Gathered}
use Rattle.draft_gathering.specs.Gathering.{PairsFit}
use Rattle.draft_gathering.proofs.Limits.{Parted, few_fits, many_misfit}

pub accepted_translatable : (s : List ℕ) → ((i : ℕ) → get_or s i 0 < 256) → draft_verdict s ≡ Accepted → Translatable s
accepted_translatable s bytes e =
    record { whole = (accepted_whole s e).enough; lawful = accepted_lawful_draft s (on_entries (λ b. b < 256) s (λ j h. bytes j)) e }

pub pairs_gathered : {s : List ℕ} {head : Sizes} {table : List (List ℕ)} {pairs copied : ℕ} → draft_verdict s ≡ Accepted → head ≡ sizes s →
    PlacesIn (decode_draft s) (Some pairs) table → Parted (decode_draft s) table pairs copied → copied ≤ 1024 → pairs - copied ≤ 64 → PairsFit s head table pairs copied
pairs_gathered e head_is all p agents procedures =
    let (few, exact) = all.exact in
    record {
      accepted = e;
      head_is = head_is;
      pairs_fit = few;
      pairs_are = exact;
      copied_fit = agents;
      copied_are = p.agents_are;
      procedures_fit = omega (arith, procedures, p.procedures_many);
      table_long = all.long;
    }

pub record Bounds (s : List ℕ) (head : Sizes) : Type 0 where
  pub few_tokens : head.tokens ≤ 256
  pub few_agents : head.agents ≤ 1024
  pub few_procedures : head.procedures ≤ 64
  pub whole : 2 + head.agents + head.procedures ≤ length (words s)
  pub few_words : length (words s) ≤ 1346

pub fit_bounds : {s : List ℕ} {head : Sizes} {table : List (List ℕ)} {pairs copied : ℕ} → PairsFit s head table pairs copied → Bounds s head
fit_bounds {s} fit =
    let few = sizes_few s in
    let whole = accepted_whole s fit.accepted in
    subst⁻¹ (Bounds s) fit.head_is
    (record { few_tokens = few.0; few_agents = few.1; few_procedures = few.2; whole = whole.enough; few_words = omega (arith, whole.most, whole.fours) })

pub record AskedIn (s : List ℕ) (head : Sizes) (table sets : List (List ℕ)) (pairs copied count : ℕ) : Type 0 where
  pub fit : PairsFit s head table pairs copied
  pub translatable : Translatable s
  pub are : keys count sets ≡ sets_in s
  pub few : count ≤ copied
  pub long : length sets ≡ 1088

module _ {s : List ℕ} {head : Sizes} {table sets : List (List ℕ)} {pairs copied count : ℕ} (a : AskedIn s head table sets pairs copied count) where
  pub sets_fit : count ≤ 1088
  sets_fit = omega (arith, a.few, a.fit.copied_fit)

  sets_many : length (sets_in s) ≡ count
  sets_many = sym (ap length a.are) ∙ keys_length count sets (omega (arith, sets_fit, a.long))

  agents_many : copied ≡ length (agents_in s)
  agents_many = sym (keys_length copied table (omega (arith, a.fit.copied_fit, a.fit.table_long))) ∙ ap length a.fit.copied_are

  tokens_are : (decode_draft s).tokens ≡ head.tokens
  unfolding decode_draft
  tokens_are = sym (ap (λ h. h.tokens) a.fit.head_is)

  pub tokens_below : TokensBelow head.tokens (keys count sets)
  tokens_below = subst⁻¹ (TokensBelow head.tokens) a.are (subst (λ n. TokensBelow n (sets_in s)) tokens_are (asked_known (decode_draft s) a.translatable.lawful))

  pub many_tokens : 256 < head.tokens + count → fits (plain_of (decode_draft s)) ≡ false
  many_tokens h = many_misfit (decode_draft s) (λ few. omega (arith, few.few_tokens, tokens_are, sets_many))

  module _ {many members : ℕ} (words_are : many ≡ length (words s)) (members-are : members ≡ length (member_rules head.tokens (keys count sets))) where
    abbrev rules_from : ℕ
    rules_from = 2 + head.agents + head.procedures

    rules_many : length (decode_draft s).rules ≡ many - rules_from
    unfolding decode_draft
    rules_many =
        let from = 2 + (sizes s).agents + (sizes s).procedures in
        length-map (drop from (words s)) rule_of ∙ length-drop from (words s) ∙ sym (ap₂ (λ n h. n - (2 + h.agents + h.procedures)) words_are a.fit.head_is)

    members_many : length (member_rules (decode_draft s).tokens (sets_in s)) ≡ members
    members_many = sym (members-are ∙ ap₂ (λ n l. length (member_rules n l)) (sym tokens_are) a.are)

    pub many_rules : 256 < many - rules_from + members → fits (plain_of (decode_draft s)) ≡ false
    many_rules h = many_misfit (decode_draft s) (λ few. omega (arith, few.few_rules, rules_many, members_many))

    pub all_gathered : head.tokens + count ≤ 256 → many - rules_from + members ≤ 256 →
        Gathered s (record { tokens = head.tokens; agents = head.agents; procedures = head.procedures; words = many; pairs = pairs; copied = copied; sets = count }) table sets
    all_gathered tokens rules =
        record {
          accepted = a.fit.accepted;
          translatable = a.translatable;
          tokens_are = ap (λ h. h.tokens) a.fit.head_is;
          agents_are = ap (λ h. h.agents) a.fit.head_is;
          procedures_are = ap (λ h. h.procedures) a.fit.head_is;
          words_are = words_are;
          pairs_fit = a.fit.pairs_fit;
          pairs_are = a.fit.pairs_are;
          copied_are = agents_many;
          sets_fit = sets_fit;
          sets_are = a.are;
          fitting = few_fits (decode_draft s)
              (record {
                few_tokens = omega (arith, tokens, tokens_are, sets_many);
                few_agents = omega (arith, agents_many, a.fit.copied_fit);
                few_procedures = a.fit.procedures_fit;
                few_rules = omega (arith, rules, rules_many, members_many);
              });
          table_long = a.fit.table_long;
          sets_long = a.long;
        }
