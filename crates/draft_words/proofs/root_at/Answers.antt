-- `root_at`: the root of the pair's procedure, and where what it leads to stands.
--     read     the root that is read is the draft's
use mathlib.Core.Path.{subst⁻¹}
use mathlib.Core.List.{List, Memᴰ}
use Rattle.std.proofs.Common.{◌≡◌, ap, ◌∙◌, ℕ, ◌-◌, arith, get_or}
use Rattle.draft_language.specs.Draft.{root_of}
use Rattle.format.specs.Decode.{decode}
use Rattle.draft_pairs.specs.Pairs.{number_in, set_in}
use Rattle.draft_pairs.specs.Rows.{row_value}
use Rattle.draft_plain.specs.Places.{target}
use Rattle.draft_plain.proofs.PlainScore.{place_of}
use Rattle.draft_format.specs.DraftFile.{decode_draft}
use Rattle.draft_gathering.specs.Gathered.{agents_in}
use Rattle.draft_words.proofs.Pairs.{root_known, roots_same}
use Rattle.draft_words.proofs.root_at.Goals as goal

read : (s : List ℕ) (m v r : ℕ) → m ≡ number_in v → r ≡ get_or (decode s).roots (m - 1024) 0 → r ≡ root_of (decode_draft s) (number_in v - 1024)
read s m v r number is = is ∙ ap (λ l. get_or l (m - 1024) 0) (roots_same s) ∙ ap (λ m. root_of (decode_draft s) (m - 1024)) number

pub overflow_sub-number_of : goal.overflow_sub-number_of
overflow_sub-number_of c = omega (arith, c.number_of.ensures, (root_known c.args.source.gathered (row_value c.args.row) c.requires.fact).high)

pub root_of-root-requires-clause-p_in_bounds : goal.root_of-root-requires-clause-p_in_bounds
root_of-root-requires-clause-p_in_bounds c = omega (arith, c.number_of.ensures, (root_known c.args.source.gathered (row_value c.args.row) c.requires.fact).there)

pub root_of-root-requires-clause-p_bound : goal.root_of-root-requires-clause-p_bound
root_of-root-requires-clause-p_bound c = omega (arith, c.number_of.ensures, (root_known c.args.source.gathered (row_value c.args.row) c.requires.fact).few)

pub stands_at-requires-clause-reference_lt_agents : goal.stands_at-requires-clause-reference_lt_agents
stands_at-requires-clause-reference_lt_agents c =
    omega (
      arith,
      read c.args.source.draft.now c.number_of.result (row_value c.args.row) c.root_of-root.result c.number_of.ensures c.root_of-root.ensures,
      (root_known c.args.source.gathered (row_value c.args.row) c.requires.fact).known,
    )

pub stands_at-requires-clause-fact : goal.stands_at-requires-clause-fact
stands_at-requires-clause-fact c =
    let s = c.args.source.draft.now in
    let v = row_value c.args.row in
    subst⁻¹ (λ r. Memᴰ (target (decode_draft s) r (set_in v)) (agents_in s)) (read s c.number_of.result v c.root_of-root.result c.number_of.ensures c.root_of-root.ensures)
    (root_known c.args.source.gathered v c.requires.fact).stands

pub returns : goal.returns
returns c =
    let s = c.args.source.draft.now in
    let v = row_value c.args.row in
    c.stands_at.ensures ∙ ap (place_of (decode_draft s) (set_in v)) (read s c.number_of.result v c.root_of-root.result c.number_of.ensures c.root_of-root.ensures)
