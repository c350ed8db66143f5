-- At one word, 4 comes first.
--     form_first        a word that is not of the form of its place meets 4, whatever it names
use mathlib.Core.Path.{◌≡◌, refl, subst⁻¹}
use mathlib.Core.Bool.{Bool, false}
use mathlib.Core.List.{List}
use Prim.Native.Nat.{ℕ}
use Rattle.format.specs.declared.Sizes.{Sizes}
use Rattle.check_verdicts.specs.Verdict.{Form}
use Rattle.check_words.specs.WordFaults.{at_word}

pub form_first : (h : Sizes) (k : ℕ) {formed : Bool} (tokens : List ℕ) (astray : Bool) → formed ≡ false → Form k ≡ at_word h k formed tokens astray
form_first h k tokens astray e = subst⁻¹ (λ formed. Form k ≡ at_word h k formed tokens astray) e refl
