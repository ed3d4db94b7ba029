-- Differences with their old values.
use Rattle.std.proofs.Common.{◌≡◌, ◌≢◌, [], ◌∷◌, true, ap, sym, ◌∙◌, refl, subst, Option, Some, None}
use Rattle.std.specs.Prelude.{is_some, unwrap_or}
use Rattle.std.specs.List.{All}
use Rattle.std.proofs.lemmas.List.{map-id}
use Rattle.std.proofs.lemmas.List.Elements.{All-head, All-tail, All-map}
use Rattle.std.proofs.lemmas.Option.{same_Some}
use Rattle.std.proofs.lemmas.Simd.{map-map}
use Rattle.amoebot_state.specs.declared.cell.CellName.{CellName}
use Rattle.amoebot_state.specs.declared.cell.Cell.{Cell}
use Rattle.amoebot_state.specs.Pairs.{CellChange, Pairs, cell_of, cell_value, plain_triple, plain_patch}
use Rattle.amoebot_state.specs.Configs.{Config, value}
use Rattle.amoebot_state.specs.Patches.{HasSameIds, HasOldValues, IsPatched, with_old, plain_diff, diff}
use Rattle.amoebot_state.specs.Laws.{DiffLeads, OrderedPatchIsDiff, OldValuesAreOne}
use Rattle.amoebot_state.proofs.Differences.{has_value, listed_differs, plain_leads, ordered_is_plain_diff}
use Rattle.amoebot_state.proofs.Members.{All-from_Has}

-- without its old values it is what it was without them
pub plain_is : (old new : Config) → plain_patch (diff old new) ≡ plain_diff old new
plain_is old new = map-map plain_triple (with_old old) (plain_diff old new) ∙ map-id (plain_diff old new)

-- the default is not met where there is a value
unwrapped : (o : Option Cell) (x : Cell) → is_some o ≡ true → o ≡ Some (unwrap_or o x)
unwrapped None x e = absurd (cc)
unwrapped (Some y) x e = refl

-- its old values are those of the old configuration
pub old_of_diff : (old new : Config) → HasSameIds old new → HasOldValues old (diff old new)
old_of_diff old new same =
    let Found : CellChange → Type 0 = λ t. value old t.0 ≡ Some t.1 in
    let Unwrapped : CellName × Cell → Type 0 = λ p. Found (with_old old p) in
    All-map Found (with_old old) (plain_diff old new) (All-from_Has Unwrapped (plain_diff old new) (λ p has.
    unwrapped (value old (cell_of p)) (cell_value p) (sym (has_value old new same (cell_of p)) ∙ ap is_some (listed_differs old new p has).0)))

pub old_values_are_one : OldValuesAreOne
old_values_are_one c [] [] one two same = refl
old_values_are_one c [] (q ∷ qs) one two same = absurd (cc)
old_values_are_one c (p ∷ ps) [] one two same = absurd (cc)
old_values_are_one c (p ∷ ps) (q ∷ qs) one two same =
    let Found : CellChange → Type 0 = λ t. value c t.0 ≡ Some t.1 in
    let first : plain_triple p ≡ plain_triple q = cc in
    let rest : plain_patch ps ≡ plain_patch qs = cc in
    let names : p.0 ≡ q.0 = ap cell_of first in
    let after : p.2 ≡ q.2 = ap cell_value first in
    let before : p.1 ≡ q.1 = same_Some p.1 q.1 (sym (All-head Found p ps one) ∙ ap (value c) names ∙ All-head Found q qs two) in
    let others : ps ≡ qs = old_values_are_one c ps qs (All-tail Found p ps one) (All-tail Found q qs two) rest in
    λ i. (names i, before i, after i) ∷ others i

pub diff_leads : DiffLeads
diff_leads old new was is same =
    let P : Pairs → Type 0 = λ ps. IsPatched old ps new × All (λ (p : CellName × Cell). value old (cell_of p) ≢ Some (cell_value p)) ps in
    let plain : P (plain_patch (diff old new)) = subst P (sym (plain_is old new)) (plain_leads old new was is same) in
    (plain.0, plain.1, old_of_diff old new same)

pub ordered_patch_is_diff : OrderedPatchIsDiff
ordered_patch_is_diff old new ps was patched ordered differ found =
    old_values_are_one old ps (diff old new) found (old_of_diff old new patched.same)
    (ordered_is_plain_diff old new (plain_patch ps) was patched ordered differ ∙ sym (plain_is old new))
